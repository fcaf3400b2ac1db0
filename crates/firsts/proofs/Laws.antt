-- A report packed into a word and read again, and the words that are recorded: which become the report's, and which stay.
-- Assumes nothing.
use mathlib.Core.Path.{◌≡◌, refl, sym, ap, ap₂, ◌∙◌}
use mathlib.Core.Logic.{◌≢◌}
use mathlib.Core.Bool.{Bool, true, false, ◌&&◌, not, cond, true≢false}
use mathlib.Core.List.{List, [], ◌∷◌}
use Prim.Native.Nat.{ℕ, zero, suc, ◌+◌, ◌-◌, ◌*◌, ◌/◌, ◌%◌, ◌<◌, ◌≤◌}
use native.Mathlib.Nat.{add-zero, zero-add, le_refl}
use native.Mathlib.Decide.{dec_lt}
use native.Mathlib.Omega.{arith}
use lib.Dec.{eqb}
use lib.ListN.{length, get_or, drop, set, length-set}
use lib.Seq.{ext_get_or, get_or-set_same, get_or-set_other, drop-set-lt, drop-cons}
use Rattle.std.proofs.lemmas.List.{drop_all}
use Rattle.location.specs.declared.LocationSet.{LocationSet}
use Rattle.location.specs.Sets.{limit, bit, has, subset, member}
use Rattle.location.specs.SetLaws.{bit_0, bit_half, bit-zero, has_head, has_tail, has-nil, subset-within}
use Rattle.rules.specs.declared.Cause.{Cause}
use Rattle.rules.specs.declared.Cause.TheVariants.{Branch, Jump, Load, Store}
use Rattle.rules.specs.declared.First.{First}
use Rattle.rules.specs.Rules.Answers.{cause_number}
use Rattle.rules.specs.Rules.Calls.{working_words}
use Rattle.rules.specs.Rules.Limits.{max_instructions}
use Rattle.work.specs.Layout.{reports, report_base, labels}
use Rattle.rules.specs.Rules.Firsts.{no_report, firsts_of}
use Rattle.rules.proofs.Theorems.Firsts.{firsts-none}
use Rattle.location.proofs.Filling.{Filled, filled_none, filled_all, filled_next}
use Rattle.location.specs.Members.{NoneFrom, IsFirst}
use Rattle.work.proofs.Past.{SameMachine, machine-refl, machine_trans, past_same}
use Rattle.firsts.specs.Reports.{report, packed, cause_at, unpacked, report_in, report_on, reports_in}
use Rattle.firsts.specs.Recording.{recorded_bit, recorded_bits, recorded_from, recorded}

-- ---- packing
pub cause-bound : (c : Cause) → cause_number c < 4
cause-bound Branch = omega arith
cause-bound Jump = omega arith
cause-bound Load = omega arith
cause-bound Store = omega arith

cause-back : (c : Cause) → cause_at (cause_number c) ≡ c
cause-back Branch = refl
cause-back Jump = refl
cause-back Load = refl
cause-back Store = refl

parts : (i c l : ℕ) → i < 4294967296 → c < 4 → l < 512
    → ((i * 2048 + c * 512 + l) / 2048 % 4294967296 ≡ i) × ((i * 2048 + c * 512 + l) / 512 % 4 ≡ c) × ((i * 2048 + c * 512 + l) % 512 ≡ l)
parts i c l hi hc hl = (omega arith, omega arith, omega arith)

-- what was packed is what is read
pub unpack_packed : (i : ℕ) (c : Cause) (l : ℕ) → i < 4294967296 → l < max_instructions → unpacked (packed (report i c l)) ≡ report i c l
unpack_packed i c l hi hl =
    let p = parts i (cause_number c) l hi (cause-bound c) hl in
    λ t. record { index = p.0 t; label = p.2 t; cause = (ap cause_at p.1 ∙ cause-back c) t }

-- ---- recording
-- where the observed set has nothing more, nothing is stored
pub bits_none : (x f : ℕ) (w : List ℕ) (at n : ℕ) → recorded_bits x 0 f w at n ≡ w
unfolding recorded_bits
bits_none x f w at zero = refl
bits_none x f w at (suc n) = bits_none x (f / 2) w (suc at) n

-- where none is left, nothing is stored
pub bits_over : (x s f : ℕ) (w : List ℕ) (at n : ℕ) → n ≡ 0 → recorded_bits x s f w at n ≡ w
unfolding recorded_bits
bits_over x s f w at zero h = refl
bits_over x s f w at (suc n) h = absurd (omega arith)

pub length-bit : (x s f : ℕ) (w : List ℕ) (at : ℕ) → length (recorded_bit x s f w at) ≡ length w
length-bit x s f w at = go (eqb (s % 2) 1 && not (eqb (f % 2) 1))
  where
    go : (b : Bool) → length (cond b (set w at x) w) ≡ length w
    go true = length-set w at x
    go false = refl

-- the next bit, where n are left
pub bits_step : (x s f : ℕ) (w : List ℕ) (at n : ℕ) → 0 < n
    → recorded_bits x (s / 2) (f / 2) (recorded_bit x s f w at) (at + 1) (n - 1) ≡ recorded_bits x s f w at n
unfolding recorded_bits
bits_step x s f w at zero h = absurd (omega arith)
bits_step x s f w at (suc n) h =
    let e : at + 1 ≡ suc at = omega arith in
    let m : suc n - 1 ≡ n = omega arith in
    ap₂ (λ (i j : ℕ). recorded_bits x (s / 2) (f / 2) (recorded_bit x s f w at) i j) e m

-- ---- n words from `at` on, by the bits of two words
pub length_bits : (x s f : ℕ) (w : List ℕ) (at n : ℕ) → length (recorded_bits x s f w at n) ≡ length w
unfolding recorded_bits
length_bits x s f w at zero = refl
length_bits x s f w at (suc n) = length_bits x (s / 2) (f / 2) (recorded_bit x s f w at) (suc at) n ∙ length-bit x s f w at

bit-other : (x s f : ℕ) (w : List ℕ) (at j : ℕ) → j ≢ at → get_or (recorded_bit x s f w at) j 0 ≡ get_or w j 0
bit-other x s f w at j h = go (eqb (s % 2) 1 && not (eqb (f % 2) 1))
  where
    go : (b : Bool) → get_or (cond b (set w at x) w) j 0 ≡ get_or w j 0
    go true = get_or-set_other w at j x 0 h
    go false = refl

bits_before : (x s f : ℕ) (w : List ℕ) (at n j : ℕ) → j < at → get_or (recorded_bits x s f w at n) j 0 ≡ get_or w j 0
unfolding recorded_bits
bits_before x s f w at zero j h = refl
bits_before x s f w at (suc n) j h =
    bits_before x (s / 2) (f / 2) (recorded_bit x s f w at) (suc at) n j (omega arith) ∙ bit-other x s f w at j (λ e. absurd (omega arith))

bits_after : (x s f : ℕ) (w : List ℕ) (at n j : ℕ) → at + n ≤ j → get_or (recorded_bits x s f w at n) j 0 ≡ get_or w j 0
unfolding recorded_bits
bits_after x s f w at zero j h = refl
bits_after x s f w at (suc n) j h =
    bits_after x (s / 2) (f / 2) (recorded_bit x s f w at) (suc at) n j (omega arith) ∙ bit-other x s f w at j (λ e. absurd (omega arith))

-- word k of them
bits_at : (x s f : ℕ) (w : List ℕ) (at n k : ℕ) → k < n → at + n ≤ length w
    → get_or (recorded_bits x s f w at n) (at + k) 0 ≡ cond (bit s k && not (bit f k)) x (get_or w (at + k) 0)
unfolding recorded_bits
bits_at x s f w at zero k h r = absurd (omega arith)
bits_at x s f w at (suc n) zero h r =
    rw (add-zero at, bit_0 s, bit_0 f)
    (bits_before x (s / 2) (f / 2) (recorded_bit x s f w at) (suc at) n at (le_refl (suc at)) ∙ go (eqb (s % 2) 1 && not (eqb (f % 2) 1)))
  where
    go : (b : Bool) → get_or (cond b (set w at x) w) at 0 ≡ cond b x (get_or w at 0)
    go true = get_or-set_same w at x 0 (omega arith)
    go false = refl
bits_at x s f w at (suc n) (suc k) h r =
    let e : at + suc k ≡ suc at + k = omega arith in
    let q = bits_at x (s / 2) (f / 2) (recorded_bit x s f w at) (suc at) n k (omega arith) (rw (length-bit x s f w at) (omega arith)) in
    let o = bit-other x s f w at (suc at + k) (λ i. absurd (omega arith)) in
    rw (e, ← bit_half s k, ← bit_half f k) (q ∙ ap (cond (bit (s / 2) k && not (bit (f / 2) k)) x) o)

-- where every bit of s is in f nothing is stored
bits_inside : (x s f : ℕ) (w : List ℕ) (at n : ℕ) → ((k : ℕ) → k < n → bit s k ≡ true → bit f k ≡ true) → recorded_bits x s f w at n ≡ w
unfolding recorded_bits
bits_inside x s f w at zero h = refl
bits_inside x s f w at (suc n) h =
    let first : eqb (s % 2) 1 ≡ true → eqb (f % 2) 1 ≡ true = λ e. sym (bit_0 f) ∙ h 0 (omega arith) (bit_0 s ∙ e) in
    ap (λ (u : List ℕ). recorded_bits x (s / 2) (f / 2) u (suc at) n) (go (eqb (s % 2) 1) (eqb (f % 2) 1) first)
    ∙ bits_inside x (s / 2) (f / 2) w (suc at) n (λ k l e. bit_half f k ∙ h (suc k) (omega arith) (sym (bit_half s k) ∙ e))
  where
    go : (a b : Bool) → (a ≡ true → b ≡ true) → cond (a && not b) (set w at x) w ≡ w
    go false b i = refl
    go true true i = refl
    go true false i = absurd (true≢false (sym (i refl)))

bits_machine : (x s f : ℕ) (w : List ℕ) (at n : ℕ) → reports ≤ at → SameMachine w (recorded_bits x s f w at n)
unfolding recorded_bits
bits_machine x s f w at zero h = machine-refl w
bits_machine x s f w at (suc n) h =
    machine_trans (go (eqb (s % 2) 1 && not (eqb (f % 2) 1))) (bits_machine x (s / 2) (f / 2) (recorded_bit x s f w at) (suc at) n (omega arith))
  where
    go : (b : Bool) → SameMachine w (cond b (set w at x) w)
    go true = past_same (x ∷ []) w at h
    go false = machine-refl w

bits_drop : (x s f : ℕ) (w : List ℕ) (at n m : ℕ) → at + n ≤ m → drop m (recorded_bits x s f w at n) ≡ drop m w
unfolding recorded_bits
bits_drop x s f w at zero m h = refl
bits_drop x s f w at (suc n) m h =
    bits_drop x (s / 2) (f / 2) (recorded_bit x s f w at) (suc at) n m (omega arith) ∙ go (eqb (s % 2) 1 && not (eqb (f % 2) 1))
  where
    go : (b : Bool) → drop m (cond b (set w at x) w) ≡ drop m w
    go true = drop-set-lt m w at x (omega arith)
    go false = refl

-- ---- any number of words of the two sets
from-before : (x : ℕ) (ss fs w : List ℕ) (at j : ℕ) → j < at → get_or (recorded_from x ss fs w at) j 0 ≡ get_or w j 0
unfolding recorded_from
from-before x [] fs w at j h = refl
from-before x (s ∷ ss) [] w at j h =
    from-before x ss [] (recorded_bits x s 0 w at 64) (at + 64) j (omega arith) ∙ bits_before x s 0 w at 64 j h
from-before x (s ∷ ss) (f ∷ fs) w at j h =
    from-before x ss fs (recorded_bits x s f w at 64) (at + 64) j (omega arith) ∙ bits_before x s f w at 64 j h

-- one word of the sets, then the others
module _ (x s f : ℕ) (ss fs ts us w : List ℕ) (at : ℕ) (r : at + 64 * suc (length ss) ≤ length w)
    (rest : (u : List ℕ) (l : ℕ) → length u ≡ length w → l < 64 * length ss
    → get_or (recorded_from x ss fs u (at + 64)) (at + 64 + l) 0 ≡ cond (has ss l && not (has fs l)) x (get_or u (at + 64 + l) 0))
    (head-s : (l : ℕ) → l < 64 → has ts l ≡ bit s l) (tail-s : (l : ℕ) → has ts (64 + l) ≡ has ss l)
    (head-f : (l : ℕ) → l < 64 → has us l ≡ bit f l) (tail-f : (l : ℕ) → has us (64 + l) ≡ has fs l) where
  cons-at : (l : ℕ) → l < 64 * suc (length ss) → Dec (l < 64)
      → get_or (recorded_from x ss fs (recorded_bits x s f w at 64) (at + 64)) (at + l) 0 ≡ cond (has ts l && not (has us l)) x (get_or w (at + l) 0)
  cons-at l h (yes i) =
      rw (head-s l i, head-f l i)
      (from-before x ss fs (recorded_bits x s f w at 64) (at + 64) (at + l) (omega arith) ∙ bits_at x s f w at 64 l i (omega arith))
  cons-at l h (no n) =
      let k = l - 64 in
      let e : l ≡ 64 + k = omega arith in
      let a : at + l ≡ at + 64 + k = omega arith in
      let q = rest (recorded_bits x s f w at 64) k (length_bits x s f w at 64) (omega arith) in
      let o = bits_after x s f w at 64 (at + 64 + k) (omega arith) in
      let m : has ts l ≡ has ss k = ap (has ts) e ∙ tail-s k in
      let g : has us l ≡ has fs k = ap (has us) e ∙ tail-f k in
      rw (m, g, a) (q ∙ ap (cond (has ss k && not (has fs k)) x) o)

-- location l of the two sets
from_at : (x : ℕ) (ss fs w : List ℕ) (at l : ℕ) → l < 64 * length ss → at + 64 * length ss ≤ length w
    → get_or (recorded_from x ss fs w at) (at + l) 0 ≡ cond (has ss l && not (has fs l)) x (get_or w (at + l) 0)
unfolding recorded_from
from_at x [] fs w at l h r = absurd (omega arith)
from_at x (s ∷ ss) [] w at l h r =
    cons-at x s 0 ss [] (s ∷ ss) [] w at r (λ u k q i. from_at x ss [] u (at + 64) k i (rw q (omega arith))) (λ k i. has_head s k ss i)
    (λ k. has_tail s k ss) (λ k i. has-nil k ∙ sym (bit-zero k)) (λ k. has-nil (64 + k) ∙ sym (has-nil k)) l h (dec_lt l 64)
from_at x (s ∷ ss) (f ∷ fs) w at l h r =
    cons-at x s f ss fs (s ∷ ss) (f ∷ fs) w at r (λ u k q i. from_at x ss fs u (at + 64) k i (rw q (omega arith))) (λ k i. has_head s k ss i)
    (λ k. has_tail s k ss) (λ k i. has_head f k fs i) (λ k. has_tail f k fs) l h (dec_lt l 64)

from-inside : (x : ℕ) (ss fs w : List ℕ) (at : ℕ) → ((l : ℕ) → has ss l ≡ true → has fs l ≡ true) → recorded_from x ss fs w at ≡ w
unfolding recorded_from
from-inside x [] fs w at h = refl
from-inside x (s ∷ ss) [] w at h =
    ap (λ (u : List ℕ). recorded_from x ss [] u (at + 64))
    (bits_inside x s 0 w at 64 (λ k i e. absurd (true≢false (sym (h k (has_head s k ss i ∙ e)) ∙ has-nil k))))
    ∙ from-inside x ss [] w (at + 64) (λ l e. absurd (true≢false (sym (h (64 + l) (has_tail s l ss ∙ e)) ∙ has-nil (64 + l))))
from-inside x (s ∷ ss) (f ∷ fs) w at h =
    ap (λ (u : List ℕ). recorded_from x ss fs u (at + 64))
    (bits_inside x s f w at 64 (λ k i e. sym (has_head f k fs i) ∙ h k (has_head s k ss i ∙ e)))
    ∙ from-inside x ss fs w (at + 64) (λ l e. sym (has_tail f l fs) ∙ h (64 + l) (has_tail s l ss ∙ e))

from-machine : (x : ℕ) (ss fs w : List ℕ) (at : ℕ) → reports ≤ at → SameMachine w (recorded_from x ss fs w at)
unfolding recorded_from
from-machine x [] fs w at h = machine-refl w
from-machine x (s ∷ ss) [] w at h =
    machine_trans (bits_machine x s 0 w at 64 h) (from-machine x ss [] (recorded_bits x s 0 w at 64) (at + 64) (omega arith))
from-machine x (s ∷ ss) (f ∷ fs) w at h =
    machine_trans (bits_machine x s f w at 64 h) (from-machine x ss fs (recorded_bits x s f w at 64) (at + 64) (omega arith))

from-drop : (x : ℕ) (ss fs w : List ℕ) (at m : ℕ) → at + 64 * length ss ≤ m → drop m (recorded_from x ss fs w at) ≡ drop m w
unfolding recorded_from
from-drop x [] fs w at m h = refl
from-drop x (s ∷ ss) [] w at m h =
    from-drop x ss [] (recorded_bits x s 0 w at 64) (at + 64) m (omega arith) ∙ bits_drop x s 0 w at 64 m (omega arith)
from-drop x (s ∷ ss) (f ∷ fs) w at m h =
    from-drop x ss fs (recorded_bits x s f w at 64) (at + 64) m (omega arith) ∙ bits_drop x s f w at 64 m (omega arith)

-- ---- location sets
-- nothing is recorded of a set that lies within D
pub recorded-within : (x : ℕ) (full seen : LocationSet) (w : List ℕ) → subset seen full ≡ true → recorded x full seen w ≡ w
unfolding recorded member
recorded-within x full seen w e = from-inside x seen.words full.words w reports (subset-within seen full e).each

-- the machine stays, and so do the words of the labels
pub recorded-machine : (x : ℕ) (full seen : LocationSet) (w : List ℕ) → SameMachine w (recorded x full seen w)
unfolding recorded
recorded-machine x full seen w = from-machine x seen.words full.words w reports (le_refl reports)

module _ (x : ℕ) (full seen : LocationSet) (w : List ℕ) (size : length seen.words ≡ 4) where
  pub recorded-frame : drop labels (recorded x full seen w) ≡ drop labels w
  unfolding recorded
  recorded-frame = from-drop x seen.words full.words w reports labels (rw size (omega arith))

  -- the word of a location: the report's where the set brings it in
  pub recorded-at : working_words ≤ length w → (l : ℕ) → l < limit
      → get_or (recorded x full seen w) (report_base l) 0 ≡ cond (member seen l && not (member full l)) x (get_or w (report_base l) 0)
  unfolding recorded member
  recorded-at r l h = from_at x seen.words full.words w reports l (rw size (omega arith)) (rw size (omega arith))

-- the sets' words number k, with the rest after it
pub words_step : (x : ℕ) (ss fs : List ℕ) (w : List ℕ) (k : ℕ) → k < length ss → k < length fs
    → recorded_from x (drop (k + 1) ss) (drop (k + 1) fs) (recorded_bits x (get_or ss k 0) (get_or fs k 0) w (reports + 64 * k) 64) (reports + 64 * (k + 1))
    ≡ recorded_from x (drop k ss) (drop k fs) w (reports + 64 * k)
unfolding recorded_from
words_step x ss fs w k hs hf =
    let e : k + 1 ≡ suc k = omega arith in
    let o : reports + 64 * suc k ≡ reports + 64 * k + 64 = omega arith in
    rw (e, o, drop-cons ss k 0 hs, drop-cons fs k 0 hf)

-- no word is left of the observed set
pub words_over : (x : ℕ) (ss fs : List ℕ) (w : List ℕ) (at n : ℕ) → length ss ≤ n → recorded_from x (drop n ss) fs w at ≡ w
unfolding recorded_from
words_over x ss fs w at n h = rw (drop_all n ss h)

-- ---- what is read
pub reports-length : (w : List ℕ) (full : LocationSet) (l n : ℕ) → length (reports_in w full l n) ≡ n
unfolding reports_in
reports-length w full l zero = refl
reports-length w full l (suc n) = ap suc (reports-length w full (l + 1) n)

pub reports-at : (w : List ℕ) (full : LocationSet) (l n k : ℕ) → k < n → get_or (reports_in w full l n) k no_report ≡ report_on w full (l + k)
unfolding reports_in
reports-at w full l zero k h = absurd (omega arith)
reports-at w full l (suc n) zero h = ap (report_on w full) (sym (add-zero l))
reports-at w full l (suc n) (suc k) h =
    let e : l + 1 + k ≡ l + suc k = omega arith in
    reports-at w full (l + 1) n k (omega arith) ∙ ap (report_on w full) e

-- ---- the list of all reports, filled by a walk over D
-- the walk over set t begins at the first location
pub reports-none : (w : List ℕ) (full : LocationSet) {t : LocationSet} {n : ℕ} {xs : List First} → t ≡ full → n ≡ 0 → xs ≡ firsts_of []
    → Filled t no_report (report_on w full) xs n
reports-none w full e z f =
    rw (e, z, f, firsts-none) (filled_none full no_report (report_on w full) (λ k h m. ap (λ (b : Bool). cond b (report_in w k) no_report) m))

-- location m of D has its report: j is its number, and k the place after it
pub reports-next : (w : List ℕ) (full : LocationSet) {s t : LocationSet} {xs : List First} {n m j k : ℕ} → Filled s no_report (report_on w full) xs n
    → s ≡ full → IsFirst s n m → t ≡ s → k ≡ m + 1 → j ≡ m → {x : First} → x ≡ report_in w j → Filled t no_report (report_on w full) (set xs j x) k
reports-next w full {m = m} h same next e f g {x} stored =
    rw (e, f, g) (filled_next h next (λ i. (rw g at stored) ∙ ap (λ (b : Bool). cond b (report_in w m) no_report) (sym ((rw same at i)))))

pub reports-all : (w : List ℕ) (full : LocationSet) {s : LocationSet} {xs : List First} {n : ℕ} → Filled s no_report (report_on w full) xs n
    → NoneFrom s n limit → xs ≡ reports_in w full 0 limit
reports-all w full {s} {xs} h last =
    ext_get_or no_report xs (reports_in w full 0 limit) (h.size ∙ sym (reports-length w full 0 limit))
    (λ k i. let b : k < limit = omega (arith, h.size) in
    all.passed k b ∙ sym (reports-at w full 0 limit k b ∙ ap (report_on w full) (zero-add k)))
  where
    all : Filled s no_report (report_on w full) xs limit
    all = filled_all h last
