-- What demand 3 and the words on a pair speak of is there: for every accepted job and every second state of its size, the file with
-- that state's bytes in place of its own is a job with that state. And any two states are alike in the empty set.
-- Assumes nothing.
use Rattle.std.specs.Prelude.{◌≡◌, refl, List, ◌∷◌, ◌++◌, ℕ, zero, suc, ◌+◌, ◌*◌, ◌≤◌, take}
use Rattle.std.proofs.Math.Path.{sym, ap}
use Rattle.std.proofs.Common.{ap₂, ◌∙◌, true≢false, append_assoc, take_at, length-take-le, get_or-append-add}
use native.Mathlib.Omega.{arith}
use Rattle.std.proofs.Math.ListN.{length, drop, length-append, length-drop, get_or-append}
use Rattle.std.proofs.Math.Seq.{drop-append_seam}
use Rattle.location.specs.Sets.{empty}
use Rattle.location.specs.SetLaws.{member-empty}
use Rattle.rules.specs.Rules.Runs.{Job}
use Rattle.rules.specs.Rules.JobFile.{accepted, parse, trailer, little, locations, words_at, state_of}
use Rattle.rules.specs.Rules.Demands.{AlikeOn, second_state, SecondJob}
use Rattle.rules.proofs.Theorems.JobLaws.{passed, state_list, list_length}

-- "in the empty set any two are"
pub alike-empty : (xs ys : List ℕ) → AlikeOn empty xs ys
alike-empty xs ys = record { same = λ l m. absurd (true≢false (sym m ∙ member-empty l)) }

-- ---- what is read behind a front, and before what follows
little_behind : (xs ys : List ℕ) (k j : ℕ) → little (xs ++ ys) (length xs + j) k ≡ little ys j k
unfolding little
little_behind xs ys zero j = refl
little_behind xs ys (suc k) j =
    let e : length xs + j + 1 ≡ length xs + (j + 1) = omega arith in
    ap₂ (λ (a b : ℕ). a + 256 * b) (get_or-append-add xs ys j 0) (rw e (little_behind xs ys k (j + 1)))

little-before : (ys zs : List ℕ) (k j : ℕ) → j + k ≤ length ys → little (ys ++ zs) j k ≡ little ys j k
unfolding little
little-before ys zs zero j h = refl
little-before ys zs (suc k) j h =
    ap₂ (λ (a b : ℕ). a + 256 * b) (get_or-append ys zs 0 j (omega arith)) (little-before ys zs k (j + 1) (omega arith))

words_behind : (xs ys : List ℕ) (n j : ℕ) → words_at n (xs ++ ys) (length xs + j) ≡ words_at n ys j
unfolding words_at
words_behind xs ys zero j = refl
words_behind xs ys (suc n) j =
    let e : length xs + j + 8 ≡ length xs + (j + 8) = omega arith in
    ap₂ {C = List ℕ} (λ (a : ℕ) (b : List ℕ). a ∷ b) (little_behind xs ys 8 j) (rw e (words_behind xs ys n (j + 8)))

words-before : (ys zs : List ℕ) (n j : ℕ) → j + 8 * n ≤ length ys → words_at n (ys ++ zs) j ≡ words_at n ys j
unfolding words_at
words-before ys zs zero j h = refl
words-before ys zs (suc n) j h =
    ap₂ {C = List ℕ} (λ (a : ℕ) (b : List ℕ). a ∷ b) (little-before ys zs 8 j (omega arith)) (words-before ys zs n (j + 8) (omega arith))

-- ---- the file with the second state in place of its own
unfoldable pub with_second : List ℕ → List ℕ → List ℕ
with_second f second = take (trailer f).state f ++ (second ++ drop (trailer f).list f)

module _ (f second : List ℕ) (job : Job) (p : parse f ≡ accepted job) (h : length second ≡ 8 * locations (trailer f)) where
  abbrev front : List ℕ
  front = take (trailer f).state f

  abbrev rest : List ℕ
  rest = drop (trailer f).list f

  front-size : length front ≡ (trailer f).state
  front-size =
      let e = state_list (passed f job p) in
      let l = list_length (passed f job p) in
      length-take-le (trailer f).state f (omega arith)

  second-state : words_at (locations (trailer f)) (front ++ (second ++ rest)) (trailer f).state ≡ words_at (locations (trailer f)) second 0
  second-state =
      let n = locations (trailer f) in
      let z : length front + 0 ≡ (trailer f).state = let s = front-size in omega arith in
      ap (words_at n (front ++ (second ++ rest))) (sym z) ∙ words_behind front (second ++ rest) n 0 ∙ words-before second rest n 0 (omega arith)

  pub second-job : SecondJob f second (with_second f second)
  unfolding with_second state_of second_state
  second-job =
      let e = state_list (passed f job p) in
      let l = list_length (passed f job p) in
      let s = front-size in
      let d = length-drop (trailer f).list f in
      let a = length-append front (second ++ rest) in
      let b = length-append second rest in
      let c = length-append front second in
      let seam : length (front ++ second) ≡ (trailer f).list = omega arith in
      record {
        same = record {
          size = omega arith;
          before = sym (take_at front (second ++ rest) (trailer f).state front-size);
          after = sym
              (ap (drop (trailer f).list) (sym (append_assoc front second rest)) ∙ ap (λ (k : ℕ). drop k ((front ++ second) ++ rest)) (sym seam)
              ∙ drop-append_seam (front ++ second) rest);
        };
        state = second-state;
      }
