-- What an accepted job file has passed, what follows for the job's numbers, and "a job that is the same but for the state's
-- bytes": it is the same job with another state, or is refused for the same cause.
-- Assumes nothing.
use Rattle.std.specs.Prelude.{◌≡◌, leb, eqb, length, get_or, take, drop}
use Rattle.std.proofs.Math.Path.{refl, sym, ap, ap₂}
use Rattle.std.proofs.Common.{◌∙◌, le_refl, get_or-drop}
use Rattle.std.proofs.Math.Bool.{Bool, true, false, cond}
use mathlib.Core.List.{List, [], ◌∷◌}
use Prim.Native.Nat.{ℕ, zero, suc, ◌+◌, ◌-◌, ◌*◌, ◌≤◌}
use native.Mathlib.Omega.{arith}
use borrow.Author.Tests.{leb-true, eqb-true}
use Rattle.location.specs.SetLaws.{and_left, and_right}
use Rattle.rules.specs.declared.Trailer.{Trailer}
use Rattle.rules.specs.declared.Refusal.{Refusal}
use Rattle.rules.specs.declared.Refusal.TheVariants as refusals
use Rattle.rules.specs.Rules.Limits.{max_instructions, max_cells, max_window, max_budget, registers_size, list_size, trailer_size}
use Rattle.rules.specs.Rules.Instructions.{Instr, window_costs}
use Rattle.rules.specs.Rules.Runs.{Job}
use Rattle.rules.specs.Rules.JobFile.{little, Read, got, refused, and_then, instruction, nothing_left, program, trailer_at, trailer, sized, limits}
use Rattle.rules.specs.Rules.JobFile.{offsets, locations, words_at, state_of, public_of, listed, Parsed, accepted, rejected, job_of, program_of}
use Rattle.rules.specs.Rules.JobFile.{finish, parse}
use Rattle.rules.specs.Rules.Pairs.{with_state}
use Rattle.rules.specs.Rules.Demands.{SameButState}
use Rattle.rules.specs.Theorems.Readers.{refused-got}
use Rattle.rules.specs.Theorems.Bounds.{Limits}

pub rejected-accepted : {P : Type 0} {r : Refusal} {job : Job} → rejected r ≡ accepted job → P
rejected-accepted {P} {r} {job} e = absurd (let z : ◌≡◌ {A = ℕ} 0 1 = cc in omega arith)

-- ---- what an accepted file has passed, in the order of the refusals: 1, 2, 3, then 4 to 7, then 8
pub record Passed (bs : List ℕ) (job : Job) : Type 0 where
  pub sized : sized (length bs) ≡ true
  pub limits : limits (trailer bs) ≡ true
  pub offsets : offsets (trailer bs) (length bs) ≡ true
  pub next : ℕ
  pub read : program_of bs (trailer bs) ≡ got job.code.prog next
  pub listed : listed (trailer bs) bs ≡ true
  pub made : job ≡ job_of bs (trailer bs) job.code.prog

module _ (bs : List ℕ) (job : Job) where
  finished : sized (length bs) ≡ true → limits (trailer bs) ≡ true → offsets (trailer bs) (length bs) ≡ true
      → (R : Read (List Instr)) → program_of bs (trailer bs) ≡ R → finish bs (trailer bs) R ≡ accepted job → Passed bs job
  unfolding finish job_of
  finished z w o (refused r) s e = rejected-accepted e
  finished z w o (got xs q) s e = go (listed (trailer bs) bs) refl e
    where
      go : (b : Bool) → listed (trailer bs) bs ≡ b
          → cond b (accepted (job_of bs (trailer bs) xs)) (rejected refusals.PublicList) ≡ accepted job → Passed bs job
      go false l e = rejected-accepted e
      go true l e =
          let f : job_of bs (trailer bs) xs ≡ job = cc in
          let g : xs ≡ job.code.prog = ap (λ (j : Job). j.code.prog) f in
          record {
            sized = z;
            limits = w;
            offsets = o;
            next = q;
            read = s ∙ ap (λ (ys : List Instr). got ys q) g;
            listed = l;
            made = sym f ∙ ap (job_of bs (trailer bs)) g;
          }

  pub passed : parse bs ≡ accepted job → Passed bs job
  unfolding parse
  passed e = go (sized (length bs)) (limits (trailer bs)) (offsets (trailer bs) (length bs)) refl refl refl e
    where
      go : (z w o : Bool) → sized (length bs) ≡ z → limits (trailer bs) ≡ w → offsets (trailer bs) (length bs) ≡ o
          → cond z
          (cond w (cond o (finish bs (trailer bs) (program_of bs (trailer bs))) (rejected refusals.Offsets)) (rejected refusals.Trailer))
          (rejected refusals.Length)
          ≡ accepted job
          → Passed bs job
      go true true true z w o e = finished z w o (program_of bs (trailer bs)) refl e
      go true true false z w o e = rejected-accepted e
      go true false o z w o' e = rejected-accepted e
      go false w o z w' o' e = rejected-accepted e

-- ---- the length of what is read
pub length-words_at : (k : ℕ) (bs : List ℕ) (at : ℕ) → length (words_at k bs at) ≡ k
unfolding words_at
length-words_at zero bs at = refl
length-words_at (suc k) bs at = ap suc (length-words_at k bs (at + 8))

pub length-state_of : (t : Trailer) (bs : List ℕ) → length (state_of t bs) ≡ 16 + t.cells
unfolding state_of
length-state_of t bs = length-words_at (16 + t.cells) bs t.state

-- one more instruction in front of k
length-cons : (x : Instr) (R : Read (List Instr)) {k q : ℕ} {xs : List Instr}
    → ((ys : List Instr) (r : ℕ) → R ≡ got ys r → length ys ≡ k) → and_then R (λ ys r. got (x ∷ ys) r) ≡ got xs q → length xs ≡ suc k
length-cons x (refused r) h e = refused-got e
length-cons x (got ys r) {k} {q} {xs} h e = let f : x ∷ ys ≡ xs = cc in ap length (sym f) ∙ ap suc (h ys r refl)

-- a program of k instructions has k
pub length-program : (n k i : ℕ) (p : List ℕ) (at : ℕ) (xs : List Instr) (q : ℕ) → program n k i p at ≡ got xs q → length xs ≡ k
unfolding program nothing_left
length-program n zero i p at xs q e = go (eqb at (length p)) e
  where
    go : (b : Bool) → cond b (got [] at) (refused refusals.Surplus) ≡ got xs q → length xs ≡ 0
    go true e = let f : [] ≡ xs = cc in ap length (sym f)
    go false e = refused-got e
length-program n (suc k) i p at xs q e = go (instruction n i p at) (λ ys r. length-program n k (i + 1) p r ys) e
  where
    go : (R : Read Instr) → ((ys : List Instr) (r s : ℕ) → program n k (i + 1) p r ≡ got ys s → length ys ≡ k)
        → and_then R (λ x r. and_then (program n k (i + 1) p r) (λ ys s. got (x ∷ ys) s)) ≡ got xs q → length xs ≡ suc k
    go (refused r) h e = refused-got e
    go (got x r) h e = length-cons x (program n k (i + 1) p r) (λ ys s. h ys r s) e

-- ---- the offsets, where "S > Q, Q − S not 128 + 8m, or Q + 48 not the length" was not found
module _ (t : Trailer) (len : ℕ) (h : offsets t len ≡ true) where
  pub offsets-state : t.state + registers_size + 8 * t.cells ≡ t.list
  unfolding offsets
  offsets-state =
      let r = and_right (leb t.state t.list) _ h in
      let le = leb-true t.state t.list (and_left (leb t.state t.list) _ h) in
      let eq = eqb-true (t.list - t.state) (registers_size + 8 * t.cells) (and_left (eqb (t.list - t.state) (registers_size + 8 * t.cells)) _ r) in
      omega arith

  pub offsets_list : t.list + (list_size + trailer_size) ≡ len
  unfolding offsets
  offsets_list =
      let r = and_right (leb t.state t.list) _ h in
      eqb-true (t.list + (list_size + trailer_size)) len (and_right (eqb (t.list - t.state) (registers_size + 8 * t.cells)) _ r)

-- ---- the limits of an accepted job
pub limits-hold : (t : Trailer) → limits t ≡ true → Limits t
unfolding limits
limits-hold t h =
    let h1 = and_right (leb 1 t.count) _ h in
    let h2 = and_right (leb t.count max_instructions) _ h1 in
    let h3 = and_right (leb t.cells max_cells) _ h2 in
    let h4 = and_right (leb t.window max_window) _ h3 in
    record {
      count_most = leb-true t.count max_instructions (and_left (leb t.count max_instructions) _ h1);
      cells = leb-true t.cells max_cells (and_left (leb t.cells max_cells) _ h2);
      window = leb-true t.window max_window (and_left (leb t.window max_window) _ h3);
      budget = leb-true t.budget max_budget (and_right (eqb t.zero 0) _ h4);
    }

-- ---- the numbers of an accepted job, and where they stand in its file
module _ {bs : List ℕ} {job : Job} (p : Passed bs job) where
  pub job-end : length job.code.prog ≡ (trailer bs).count
  unfolding program_of
  job-end =
      length-program (trailer bs).count (trailer bs).count 0 (take (trailer bs).state bs) 0 job.code.prog p.next p.read

  pub job-cells : job.code.cells ≡ (trailer bs).cells
  unfolding job_of
  job-cells = ap (λ (j : Job). j.code.cells) p.made

  pub job-costs : job.code.costs ≡ window_costs
  unfolding job_of
  job-costs = ap (λ (j : Job). j.code.costs) p.made

  pub job-init : job.init ≡ state_of (trailer bs) bs
  unfolding job_of
  job-init = ap (λ (j : Job). j.init) p.made

  pub job-public : job.public ≡ public_of (trailer bs) bs
  unfolding job_of
  job-public = ap (λ (j : Job). j.public) p.made

  pub job-budget : job.budget ≡ (trailer bs).budget
  unfolding job_of
  job-budget = ap (λ (j : Job). j.budget) p.made

  pub cells-most : job.code.cells ≤ max_cells
  cells-most = rw job-cells (limits-hold (trailer bs) p.limits).cells

  -- "16 registers and m cells"
  pub init-locations : length job.init ≡ locations (trailer bs)
  init-locations = ap length job-init ∙ length-state_of (trailer bs) bs

  pub init-length : length job.init ≡ 16 + job.code.cells
  init-length = init-locations ∙ ap (λ (m : ℕ). 16 + m) (sym job-cells)

  pub init-most : length job.init ≤ 256
  init-most = rw init-length (let h = cells-most in omega arith)

  -- "then the state; then 32 bytes of public list; then a trailer of 16 bytes"
  pub state_list : (trailer bs).state + registers_size + 8 * (trailer bs).cells ≡ (trailer bs).list
  state_list = offsets-state (trailer bs) (length bs) p.offsets

  pub list_length : (trailer bs).list + (list_size + trailer_size) ≡ length bs
  list_length = offsets_list (trailer bs) (length bs) p.offsets

-- ---- another state in the same file: "The second state stands in a job that is the same but for the state's bytes"
-- what is read at an offset from q on
module _ (f g : List ℕ) (q : ℕ) (same : drop q f ≡ drop q g) where
  byte-same : (j : ℕ) → q ≤ j → get_or g j 0 ≡ get_or f j 0
  byte-same j h =
      let d : j ≡ q + (j - q) = omega arith in
      rw (d, ← get_or-drop q g (j - q) 0, ← get_or-drop q f (j - q) 0, same)

  little-same : (k at : ℕ) → q ≤ at → little g at k ≡ little f at k
  unfolding little
  little-same zero at h = refl
  little-same (suc k) at h = ap₂ (λ (a b : ℕ). a + 256 * b) (byte-same at h) (little-same k (at + 1) (omega arith))

  words_at-same : (k at : ℕ) → q ≤ at → words_at k g at ≡ words_at k f at
  unfolding words_at
  words_at-same zero at h = refl
  words_at-same (suc k) at h =
      ap₂ {C = List ℕ} (λ (a : ℕ) (b : List ℕ). a ∷ b) (little-same 8 at h) (words_at-same k (at + 8) (omega arith))

  trailer_at-same : (at : ℕ) → q ≤ at → trailer_at g at ≡ trailer_at f at
  unfolding trailer_at
  trailer_at-same at h =
      rw (
        little-same 2 at h,
        little-same 2 (at + 2) (omega arith),
        little-same 2 (at + 4) (omega arith),
        little-same 2 (at + 6) (omega arith),
        little-same 2 (at + 8) (omega arith),
        little-same 2 (at + 10) (omega arith),
        little-same 4 (at + 12) (omega arith),
      )

-- where the offsets are right the trailer is among the bytes after the state
pub trailer-same : {f g : List ℕ} → offsets (trailer f) (length f) ≡ true → SameButState f g → trailer g ≡ trailer f
unfolding trailer
trailer-same {f} {g} o s =
    let e = offsets_list (trailer f) (length f) o in
    ap (λ (n : ℕ). trailer_at g (n - trailer_size)) (sym s.size)
    ∙ trailer_at-same f g (trailer f).list s.after (length f - trailer_size) (omega arith)

-- a file with other words of the state
abbrev pub parsed_with : List ℕ → Parsed → Parsed
parsed_with vs (accepted job) = accepted (with_state job vs)
parsed_with vs (rejected r) = rejected r

module _ {f g : List ℕ} (s : SameButState f g) (e : trailer g ≡ trailer f) where
  program_of-same : program_of g (trailer f) ≡ program_of f (trailer f)
  unfolding program_of
  program_of-same = ap (λ (p : List ℕ). program (trailer f).count (trailer f).count 0 p 0) (sym s.before)

  public_of-same : public_of (trailer f) g ≡ public_of (trailer f) f
  unfolding public_of
  public_of-same =
      ap (λ (ws : List ℕ). record { words = ws })
      (words_at-same f g (trailer f).list s.after 4 (trailer f).list (le_refl (trailer f).list))

  finish-same : (R : Read (List Instr)) → finish g (trailer f) R ≡ parsed_with (state_of (trailer f) g) (finish f (trailer f) R)
  unfolding finish listed job_of with_state
  finish-same (refused r) = refl
  finish-same (got xs q) = rw public_of-same (go (listed (trailer f) f))
    where
      go : (b : Bool) → cond b (accepted (with_state (job_of f (trailer f) xs) (state_of (trailer f) g))) (rejected refusals.PublicList)
          ≡ parsed_with (state_of (trailer f) g) (cond b (accepted (job_of f (trailer f) xs)) (rejected refusals.PublicList))
      go true = refl
      go false = refl

  -- the same refusal, or the same job with the words of the second state
  pub parse-same : parse g ≡ parsed_with (state_of (trailer f) g) (parse f)
  unfolding parse
  parse-same =
      rw (e, ← s.size, program_of-same, finish-same (program_of f (trailer f)))
      (go (sized (length f)) (limits (trailer f)) (offsets (trailer f) (length f)) (finish f (trailer f) (program_of f (trailer f))))
    where
      tests : Bool → Bool → Bool → Parsed → Parsed
      tests z w o P =
          cond z (cond w (cond o P (rejected refusals.Offsets)) (rejected refusals.Trailer)) (rejected refusals.Length)

      go : (z w o : Bool) (P : Parsed)
          → tests z w o (parsed_with (state_of (trailer f) g) P) ≡ parsed_with (state_of (trailer f) g) (tests z w o P)
      go true true true P = refl
      go true true false P = refl
      go true false o P = refl
      go false w o P = refl

-- "a job that is the same but for the state's bytes": the same program, public list and limits, with the words of the second state
pub parse-other : {f g : List ℕ} {job : Job} → parse f ≡ accepted job → SameButState f g
    → parse g ≡ accepted (with_state job (state_of (trailer f) g))
parse-other {f} {g} {job} e s =
    parse-same s (trailer-same (passed f job e).offsets s) ∙ ap (parsed_with (state_of (trailer f) g)) e
