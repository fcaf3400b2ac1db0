-- A text has no fault exactly where the rules read it, and then it has as many instructions as lines that are not blank.
-- Assumes nothing.
use Rattle.std.specs.Prelude.{◌≡◌, Bool, false, ◌&&◌, ℕ, ◌+◌, ◌<◌, ◌≤◌, eqb, leb, ltb}
use Rattle.std.proofs.Math.Path.{refl, ap}
use Rattle.std.proofs.Common.{sym, ◌∙◌, add-zero}
use Rattle.std.proofs.Math.Bool.{true, cond}
use mathlib.Core.List.{List, [], ◌∷◌}
use Rattle.std.proofs.Math.Option.{Option, none, some}
use native.Mathlib.Omega.{arith}
use borrow.Author.Tests.{lt-ltb, ltb-true, le-leb, leb-true, lt-leb, eq-eqb, ne_eqb, eqb-true, eqb-false, not-false}
use Rattle.std.proofs.Math.ListN.{length}
use Rattle.location.specs.SetLaws.{and_left, and_right, and_true}
use Rattle.rules.specs.Rules.Limits.{max_instructions}
use Rattle.rules.specs.Rules.Instructions.{Instr}
use Rattle.rules.specs.Rules.Parts.{newline, into_first, parts, lines_of}
use Rattle.rules.specs.Rules.TextReading.{Line, blank, holds, unreadable, line_of, joined_line, instructions_of, all_hold, program_holds, kept_if, read_text}
use Rattle.text_reader.specs.Faults.{held_line, held_lines, passes, faulty, first_fault, fault_line}

none-some : {P : Type 0} {xs : List Instr} → none ≡ some xs → P
none-some {P} {xs} e = absurd (let z : ◌≡◌ {A = ℕ} 0 1 = cc in omega arith)

true_false : {P : Type 0} → true ≡ false → P
true_false e = absurd (let z : ◌≡◌ {A = ℕ} 0 1 = cc in omega arith)

-- ---- lines that can all be read: each that is not blank is an instruction
pub held-count : (ls : List (List ℕ)) (xs : List Instr) → instructions_of ls ≡ some xs → held_lines ls ≡ length xs
unfolding instructions_of held_lines
held-count [] xs e = let s : [] ≡ xs = cc in ap length s
held-count (l ∷ ls) xs e = by (line_of (parts l)) (instructions_of ls) (λ ys f. held-count ls ys f) e
  where
    by : (L : Line) (R : Option (List Instr)) → ((ys : List Instr) → R ≡ some ys → held_lines ls ≡ length ys) → joined_line L R ≡ some xs
        → held_line L + held_lines ls ≡ length xs
    by blank R f h = omega (arith, f xs h)
    by unreadable R f h = none-some h
    by (holds x) none f h = none-some h
    by (holds x) (some ys) f h = let s : x ∷ ys ≡ xs = cc in omega (arith, f ys refl, ap length s)

-- ---- instructions that hold are without fault
pub no_fault : (n i k : ℕ) (ls : List (List ℕ)) (xs : List Instr) → instructions_of ls ≡ some xs → all_hold n i xs ≡ true
    → i + length xs ≤ max_instructions → first_fault n i k ls ≡ 0
unfolding instructions_of first_fault all_hold
no_fault n i k [] xs e h m = refl
no_fault n i k (l ∷ ls) xs e h m = by (line_of (parts l)) (instructions_of ls) (λ j ys f g o. no_fault n j (k + 1) ls ys f g o) e
  where
    by : (L : Line) (R : Option (List Instr))
        → ((j : ℕ) (ys : List Instr) → R ≡ some ys → all_hold n j ys ≡ true → j + length ys ≤ max_instructions → first_fault n j (k + 1) ls ≡ 0)
        → joined_line L R ≡ some xs → cond (faulty n i L) k (first_fault n (i + held_line L) (k + 1) ls) ≡ 0
    by blank R f g = rw add-zero (f i xs g h m)
    by unreadable R f g = none-some g
    by (holds x) none f g = none-some g
    by (holds x) (some ys) f g =
        let s : x ∷ ys ≡ xs = cc in
        let all : all_hold n i (x ∷ ys) ≡ true = ap (all_hold n i) s ∙ h in
        let size = ap length s in
        let few : i < max_instructions = omega arith in
        let fine : faulty n i (holds x) ≡ false = rw (lt-ltb i max_instructions few, and_left (passes n i x) (all_hold n (i + 1) ys) all) in
        rw fine (f (i + 1) ys refl (and_right (passes n i x) (all_hold n (i + 1) ys) all) (omega arith))

-- ---- lines without fault are instructions that hold
pub record Unfaulted (n i : ℕ) (ls : List (List ℕ)) : Type 0 where
  pub instrs : List Instr
  pub read : instructions_of ls ≡ some instrs
  pub hold : all_hold n i instrs ≡ true
  pub few : i + length instrs ≤ max_instructions

-- a line without fault leaves no more instructions than a program may have
pub held-few : (n i : ℕ) (L : Line) → faulty n i L ≡ false → i ≤ max_instructions → i + held_line L ≤ max_instructions
held-few n i blank f h = omega arith
held-few n i unreadable f h = true_false f
held-few n i (holds x) f h =
    let t = ltb-true i max_instructions (and_left (ltb i max_instructions) (passes n i x) (not-false _ f)) in omega arith

pub unfaulted : (n i k : ℕ) (ls : List (List ℕ)) → 0 < k → first_fault n i k ls ≡ 0 → i ≤ max_instructions → Unfaulted n i ls
unfolding instructions_of first_fault all_hold
unfaulted n i k [] p e m = record { instrs = []; read = refl; hold = refl; few = omega arith }
unfaulted n i k (l ∷ ls) p e m = by (line_of (parts l)) refl e (λ j f h. unfaulted n j (k + 1) ls (omega arith) f h)
  where
    joined : (L : Line) → line_of (parts l) ≡ L → faulty n i L ≡ false → Unfaulted n (i + held_line L) ls → Unfaulted n i (l ∷ ls)
    joined blank q f u = record {
      instrs = u.instrs;
      read = ap (λ (L : Line). joined_line L (instructions_of ls)) q ∙ u.read;
      hold = rw add-zero at u.hold;
      few = omega (arith, u.few);
    }
    joined unreadable q f u = true_false f
    joined (holds x) q f u = record {
      instrs = x ∷ u.instrs;
      read = ap (λ (L : Line). joined_line L (instructions_of ls)) q ∙ ap (joined_line (holds x)) u.read;
      hold = and_true (passes n i x) (all_hold n (i + 1) u.instrs) (and_right (ltb i max_instructions) (passes n i x) (not-false _ f)) u.hold;
      few = omega (arith, u.few);
    }

    by : (L : Line) → line_of (parts l) ≡ L → cond (faulty n i L) k (first_fault n (i + held_line L) (k + 1) ls) ≡ 0
        → ((j : ℕ) → first_fault n j (k + 1) ls ≡ 0 → j ≤ max_instructions → Unfaulted n j ls) → Unfaulted n i (l ∷ ls)
    by L q g later = tested (faulty n i L) refl
      where
        tested : (b : Bool) → faulty n i L ≡ b → Unfaulted n i (l ∷ ls)
        tested true f = absurd (let z : k ≡ 0 = rw f at g in omega arith)
        tested false f = joined L q f (later (i + held_line L) (rw f at g) (held-few n i L f m))

-- ---- the whole text
-- the rules read it
pub record ReadAs (t : List ℕ) : Type 0 where
  pub instrs : List Instr
  pub lines : instructions_of (lines_of t) ≡ some instrs
  pub read : read_text t ≡ some instrs
  pub count : held_lines (lines_of t) ≡ length instrs

module _ (t : List ℕ) where
  abbrev held : ℕ
  held = held_lines (lines_of t)

  kept : (xs : List Instr) → instructions_of (lines_of t) ≡ some xs → program_holds xs ≡ true → read_text t ≡ some xs
  unfolding read_text
  kept xs e h = ap kept_if e ∙ ap (λ (b : Bool). cond b (some xs) none) h

  not_kept : ((xs : List Instr) → instructions_of (lines_of t) ≡ some xs → program_holds xs ≡ false) → read_text t ≡ none
  unfolding read_text
  not_kept f = go (instructions_of (lines_of t)) (λ xs e. f xs e)
    where
      go : (R : Option (List Instr)) → ((xs : List Instr) → R ≡ some xs → program_holds xs ≡ false) → kept_if R ≡ none
      go none g = refl
      go (some xs) g = ap (λ (b : Bool). cond b (some xs) none) (g xs refl)

  pub faultless-read : (held ≡ 0 → ⊥) → first_fault held 0 1 (lines_of t) ≡ 0 → ReadAs t
  unfolding program_holds
  faultless-read z e =
      let u = unfaulted held 0 1 (lines_of t) (omega arith) e (omega arith) in
      let count = held-count (lines_of t) u.instrs u.read in
      let xs = u.instrs in
      let few = u.few in
      let some' : 1 ≤ length xs = omega arith in
      let all : all_hold (length xs) 0 xs ≡ true = ap (λ (n : ℕ). all_hold n 0 xs) (sym count) ∙ u.hold in
      let holds' : program_holds xs ≡ true =
      and_true (leb 1 (length xs)) (leb (length xs) max_instructions && all_hold (length xs) 0 xs) (le-leb 1 (length xs) some')
      (and_true (leb (length xs) max_instructions) (all_hold (length xs) 0 xs) (le-leb (length xs) max_instructions (omega arith)) all) in
      record { instrs = xs; lines = u.read; read = kept xs u.read holds'; count = count }

  pub empty-unread : held ≡ 0 → read_text t ≡ none
  unfolding program_holds
  empty-unread z = not_kept (λ xs e. (let c = held-count (lines_of t) xs e in rw (lt-leb 1 (length xs) (omega arith))))

  program-faultless : (xs : List Instr) → instructions_of (lines_of t) ≡ some xs → program_holds xs ≡ true → first_fault held 0 1 (lines_of t) ≡ 0
  unfolding program_holds
  program-faultless xs e h =
      let count = held-count (lines_of t) xs e in
      let two = and_right (leb 1 (length xs)) (leb (length xs) max_instructions && all_hold (length xs) 0 xs) h in
      let few = leb-true (length xs) max_instructions (and_left (leb (length xs) max_instructions) (all_hold (length xs) 0 xs) two) in
      let all = and_right (leb (length xs) max_instructions) (all_hold (length xs) 0 xs) two in
      no_fault held 0 1 (lines_of t) xs e (ap (λ (n : ℕ). all_hold n 0 xs) count ∙ all) (omega arith)

  pub fault-unread : (first_fault held 0 1 (lines_of t) ≡ 0 → ⊥) → read_text t ≡ none
  fault-unread f = not_kept (λ xs e. go xs e (program_holds xs) refl)
    where
      go : (xs : List Instr) → instructions_of (lines_of t) ≡ some xs → (b : Bool) → program_holds xs ≡ b → program_holds xs ≡ false
      go xs e true h = absurd (f (program-faultless xs e h))
      go xs e false h = h

  -- ---- no fault exactly where the rules read the text
  fault-empty : held ≡ 0 → fault_line t ≡ length (lines_of t)
  unfolding fault_line
  fault-empty z = rw (eq-eqb held 0 z)

  fault-first : (held ≡ 0 → ⊥) → fault_line t ≡ first_fault held 0 1 (lines_of t)
  unfolding fault_line
  fault-first z = rw (ne_eqb held 0 z)

  some-line : (bs : List ℕ) → 0 < length (lines_of bs)
  unfolding lines_of
  some-line [] = omega arith
  some-line (b ∷ bs) = by (eqb b newline) (lines_of bs)
    where
      into : (ls : List (List ℕ)) → 0 < length (into_first b ls)
      into [] = omega arith
      into (l ∷ ls) = omega arith

      by : (x : Bool) (ls : List (List ℕ)) → 0 < length (cond x ([] ∷ ls) (into_first b ls))
      by true ls = omega arith
      by false ls = into ls

  pub no_fault_read : fault_line t ≡ 0 → ReadAs t
  no_fault_read e = by (eqb held 0) refl
    where
      by : (b : Bool) → eqb held 0 ≡ b → ReadAs t
      by true f = absurd (let l = fault-empty (eqb-true held 0 f) in let p = some-line t in omega arith)
      by false f = let z = eqb-false held 0 f in faultless-read z (sym (fault-first z) ∙ e)

  pub read_no_fault : (xs : List Instr) → read_text t ≡ some xs → fault_line t ≡ 0
  read_no_fault xs e = by (eqb held 0) refl
    where
      first : (held ≡ 0 → ⊥) → (b : Bool) → eqb (first_fault held 0 1 (lines_of t)) 0 ≡ b → fault_line t ≡ 0
      first z true g = fault-first z ∙ eqb-true _ 0 g
      first z false g = none-some (sym (fault-unread (eqb-false _ 0 g)) ∙ e)

      by : (b : Bool) → eqb held 0 ≡ b → fault_line t ≡ 0
      by true f = none-some (sym (empty-unread (eqb-true held 0 f)) ∙ e)
      by false f = first (eqb-false held 0 f) (eqb (first_fault held 0 1 (lines_of t)) 0) refl
