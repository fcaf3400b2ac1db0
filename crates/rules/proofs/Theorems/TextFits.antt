-- What is read of a text fits the encoding: a reader of parts takes nothing but registers below 16, constants below 2^64 and expressions
-- of at most 16 tokens; a label that 6 allows has room in 2 bytes.
-- Assumes nothing.
use Rattle.std.specs.Prelude.{◌≡◌, refl, Bool, true, false, not, ◌&&◌, cond, List, [], ◌∷◌, ◌++◌, ℕ, zero, suc, ◌+◌, ◌^◌, ◌<◌, ◌≤◌, eqb, leb, ltb, length, get_or}
use Rattle.std.proofs.Math.Option.{Option, none, some}
use Rattle.std.proofs.Common.{arith, leb-true, ltb-true}
use Rattle.location.specs.Sets.{registers}
use Rattle.location.specs.SetLaws.{and_left, and_right}
use Rattle.rules.specs.Rules.Limits.{max_instructions, max_tokens}
use Rattle.rules.specs.Rules.Operators.{Op1}
use Rattle.rules.specs.Rules.Expressions.{reg, const, op1, op2, Expr}
use Rattle.rules.specs.Rules.Instructions.{Instr, assign, load, store, jmp, beqz, cassign}
use Rattle.rules.specs.Rules.JobFile.{postfix, branch_label_holds}
use Rattle.rules.specs.Rules.Parts.{Part, name, opening, closing, other, parts}
use Rattle.rules.specs.Rules.TextReading.{digits_only, no_needless_zero, value_after, number_below, constant_named, register_named, operator_named}
use Rattle.rules.specs.Rules.TextReading.{sign_named, simple_named, Taken, took, nothing, and_take, taken, by_name, closed, expression, signed}
use Rattle.rules.specs.Rules.TextReading.{operand_by, operand, counted, whole_operand, with_register, jump, branch, conditional}
use Rattle.rules.specs.Rules.TextReading.{fields, instr_named, Line, blank, holds, unreadable, whole_line, line_of, joined_line, instructions_of}
use Rattle.rules.specs.Rules.TextReading.{instruction_words, place_among, all_hold}
use Rattle.rules.proofs.Theorems.Encodable.{TokensFit, nil, more, ExprFits, InstrFits, InstrsFit}

-- ---- what is there, and what is not
pub none-some : {P A : Type 0} {v : A} → none ≡ some v → P
none-some {P} {A} {v} e = absurd (let z : ◌≡◌ {A = ℕ} 0 1 = cc in omega arith)

pub some_same : {A : Type 0} {u v : A} → some u ≡ some v → u ≡ v
some_same {A} {u} {v} e = cc

-- ---- names stand for numbers within their limits
number-limit : (limit : ℕ) (w : List ℕ) {v : ℕ} → number_below limit w ≡ some v → v < limit
unfolding number_below
number-limit limit w {v} e = go (digits_only w) (no_needless_zero w) (ltb (value_after 0 w) limit) refl e
  where
    go : (a b t : Bool) → ltb (value_after 0 w) limit ≡ t → cond (a && (b && t)) (some (value_after 0 w)) none ≡ some v → v < limit
    go true true true h e = let z : value_after 0 w ≡ v = some_same e in let l : value_after 0 w < limit = ltb-true _ _ h in omega arith
    go true true false h e = none-some e
    go true false t h e = none-some e
    go false b t h e = none-some e

pub constant-limit : (w : List ℕ) {v : ℕ} → constant_named w ≡ some v → v < 2 ^ 64
unfolding constant_named
constant-limit w e = number-limit (2 ^ 64) w e

pub register-limit : (w : List ℕ) {v : ℕ} → register_named w ≡ some v → v < registers
unfolding register_named
register-limit [] e = none-some e
register-limit (b ∷ w) {v} e = go (eqb b 114) e
  where
    go : (t : Bool) → cond t (number_below registers w) none ≡ some v → v < registers
    go true e = number-limit registers w e
    go false e = none-some e

-- ---- what a reader of parts takes has a property
abbrev Takes : {A : Type 0} → (A → Type 0) → Taken A → Type 0
Takes P (took a ps) = P a
Takes P nothing = Unit

then : {A B : Type 0} (P : A → Type 0) (Q : B → Type 0) (m : Taken A) (f : A → List Part → Taken B) → Takes P m
    → ((a : A) (ps : List Part) → P a → Takes Q (f a ps)) → Takes Q (and_take m f)
then P Q (took a ps) f h k = k a ps h
then P Q nothing f h k = tt

always : {A : Type 0} (m : Taken A) → Takes (λ a. Unit) m
always (took a ps) = tt
always nothing = tt

by_name_lem : {A : Type 0} (P : A → Type 0) (f : List ℕ → Option A) → ((w : List ℕ) (a : A) → f w ≡ some a → P a) → (ps : List Part)
    → Takes P (by_name f ps)
by_name_lem P f h [] = tt
by_name_lem {A} P f h (name w ∷ ps) = go (f w) refl
  where
    go : (o : Option A) → f w ≡ o → Takes P (taken o ps)
    go none e = tt
    go (some a) e = h w a e
by_name_lem P f h (opening ∷ ps) = tt
by_name_lem P f h (closing ∷ ps) = tt
by_name_lem P f h (other b ∷ ps) = tt

closed-takes : {A : Type 0} (P : A → Type 0) (a : A) → P a → (ps : List Part) → Takes P (closed a ps)
closed-takes P a h [] = tt
closed-takes P a h (name w ∷ ps) = tt
closed-takes P a h (opening ∷ ps) = tt
closed-takes P a h (closing ∷ ps) = h
closed-takes P a h (other b ∷ ps) = tt

-- ---- operands
tokens_append : {d e : Expr} → TokensFit d → TokensFit e → TokensFit (d ++ e)
tokens_append nil g = g
tokens_append (more f fs) g = more f (tokens_append fs g)

simple_fits : (w : List ℕ) (ps : List Part) → Takes TokensFit (taken (simple_named w) ps)
unfolding simple_named
simple_fits w ps = go (register_named w) (constant_named w) refl refl
  where
    go : (a b : Option ℕ) → register_named w ≡ a → constant_named w ≡ b → Takes TokensFit (taken
        (elim a [ some r ↦ some (reg r ∷ []) | none ↦ elim b [ some c ↦ some (const c ∷ []) | none ↦ none ] ]) ps)
    go (some r) b e f = more (register-limit w e) nil
    go none (some c) e f = more (constant-limit w f) nil
    go none none e f = tt

module _ (inner : List Part → Taken Expr) (fits : (ps : List Part) → Takes TokensFit (inner ps)) where
  signed-fits : (o : Op1) (ps : List Part) → Takes TokensFit (signed inner o ps)
  unfolding signed
  signed-fits o ps =
      then TokensFit TokensFit (inner ps) (λ x. took (x ++ (op1 o ∷ []))) (fits ps) (λ x qs f. tokens_append f (more tt nil))

  expression-fits : (ps : List Part) → Takes TokensFit (expression inner ps)
  unfolding expression
  expression-fits ps =
      then TokensFit TokensFit (inner ps)
      (λ x qs. and_take (by_name operator_named qs) (λ o rs. and_take (inner rs) (λ y. closed (x ++ (y ++ (op2 o ∷ [])))))) (fits ps)
      (λ x qs f. then (λ o. Unit) TokensFit (by_name operator_named qs) (λ o rs. and_take (inner rs) (λ y. closed (x ++ (y ++ (op2 o ∷ [])))))
      (always (by_name operator_named qs))
      (λ o rs u. then TokensFit TokensFit (inner rs) (λ y. closed (x ++ (y ++ (op2 o ∷ [])))) (fits rs)
      (λ y ss g. closed-takes TokensFit (x ++ (y ++ (op2 o ∷ []))) (tokens_append f (tokens_append g (more tt nil))) ss)))

  by_fits : (ps : List Part) → Takes TokensFit (operand_by inner ps)
  by_fits [] = tt
  by_fits (name w ∷ ps) = go (sign_named w)
    where
      go : (s : Option Op1) → Takes TokensFit (elim s [ some o ↦ signed inner o ps | none ↦ taken (simple_named w) ps ])
      go (some o) = signed-fits o ps
      go none = simple_fits w ps
  by_fits (opening ∷ ps) = expression-fits ps
  by_fits (closing ∷ ps) = tt
  by_fits (other b ∷ ps) = tt

operand-fits : (k : ℕ) (ps : List Part) → Takes TokensFit (operand k ps)
unfolding operand
operand-fits zero ps = tt
operand-fits (suc k) ps = by_fits (operand k) (operand-fits k) ps

whole-fits : (ps : List Part) → Takes ExprFits (whole_operand ps)
unfolding whole_operand
whole-fits ps = then TokensFit ExprFits (operand max_tokens ps) counted (operand-fits max_tokens ps) (λ e qs f. go e qs f (leb (length e) max_tokens) refl)
  where
    go : (e : Expr) (qs : List Part) → TokensFit e → (b : Bool) → leb (length e) max_tokens ≡ b → Takes ExprFits (cond b (took e qs) nothing)
    go e qs f true h = record { tokens = f; most = leb-true (length e) max_tokens h }
    go e qs f false h = tt

-- ---- instructions
-- an instruction that fits if 6 allows its label in a program of at most 512
record Fitting (x : Instr) : Type 0 where
  fits : (n i : ℕ) → n ≤ max_instructions → branch_label_holds n i x ≡ true → InstrFits x

branch_fits : (r l : ℕ) → r < registers → Fitting (beqz r l)
branch_fits r l h = record {
  fits = λ n i m b. (h, (let k = leb-true l n (and_left (leb l n) (not (eqb l (i + 1))) b) in omega arith));
}

abbrev Below : ℕ → Type 0
Below r = r < registers

register-takes : (ps : List Part) → Takes Below (by_name register_named ps)
register-takes = by_name_lem Below register_named (λ w r e. register-limit w e)

with-register : (f : ℕ → Expr → Instr) → ((r : ℕ) (e : Expr) → r < registers → ExprFits e → Fitting (f r e)) → (ps : List Part)
    → Takes Fitting (with_register f ps)
unfolding with_register
with-register f fit ps =
    then Below Fitting (by_name register_named ps) (λ r qs. and_take (whole_operand qs) (λ e. took (f r e))) (register-takes ps)
    (λ r qs h. then ExprFits Fitting (whole_operand qs) (λ e. took (f r e)) (whole-fits qs) (λ e rs i. fit r e h i))

jump-takes : (ps : List Part) → Takes Fitting (jump ps)
unfolding jump
jump-takes ps =
    then ExprFits Fitting (whole_operand ps) (λ e. took (jmp e)) (whole-fits ps) (λ e qs f. record { fits = λ n i m b. f })

branch-takes : (ps : List Part) → Takes Fitting (branch ps)
unfolding branch
branch-takes ps =
    then Below Fitting (by_name register_named ps) (λ r qs. and_take (by_name constant_named qs) (λ l. took (beqz r l))) (register-takes ps)
    (λ r qs h. then (λ l. Unit) Fitting (by_name constant_named qs) (λ l. took (beqz r l)) (always (by_name constant_named qs))
    (λ l rs u. branch_fits r l h))

conditional-takes : (ps : List Part) → Takes Fitting (conditional ps)
unfolding conditional
conditional-takes ps =
    then Below Fitting (by_name register_named ps)
    (λ r qs. and_take (whole_operand qs) (λ c rs. and_take (whole_operand rs) (λ e. took (cassign r c e)))) (register-takes ps)
    (λ r qs h. then ExprFits Fitting (whole_operand qs) (λ c rs. and_take (whole_operand rs) (λ e. took (cassign r c e))) (whole-fits qs)
    (λ c rs f. then ExprFits Fitting (whole_operand rs) (λ e. took (cassign r c e)) (whole-fits rs)
    (λ e ss g. record { fits = λ n i m b. (h, f, g) })))

fields-take : (k : ℕ) (ps : List Part) → Takes Fitting (get_or fields k (λ qs. nothing) ps)
unfolding fields
fields-take zero ps = record { fits = λ n i m b. tt }
fields-take (suc zero) ps = with-register assign (λ r e h f. record { fits = λ n i m b. (h, f) }) ps
fields-take (suc (suc zero)) ps = with-register load (λ r e h f. record { fits = λ n i m b. (h, f) }) ps
fields-take (suc (suc (suc zero))) ps = with-register store (λ r e h f. record { fits = λ n i m b. (h, f) }) ps
fields-take (suc (suc (suc (suc zero)))) ps = jump-takes ps
fields-take (suc (suc (suc (suc (suc zero))))) ps = branch-takes ps
fields-take (suc (suc (suc (suc (suc (suc zero)))))) ps = conditional-takes ps
fields-take (suc (suc (suc (suc (suc (suc (suc zero))))))) ps = record { fits = λ n i m b. tt }
fields-take (suc (suc (suc (suc (suc (suc (suc (suc k)))))))) ps = tt

-- ---- lines
abbrev LineFits : Line → Type 0
LineFits blank = Unit
LineFits (holds x) = Fitting x
LineFits unreadable = Unit

whole-line : (m : Taken Instr) → Takes Fitting m → LineFits (whole_line m)
whole-line nothing h = tt
whole-line (took x []) h = h
whole-line (took x (p ∷ ps)) h = tt

line-fits : (ps : List Part) → LineFits (line_of ps)
unfolding line_of instr_named
line-fits [] = tt
line-fits (name w ∷ ps) = whole-line (instr_named w ps) (fields-take (place_among instruction_words w) ps)
line-fits (opening ∷ ps) = tt
line-fits (closing ∷ ps) = tt
line-fits (other b ∷ ps) = tt

-- the instructions of a text fit if 4 to 6 allow them in a program of at most 512
abbrev pub ProgramFits : Option (List Instr) → Type 0
ProgramFits none = Unit
ProgramFits (some xs) = (n i : ℕ) → n ≤ max_instructions → all_hold n i xs ≡ true → InstrsFit xs

joined-fits : (l : Line) (r : Option (List Instr)) → LineFits l → ProgramFits r → ProgramFits (joined_line l r)
unfolding all_hold
joined-fits blank r h f = f
joined-fits unreadable r h f = tt
joined-fits (holds x) none h f = tt
joined-fits (holds x) (some xs) h f = λ n i m a.
    let here = postfix x && branch_label_holds n i x in
    more (h.fits n i m (and_right (postfix x) (branch_label_holds n i x) (and_left here (all_hold n (i + 1) xs) a)))
    (f n (i + 1) m (and_right here (all_hold n (i + 1) xs) a))

pub lines_fit : (ls : List (List ℕ)) → ProgramFits (instructions_of ls)
unfolding instructions_of
lines_fit [] = λ n i m a. nil
lines_fit (l ∷ ls) = joined-fits (line_of (parts l)) (instructions_of ls) (line-fits (parts l)) (lines_fit ls)
