-- How what the callees give makes up what the rules say of an instruction.
-- Assumes nothing.
use mathlib.Core.Path.{◌≡◌, refl, sym, ap, ◌∙◌}
use mathlib.Core.Bool.{Bool, true, false, cond}
use mathlib.Core.List.{List, [], ◌∷◌}
use Prim.Native.Nat.{ℕ, ◌+◌, ◌-◌, ◌<◌, ◌≤◌}
use native.Mathlib.Omega.{arith}
use lib.Dec.{eqb, ltb}
use lib.ListN.{length, get_or}
use borrow.Author.Tests.{eq-eqb, eqb-true, ne_eqb, lt-ltb, le-ltb}
use Rattle.location.specs.declared.LocationSet.{LocationSet}
use Rattle.location.specs.Sets.{registers, empty, union}
use Rattle.location.specs.SetLaws.{and_right, union-empty, empty-union}
use Rattle.rules.specs.declared.Refusal.TheVariants as refusals
use Rattle.rules.specs.declared.Tagged.{Tagged}
use Rattle.rules.specs.Rules.Operators.{neg, Op2, add, apply2}
use Rattle.rules.specs.Rules.Expressions.{Token, reg, const, op1, op2, Expr, after, held, sound, tagged, pushed, eval_on, top, eval}
use Rattle.rules.specs.Rules.Expressions.{gathered, set_on, expr_set, SetFirst}
use Rattle.rules.specs.Rules.Instructions.{Instr}
use Rattle.rules.specs.Rules.JobFile.{Read, got, refused, and_then, return, refuse, little, unary, binary, constant, token_of, token, tokens, expr, postfix}
use Rattle.rules.specs.Rules.Outside.{recall, remember, overfull}
use Rattle.rules.specs.Rules.Plain.{State, put, with_outside, Code, joined, loaded_from, stored_to, store_overfull, chosen, at}
use Rattle.token.specs.declared.Expression.{Expression}
use Rattle.rules.specs.Theorems.Readers.{readable, value_or, unread}
use Rattle.rules.proofs.Theorems.SetsFirst.{tagged-equal}
use Rattle.token.specs.Meaning.{tokens_of}
use Rattle.token.specs.Readable.{token-read, constant-read}
use Rattle.descriptor.specs.Descriptors.{first_tokens, count_at, General}
use Rattle.instruction.specs.declared.Instruction.{Instruction}
use Rattle.instruction.specs.declared.Instruction.TheVariants.{AssignIf}
use Rattle.instruction.specs.Meaning.{meaning}
use Rattle.work.specs.Words.{tagged_at}
use Rattle.work.specs.Machines.{table_in, state_in}
use Rattle.work.proofs.States.{state-at}
use Rattle.evaluation.specs.States.{state-value}

-- the state in the words, with so many cells
abbrev state_of : List ℕ → ℕ → State
state_of w cells = state_in w (registers + cells)

-- ---- a conditional assignment: not taken, where register number l is r and holds t; and taken
pub chosen_old : (w : List ℕ) (r : ℕ) (c new : Tagged) {l : ℕ} {t x : Tagged} → c.value ≡ 0 → l ≡ r → t ≡ tagged_at w l
    → x ≡ joined t c.deps → x ≡ chosen c new (tagged_at w r)
unfolding chosen
chosen_old w r c new h el et ex = rw (eq-eqb _ _ h) (ex ∙ ap (λ (y : Tagged). joined y c.deps) (et ∙ ap (tagged_at w) el))

pub chosen-new : (c old : Tagged) {t v x : Tagged} → (c.value ≡ 0 → ⊥) → t ≡ v → x ≡ joined t c.deps → x ≡ chosen c v old
unfolding chosen
chosen-new c old h et ex = rw (ne_eqb _ _ h) (ex ∙ ap (λ (y : Tagged). joined y c.deps) et)

-- ---- a register and an expression in the state
pub register-at : (w : List ℕ) (cells : ℕ) {r l : ℕ} {t : Tagged} → r < registers → l ≡ r → t ≡ tagged_at w l → t ≡ at (state_of w cells) r
register-at w cells {r} h el et = et ∙ ap (tagged_at w) el ∙ sym (state-at w (registers + cells) r (omega arith))

pub value_in : (p w : List ℕ) (cells : ℕ) (e : Expression) {v : Tagged} → v ≡ eval (tagged_at w) (tokens_of p e)
    → v ≡ eval (at (state_of w cells)) (tokens_of p e)
value_in p w cells e ev = ev ∙ sym (state-value w cells p e)

-- ---- the address a: n is the number of the address, l that of the cell's location
module _ (w : List ℕ) (cells : ℕ) (a : Tagged) (code : Code) (ec : code.cells ≡ cells) where
  pub load_inside : {n l : ℕ} {t x : Tagged} → a.value < cells → n ≡ a.value → l ≡ registers + n → t ≡ tagged_at w l
      → x ≡ joined t a.deps → x ≡ loaded_from code (state_of w cells) a
  unfolding loaded_from
  load_inside {n} {l} h en el et ex =
      let m : l ≡ registers + a.value = omega arith in
      let f = state-at w (registers + cells) (registers + a.value) (omega arith) in
      rw (ec, lt-ltb _ _ h) (ex ∙ ap (λ (y : Tagged). joined y a.deps) (et ∙ ap (tagged_at w) m ∙ sym f))

  -- where t is what is remembered there
  pub load-outside : {n : ℕ} {t x : Tagged} → cells ≤ a.value → n ≡ a.value → t ≡ recall (tagged 0 empty) (table_in w) n
      → x ≡ joined t a.deps → x ≡ loaded_from code (state_of w cells) a
  unfolding loaded_from
  load-outside h en et ex =
      rw (ec, le-ltb _ _ h) (ex ∙ ap (λ (y : Tagged). joined y a.deps) (et ∙ ap (recall (tagged 0 empty) (table_in w)) en))

  -- register number k is r, and holds t
  pub store-inside : (r : ℕ) {n l k : ℕ} {t v : Tagged} → a.value < cells → r < registers → n ≡ a.value → l ≡ registers + n → k ≡ r
      → t ≡ tagged_at w k → v ≡ joined t a.deps
      → put (state_of w cells) l v ≡ stored_to code (state_of w cells) a (at (state_of w cells) r)
  unfolding stored_to
  store-inside r {n} {l} {k} {t} {v} h hr en el ek et ev =
      let m : l ≡ registers + a.value = omega arith in
      let f = register-at w cells hr ek et in
      rw (ec, lt-ltb _ _ h) (λ j. put (state_of w cells) (m j) ((ev ∙ ap (λ (y : Tagged). joined y a.deps) f) j))

  pub store-outside : (r : ℕ) {n k : ℕ} {t v : Tagged} → cells ≤ a.value → r < registers → n ≡ a.value → k ≡ r → t ≡ tagged_at w k
      → v ≡ joined t a.deps
      → with_outside (state_of w cells) (remember (table_in w) n v) ≡ stored_to code (state_of w cells) a (at (state_of w cells) r)
  unfolding stored_to
  store-outside r {n} {k} {t} {v} h hr en ek et ev =
      let f = register-at w cells hr ek et in
      rw (ec, le-ltb _ _ h)
      (λ j. with_outside (state_of w cells) (remember (table_in w) (en j) ((ev ∙ ap (λ (y : Tagged). joined y a.deps) f) j)))

  -- whether it needs one address too many
  pub inside-fits : a.value < cells → store_overfull code (state_of w cells) a ≡ false
  unfolding store_overfull
  inside-fits h = rw (ec, lt-ltb _ _ h)

  pub outside-fits : {n : ℕ} → cells ≤ a.value → n ≡ a.value → store_overfull code (state_of w cells) a ≡ overfull (table_in w) n
  unfolding store_overfull
  outside-fits h en = rw (ec, le-ltb _ _ h) (ap (overfull (table_in w)) (sym en))

-- the second expression of a conditional assignment
pub second-sound : (p : List ℕ) {i : Instruction} {r : ℕ} {c e : Expression} → i ≡ AssignIf r c e → postfix (meaning p i) ≡ true
    → sound (tokens_of p e) ≡ true
second-sound p {c = c} {e = e} ei h = and_right (sound (tokens_of p c)) (sound (tokens_of p e)) (rw ei at h)

-- ---- the values of short expressions, of the registers' words f
pub value-nothing : (f : ℕ → Tagged) {ts : Expr} {v : Tagged} → ts ≡ [] → v ≡ tagged 0 empty → v ≡ eval f ts
unfolding eval eval_on top
value-nothing f et ev = rw et ev

pub register-value : (f : ℕ → Tagged) (r : ℕ) → eval f (reg r ∷ []) ≡ f r
unfolding eval eval_on top pushed
register-value f r = refl

pub value-register : (f : ℕ → Tagged) {r l : ℕ} {ts : Expr} {v : Tagged} → ts ≡ reg r ∷ [] → l ≡ r → v ≡ f l → v ≡ eval f ts
value-register f {r} et el ev = ev ∙ ap f el ∙ sym (register-value f r) ∙ ap (eval f) (sym et)

pub value-constant : (f : ℕ → Tagged) {c : ℕ} {ts : Expr} {v : Tagged} → ts ≡ const c ∷ [] → v ≡ tagged c empty → v ≡ eval f ts
unfolding eval eval_on top pushed
value-constant f et ev = rw et ev

-- The operands x and y under the operator with place i in the rules' table make z, beside the set t; l and k are the registers' locations.
pub value_with_constant : (f : ℕ → Tagged) {r c j i l x y z : ℕ} {ts : Expr} {t : LocationSet} → length (f r).deps.words ≡ 4
    → ts ≡ reg r ∷ const c ∷ op2 (get_or binary j add) ∷ [] → i ≡ j → l ≡ r → t ≡ (f l).deps → x ≡ (f l).value → y ≡ c
    → z ≡ apply2 (get_or binary i add) x y → tagged z t ≡ eval f ts
unfolding eval eval_on top pushed
value_with_constant f {r} {c} {j} four et ei el ep ex ey ez =
    rw et
    (tagged-equal (rw (ei, ex, el, ey) at ez) ((rw el at ep) ∙ sym (union-empty (f r).deps four)))

-- the set of two registers is gathered from theirs
pub two-gathered : (sets : ℕ → LocationSet) {r q l k : ℕ} {ts : Expr} {a b t : LocationSet} (o : Op2) → length (sets r).words ≡ 4
    → ts ≡ reg r ∷ reg q ∷ op2 o ∷ [] → l ≡ r → a ≡ sets l → k ≡ q → b ≡ sets k → t ≡ union a b → t ≡ expr_set sets ts
unfolding expr_set set_on gathered
two-gathered sets {r} {q} o four et el ea ek eb ep =
    rw et ((rw (ea, el, eb, ek) at ep) ∙ ap (λ (s : LocationSet). union s (sets q)) (sym (empty-union (sets r) four)))

pub value_with_register : (f : ℕ → Tagged) {r q j i l k x y z : ℕ} {ts : Expr} {t : LocationSet} → ts ≡ reg r ∷ reg q ∷ op2 (get_or binary j add) ∷ []
    → SetFirst (λ n. (f n).deps) ts t → i ≡ j → l ≡ r → x ≡ (f l).value → k ≡ q → y ≡ (f k).value → z ≡ apply2 (get_or binary i add) x y
    → tagged z t ≡ eval f ts
unfolding sound held after eval eval_on top pushed
value_with_register f {r} {q} {j} et ep ei el ex ek ey ez =
    let whole : sound (reg r ∷ reg q ∷ op2 (get_or binary j add) ∷ []) ≡ true = refl in
    rw et
    (tagged-equal (rw (ei, ex, el, ey, ek) at ez) ((rw et at ep).whatever whole (λ n. (f n).value)))

-- ---- an expression of one token that keeps the postfix rule
-- the tokens of what was read as one
abbrev one_of : Read Token → Expr
one_of R = value_or [] (and_then R (λ t q. got (t ∷ []) q))

one-readable : (R : Read Token) → sound (one_of R) ≡ true → readable R ≡ true
unfolding sound held readable
one-readable (got t q) h = refl
one-readable (refused r) h = unread h

-- a byte that stands for an operator, or for nothing
no_operator : (k : ℕ) (p : List ℕ) (at : ℕ) → 16 ≤ k → sound (one_of (token_of k p at)) ≡ true → k ≡ 16
unfolding token_of sound held after
no_operator k p at l h = go (eqb k 16) refl (ltb k 19) (ltb k 29) (rw (le-ltb k 16 l) at h)
  where
    go : (a : Bool) → eqb k 16 ≡ a → (b c : Bool)
        → sound
        (one_of
        (cond a constant
        (cond b (return (op1 (get_or unary (k - 17) neg))) (cond c (return (op2 (get_or binary (k - 19) add))) (refuse refusals.Encoding))) p at)) ≡ true
        → k ≡ 16
    go true e b c h = eqb-true k 16 e
    go false e true c h = unread h
    go false e false true h = unread h
    go false e false false h = unread h

module _ (p : List ℕ) (e : Expression) (n : e.count ≡ 1) (h : sound (tokens_of p e) ≡ true) where
  one-tokens : tokens_of p e ≡ one_of (token p e.at)
  unfolding tokens_of tokens
  one-tokens = rw n

  one-sound : sound (one_of (token p e.at)) ≡ true
  one-sound = rw one-tokens at h

  pub one-read : (e.at < length p) × (token p e.at ≡ token_of (get_or p e.at 0) p (e.at + 1))
  one-read = token-read p e.at (one-readable (token p e.at) one-sound)

  pub one-register : get_or p e.at 0 < registers → tokens_of p e ≡ reg (get_or p e.at 0) ∷ []
  unfolding token_of
  one-register l = one-tokens ∙ rw (one-read.1, lt-ltb _ _ l)

  pub one-constant : registers ≤ get_or p e.at 0
      → (e.at + 1 + 8 ≤ length p) × (tokens_of p e ≡ const (little p (e.at + 1) 8) ∷ [])
  one-constant l =
      let z = no_operator (get_or p e.at 0) p (e.at + 1) l (rw one-read.1 at one-sound) in
      let r = constant-read p e.at (one-readable (token p e.at) one-sound) z in
      (r.0, one-tokens ∙ ap one_of r.1)

-- ---- the expression e that was read at the token count of an instruction x
pub general_tokens : (p : List ℕ) (at : ℕ) (x : Instr) (e : Expression) → tokens e.count p e.at ≡ expr p (count_at p at) → General p at x
    → tokens_of p e ≡ first_tokens x
unfolding tokens_of
general_tokens p at x e r g = ap (value_or []) r ∙ sym g.0
