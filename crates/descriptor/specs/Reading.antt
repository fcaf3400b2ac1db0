-- The word of an instruction that can be read and keeps the postfix rule describes it; and what the shapes say.
-- Assumes nothing.
use Rattle.std.proofs.Math.Path.{◌≡◌, refl}
use Rattle.std.proofs.Common.{sym, ap, ◌∙◌, arith, ltb-true, ltb-false, eqb-true, ne_eqb}
use Rattle.std.specs.Prelude.{Bool, true, false, cond, List, [], ◌∷◌, eqb, ltb, length, get_or}
use Prim.Native.Nat.{ℕ, zero, suc, ◌+◌, ◌*◌, ◌/◌, ◌%◌, ◌<◌, ◌≤◌}
use Rattle.location.specs.Sets.{registers}
use Rattle.location.specs.SetLaws.{and_left}
use Rattle.rules.specs.Rules.Expressions.{reg, const, Expr, sound}
use Rattle.rules.specs.Rules.Instructions.{Instr, skip, assign, load, store, jmp, beqz, cassign, spbarr}
use Rattle.rules.specs.Rules.JobFile.{got, little, token, tokens, expr, with_register, jump, branch, conditional, fields, instr, postfix}
use Rattle.rules.specs.Theorems.Readers.{readable, next_offset, value_or, unread}
use Rattle.token.specs.Readable.{token-read, register-read, constant-read, operator-read, tokens-read, expr-read}
use Rattle.instruction.specs.Fields.{instr-kind, instr_unknown, instr-read, with_parts, jump-parts, branch-parts, conditional-parts}
use Rattle.instruction.specs.Registers.{RegistersBelow, instr-below}
use Rattle.descriptor.specs.declared.Descriptor.{Descriptor}
use Rattle.descriptor.specs.Descriptors.{shape_nothing, shape_register, shape_constant, shape_register_constant, shape_register_register}
use Rattle.descriptor.specs.Descriptors.{shape_jump_constant, shape_branch, one_shape, three_shape, expression_shape, jump_shape, nothing_read}
use Rattle.descriptor.specs.Descriptors.{kind_shapes, shape_at, first_by, first_at, named, extra_by, extra_at, count_at}
use Rattle.descriptor.specs.Descriptors.{offsets, shapes, firsts, word_at, descriptor_in, bare, instruction_by, instruction_in}
use Rattle.descriptor.specs.Descriptors.{operator_of, first_tokens, NoBranch, WithExpression, General, SecondAt, ShapeMeans, Valid}

-- ---- tokens by their bytes; q is the offset after the token
register-token : (p : List ℕ) (at q : ℕ) → q ≡ at + 1 → readable (token p at) ≡ true → get_or p at 0 < 16 → token p at ≡ got (reg (get_or p at 0)) q
register-token p at q e h l = rw e (register-read p at h l)

constant_token : (p : List ℕ) (at from q : ℕ) → from ≡ at + 1 → q ≡ at + 9 → readable (token p at) ≡ true → get_or p at 0 ≡ 16
    → (q ≤ length p) × (token p at ≡ got (const (little p from 8)) q)
constant_token p at from q ef eq h b =
    let k = constant-read p at h b in
    let l = k.0 in
    let z : at + 1 + 8 ≡ q = omega arith in
    (omega arith, rw ef (rw z at k.1))

operator-token : (p : List ℕ) (at : ℕ) → readable (token p at) ≡ true → 19 ≤ get_or p at 0
    → (at + 1 ≤ length p) × (token p at ≡ got (operator_of (get_or p at 0)) (at + 1))
operator-token p at h l = let n = (token-read p at h).0 in (omega arith, operator-read p at h l)

-- The tokens ts from an offset on, by their shape.
abbrev TokensMean : ℕ → List ℕ → ℕ → Expr → Type 0
TokensMean zero p at ts = ⊥
TokensMean (suc zero) p at ts = (get_or p at 0 < 16) × (ts ≡ reg (get_or p at 0) ∷ [])
TokensMean (suc (suc zero)) p at ts = (at + 9 ≤ length p) × (ts ≡ const (little p (at + 1) 8) ∷ [])
TokensMean (suc (suc (suc zero))) p at ts =
    (get_or p at 0 < 16) × (at + 11 ≤ length p) × (19 ≤ get_or p (at + 10) 0)
    × (ts ≡ reg (get_or p at 0) ∷ const (little p (at + 2) 8) ∷ operator_of (get_or p (at + 10) 0) ∷ [])
TokensMean (suc (suc (suc (suc zero)))) p at ts =
    (get_or p at 0 < 16) × (get_or p (at + 1) 0 < 16) × (at + 3 ≤ length p) × (19 ≤ get_or p (at + 2) 0)
    × (ts ≡ reg (get_or p at 0) ∷ reg (get_or p (at + 1) 0) ∷ operator_of (get_or p (at + 2) 0) ∷ [])
TokensMean (suc (suc (suc (suc (suc zero))))) p at ts = ⊥
TokensMean (suc (suc (suc (suc (suc (suc zero)))))) p at ts = ⊥
TokensMean (suc (suc (suc (suc (suc (suc (suc n))))))) p at ts = Unit

-- one token
one_means : (p : List ℕ) (at : ℕ) → readable (tokens 1 p at) ≡ true → TokensMean (one_shape (get_or p at 0)) p at (value_or [] (tokens 1 p at))
unfolding tokens
one_means p at h = go (ltb (get_or p at 0) 16) (eqb (get_or p at 0) 16) refl refl
  where
    first : readable (token p at) ≡ true
    first = (tokens-read 0 p at h).0

    go : (a b : Bool) → ltb (get_or p at 0) 16 ≡ a → eqb (get_or p at 0) 16 ≡ b → TokensMean (cond a 1 (cond b 2 7)) p at (value_or [] (tokens 1 p at))
    go true b ea eb = let l = ltb-true (get_or p at 0) 16 ea in (l, rw (register-token p at (at + 1) refl first l))
    go false true ea eb = let k = constant_token p at (at + 1) (at + 9) refl refl first (eqb-true (get_or p at 0) 16 eb) in (k.0, rw k.1)
    go false false ea eb = tt

-- three tokens
three_means : (p : List ℕ) (at : ℕ) → readable (tokens 3 p at) ≡ true → TokensMean (three_shape p at) p at (value_or [] (tokens 3 p at))
unfolding tokens
three_means p at h =
    go (ltb 15 (get_or p at 0)) (ltb (get_or p (at + 1) 0) 16) (ltb (get_or p (at + 2) 0) 19) (eqb (get_or p (at + 1) 0) 16) (ltb (get_or p (at + 10) 0) 19)
    refl refl refl refl refl
  where
    -- the first is a register: what is read after it
    second : get_or p at 0 < 16 → readable (tokens 2 p (at + 1)) ≡ true
    second l = (tokens-read 2 p at h).1 _ _ (sym (register-token p at (at + 1) refl (tokens-read 2 p at h).0 l))

    go : (a b c d e : Bool) → ltb 15 (get_or p at 0) ≡ a → ltb (get_or p (at + 1) 0) 16 ≡ b → ltb (get_or p (at + 2) 0) 19 ≡ c
        → eqb (get_or p (at + 1) 0) 16 ≡ d → ltb (get_or p (at + 10) 0) 19 ≡ e
        → TokensMean (cond a 7 (cond b (cond c 7 4) (cond d (cond e 7 3) 7))) p at (value_or [] (tokens 3 p at))
    go true b c d e ea eb ec ed ee = tt
    go false true true d e ea eb ec ed ee = tt
    go false true false d e ea eb ec ed ee =
        let l = ltb-false 15 (get_or p at 0) ea in
        let l₁ : get_or p at 0 < 16 = omega arith in
        let r₂ = second l₁ in
        let l₂ = ltb-true (get_or p (at + 1) 0) 16 eb in
        let t₂ = register-token p (at + 1) (at + 2) (omega arith) (tokens-read 1 p (at + 1) r₂).0 l₂ in
        let r₃ = (tokens-read 0 p (at + 2) ((tokens-read 1 p (at + 1) r₂).1 _ _ (sym t₂))).0 in
        let l₃ = ltb-false (get_or p (at + 2) 0) 19 ec in
        let k = operator-token p (at + 2) r₃ l₃ in
        let n = k.0 in
        (l₁, l₂, omega arith, l₃, rw (register-token p at (at + 1) refl (tokens-read 2 p at h).0 l₁, t₂, k.1))
    go false false c true true ea eb ec ed ee = tt
    go false false c true false ea eb ec ed ee =
        let l = ltb-false 15 (get_or p at 0) ea in
        let l₁ : get_or p at 0 < 16 = omega arith in
        let r₂ = second l₁ in
        let b₂ = eqb-true (get_or p (at + 1) 0) 16 ed in
        let t₂ = constant_token p (at + 1) (at + 2) (at + 10) (omega arith) (omega arith) (tokens-read 1 p (at + 1) r₂).0 b₂ in
        let r₃ = (tokens-read 0 p (at + 10) ((tokens-read 1 p (at + 1) r₂).1 _ _ (sym t₂.1))).0 in
        let l₃ = ltb-false (get_or p (at + 10) 0) 19 ee in
        let k = operator-token p (at + 10) r₃ l₃ in
        let n = k.0 in
        (l₁, omega arith, l₃, rw (register-token p at (at + 1) refl (tokens-read 2 p at h).0 l₁, t₂.1, k.1))
    go false false c false e ea eb ec ed ee = tt

-- an expression, by its token count
expression_means : (p : List ℕ) (q : ℕ) → readable (expr p q) ≡ true → TokensMean (expression_shape p q) p (q + 1) (value_or [] (expr p q))
expression_means p q h =
    let e = (expr-read p q h).1 in
    rw e (go (eqb (get_or p q 0) 1) (eqb (get_or p q 0) 3) refl refl (rw e at h))
  where
    go : (a b : Bool) → eqb (get_or p q 0) 1 ≡ a → eqb (get_or p q 0) 3 ≡ b → readable (tokens (get_or p q 0) p (q + 1)) ≡ true
        → TokensMean (cond a (one_shape (get_or p (q + 1) 0)) (cond b (three_shape p (q + 1)) 7)) p (q + 1) (value_or [] (tokens (get_or p q 0) p (q + 1)))
    go true b ea eb r = let k = eqb-true (get_or p q 0) 1 ea in rw k (one_means p (q + 1) (rw k at r))
    go false true ea eb r = let k = eqb-true (get_or p q 0) 3 eb in rw k (three_means p (q + 1) (rw k at r))
    go false false ea eb r = tt

-- ---- the shapes of instructions
-- What a word of shape s with the first register r and the label l of a branch says of the instruction x at an offset.
abbrev Meant : ℕ → List ℕ → ℕ → ℕ → ℕ → Instr → Type 0
Meant s p at r l x = (instruction_by s p at r l ≡ x) × ShapeMeans s p at r x

-- a shape that is neither of those that describe their instruction alone: the instruction stands in the bytes
stands_by : (s : ℕ) (p : List ℕ) (at r l : ℕ) → (s ≡ 0 → ⊥) → (s ≡ 6 → ⊥) → instruction_by s p at r l ≡ value_or skip (instr p at)
stands_by s p at r l a b = rw (ne_eqb s 0 a, ne_eqb s 6 b)

-- tokens that stand three bytes after the instruction's offset
of_tokens : (s : ℕ) (p : List ℕ) (at l : ℕ) (x : Instr) → value_or skip (instr p at) ≡ x → WithExpression p at → General p at x
    → TokensMean s p (at + 3) (first_tokens x) → Meant s p at (get_or p (at + 3) 0 % firsts) l x
of_tokens zero p at l x e t g m = absurd m
of_tokens (suc zero) p at l x e t g m =
    let k = m.0 in
    let z : get_or p (at + 3) 0 % firsts ≡ get_or p (at + 3) 0 = omega arith in
    (e, (t, rw z m.1, omega arith))
of_tokens (suc (suc zero)) p at l x e t g m =
    let k = m.0 in
    let z : at + 3 + 1 ≡ at + 4 = omega arith in
    (e, (t, rw (← z) m.1, omega arith))
of_tokens (suc (suc (suc zero))) p at l x e t g m =
    let k = m.0 in
    let n = m.1 in
    let z : get_or p (at + 3) 0 % firsts ≡ get_or p (at + 3) 0 = omega arith in
    let z₁ : at + 3 + 2 ≡ at + 5 = omega arith in
    let z₂ : at + 3 + 10 ≡ at + 13 = omega arith in
    (e, (t, rw (z, ← z₁, ← z₂) m.3, omega arith, omega arith, rw (← z₂) m.2))
of_tokens (suc (suc (suc (suc zero)))) p at l x e t g m =
    let k = m.0 in
    let n = m.2 in
    let z : get_or p (at + 3) 0 % firsts ≡ get_or p (at + 3) 0 = omega arith in
    let z₁ : at + 3 + 1 ≡ at + 4 = omega arith in
    let z₂ : at + 3 + 2 ≡ at + 5 = omega arith in
    (e, (t, rw (z, ← z₁, ← z₂) m.4, omega arith, rw (← z₁) m.1, omega arith, rw (← z₂) m.3))
of_tokens (suc (suc (suc (suc (suc zero))))) p at l x e t g m = absurd m
of_tokens (suc (suc (suc (suc (suc (suc zero)))))) p at l x e t g m = absurd m
of_tokens (suc (suc (suc (suc (suc (suc (suc s))))))) p at l x e t g m =
    let k = suc (suc (suc (suc (suc (suc (suc s)))))) in
    (stands_by k p at (get_or p (at + 3) 0 % firsts) l (λ z. omega arith) (λ z. omega arith) ∙ e, (t, g))

-- an expression whose token count stands two bytes after the instruction's offset
of_expression : (p : List ℕ) (at l : ℕ) (x : Instr) → count_at p at ≡ at + 2 → value_or skip (instr p at) ≡ x → WithExpression p at → General p at x
    → Meant (expression_shape p (at + 2)) p at (get_or p (at + 3) 0 % firsts) l x
of_expression p at l x n e t g =
    let z : at + 2 + 1 ≡ at + 3 = omega arith in
    let f = rw n at g.0 in
    of_tokens (expression_shape p (at + 2)) p at l x e t g (rw (← z, f) (expression_means p (at + 2) (rw n at g.1)))

-- a jump's expression, whose token count stands one byte after the instruction's offset
of_jump : (p : List ℕ) (at l : ℕ) (x : Instr) → get_or p at 0 ≡ 4 → count_at p at ≡ at + 1 → value_or skip (instr p at) ≡ x
    → WithExpression p at → General p at x
    → Meant (jump_shape p (at + 1)) p at (get_or p (at + 2) 0 % firsts) l x
of_jump p at l x kind n e t g =
    let h = rw n at g.1 in
    let c = (expr-read p (at + 1) h).1 in
    let z : at + 1 + 1 ≡ at + 2 = omega arith in
    rw z
    (go (eqb (get_or p (at + 1) 0) 1) (ltb (get_or p (at + 2) 0) 16) (eqb (get_or p (at + 2) 0) 16) refl refl refl (rw z at (rw c at h))
    (rw z at (rw c at (rw n at g.0))))
  where
    go : (a b c : Bool) → eqb (get_or p (at + 1) 0) 1 ≡ a → ltb (get_or p (at + 2) 0) 16 ≡ b → eqb (get_or p (at + 2) 0) 16 ≡ c
        → readable (tokens (get_or p (at + 1) 0) p (at + 2)) ≡ true → first_tokens x ≡ value_or [] (tokens (get_or p (at + 1) 0) p (at + 2))
        → Meant (cond a (cond b 1 (cond c 5 7)) 7) p at (get_or p (at + 2) 0 % firsts) l x
    go true true c ea eb ec h f =
        let k = eqb-true (get_or p (at + 1) 0) 1 ea in
        let b = ltb-true (get_or p (at + 2) 0) 16 eb in
        let m = rw eb at (one_means p (at + 2) (rw k at h)) in
        let z : get_or p (at + 2) 0 % firsts ≡ get_or p (at + 2) 0 = omega arith in
        (e, (t, rw z (rw k at f ∙ m.1), omega arith))
    go true false true ea eb ec h f =
        let k = eqb-true (get_or p (at + 1) 0) 1 ea in
        let b = eqb-true (get_or p (at + 2) 0) 16 ec in
        let m = rw (eb, ec) at (one_means p (at + 2) (rw k at h)) in
        let z : at + 2 + 1 ≡ at + 3 = omega arith in
        let n = m.0 in
        (e, (t, rw (← z) (rw k at f ∙ m.1), omega arith, kind))
    go true false false ea eb ec h f = (e, (t, g))
    go false b c ea eb ec h f = (e, (t, g))

-- the word of an instruction that can be read, by its kind byte
module _ (p : List ℕ) (at : ℕ) (h : readable (instr p at) ≡ true) where
  inside : at < length p
  inside = instr-read p at h

  -- of any x that is the instruction
  settle : (s r l : ℕ) (x : Instr) → value_or skip (instr p at) ≡ x → Meant s p at r l x → Meant s p at r l (value_or skip (instr p at))
  settle s r l x e m = (m.0 ∙ sym e, rw e m.1)

  standing : (k : ℕ) (x : Instr) → get_or p at 0 ≡ k → (k ≡ 0 → ⊥) → (k ≡ 5 → ⊥) → (k ≡ 7 → ⊥) → value_or skip (instr p at) ≡ x → NoBranch x
      → WithExpression p at
  standing k x e n₀ n₅ n₇ v n =
      record { read = h; kind = ((λ z. n₀ (sym e ∙ z)), (λ z. n₅ (sym e ∙ z)), λ z. n₇ (sym e ∙ z)); other = rw v n }

  of_register : (k l : ℕ) (f : ℕ → Expr → Instr)
      → ((r : ℕ) (e : Expr) → (first_tokens (f r e) ≡ e) × NoBranch (f r e) × (postfix (f r e) ≡ true → sound (first_tokens (f r e)) ≡ true))
      → get_or p at 0 ≡ k → (k ≡ 0 → ⊥) → (k ≡ 5 → ⊥) → (k ≡ 7 → ⊥) → count_at p at ≡ at + 2 → instr p at ≡ with_register f p (at + 1)
      → Meant (expression_shape p (at + 2)) p at (get_or p (at + 3) 0 % firsts) l (value_or skip (instr p at))
  of_register k l f facts e n₀ n₅ n₇ n i =
      let w = with_parts f p (at + 1) (rw i at h) in
      let z : at + 1 + 1 ≡ at + 2 = omega arith in
      let x = f (get_or p (at + 1) 0) (value_or [] (expr p (at + 1 + 1))) in
      let y = facts (get_or p (at + 1) 0) (value_or [] (expr p (at + 1 + 1))) in
      let v : value_or skip (instr p at) ≡ x = ap (value_or skip) i ∙ w.value in
      settle (expression_shape p (at + 2)) (get_or p (at + 3) 0 % firsts) l x v
      (of_expression p at l x n v (standing k x e n₀ n₅ n₇ v y.1) (rw (n, ← z) y.0, rw (n, ← z) w.expression, y.2))

  of_conditional : (l : ℕ) → get_or p at 0 ≡ 6 → count_at p at ≡ at + 2 → instr p at ≡ conditional p (at + 1)
      → Meant (expression_shape p (at + 2)) p at (get_or p (at + 3) 0 % firsts) l (value_or skip (instr p at))
  of_conditional l e n i =
      let w = conditional-parts p (at + 1) (rw i at h) in
      let z : at + 1 + 1 ≡ at + 2 = omega arith in
      let c = value_or [] (expr p (at + 1 + 1)) in
      let x = cassign (get_or p (at + 1) 0) c (value_or [] (expr p (next_offset (expr p (at + 1 + 1))))) in
      let v : value_or skip (instr p at) ≡ x = ap (value_or skip) i ∙ w.value in
      let t = standing 6 x e (λ z. omega arith) (λ z. omega arith) (λ z. omega arith) v (λ r l z. let y : ◌≡◌ {A = ℕ} 0 1 = cc in omega arith) in
      settle (expression_shape p (at + 2)) (get_or p (at + 3) 0 % firsts) l x v
      (of_expression p at l x n v t (rw (n, ← z), rw (n, ← z) w.condition, λ h. and_left _ _ h))

  of_jump_kind : (l : ℕ) → get_or p at 0 ≡ 4 → count_at p at ≡ at + 1 → instr p at ≡ jump p (at + 1)
      → Meant (jump_shape p (at + 1)) p at (get_or p (at + 2) 0 % firsts) l (value_or skip (instr p at))
  of_jump_kind l e n i =
      let j = jump-parts p (at + 1) (rw i at h) in
      let x = jmp (value_or [] (expr p (at + 1))) in
      let v : value_or skip (instr p at) ≡ x = ap (value_or skip) i ∙ j.1 in
      let t = standing 4 x e (λ z. omega arith) (λ z. omega arith) (λ z. omega arith) v (λ r l z. let y : ◌≡◌ {A = ℕ} 0 1 = cc in omega arith) in
      settle (jump_shape p (at + 1)) (get_or p (at + 2) 0 % firsts) l x v (of_jump p at l x e n v t (rw n, rw n j.0, λ h. h))

  of_branch : instr p at ≡ branch p (at + 1)
      → Meant 6 p at (get_or p (at + 1) 0 % firsts) (little p (at + 2) 2) (value_or skip (instr p at))
  of_branch i =
      let w = branch-parts p (at + 1) (rw i at h) in
      let b = w.below in
      let z₀ : at + 1 + 1 ≡ at + 2 = omega arith in
      let z₁ : get_or p (at + 1) 0 % firsts ≡ get_or p (at + 1) 0 = omega arith in
      (ap (λ (r : ℕ). beqz r (little p (at + 2) 2)) z₁ ∙ sym (ap (value_or skip) i ∙ rw z₀ at w.value), tt)

  by_kind : (k : ℕ) → get_or p at 0 ≡ k
      → Meant (get_or kind_shapes k nothing_read p at) p at (first_by k p at % firsts) (extra_by k p at) (value_or skip (instr p at))
  unfolding kind_shapes fields count_at
  by_kind zero e = (sym (ap (value_or skip) (instr-kind p at 0 inside e)), tt)
  by_kind (suc zero) e =
      of_register 1 _ assign (λ r x. (refl, (λ r l z. let y : ◌≡◌ {A = ℕ} 0 1 = cc in omega arith), λ h. h)) e (λ z. omega arith) (λ z. omega arith)
      (λ z. omega arith) (rw e) (instr-kind p at 1 inside e)
  by_kind (suc (suc zero)) e =
      of_register 2 _ load (λ r x. (refl, (λ r l z. let y : ◌≡◌ {A = ℕ} 0 1 = cc in omega arith), λ h. h)) e (λ z. omega arith) (λ z. omega arith)
      (λ z. omega arith) (rw e) (instr-kind p at 2 inside e)
  by_kind (suc (suc (suc zero))) e =
      of_register 3 _ store (λ r x. (refl, (λ r l z. let y : ◌≡◌ {A = ℕ} 0 1 = cc in omega arith), λ h. h)) e (λ z. omega arith) (λ z. omega arith)
      (λ z. omega arith) (rw e) (instr-kind p at 3 inside e)
  by_kind (suc (suc (suc (suc zero)))) e = of_jump_kind _ e (rw e) (instr-kind p at 4 inside e)
  by_kind (suc (suc (suc (suc (suc zero))))) e = of_branch (instr-kind p at 5 inside e)
  by_kind (suc (suc (suc (suc (suc (suc zero)))))) e = of_conditional _ e (rw e) (instr-kind p at 6 inside e)
  by_kind (suc (suc (suc (suc (suc (suc (suc zero))))))) e = (sym (ap (value_or skip) (instr-kind p at 7 inside e)), tt)
  by_kind (suc (suc (suc (suc (suc (suc (suc (suc k)))))))) e = unread (unfold readable in rw (instr_unknown p at inside (omega arith)) at h)

  word_meant : Meant (shape_at p at) p at (first_at p at % firsts) (extra_at p at) (value_or skip (instr p at))
  unfolding shape_at first_at extra_at
  word_meant = by_kind (get_or p at 0) refl

-- ---- words
cond_below : (b : Bool) (x y : ℕ) → x < 8 → y < 8 → cond b x y < shapes
cond_below true x y hx hy = hx
cond_below false x y hx hy = hy

one_below : (b : ℕ) → one_shape b < shapes
one_below b = cond_below (ltb b 16) 1 _ (omega arith) (cond_below (eqb b 16) 2 7 (omega arith) (omega arith))

three_below : (p : List ℕ) (at : ℕ) → three_shape p at < shapes
three_below p at =
    cond_below (ltb 15 (get_or p at 0)) 7 _ (omega arith)
    (cond_below (ltb (get_or p (at + 1) 0) 16) _ _ (cond_below (ltb (get_or p (at + 2) 0) 19) 7 4 (omega arith) (omega arith))
    (cond_below (eqb (get_or p (at + 1) 0) 16) _ 7 (cond_below (ltb (get_or p (at + 10) 0) 19) 7 3 (omega arith) (omega arith)) (omega arith)))

expression-below : (p : List ℕ) (q : ℕ) → expression_shape p q < shapes
expression-below p q =
    cond_below (eqb (get_or p q 0) 1) _ _ (one_below (get_or p (q + 1) 0)) (cond_below (eqb (get_or p q 0) 3) _ 7 (three_below p (q + 1)) (omega arith))

jump-below : (p : List ℕ) (q : ℕ) → jump_shape p q < shapes
jump-below p q =
    cond_below (eqb (get_or p q 0) 1) _ 7
    (cond_below (ltb (get_or p (q + 1) 0) 16) 1 _ (omega arith) (cond_below (eqb (get_or p (q + 1) 0) 16) 5 7 (omega arith) (omega arith)))
    (omega arith)

shape_below : (p : List ℕ) (at : ℕ) → shape_at p at < shapes
unfolding kind_shapes shape_at
shape_below p at = go (get_or p at 0)
  where
    go : (k : ℕ) → get_or kind_shapes k nothing_read p at < shapes
    go zero = omega arith
    go (suc zero) = expression-below p (at + 2)
    go (suc (suc zero)) = expression-below p (at + 2)
    go (suc (suc (suc zero))) = expression-below p (at + 2)
    go (suc (suc (suc (suc zero)))) = jump-below p (at + 1)
    go (suc (suc (suc (suc (suc zero))))) = omega arith
    go (suc (suc (suc (suc (suc (suc zero)))))) = expression-below p (at + 2)
    go (suc (suc (suc (suc (suc (suc (suc zero))))))) = omega arith
    go (suc (suc (suc (suc (suc (suc (suc (suc k)))))))) = omega arith

-- what is put into a word can be taken from it
taken : (at s f x : ℕ) → at < offsets → s < shapes → f < firsts
    → ((at + offsets * (s + shapes * (f + firsts * x))) % offsets ≡ at)
    × ((at + offsets * (s + shapes * (f + firsts * x))) / offsets % shapes ≡ s)
    × ((at + offsets * (s + shapes * (f + firsts * x))) / offsets / shapes % firsts ≡ f)
    × ((at + offsets * (s + shapes * (f + firsts * x))) / offsets / shapes / firsts ≡ x)
taken at s f x h k l = (omega arith, omega arith, omega arith, omega arith)

descriptor_taken : (p : List ℕ) (at : ℕ) → at < offsets
    → descriptor_in (word_at p at)
    ≡ record { at = at; shape = shape_at p at; first = first_at p at % firsts; extra = extra_at p at }
unfolding descriptor_in word_at
descriptor_taken p at h =
    let t = taken at (shape_at p at) (first_at p at % firsts) (extra_at p at) h (shape_below p at) (omega arith) in
    let e = t.0 in
    let s = t.1 in
    let f = t.2 in
    let x = t.3 in
    λ i. record { at = e i; shape = s i; first = f i; extra = x i }

-- a descriptor whose instruction is x
valid : (p : List ℕ) (d : Descriptor) (x : Instr) → instruction_in p d ≡ x → postfix x ≡ true → RegistersBelow registers x
    → ShapeMeans d.shape p d.at d.first x → SecondAt p d.at d.extra
    → (d.shape ≡ shape_jump_constant → d.extra ≡ named p (d.at + 3)) → Valid p d
valid p d x e s b m n t = record { sound = rw e s; below = rw e b; shaped = rw e m; second = λ a b. n; target = t }

-- the word says where the second expression of a conditional assignment stands
pub second_said : (p : List ℕ) (at : ℕ) → SecondAt p at (extra_at p at)
unfolding extra_at
second_said p at e = rw e

-- it says where a jump to a constant goes, which then stands in the bytes
pub jump_said : (p : List ℕ) (at : ℕ) → readable (instr p at) ≡ true → shape_at p at ≡ shape_jump_constant
    → (at + 11 ≤ length p) × (extra_at p at ≡ named p (at + 3))
unfolding shape_at kind_shapes extra_at
jump_said p at h e =
    let m = rw e at (word_meant p at h).1 in
    let j = rw m.3 at e in
    (m.2, rw (m.3, j))

-- the word of an instruction that can be read and keeps the postfix rule describes it
pub word-valid : (p : List ℕ) (at : ℕ) → readable (instr p at) ≡ true → postfix (value_or skip (instr p at)) ≡ true → at < offsets
    → (instruction_in p (descriptor_in (word_at p at)) ≡ value_or skip (instr p at)) × Valid p (descriptor_in (word_at p at))
unfolding instruction_in
word-valid p at h s l =
    let m = word_meant p at h in
    let d : Descriptor = record { at = at; shape = shape_at p at; first = first_at p at % firsts; extra = extra_at p at } in
    let x = value_or skip (instr p at) in
    rw (descriptor_taken p at l) (m.0, valid p d x m.0 s (instr-below p at) m.1 (second_said p at) (λ e. (jump_said p at h e).1))

-- ---- the shape of a branch and beqz go together
pub branch-shaped : {p : List ℕ} {d : Descriptor} → Valid p d → d.shape ≡ shape_branch → instruction_in p d ≡ beqz d.first d.extra
unfolding instruction_in
branch-shaped v e = rw e

bare-other : (b : Bool) → NoBranch (cond b skip spbarr)
bare-other true r l z = let y : ◌≡◌ {A = ℕ} 0 1 = cc in omega arith
bare-other false r l z = let y : ◌≡◌ {A = ℕ} 0 1 = cc in omega arith

other-by : (s : ℕ) (p : List ℕ) (at r l : ℕ) (x : Instr) → (s ≡ 6 → ⊥) → ShapeMeans s p at r x → NoBranch (instruction_by s p at r l)
other-by zero p at r l x n m = bare-other (eqb r 0)
other-by (suc zero) p at r l x n m = m.0.other
other-by (suc (suc zero)) p at r l x n m = m.0.other
other-by (suc (suc (suc zero))) p at r l x n m = m.0.other
other-by (suc (suc (suc (suc zero)))) p at r l x n m = m.0.other
other-by (suc (suc (suc (suc (suc zero))))) p at r l x n m = m.0.other
other-by (suc (suc (suc (suc (suc (suc zero)))))) p at r l x n m = absurd (n refl)
other-by (suc (suc (suc (suc (suc (suc (suc s))))))) p at r l x n m =
    rw (stands_by (suc (suc (suc (suc (suc (suc (suc s))))))) p at r l (λ z. omega arith) n) m.0.other

pub other-shaped : {p : List ℕ} {d : Descriptor} → Valid p d → (d.shape ≡ shape_branch → ⊥) → (r l : ℕ) → instruction_in p d ≡ beqz r l → ⊥
unfolding instruction_in
other-shaped {p} {d} v n = other-by d.shape p d.at d.first d.extra (instruction_in p d) n v.shaped

-- ---- the other shapes
-- a shape that is neither of those that describe their instruction alone
standing_by : (s : ℕ) (p : List ℕ) (at r : ℕ) (x : Instr) → (s ≡ 0 → ⊥) → (s ≡ 6 → ⊥) → ShapeMeans s p at r x → WithExpression p at
standing_by zero p at r x a b m = absurd (a refl)
standing_by (suc zero) p at r x a b m = m.0
standing_by (suc (suc zero)) p at r x a b m = m.0
standing_by (suc (suc (suc zero))) p at r x a b m = m.0
standing_by (suc (suc (suc (suc zero)))) p at r x a b m = m.0
standing_by (suc (suc (suc (suc (suc zero))))) p at r x a b m = m.0
standing_by (suc (suc (suc (suc (suc (suc zero)))))) p at r x a b m = absurd (b refl)
standing_by (suc (suc (suc (suc (suc (suc (suc s))))))) p at r x a b m = m.0

pub standing-shaped : {p : List ℕ} {d : Descriptor} → Valid p d → (d.shape ≡ shape_nothing → ⊥) → (d.shape ≡ shape_branch → ⊥)
    → WithExpression p d.at × (instruction_in p d ≡ value_or skip (instr p d.at))
unfolding instruction_in
standing-shaped {p} {d} v a b =
    (standing_by d.shape p d.at d.first (instruction_in p d) a b v.shaped, stands_by d.shape p d.at d.first d.extra a b)

-- what is read where the shape says that nothing is, or the register of a branch
bare-tokens : (b : Bool) → first_tokens (cond b skip spbarr) ≡ []
bare-tokens true = refl
bare-tokens false = refl

pub nothing-shaped : {p : List ℕ} {d : Descriptor} → Valid p d → d.shape ≡ shape_nothing
    → (instruction_in p d ≡ bare d.first) × (first_tokens (instruction_in p d) ≡ [])
unfolding instruction_in
nothing-shaped {p} {d} v e = (rw e, rw e (bare-tokens (eqb d.first 0)))

-- a shape that is none of 0 to 6
general_by : (s : ℕ) (p : List ℕ) (at r : ℕ) (x : Instr) → (s ≡ 0 → ⊥) → (s ≡ 1 → ⊥) → (s ≡ 2 → ⊥) → (s ≡ 3 → ⊥)
    → (s ≡ 4 → ⊥) → (s ≡ 5 → ⊥) → (s ≡ 6 → ⊥) → ShapeMeans s p at r x → General p at x
general_by zero p at r x a b c d e f g m = absurd (a refl)
general_by (suc zero) p at r x a b c d e f g m = absurd (b refl)
general_by (suc (suc zero)) p at r x a b c d e f g m = absurd (c refl)
general_by (suc (suc (suc zero))) p at r x a b c d e f g m = absurd (d refl)
general_by (suc (suc (suc (suc zero)))) p at r x a b c d e f g m = absurd (e refl)
general_by (suc (suc (suc (suc (suc zero))))) p at r x a b c d e f g m = absurd (f refl)
general_by (suc (suc (suc (suc (suc (suc zero)))))) p at r x a b c d e f g m = absurd (g refl)
general_by (suc (suc (suc (suc (suc (suc (suc s))))))) p at r x a b c d e f g m = m.1

pub general_shaped : {p : List ℕ} {d : Descriptor}
    → Valid p d → (d.shape ≡ shape_nothing → ⊥) → (d.shape ≡ shape_register → ⊥) → (d.shape ≡ shape_constant → ⊥)
    → (d.shape ≡ shape_register_constant → ⊥) → (d.shape ≡ shape_register_register → ⊥) → (d.shape ≡ shape_jump_constant → ⊥)
    → (d.shape ≡ shape_branch → ⊥) → General p d.at (instruction_in p d)
general_shaped {p} {d} v a b c e f g h = general_by d.shape p d.at d.first (instruction_in p d) a b c e f g h v.shaped

-- the token count of an expression stands after the kind byte, and before the end
count-after : (p : List ℕ) (at : ℕ) → at + 1 ≤ count_at p at
unfolding count_at
count-after p at = go (eqb (get_or p at 0) 4)
  where
    go : (b : Bool) → at + 1 ≤ cond b (at + 1) (at + 2)
    go true = omega arith
    go false = omega arith

pub count_room : (p : List ℕ) (at : ℕ) → readable (expr p (count_at p at)) ≡ true → at + 2 ≤ length p
count_room p at h = let l = (expr-read p (count_at p at) h).0 in let k = count-after p at in omega arith
