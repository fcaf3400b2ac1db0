-- The readers of operands and of expressions, case by case: what a call of one brings to the other.
-- Assumes nothing.
use mathlib.Core.Path.{◌≡◌, refl, sym, ap, subst, ◌∙◌}
use mathlib.Core.List.{List, [], ◌∷◌}
use mathlib.Core.Option as rules
use mathlib.Core.Option.{some, none}
use Prim.{⊥}
use Prim.Native.Nat.{ℕ, zero, suc, ◌-◌, ◌<◌}
use native.Mathlib.Omega.{arith}
use lib.ListN.{drop}
use Rattle.std.proofs.Common.{Option, Some, None}
use Rattle.rules.specs.Rules.Operators.{Op1}
use Rattle.rules.specs.Rules.Expressions.{Expr}
use Rattle.rules.specs.Rules.Encoding.{op1_byte}
use Rattle.rules.specs.Rules.Parts as texts
use Rattle.rules.specs.Rules.Parts.{parts, segment}
use Rattle.rules.specs.Rules.TextReading.{sign_named, simple_named, Taken, nothing, taken, signed, expression, operand_by, operand}
use Rattle.lexer.specs.declared.Part.{Part}
use Rattle.lexer.specs.declared.Part.TheVariants.{End, Name, Opening, Closing, Other}
use Rattle.lexer.specs.Places.{PartTold}
use Rattle.names.specs.Meaning.{sign_byte}
use Rattle.names.proofs.Given.{given-some, given-none}
use Rattle.operand.specs.declared.Progress.{Progress}
use Rattle.operand.specs.declared.OperatorAt.{OperatorAt}
use Rattle.operand.specs.Operands.{NameAt, moved, Advanced, TokenPut, Brought, Unread, OperandTold, OperatorRead, ClosedTold}
use Rattle.operand.proofs.Laws.{tokens-moved, nothing-unread, sign-unread, sign-many, sign_read, second-unread}
use Rattle.operand.proofs.Laws.{not_closed, expression-took, bracket_tokens}

-- ---- a reading is told of what the rules' reading is
told-by : (text : List ℕ) (p : Progress) (a b : List ℕ) (x : Option Progress) {R S : Taken Expr} → R ≡ S → OperandTold text S p a b x
    → OperandTold text R p a b x
told-by text p a b x {R} {S} e h = subst (λ (T : Taken Expr). OperandTold text T p a b x) (sym e) h

pub refused : (text : List ℕ) (R : Taken Expr) (p : Progress) (a b : List ℕ) {x : Option Progress} → x ≡ None → Unread R p.count
    → OperandTold text R p a b x
refused text R p a b e u = subst (OperandTold text R p a b) (sym e) u

-- ---- levels
levels_none : (l : ℕ) (ps : List texts.Part) → l ≡ 0 → operand l ps ≡ nothing
unfolding operand
levels_none zero ps e = refl
levels_none (suc k) ps e = absurd (omega arith)

levels_more : (l : ℕ) (ps : List texts.Part) → (l ≡ 0 → ⊥) → operand l ps ≡ operand_by (operand (l - 1)) ps
unfolding operand
levels_more zero ps h = absurd (h refl)
levels_more (suc k) ps h = let e : suc k - 1 ≡ k = omega arith in ap (λ (j : ℕ). operand_by (operand j) ps) (sym e)

pub levels_unread : (text : List ℕ) (p : Progress) (l : ℕ) → l ≡ 0 → Unread (operand l (parts (drop p.at text))) p.count
levels_unread text p l e = nothing-unread p.count (levels_none l (parts (drop p.at text)) e)

-- ---- an operand by its first part
module _ (text : List ℕ) (p : Progress) (l : ℕ) (more : l ≡ 0 → ⊥) where
  first : {ps : List texts.Part} → parts (drop p.at text) ≡ ps → operand l (parts (drop p.at text)) ≡ operand_by (operand (l - 1)) ps
  first {ps} e = ap (operand l) e ∙ levels_more l ps more

  -- neither a name nor an opening bracket stands first
  pub other-unread : (r : Part) → PartTold text p.at r → ((s f : ℕ) → r ≡ Name s f → ⊥) → ((q : ℕ) → r ≡ Opening q → ⊥)
      → Unread (operand l (parts (drop p.at text))) p.count
  other-unread End h no_name no_opening = nothing-unread p.count (first h)
  other-unread (Name s f) h no_name no_opening = absurd (no_name s f refl)
  other-unread (Opening q) h no_name no_opening = absurd (no_opening q refl)
  other-unread (Closing q) h no_name no_opening = nothing-unread p.count (first h.2)
  other-unread Other h no_name no_opening = nothing-unread p.count (first h.found)

  pub opening-told : {next : ℕ} → PartTold text p.at (Opening next) → (a b : List ℕ) (x : Option Progress)
      → OperandTold text (expression (operand (l - 1)) (parts (drop next text))) (moved p next) a b x
      → OperandTold text (operand l (parts (drop p.at text))) p a b x
  opening-told {next} told a b x t = told-by text p a b x (first told.2) (go x t told.0)
    where
      go : (x : Option Progress) → OperandTold text (expression (operand (l - 1)) (parts (drop next text))) (moved p next) a b x → p.at < next
          → OperandTold text (expression (operand (l - 1)) (parts (drop next text))) p a b x
      go (Some q) t on = record {
        expr = t.expr;
        read = t.read;
        tokens = tokens-moved t.tokens;
        on = omega (arith, t.on);
        within = t.within;
      }
      go None t on = t

  module _ {s f : ℕ} (told : PartTold text p.at (Name s f)) where
    pub name-place : NameAt text p.at s f
    name-place = record { after = told.0; long = told.1; within = told.2 }

    -- a name that is no sign, and one that is
    abbrev by_name : rules.Option Op1 → Taken Expr
    by_name o =
        elim o [
          | some o' ↦ signed (operand (l - 1)) o' (parts (drop f text))
          | none ↦ taken (simple_named (segment text s f)) (parts (drop f text))
        ]

    by_name_lem : operand l (parts (drop p.at text)) ≡ by_name (sign_named (segment text s f))
    by_name_lem = first told.3

    pub simple_told : None ≡ sign_byte (sign_named (segment text s f)) → (a b : List ℕ) (x : Option Progress)
        → OperandTold text (taken (simple_named (segment text s f)) (parts (drop f text))) p a b x
        → OperandTold text (operand l (parts (drop p.at text))) p a b x
    simple_told e a b x t = told-by text p a b x (by_name_lem ∙ ap by_name (given-none op1_byte (sign_named (segment text s f)) e)) t

    module _ {byte : ℕ} (sign : Some byte ≡ sign_byte (sign_named (segment text s f))) where
      by_sign : operand l (parts (drop p.at text)) ≡ signed (operand (l - 1)) (given-some op1_byte (sign_named (segment text s f)) sign).value (parts (drop f text))
      by_sign = by_name_lem ∙ ap by_name (given-some op1_byte (sign_named (segment text s f)) sign).named

      pub sign-refused : Unread (operand (l - 1) (parts (drop f text))) p.count → Unread (operand l (parts (drop p.at text))) p.count
      sign-refused u =
          let i = given-some op1_byte (sign_named (segment text s f)) sign in
          subst (λ (R : Taken Expr). Unread R p.count) (sym by_sign) (sign-unread (operand (l - 1)) i.value (parts (drop f text)) u)

      pub sign-told : (a d : List ℕ) {x : Progress} → Brought text (operand (l - 1) (parts (drop f text))) (moved p f) a d x
          → (v : List ℕ) (z : Option Progress) → TokenPut x x.at (byte ∷ []) 1 d v z
          → OperandTold text (operand l (parts (drop p.at text))) p a v z
      sign-told a d {x} u v z k =
          let i = given-some op1_byte (sign_named (segment text s f)) sign in
          told-by text p a v z by_sign (go i.value i.is z k)
        where
          go : (o : Op1) → byte ≡ op1_byte o → (z : Option Progress) → TokenPut x x.at (byte ∷ []) 1 d v z
              → OperandTold text (signed (operand (l - 1)) o (parts (drop f text))) p a v z
          go o e (Some q) k =
              sign_read (operand (l - 1)) o (parts (drop f text)) text p f u (omega (arith, told.0, told.1))
              (subst (λ (c : ℕ). TokenPut x x.at (c ∷ []) 1 d v (Some q)) e k)
          go o e None k = sign-many (operand (l - 1)) o (parts (drop f text)) text p f u k

-- ---- two operands round an operator
module _ (text : List ℕ) (p : Progress) (l : ℕ) (a b : List ℕ) {q : Progress} (left : Brought text (operand l (parts (drop p.at text))) p a b q)
    {o : OperatorAt} (operator : OperatorRead text q.at o) where
  pub second-refused : Unread (operand l (parts (drop o.next text))) q.count → Unread (expression (operand l) (parts (drop p.at text))) p.count
  second-refused u = second-unread (operand l) (parts (drop p.at text)) left.read operator.read p.count q.count left.tokens.count u

  pub bracket_told : (d : List ℕ) {s : Progress} → Brought text (operand l (parts (drop o.next text))) (moved q o.next) b d s
      → (v : List ℕ) (z : Option Progress) → ClosedTold text s o.byte d v z
      → OperandTold text (expression (operand l) (parts (drop p.at text))) p a v z
  bracket_told d {s} right v (Some t) c = record {
    expr = _;
    read = expression-took (operand l) (parts (drop p.at text)) left.read operator.read right.read c.closes;
    tokens = bracket_tokens left.expr right.expr operator.operator left.tokens right.tokens
        (subst (λ (e : ℕ). Advanced s t.at (e ∷ []) 2 d v t) operator.byte c.token);
    on = omega (arith, left.on, operator.on, right.on, c.on);
    within = c.within;
  }
  bracket_told d {s} right v None c =
      not_closed (operand l) (parts (drop p.at text)) left.read operator.read right.read p.count s.count
      (omega (arith, left.tokens.count, right.tokens.count)) c.many
