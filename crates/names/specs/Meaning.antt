-- What the answers of this crate's code mean in the rules: a number, and the bytes of registers, signs and operators.
-- Assumes nothing.
use Rattle.std.specs.Prelude.{◌&&◌, cond, List, [], ◌∷◌, ℕ, ◌^◌, ltb}
use Rattle.std.specs.Prelude as code
use Rattle.std.proofs.Math.Option.{Option, none, some}
use Rattle.rules.specs.Rules.Operators.{Op1, Op2}
use Rattle.rules.specs.declared.Kind.{Kind}
use Rattle.rules.specs.Rules.Instructions.{kind_number}
use Rattle.rules.specs.Rules.Encoding.{op1_byte, op2_byte}
use Rattle.rules.specs.Rules.TextReading.{digits_only, value_after}

-- the code's option of what the rules have, if they have something
abbrev pub given : {A B : Type 0} → (A → B) → Option A → code.Option B
given f (some x) = code.Some (f x)
given f none = code.None

abbrev pub number_of : Option ℕ → code.Option ℕ
number_of = given (λ x. x)

-- the value of digits after digits with value x, if there are only digits and it is below 2^64
unfoldable pub digits_number : ℕ → List ℕ → code.Option ℕ
digits_number x ds = cond (digits_only ds && ltb (value_after x ds) (2 ^ 64)) (code.Some (value_after x ds)) code.None

abbrev pub register_byte : Option ℕ → code.Option ℕ
register_byte = given (λ r. r)

abbrev pub sign_byte : Option Op1 → code.Option ℕ
sign_byte = given op1_byte

abbrev pub operator_byte : Option Op2 → code.Option ℕ
operator_byte = given op2_byte

-- the place of a kind's word among the words of all kinds; their number where there is no kind
abbrev pub kind_place : code.Option Kind → ℕ
kind_place (code.Some k) = kind_number k
kind_place code.None = 8
