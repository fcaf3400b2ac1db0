-- `put_operand` meets its contract, by the last token. Assumes nothing.
use Rattle.std.proofs.Common.{◌≡◌, ℕ, List, suc, ◌-◌, ap, arith, length}
use Rattle.byte_writer.specs.Writers.{writes-append}
use Rattle.text_printer.specs.Operands.{Operand}
use Rattle.text_printer.proofs.Operands.{operand-some, last-readable, register-last, constant-last, sign-last, sign-room, signed-operand}
use Rattle.text_printer.proofs.Operands.{binary-last, binary-room, left-operand, right_operand}
use Rattle.text_printer.proofs.+put_operand.Goals as goal

-- some token stands last
last_of : {p offsets below : List ℕ} {k at : ℕ} → Operand p offsets below k at → k ≡ suc (k - 1)
last_of o = omega (arith, operand-some o)

pub overflow_sub-last : goal.overflow_sub-last
overflow_sub-last t c = omega (arith, last_of c.requires)

pub bounds-offsets-last : goal.bounds-offsets-last
bounds-offsets-last t c = omega (arith, last_of c.requires, c.requires.many)

pub token_at-requires : goal.token_at-requires
token_at-requires t c = last-readable (last_of c.requires) c.requires

-- ---- a register, a constant
pub put_register-requires : goal.put_register-requires
put_register-requires t c =
    let told = rw c.in-Register.is at c.token_at.ensures in
    omega (arith, c.requires.room, ap length (register-last (last_of c.requires) c.requires _ told))

pub put_decimal-requires : goal.put_decimal-requires
put_decimal-requires t c =
    let told = rw c.in-Constant.is at c.token_at.ensures in
    omega (arith, c.requires.room, ap length (constant-last (last_of c.requires) c.requires _ told))

-- ---- a sign
pub put_text-requires : goal.put_text-requires
put_text-requires t c =
    let told = rw c.in-Unary.is at c.token_at.ensures in
    omega (arith, ap length c.sign_text.ensures, sign-room (last_of c.requires) c.requires _ told)

pub put_operand-requires : goal.put_operand-requires
put_operand-requires t c = (
  omega (arith, last_of c.requires),
  signed-operand (last_of c.requires) c.requires _ (rw c.in-Unary.is at c.token_at.ensures) _
      (omega (arith, ap length c.sign_text.ensures, c.put_text.ensures.put.place)),
)

-- ---- an operator
pub put_byte-requires : goal.put_byte-requires
put_byte-requires t c =
    omega (arith, binary-room (last_of c.requires) c.requires _ (rw c.in-Binary.is at c.token_at.ensures))

pub put_operand-requires-in-Binary : goal.put_operand-requires-in-Binary
put_operand-requires-in-Binary t c = (
  omega (arith, last_of c.requires, c.requires.indexed.first (c.args.k - 1) (omega arith)),
  left-operand (last_of c.requires) c.requires _ (rw c.in-Binary.is at c.token_at.ensures) _ c.put_byte.ensures.put.place,
)

pub put_text-requires-in-Binary : goal.put_text-requires-in-Binary
put_text-requires-in-Binary t c =
    let told = rw c.in-Binary.is at c.token_at.ensures in
    omega (arith, ap length c.operator_text.ensures, binary-room (last_of c.requires) c.requires _ told)

pub put_operand-requires-in-Binary-2 : goal.put_operand-requires-in-Binary-2
put_operand-requires-in-Binary-2 t c = (
  omega (arith, last_of c.requires),
  right_operand (last_of c.requires) c.requires _ (rw c.in-Binary.is at c.token_at.ensures) _
      (omega (arith, ap length c.operator_text.ensures)),
)

pub put_byte-requires-in-Binary : goal.put_byte-requires-in-Binary
put_byte-requires-in-Binary t c =
    let told = rw c.in-Binary.is at c.token_at.ensures in
    omega (arith, ap length c.operator_text.ensures, binary-room (last_of c.requires) c.requires _ told)

-- ---- what is returned
pub returns-in-Register : goal.returns-in-Register
returns-in-Register t c =
    let told = rw c.in-Register.is at c.token_at.ensures in
    rw (register-last (last_of c.requires) c.requires _ told) c.put_register.ensures

pub returns-in-Constant : goal.returns-in-Constant
returns-in-Constant t c =
    let told = rw c.in-Constant.is at c.token_at.ensures in
    rw (constant-last (last_of c.requires) c.requires _ told) c.put_decimal.ensures

pub returns-in-Unary : goal.returns-in-Unary
returns-in-Unary t c =
    let told = rw c.in-Unary.is at c.token_at.ensures in
    rw (sign-last (last_of c.requires) c.requires _ told) (writes-append (rw c.sign_text.ensures at c.put_text.ensures) c.put_operand.ensures)

pub returns-in-Binary : goal.returns-in-Binary
returns-in-Binary t c =
    let told = rw c.in-Binary.is at c.token_at.ensures in
    rw (binary-last (last_of c.requires) c.requires _ told)
    (writes-append c.put_byte.ensures (writes-append c.put_operand-in-Binary.ensures
    (writes-append (rw c.operator_text.ensures at c.put_text-in-Binary.ensures) (writes-append c.put_operand-in-Binary-2.ensures c.put_byte-in-Binary.ensures))))
