-- `value` meets its contract. Assumes nothing.
use Rattle.std.proofs.Common.{◌≡◌, ◌∙◌, sym, ap, arith, ℕ, ◌+◌, ◌-◌, ◌*◌, get_or, drop}
use Rattle.names.specs.Meaning.{digits_number}
use Rattle.names.proofs.Numbers.{number-other, number_large, number-next, number_done}
use Rattle.names.proofs.value.Goals as goal

pub returns-then-not-is_ascii_digit : goal.returns-then-not-is_ascii_digit
returns-then-not-is_ascii_digit c =
    let v = c.loop-byte in
    number-other c.args.name.now v.x v.byte-index (omega arith) (sym c.if-not-is_ascii_digit.ensures.value) ∙ v.invariant.1

pub returns-in_err-checked_mul : goal.returns-in_err-checked_mul
returns-in_err-checked_mul c =
    let v = c.loop-byte in
    c.from_residual.ensures
    ∙ number_large c.args.name.now v.x v.byte-index (omega arith) (omega (arith, c.in_err-checked_mul.ensures)) ∙ v.invariant.1

pub returns-in_err-x : goal.returns-in_err-x
returns-in_err-x c =
    let v = c.loop-byte in
    c.from_residual-in_err-x.ensures
    ∙ number_large c.args.name.now v.x v.byte-index (omega arith) (omega (arith, c.in_err-x.ensures, c.in_ok-checked_mul.ensures)) ∙ v.invariant.1

pub loop-byte-preserved : goal.loop-byte-preserved
loop-byte-preserved c =
    let v = c.loop-byte in
    let name = c.args.name.now in
    let e : c.in_ok-x.x ≡ 10 * v.x + (get_or name v.byte-index 0 - 48) = omega (arith, c.in_ok-x.ensures, c.in_ok-checked_mul.ensures) in (
      omega (arith, c.in_ok-x.ensures),
      ap (λ (n : ℕ). digits_number n (drop (v.byte-index + 1) name)) e
          ∙ number-next name v.x v.byte-index (omega arith) c.if-not-is_ascii_digit.ensures.cases.0 c.if-not-is_ascii_digit.ensures.cases.1 ∙ v.invariant.1,
    )

pub returns : goal.returns
returns c = number_done c.args.name.now c.loop-byte.x c.loop-byte.byte-index (omega arith) (omega arith) ∙ c.loop-byte.invariant.1
