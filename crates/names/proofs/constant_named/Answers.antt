-- `constant_named` meets its contract. Assumes nothing.
use Rattle.std.proofs.Common.{◌≡◌, ◌∙◌}
use Rattle.rules.specs.Rules.TextReading.{constant_named}
use Rattle.names.specs.Meaning.{digits_number, number_of}
use Rattle.names.proofs.Numbers.{constant-empty, constant-one, constant-zero_led, constant-first, some_others, no_others}
use Rattle.names.proofs.constant_named.Goals.{else-first-eq48-via-then-first-eq48+else-not-is_empty, else-first-eq48-via-else-first-eq48}
use Rattle.names.proofs.constant_named.Goals as goal

pub returns-in_default : goal.returns-in_default
returns-in_default c = constant-empty c.args.name.now c.in_default.len_below

pub returns-then-not-is_empty : goal.returns-then-not-is_empty
returns-then-not-is_empty c =
    let name = c.args.name.now in constant-zero_led name (some_others name c.if-not-is_empty.ensures) c.if-first-eq48.true

pub returns : goal.returns
returns c =
    let name = c.args.name.now in
    let led : digits_number 0 name ≡ number_of (constant_named name) =
    elim c.else-first-eq48.branch [
      | else-first-eq48-via-then-first-eq48+else-not-is_empty w ↦ constant-one name c.in-len1-up.len_at_least (no_others name w.if-not-is_empty.ensures)
      | else-first-eq48-via-else-first-eq48 w ↦ constant-first name c.in-len1-up.len_at_least w.if-first-eq48.false
    ] in
    c.value.ensures ∙ led
