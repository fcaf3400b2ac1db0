-- `register_named` meets its contract. Assumes nothing.
use Rattle.std.proofs.Common.{◌∙◌, [], ◌∷◌, Some, None, arith}
use Rattle.std.proofs.lemmas.Slice.Eq.{strip_prefix_is}
use Rattle.std.proofs.lemmas.Bool.Decides.{Decides-eqb}
use Rattle.names.proofs.Numbers.{register-other, register-found, register-above, register_missing}
use Rattle.names.proofs.register_named.Goals as goal

pub returns-in_err-number : goal.returns-in_err-number
returns-in_err-number c =
    let name = c.args.name.now in
    c.from_residual.ensures ∙ register-other name (strip_prefix_is Decides-eqb name (114 ∷ []) None c.in_err-number.ensures.cases)

pub returns-in_err-register : goal.returns-in_err-register
returns-in_err-register c =
    let split = strip_prefix_is Decides-eqb c.args.name.now (114 ∷ []) (Some c.in_ok-number.number) c.in_ok-number.ensures.cases in
    c.from_residual-in_err-register.ensures ∙ register_missing split c.in_err-register.ensures

pub returns-then-register : goal.returns-then-register
returns-then-register c =
    let split = strip_prefix_is Decides-eqb c.args.name.now (114 ∷ []) (Some c.in_ok-number.number) c.in_ok-number.ensures.cases in
    register-above split c.in_ok-register.ensures c.if-register.true

pub returns : goal.returns
returns c =
    let split = strip_prefix_is Decides-eqb c.args.name.now (114 ∷ []) (Some c.in_ok-number.number) c.in_ok-number.ensures.cases in
    register-found split c.in_ok-register.ensures (omega arith)
