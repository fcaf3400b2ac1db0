-- `nothing` meets its contract: no set is observed, so that there is no report. Assumes nothing.
use mathlib.Core.Path.{ap, sym, ◌∙◌}
use lib.ListN.{replicate}
use Rattle.location.specs.Sets.{limit}
use Rattle.rules.specs.declared.First.{First}
use Rattle.rules.proofs.Theorems.Firsts.{firsts-none}
use Rattle.firsts.proofs.nothing.Goals as goal

pub returns : goal.returns
returns c = ap (λ (x : First). replicate limit x) c.no_report-first.ensures ∙ sym firsts-none
