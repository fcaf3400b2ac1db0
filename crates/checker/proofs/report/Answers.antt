-- `report` meets its contract. Assumes nothing.
use Rattle.std.specs.Prelude.{Ok}
use Rattle.rules.specs.Rules.Outcomes.{judged}
use Rattle.checker.proofs.report.Goals as goal

pub returns : goal.returns
returns c =
    let r = c.args.r in
    λ i. record { outcome = Ok (judged r.counts (c.verdict_of.ensures i)); full = r.full; plain = r.plain; firsts = c.reports.ensures i }
