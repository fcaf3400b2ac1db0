-- `reports` meets its contract. The invariant: the locations passed have their reports, and nothing is reported of the others yet. Assumes nothing.
use mathlib.Core.Path.{◌≡◌}
use Rattle.location.proofs.Filling.{Filled}
use Rattle.rules.specs.Rules.Firsts.{no_report}
use Rattle.firsts.specs.Reports.{report_on}
use Rattle.firsts.proofs.reports.Given as goal

abbrev pub invariant-loop-l : goal.invariant-loop-l
invariant-loop-l l =
    (l.l-iterator.set ≡ l.fn.full) × Filled l.l-iterator.set no_report (report_on l.work l.fn.full) l.firsts l.l-iterator.next
