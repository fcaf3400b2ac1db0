-- The report of a location as one of the working words, and what a run's words tell of the sets that it has observed.
-- Assumes nothing.
use Rattle.std.specs.Prelude.{◌≡◌, true, cond, List, [], ◌∷◌, ℕ, zero, suc, ◌+◌, ◌*◌, ◌/◌, ◌%◌, ◌<◌, get_or}
use Rattle.location.specs.declared.LocationSet.{LocationSet}
use Rattle.location.specs.Sets.{limit, member}
use Rattle.rules.specs.declared.Cause.{Cause}
use Rattle.rules.specs.declared.Cause.TheVariants.{Branch, Jump, Load, Store}
use Rattle.rules.specs.declared.First.{First}
use Rattle.rules.specs.Rules.Answers.{cause_number}
use Rattle.rules.specs.Rules.Firsts.{ObservedSet, no_report, held, first_holding}
use Rattle.work.specs.Layout.{report_base}

abbrev pub report : ℕ → Cause → ℕ → First
report index cause label = record { index = index; label = label; cause = cause }

-- ---- in one word
abbrev pub packed : First → ℕ
packed x = x.index * 2048 + cause_number x.cause * 512 + x.label

-- any number stands for some rule, and any word for some report
abbrev pub cause_at : ℕ → Cause
cause_at zero = Branch
cause_at (suc zero) = Jump
cause_at (suc (suc zero)) = Load
cause_at (suc (suc (suc k))) = Store

abbrev pub unpacked : ℕ → First
unpacked w = record { index = w / 2048 % 4294967296; label = w % 512; cause = cause_at (w / 512 % 4) }

-- ---- in the working words
abbrev pub report_in : List ℕ → ℕ → First
report_in w l = unpacked (get_or w (report_base l) 0)

-- where D is the set
abbrev pub report_on : List ℕ → LocationSet → ℕ → First
report_on w full l = cond (member full l) (report_in w l) no_report

-- of n locations from l on
unfoldable pub reports_in : List ℕ → LocationSet → ℕ → ℕ → List First
reports_in w full l zero = []
reports_in w full l (suc n) = report_on w full l ∷ reports_in w full (l + 1) n

-- The sets that a run has observed are xs: they hold just the locations of D, and the words have the report of each.
pub record Told (w : List ℕ) (full : LocationSet) (xs : List ObservedSet) : Type 0 where
  pub holds : (l : ℕ) → l < limit → member full l ≡ held xs l
  pub reports : (l : ℕ) → l < limit → member full l ≡ true → report_in w l ≡ first_holding xs l
