-- The numbers, the public list and the state of a job that was accepted.
-- Assumes nothing.
use Rattle.std.specs.Prelude.{◌≡◌, List, ℕ, ◌+◌, ◌*◌, length}
use Rattle.std.proofs.Math.Path.{sym, ap}
use Rattle.std.proofs.Common.{◌∙◌}
use Rattle.rules.specs.declared.Trailer.{Trailer}
use Rattle.rules.specs.Rules.Limits.{registers_size, list_size, trailer_size}
use Rattle.rules.specs.Rules.JobFile.{trailer, locations, state_of, public_of, words_at}
use Rattle.rules.specs.Rules.Runs.{Job}
use Rattle.rules.specs.Rules.Costs.{with_costs}
use Rattle.rules.specs.Rules.Pairs.{with_state}
use Rattle.rules.proofs.Theorems.JobLaws.{Passed, passed, limits-hold, job-init, job-public, length-state_of, state_list, list_length}
use Rattle.job.specs.Answers.{Accepts}
use Rattle.execution.specs.Starts.{own-state}
use Rattle.rules.specs.Theorems.Bounds.{Limits}

module _ {bs : List ℕ} {t : Trailer} (a : Accepts bs t) where
  pub accepted-passed : Passed bs a.job
  accepted-passed = passed bs a.job a.parsed

  pub accepted-limits : Limits t
  accepted-limits = rw a.trailer (limits-hold (trailer bs) accepted-passed.limits)

  pub accepted_list : t.state + registers_size + 8 * t.cells ≡ t.list
  accepted_list = rw a.trailer (state_list accepted-passed)

  pub accepted-length : t.list + (list_size + trailer_size) ≡ length bs
  accepted-length = rw a.trailer (list_length accepted-passed)

  pub accepted-size : length a.job.init ≡ locations t
  accepted-size = rw a.trailer (ap length (job-init accepted-passed) ∙ length-state_of (trailer bs) bs)

  pub accepted-public : public_of t bs ≡ a.job.public
  accepted-public = rw a.trailer (sym (job-public accepted-passed))

  pub accepted-init : words_at (locations t) bs t.state ≡ a.job.init
  accepted-init = rw a.trailer (unfold state_of in sym (job-init accepted-passed))

  pub accepted-state : (costs : List ℕ) → with_state (with_costs a.job costs) (words_at (locations t) bs t.state) ≡ with_costs a.job costs
  unfolding with_state
  accepted-state costs = rw a.trailer (unfold state_of in ap (λ (j : Job). with_costs j costs) (own-state accepted-passed))
