-- Two plain runs of one job, whose states are alike in the plain set that the first one reports, stop alike and gather the same: the same
-- trace, steps and sets, finished or not.
-- Assumes nothing.
use Rattle.std.specs.Prelude.{◌≡◌, refl, ℕ, ◌≤◌, length}
use Rattle.std.proofs.Math.Path.{ap}
use mathlib.Core.List.{List, []}
use Rattle.location.specs.declared.LocationSet.{LocationSet}
use Rattle.location.specs.SetLaws.{Within, within-refl}
use Rattle.rules.specs.Rules.Plain.{Code, fetch}
use Rattle.rules.specs.Rules.Mispredicting.{Machine, Step, lower, ordinary, plain_step}
use Rattle.rules.specs.Rules.Loop.{ended}
use Rattle.rules.specs.Rules.Runs.{Gathered, gather, note, note_unmade, run, Job, first, blank, plain_run}
use Rattle.rules.specs.Rules.Pairs.{with_state}
use Rattle.rules.specs.Rules.Demands.{AlikeOn}
use Rattle.rules.proofs.Theorems.RunLaws.{run_ind}
use Rattle.rules.proofs.Theorems.AlikeSteps.{Same, SameStep, same-ordinary, count-ordinary, same-fetch}
use Rattle.rules.proofs.Theorems.Secrecy.{SameResult, same-run, same_first}

-- ---- in a plain run nothing is ever open, so that D is the plain set
module _ (code : Code) where
  -- a plain step opens nothing
  pub stays_closed : (M : Machine) → M.branches ≡ [] → (plain_step code M).next.branches ≡ []
  unfolding plain_step ordinary lower
  stays_closed M e = ap (lower code (fetch code M.place)) e

  -- with nothing open both sets gather the same
  closed-gather : (M : Machine) (s : Step) (g : Gathered) → M.branches ≡ [] → g.full ≡ g.plain → (note M s g).full ≡ (note M s g).plain
  unfolding note gather
  closed-gather M s g b e = rw (b, e)

  closed-unmade : (M : Machine) (s : Step) (g : Gathered) → M.branches ≡ [] → g.full ≡ g.plain
      → (note_unmade M s g).full ≡ (note_unmade M s g).plain
  unfolding note_unmade gather
  closed-unmade M s g b e = rw (b, e)

  full_is_plain : (room k : ℕ) (M : Machine) (g : Gathered) → M.branches ≡ [] → g.full ≡ g.plain
      → (run (plain_step code) code room k M g).gathered.full ≡ (run (plain_step code) code room k M g).gathered.plain
  unfolding ended
  full_is_plain room =
      run_ind (plain_step code) code room
      (λ k M g r. M.branches ≡ [] → g.full ≡ g.plain → r.gathered.full ≡ r.gathered.plain)
      (λ k M g o b e. e) (λ M g o b e. e) (λ k M g o f b e. e) (λ k M g o f x b e. closed-unmade M (plain_step code M) g b e)
      (λ k M g o f p b e. p (stays_closed M b) (closed-gather M (plain_step code M) g b e))

pub plain-full : (job : Job) (room : ℕ) → (plain_run job room).gathered.full ≡ (plain_run job room).gathered.plain
unfolding plain_run first blank
plain-full job room = full_is_plain job.code room job.budget (first job) blank refl refl

-- ---- the two laws of a plain step: the same while what it observes rests on D, and the same count in any case
module _ (code : Code) {D : LocationSet} {M N : Machine} (h : Same D M N) where
  same-plain_step : Within (plain_step code M).seen D → SameStep D (plain_step code M) (plain_step code N)
  unfolding plain_step
  same-plain_step w = rw (← same-fetch code h) (same-ordinary code h (fetch code M.place) w)

  count-plain_step : length (plain_step code M).obs ≡ length (plain_step code N).obs
  unfolding plain_step
  count-plain_step = rw (← same-fetch code h) (count-ordinary code h (fetch code M.place))

-- ---- two plain runs: the second has the same job with the words vs
module _ (job : Job) (room : ℕ) (vs : List ℕ) (bound : length job.init ≤ 256) (size : length job.init ≡ length vs) where
  pub same-plain_runs : AlikeOn (plain_run job room).gathered.plain job.init vs
      → SameResult (plain_run job room).gathered.plain (plain_run job room) (plain_run (with_state job vs) room)
  unfolding plain_run with_state
  same-plain_runs h =
      let D = (plain_run job room).gathered.plain in
      let w : Within (plain_run job room).gathered.full D = rw (plain-full job room) (within-refl D) in
      same-run (plain_step job.code) job.code room D (λ M N s. same-plain_step job.code s) (λ M N s. count-plain_step job.code s)
      job.budget (first job) blank (first (with_state job vs)) (same_first job room vs bound size D h) w
