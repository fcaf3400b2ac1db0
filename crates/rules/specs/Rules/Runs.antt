-- The plain run and the mispredicting run of a job, and the verdict.
-- Assumes nothing.
use Rattle.std.specs.Prelude.{Bool, true, false, not, cond, List, [], ◌∷◌, ◌++◌, ℕ, suc, ◌+◌, leb, length}
use Rattle.location.specs.declared.LocationSet.{LocationSet}
use Rattle.location.specs.Sets.{empty, union, subset}
use Rattle.rules.specs.declared.Stop.{Stop}
use Rattle.rules.specs.declared.Stop.TheVariants.{Finished, Spent, TraceFull, OutsideFull}
use Rattle.rules.specs.declared.Verdict.{Verdict}
use Rattle.rules.specs.declared.Verdict.TheVariants as verdicts
use Rattle.rules.specs.Rules.Instructions.{Observation}
use Rattle.rules.specs.Rules.Firsts.{ObservedSet}
use Rattle.rules.specs.Rules.Plain.{Code, end_place, first_state}
use Rattle.rules.specs.Rules.Mispredicting.{Branch, Machine, Step, step, plain_step}
use Rattle.rules.specs.Rules.Loop.{Halt, proceed, halted, Ended, loop}

-- What a run gathers: "A run's trace is the list of all its observations in order"; the steps made, the rollbacks among them,
-- the full set D and the plain set; and the sets that were observed, in order.
pub record Gathered : Type 0 where
  pub trace : List Observation
  pub steps : ℕ
  pub rollbacks : ℕ
  pub full : LocationSet
  pub plain : LocationSet
  pub sets : List ObservedSet

abbrev pub Result : Type 0
Result = Ended Machine Gathered

-- "the plain set gathers those observed with nothing open, and a branch opened with nothing open belongs to it"
unfoldable pub gather : List Branch → LocationSet → LocationSet → LocationSet
gather [] plain s = union plain s
gather (b ∷ bs) plain s = plain

-- The set that a step observes, with its index among the observations, the rule and the label: "A branch's set stands at its start
-- observation, and indexes begin at 0; a store that stopped the run counts as the next one." So the index is the count of observations
-- before the step. A step that observes nothing has the empty set.
unfoldable pub observed_set : Machine → Step → Gathered → ObservedSet
observed_set M s g = record { report = record { index = length g.trace; label = M.place; cause = s.cause }; set = s.seen }

-- "Each instruction carried out and each rollback is one step". "The full set D gathers the set of every observed address,
-- jump value and branch register".
unfoldable pub note : Machine → Step → Gathered → Gathered
note M s g = record {
  trace = g.trace ++ s.obs;
  steps = suc g.steps;
  rollbacks = g.rollbacks + s.back;
  full = union g.full s.seen;
  plain = gather M.branches g.plain s.seen;
  sets = g.sets ++ (observed_set M s g ∷ []);
}

-- "That store's address set still joins D, and the plain set with nothing open.": of a store that stops the run; nothing else is counted,
-- as the step is not made
unfoldable pub note_unmade : Machine → Step → Gathered → Gathered
note_unmade M s g = record {
  trace = g.trace;
  steps = g.steps;
  rollbacks = g.rollbacks;
  full = union g.full s.seen;
  plain = gather M.branches g.plain s.seen;
  sets = g.sets ++ (observed_set M s g ∷ []);
}

-- "Finished: END with nothing open."
unfoldable pub over_on : Code → ℕ → List Branch → Bool
over_on code p [] = leb (end_place code) p
over_on code p (b ∷ bs) = false

unfoldable pub over : Code → Machine → Bool
over code M = over_on code M.place M.branches

-- "else as "trace full" when the next step's observations don't all fit; that step is not made"
unfoldable pub fits : ℕ → Step → Gathered → Bool
fits room s g = leb (length g.trace + length s.obs) room

-- By whether the next step's observations fit, and whether it needs one address too many: "A run that would need a 65th address stops as
-- "outside full", before that step; this is tried after "spent" and after "trace full"". What the run has gathered is g with the one
-- stop, and h with the other.
abbrev pub halt_by : {G : Type 0} → Bool → Bool → G → G → Halt G
halt_by false overfull g h = halted TraceFull g
halt_by true false g h = proceed
halt_by true true g h = halted OutsideFull h

unfoldable pub halt : (Machine → Step) → ℕ → Machine → Gathered → Halt Gathered
halt f room M g = halt_by (fits room (f M) g) (f M).overfull g (note_unmade M (f M) g)

-- A run by the step function f, of at most k steps more, with room for so many observations in all. "Otherwise the run stops
-- as "spent" when b steps are made": the loop tries finished, then spent, then trace full, then outside full.
unfoldable pub run : (Machine → Step) → Code → ℕ → ℕ → Machine → Gathered → Result
run f code room k M g = loop (over code) (halt f room) (λ (N : Machine). (f N).next) (λ (N : Machine) (h : Gathered). note N (f N) h) k M g

-- A job: what its steps are given, the words of its state by location, the public list and the budget.
pub record Job : Type 0 where
  pub code : Code
  pub init : List ℕ
  pub public : LocationSet
  pub budget : ℕ

-- "Execution starts at label 0."
unfoldable pub first : Job → Machine
first job = record { state = first_state job.init; place = 0; branches = []; opened = 0 }

unfoldable pub blank : Gathered
blank = record { trace = []; steps = 0; rollbacks = 0; full = empty; plain = empty; sets = [] }

unfoldable pub mispredicting_run : Job → ℕ → Result
mispredicting_run job room = run (step job.code) job.code room job.budget (first job) blank

unfoldable pub plain_run : Job → ℕ → Result
plain_run job room = run (plain_step job.code) job.code room job.budget (first job) blank

abbrev pub is_finished : Stop → Bool
is_finished Finished = true
is_finished Spent = false
is_finished TraceFull = false
is_finished OutsideFull = false

-- "undecided if not finished; else clean if D lies within the public list; speculative if some location is in D but neither
-- public nor in the plain set; else plain"
unfoldable pub judge : LocationSet → Stop → LocationSet → LocationSet → Verdict
judge public stop full plain =
    cond (not (is_finished stop)) verdicts.Undecided
    (cond (subset full public) verdicts.Clean (cond (subset full (union public plain)) verdicts.Plain verdicts.Speculative))

unfoldable pub verdict : Job → Result → Verdict
verdict job r = judge job.public r.stop r.gathered.full r.gathered.plain
