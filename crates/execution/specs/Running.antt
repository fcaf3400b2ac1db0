-- A run in the lent areas: where it can go on, what halts it, and what is left of it.
-- Assumes nothing.
use Rattle.std.specs.Prelude.{◌≡◌, true, false, List, [], ◌∷◌, ◌++◌, ℕ, ◌+◌, ◌-◌, ◌*◌, ◌/◌, ◌<◌, ◌≤◌, length, get_or, drop, Option, Some, None}
use Rattle.location.specs.Sets.{registers, limit, empty, subset}
use Rattle.location.specs.declared.LocationSet.{LocationSet}
use Rattle.rules.specs.declared.Cause.{Cause}
use Rattle.rules.specs.declared.Cause.TheVariants as causes
use Rattle.rules.specs.declared.Stop.{Stop}
use Rattle.rules.specs.declared.Stop.TheVariants as stops
use Rattle.rules.specs.declared.Tagged.{Tagged}
use Rattle.rules.specs.declared.Trailer.{Trailer}
use Rattle.rules.specs.Rules.Limits.{max_instructions}
use Rattle.rules.specs.Rules.Expressions.{eval}
use Rattle.rules.specs.Rules.Instructions.{Observation}
use Rattle.rules.specs.Rules.Firsts.{cause_of, ObservedSet, firsts_of}
use Rattle.rules.specs.Rules.Plain.{Code, end_place}
use Rattle.rules.specs.Rules.Mispredicting.{Step, ordinary}
use Rattle.rules.specs.Rules.Loop.{ended}
use Rattle.rules.specs.Rules.Runs.{Result, over, run}
use Rattle.rules.specs.Rules.JobFile.{postfix, locations}
use Rattle.rules.specs.Rules.Calls.{written, trace_words, counts}
use Rattle.instruction.specs.declared.Instruction.{Instruction}
use Rattle.instruction.specs.Meaning.{meaning}
use Rattle.instruction.specs.Registers.{RegistersBelow}
use Rattle.descriptor.specs.declared.Descriptor.{Descriptor}
use Rattle.descriptor.specs.Descriptors.{descriptor_in, first_tokens}
use Rattle.program.specs.Programs.{program_in, Describes}
use Rattle.work.specs.declared.machine.Control.{Control}
use Rattle.work.specs.Layout.{labels}
use Rattle.work.specs.Words.{tagged_at, costs_in}
use Rattle.work.specs.Machines.{state_in, machine_of, Fit}
use Rattle.stepping.specs.declared.Progress.{Progress}
use Rattle.firsts.specs.Reports.{packed, reports_in, Told}
use Rattle.firsts.specs.Recording.{recorded}
use Rattle.stepping.specs.Progress.{Standing, machine_at, gathered_of, rolled_back, progress_unmade}
use Rattle.stepping.specs.Steps.{Counted, Made, Unexpired}
use Rattle.execution.specs.declared.Mode.{Mode}
use Rattle.execution.specs.declared.Mode.TheVariants as modes
use Rattle.execution.specs.declared.Ran.{Ran}
use Rattle.execution.specs.declared.first.Sight.{Sight}
use Rattle.execution.specs.Next.{step_by}
use Rattle.rules.specs.Theorems.Bounds.{Limits, PositiveCosts}

-- ---- the program
-- what the steps of a job are given: the program that the words ws from its labels on describe over the bytes p, its trailer's numbers, and the
-- window costs that stand behind the labels
unfoldable pub code_in : List ℕ → Trailer → List ℕ → Code
code_in p t ws = record { prog = program_in p t.count ws; cells = t.cells; window = t.window; costs = costs_in ws }

-- The numbers keep their limits, each word of the table of labels describes an instruction, and each kind of instruction costs 1 at least.
pub record Loaded (p : List ℕ) (t : Trailer) (w : List ℕ) : Type 0 where
  pub limits : Limits t
  pub described : Describes p t.count (drop labels w)
  pub costs : PositiveCosts (costs_in (drop labels w))

-- the job's code: what the rules are given, by its trailer and by the window costs of the words w
pub record CodeOf (t : Trailer) (w : List ℕ) (code : Code) : Type 0 where
  pub count : end_place code ≡ t.count
  pub cells : code.cells ≡ t.cells
  pub window : code.window ≡ t.window
  pub costs : code.costs ≡ costs_in (drop labels w)

-- ---- where a run can go on
-- the words hold a machine of the run
pub record Steady (p : List ℕ) (t : Trailer) (mode : Mode) (w : List ℕ) (c : Control) : Type 0 where
  pub loaded : Loaded p t w
  pub fits : Fit w c
  pub closed : mode ≡ modes.Plain → c.depth ≡ 0

-- and the counts are those of a run
pub record Ready (p : List ℕ) (t : Trailer) (mode : Mode) (x : Standing) : Type 0 where
  pub steady : Steady p t mode x.work x.progress.control
  pub counted : Counted x
  pub budget : x.progress.steps ≤ t.budget

-- the code of the words at x
abbrev pub code_at : List ℕ → Trailer → Standing → Code
code_at p t x = code_in p t (drop labels x.work)

-- the rules' next step of the machine in the words w, and how many observations it makes
abbrev pub step_in : List ℕ → Trailer → Mode → List ℕ → Control → Step
step_in p t mode w c = step_by mode (code_in p t (drop labels w)) (machine_of w c (locations t))

abbrev pub observed_by : List ℕ → Trailer → Mode → List ℕ → Control → ℕ
observed_by p t mode w c = length (step_in p t mode w c).obs

-- and from x
abbrev pub next_step : List ℕ → Trailer → Mode → Standing → Step
next_step p t mode x = step_in p t mode x.work x.progress.control

-- The run is not over, the budget is not spent, and the next step's observations fit: what is tried before the table outside the image is.
pub record Fitting (p : List ℕ) (t : Trailer) (mode : Mode) (x : Standing) : Type 0 where
  pub on : over (code_at p t x) (machine_at x (locations t)) ≡ false
  pub left : x.progress.steps < t.budget
  pub room : x.progress.observations + length (next_step p t mode x).obs ≤ length x.trace / 2

-- The next step may be made: nor does it need one address too many.
pub record Permitted (p : List ℕ) (t : Trailer) (mode : Mode) (x : Standing) : Type 0 where
  pub fitting : Fitting p t mode x
  pub storable : (next_step p t mode x).overfull ≡ false

-- It is a store that does.
pub record Overfull (p : List ℕ) (t : Trailer) (mode : Mode) (x : Standing) : Type 0 where
  pub fitting : Fitting p t mode x
  pub full : (next_step p t mode x).overfull ≡ true

-- The run stops at x, as s, and has then come to the progress c; `after` gives the observed sets by those that there were at x.
pub record Halts (p : List ℕ) (t : Trailer) (mode : Mode) (x : Standing) (s : Stop) (c : Progress) (after : List ObservedSet → List ObservedSet)
    : Type 0 where
  pub stops : (os : List Observation) (xs : List ObservedSet) → length os ≡ x.progress.observations
      → run (step_by mode (code_at p t x)) (code_at p t x) (length x.trace / 2) (t.budget - x.progress.steps) (machine_at x (locations t))
      (gathered_of os xs x.progress)
      ≡ ended s (machine_at x (locations t)) (gathered_of os (after xs) c)
  pub counted : c.observations ≡ x.progress.observations

-- what halts it, if anything does
abbrev pub HaltOf : List ℕ → Trailer → Mode → Standing → Option Stop → Type 0
HaltOf p t mode x None = Permitted p t mode x
HaltOf p t mode x (Some stops.OutsideFull) = Overfull p t mode x
HaltOf p t mode x (Some s) = Halts p t mode x s x.progress (λ xs. xs)

-- Up to so many steps in all the budget suffices; and the trace area too, unless it is one step more, which has been tested.
pub record FreeUntil (budget until : ℕ) (x : Standing) : Type 0 where
  pub more : x.progress.steps < until
  pub most : until ≤ budget
  pub free : x.progress.steps + 1 < until → x.progress.observations + 2 * (until - x.progress.steps) ≤ length x.trace / 2

-- ---- what the next step observes
-- the set, with its report
abbrev pub next_set : List ℕ → Trailer → Mode → Standing → ObservedSet
next_set p t mode x = record {
  report = record { index = x.progress.observations; label = x.progress.control.place; cause = (next_step p t mode x).cause };
  set = (next_step p t mode x).seen;
}

-- it brings no location into D
abbrev pub Quiet : List ℕ → Trailer → Mode → Standing → Type 0
Quiet p t mode x = subset (next_step p t mode x).seen x.progress.full ≡ true

-- What the instruction i observes: the rule, and the set, which is rule 3's and rule 2's.
pub record Observes (p w : List ℕ) (i : Instruction) (cause : Cause) (seen : LocationSet) : Type 0 where
  pub rule : cause ≡ cause_of (meaning p i)
  pub set : (code : Code) (c : Control) (cells : ℕ) → seen ≡ (ordinary code (machine_of w c (registers + cells)) (meaning p i)).seen
  pub size : length seen.words ≡ 4

-- as the code has found it: with none it observes the empty set
abbrev pub SightOf : List ℕ → List ℕ → Instruction → Option Sight → Type 0
SightOf p w i None = Observes p w i causes.Branch empty
SightOf p w i (Some s) = Observes p w i s.cause s.seen

-- It is recorded and gathered ahead of the step, which is not made: x has become y.
pub record Foreseen (p : List ℕ) (t : Trailer) (mode : Mode) (x y : Standing) : Type 0 where
  pub words : y.work ≡ recorded (packed (next_set p t mode x).report) x.progress.full (next_step p t mode x).seen x.work
  pub trace : y.trace ≡ x.trace
  pub progress : y.progress ≡ progress_unmade x.progress (next_step p t mode x).seen
  pub size : length (next_step p t mode x).seen.words ≡ 4
  pub label : subset (next_step p t mode x).seen x.progress.full ≡ false → x.progress.control.place < max_instructions

-- Steps up to so many in all can be made with no test: from a standing of the run, whose next step may be made and brings nothing in.
pub record Unhindered (p : List ℕ) (t : Trailer) (mode : Mode) (until : ℕ) (x : Standing) : Type 0 where
  pub ready : Ready p t mode x
  pub next : Permitted p t mode x
  pub quiet : Quiet p t mode x
  pub free : FreeUntil t.budget until x

-- ---- one step
-- What rule 3 asks for an instruction whose first value is a: its expressions and registers are those of a job, and there is room.
pub record Executing (p : List ℕ) (t : Trailer) (i : Instruction) (a : Tagged) (x : Standing) : Type 0 where
  pub unexpired : Unexpired x.work x.progress
  pub counted : Counted x
  pub place : x.progress.control.place < max_instructions
  pub limits : Limits t
  pub room : (code : Code)
      → 2 * (x.progress.observations + length (ordinary code (machine_at x (locations t)) (meaning p i)).obs) ≤ length x.trace
  pub sound : postfix (meaning p i) ≡ true
  pub below : RegistersBelow registers (meaning p i)
  pub value : a ≡ eval (tagged_at x.work) (first_tokens (meaning p i))

-- The step s was tried: the run has come to y by it, unless it brings a location into D or needs one address too many; then nothing was done.
pub record Tried (n : ℕ) (s : Step) (x y : Standing) : Type 0 where
  pub made : subset s.seen x.progress.full ≡ true → s.overfull ≡ false → Made n s x y
  pub new : subset s.seen x.progress.full ≡ false → y ≡ x
  pub unmade : s.overfull ≡ true → y ≡ x

-- rule 3 for the instruction i
pub record Performed (p : List ℕ) (t : Trailer) (i : Instruction) (x y : Standing) : Type 0 where
  pub tried : (code : Code) → CodeOf t x.work code → Tried (locations t) (ordinary code (machine_at x (locations t)) (meaning p i)) x y

-- the descriptor of the label at the place
abbrev pub descriptor_at : List ℕ → Control → Descriptor
descriptor_at w c = descriptor_in (get_or w (labels + c.place) 0)

-- What the instruction at the place asks: it is the program's, rule 1 is not the next, and there is room.
pub record Advancing (p : List ℕ) (t : Trailer) (mode : Mode) (x : Standing) : Type 0 where
  pub ready : Ready p t mode x
  pub inside : x.progress.control.place < t.count
  pub window : 0 < x.progress.control.window
  pub room : 2 * (x.progress.observations + length (next_step p t mode x).obs) ≤ length x.trace

-- the rules' next step was tried
abbrev pub NextTried : List ℕ → Trailer → Mode → Standing → Standing → Type 0
NextTried p t mode x y = Tried (locations t) (next_step p t mode x) x y

-- ---- a run
-- Somewhere in a run R that began with the words w₀ and the trace area a₀: what is left of it from x is the rest of R.
pub record Running (p : List ℕ) (t : Trailer) (mode : Mode) (w₀ a₀ : List ℕ) (x : Standing) (R : Result) : Type 0 where
  pub observed : List Observation
  pub sets : List ObservedSet
  pub count : length observed ≡ x.progress.observations
  pub trace : x.trace ≡ written (trace_words observed) a₀
  pub size : length x.trace ≡ length a₀
  pub frame : drop labels x.work ≡ drop labels w₀
  pub rest : run (step_by mode (code_in p t (drop labels w₀))) (code_in p t (drop labels w₀)) (length a₀ / 2) (t.budget - x.progress.steps)
      (machine_at x (locations t)) (gathered_of observed sets x.progress)
      ≡ R

-- And the words tell which of the observed sets brought each location in; or they tell of the next step's set already.
pub record Settled (p : List ℕ) (t : Trailer) (mode : Mode) (w₀ a₀ : List ℕ) (x : Standing) (R : Result) : Type 0 where
  pub running : Running p t mode w₀ a₀ x R
  pub told : Told x.work x.progress.full running.sets

pub record Ahead (p : List ℕ) (t : Trailer) (mode : Mode) (w₀ a₀ : List ℕ) (x : Standing) (R : Result) : Type 0 where
  pub running : Running p t mode w₀ a₀ x R
  pub told : Told x.work x.progress.full (running.sets ++ (next_set p t mode x ∷ []))

-- The run goes on from x, where the words tell of the next step's set, to y, by one step at least.
pub record GoesOn (p : List ℕ) (t : Trailer) (mode : Mode) (x y : Standing) : Type 0 where
  pub further : x.progress.steps < y.progress.steps
  pub ready : Ready p t mode y
  pub kept : (w₀ a₀ : List ℕ) (R : Result) → Ahead p t mode w₀ a₀ x R → Settled p t mode w₀ a₀ y R

-- what is reported of a run that stops
abbrev pub report_of : Stop → Progress → Ran
report_of s c = record {
  counts = record { stop = s; observations = c.observations; steps = c.steps; rollbacks = rolled_back c.control };
  full = c.full;
  plain = c.plain;
}

-- the report is that of the run R
pub record Reports (r : Ran) (R : Result) : Type 0 where
  pub counts : r.counts ≡ counts R
  pub full : r.full ≡ R.gathered.full
  pub plain : r.plain ≡ R.gathered.plain

-- The run R has ended in the words w and the area, which was a₀: what is reported, the trace, the last state, and what the words tell of the
-- locations of D.
pub record EndsAs (t : Trailer) (a₀ w area : List ℕ) (r : Ran) (R : Result) : Type 0 where
  pub reports : Reports r R
  pub trace : area ≡ written (trace_words R.gathered.trace) a₀
  pub state : state_in w (locations t) ≡ R.last.state
  pub firsts : reports_in w r.full 0 limit ≡ firsts_of R.gathered.sets

-- and the words from the table of labels on are as they were
pub record RanTo (t : Trailer) (w₀ a₀ w area : List ℕ) (r : Ran) (R : Result) : Type 0 where
  pub ends : EndsAs t a₀ w area r R
  pub frame : drop labels w ≡ drop labels w₀
  pub size : length w ≡ length w₀
