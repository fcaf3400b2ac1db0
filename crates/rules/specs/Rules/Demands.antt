-- The three demands, as statements about calls, what a run reports of the locations of D, and what the words on a pair of states mean.
-- Theorems/ proves, of every job file and all areas, demands 2 and 3, that a refusal alters nothing, the reports, and the words on a pair;
-- that a call is exact is proved with its code. The promises of the calls (Promises) are made of them.
-- Assumes nothing.
use Rattle.std.specs.Prelude.{◌≡◌, true, false, List, [], ◌∷◌, ◌++◌, ℕ, zero, suc, ◌+◌, ◌*◌, ◌<◌, ◌≤◌, length, get_or, take, drop, Ok, Err}
use Prim.{⊥}
use Rattle.location.specs.declared.LocationSet.{LocationSet}
use Rattle.location.specs.Sets.{limit, empty, member, subset}
use Rattle.rules.specs.declared.Stop.TheVariants.{Finished, OutsideFull}
use Rattle.rules.specs.declared.Cause.{Cause}
use Rattle.rules.specs.declared.Cause.TheVariants.{Branch, Jump, Load, Store}
use Rattle.rules.specs.declared.First.{First}
use Rattle.rules.specs.declared.Verdict.{Verdict}
use Rattle.rules.specs.declared.Verdict.TheVariants.{Clean}
use Rattle.rules.specs.declared.Counts.{Counts}
use Rattle.rules.specs.declared.PlainCounts.{PlainCounts}
use Rattle.rules.specs.declared.RunAnswer.{RunAnswer}
use Rattle.rules.specs.declared.PairWord.{PairWord}
use Rattle.rules.specs.declared.PairWord.TheVariants as words
use Rattle.rules.specs.Rules.Outcomes.{PairAnswer, PlainOutcome, RunOutcome, paired, judged}
use Rattle.rules.specs.Rules.Expressions.{Expr}
use Rattle.rules.specs.Rules.Instructions.{Instr, load, store, jmp, beqz, Observation, start_kind, pc_kind, load_kind, store_kind}
use Rattle.rules.specs.Rules.Firsts.{ObservedSet, no_report, held}
use Rattle.rules.specs.Rules.Plain.{Entry, Code, end_place, fetch}
use Rattle.rules.specs.Rules.Mispredicting.{Machine, step}
use Rattle.rules.specs.Rules.Runs.{run, Job, first, blank, mispredicting_run}
use Rattle.rules.specs.Rules.Changes.{UndoLog, size, Live}
use Rattle.rules.specs.Rules.JobFile.{Parsed, accepted, rejected, parse, trailer, locations, state_of, public_of, words_at}
use Rattle.rules.specs.Rules.Costs.{tabled}
use Rattle.rules.specs.Rules.Calls.{Areas, Called, trace_words, room, table_size, table_words, working_words, run_call, plain_call}
use Rattle.rules.specs.Rules.Pairs.{with_state, PairAreas}
use Rattle.rules.specs.Rules.Strike.{strike}

-- ---- demand 1, and the first half of demand 2: "a run's answer, or the refusal number that document 01 fixes"
-- The answer and every lent word are the definition's, for every list of bytes and all areas: `called` is the definition's call.
pub record Exact {A B : Type 0} (called : Called A B) (r : A) (after : B) : Type 0 where
  pub answer : r ≡ called.answer
  pub areas : after ≡ called.areas

-- "A refusal leaves every area unaltered." `refusal` is the refusal number of an answer, 0 where the call was carried out.
pub record Unaltered {A B : Type 0} (refusal : A → ℕ) (r : A) (before after : B) : Type 0 where
  pub refused : 0 < refusal r → after ≡ before

-- ---- what is compared
-- "what the lent areas held before is free for both runs": only their lengths are the same
pub record SameLengths (a a' : Areas) : Type 0 where
  pub trace : length a.trace ≡ length a'.trace
  pub end : length a.end ≡ length a'.end
  pub work : length a.work ≡ length a'.work

-- "the observation count"; a refused job observes nothing
abbrev pub observation_count : RunOutcome → ℕ
observation_count (Err r) = 0
observation_count (Ok x) = x.counts.observations

abbrev pub plain_observation_count : PlainOutcome → ℕ
plain_observation_count (Err r) = 0
plain_observation_count (Ok n) = n.observations

-- the words that a call writes to its trace area: "two an observation", "from the front"; by its answer and the areas after it
unfoldable pub trace_in : RunAnswer → Areas → List ℕ
trace_in r after = take (2 * observation_count r.outcome) after.trace

unfoldable pub trace_of : List ℕ → List ℕ → Areas → List ℕ
trace_of f costs a = trace_in (run_call f costs a).answer (run_call f costs a).areas

unfoldable pub plain_trace_of : List ℕ → Areas → List ℕ
plain_trace_of f a = take (2 * plain_observation_count (plain_call f a).answer.outcome) (plain_call f a).areas.trace

-- the words of an end area that a call writes: "registers then cells", and the table
unfoldable pub end_of : List ℕ → List ℕ → List ℕ
end_of f area = take (locations (trailer f) + table_size) area

-- the table alone
unfoldable pub table_in : List ℕ → List ℕ → List ℕ
table_in f area = take table_size (drop (locations (trailer f)) area)

-- ---- demand 2: "When a run finishes, striking out all from each outermost start to its rollback gives the plain run's trace, and
-- the end states are equal." The plain run is "of the same job, in areas of the same lengths"; it takes no table, whatever the run's was.
-- The run's answer is r, and `after` are the areas after it; `observed` is its trace.
pub record PlainMatch (f : List ℕ) (r : RunAnswer) (after a' : Areas) : Type 0 where
  pub counts : PlainCounts
  pub finishes : (plain_call f a').answer.outcome ≡ Ok counts
  pub stop : counts.stop ≡ Finished
  pub observed : List Observation
  pub written : trace_in r after ≡ trace_words observed
  pub trace : plain_trace_of f a' ≡ trace_words (strike observed)
  pub states : end_of f (plain_call f a').areas.end ≡ end_of f after.end
  pub plain : (plain_call f a').answer.plain ≡ r.plain

pub record Demand2 (f : List ℕ) (a : Areas) (r : RunAnswer) (after : Areas) : Type 0 where
  pub finished : {n : Counts} {v : Verdict} → r.outcome ≡ Ok (judged n v) → n.stop ≡ Finished
      → (a' : Areas) → SameLengths a a' → PlainMatch f r after a'

-- ---- demand 3
-- "The second state stands in a job that is the same but for the state's bytes": those before it and those after it are the same.
pub record SameButState (f g : List ℕ) : Type 0 where
  pub size : length f ≡ length g
  pub before : take (trailer f).state f ≡ take (trailer f).state g
  pub after : drop (trailer f).list f ≡ drop (trailer f).list g

-- "Two states are alike in a set of locations when the register or cell at each of them holds the same word in both; in the
-- empty set any two are."
pub record AlikeOn (s : LocationSet) (xs ys : List ℕ) : Type 0 where
  pub same : (l : ℕ) → member s l ≡ true → get_or xs l 0 ≡ get_or ys l 0

-- The entries of the table with which a run of the file f by the costs, in the areas a, ends: the table in its end area shows their
-- addresses and values, and no area shows their sets. A refused job has none.
abbrev pub entries_of : Parsed → ℕ → List Entry
entries_of (rejected n) k = []
entries_of (accepted job) k = (mispredicting_run job k).last.state.outside

unfoldable pub remembered : List ℕ → List ℕ → Areas → List Entry
remembered f costs a = entries_of (tabled (parse f) costs) (room a.trace)

-- the set of entry number i
unfoldable pub entry_set : List Entry → ℕ → LocationSet
entry_set [] i = empty
entry_set (e ∷ es) zero = e.word.deps
entry_set (e ∷ es) (suc i) = entry_set es i

-- "remembered cells whose set lies in D then hold the same in both": a run ended with the entries es, which its table t shows, and another
-- run with the table t'. The tables have the same addresses in the same order.
pub record SameOutside (full : LocationSet) (es : List Entry) (t t' : List ℕ) : Type 0 where
  pub shown : t ≡ table_words es
  pub count : get_or t 0 0 ≡ get_or t' 0 0
  pub address : (i : ℕ) → get_or t (1 + 2 * i) 0 ≡ get_or t' (1 + 2 * i) 0
  pub value : (i : ℕ) → subset (entry_set es i) full ≡ true → get_or t (2 + 2 * i) 0 ≡ get_or t' (2 + 2 * i) 0

-- The same answer (stop, observation count, steps, rollbacks, both sets and verdict), the same trace, the same reports ("Two states that agree
-- on D get the same reports."), and outside the image the same addresses, with the same words where they rest on the reported set. The first
-- run is of the file f in the areas a, with the answer r; the second has the same costs.
pub record SameCall (f costs : List ℕ) (a : Areas) (r : RunAnswer) (after : Areas) (g : List ℕ) (a' : Areas) : Type 0 where
  pub answer : r ≡ (run_call g costs a').answer
  pub trace : trace_in r after ≡ trace_of g costs a'
  pub firsts : r.firsts ≡ (run_call g costs a').answer.firsts
  pub outside : SameOutside r.full (remembered f costs a) (table_in f after.end) (table_in g (run_call g costs a').areas.end)

-- "Wherever the run ends, finished or stopped, every second state alike to the first on the reported set (same routine, memory
-- size, public list, window, budget, area lengths) gives the same whole trace, counts, stop, both sets and verdict. If the verdict
-- is clean, so does every state alike on the public locations." The run's answer is r, and `after` are the areas after it. "demand 3 stands
-- for these runs" with stores outside the image; both start with nothing there. F-7: "Secrecy holds for two runs with the same table."
pub record Demand3 (f costs : List ℕ) (a : Areas) (r : RunAnswer) (after : Areas) : Type 0 where
  pub reported : {n : Counts} {v : Verdict} → r.outcome ≡ Ok (judged n v)
      → (g : List ℕ) (a' : Areas) → SameButState f g → SameLengths a a'
      → AlikeOn r.full (state_of (trailer f) f) (state_of (trailer f) g)
      → SameCall f costs a r after g a'
  pub clean : {n : Counts} → r.outcome ≡ Ok (judged n Clean)
      → (g : List ℕ) (a' : Areas) → SameButState f g → SameLengths a a'
      → AlikeOn (public_of (trailer f) f) (state_of (trailer f) f) (state_of (trailer f) g)
      → SameCall f costs a r after g a'

-- ---- F-6: which observation brought a location in
-- the sets that a run of the file f by the costs, in the areas a, observes, in order; a refused job observes none
abbrev pub sets_of : Parsed → ℕ → List ObservedSet
sets_of (rejected n) k = []
sets_of (accepted job) k = (mispredicting_run job k).gathered.sets

unfoldable pub observed_in : List ℕ → List ℕ → Areas → List ObservedSet
observed_in f costs a = sets_of (tabled (parse f) costs) (room a.trace)

-- what an answer reports of location l
abbrev pub report_of : RunAnswer → ℕ → First
report_of r l = get_or r.firsts l no_report

-- "the first observation whose set holds it": the set `found` holds location l, none before it does, and x is what is reported of it
pub record FirstWith (l : ℕ) (xs : List ObservedSet) (x : First) : Type 0 where
  pub before : List ObservedSet
  pub found : ObservedSet
  pub after : List ObservedSet
  pub split : xs ≡ before ++ found ∷ after
  pub earlier : held before l ≡ false
  pub holds : member found.set l ≡ true
  pub report : x ≡ found.report

-- "A branch's set stands at its start observation": the kind of the observation at which the set of each rule stands
abbrev pub cause_kind : Cause → ℕ
cause_kind Branch = start_kind
cause_kind Jump = pc_kind
cause_kind Load = load_kind
cause_kind Store = store_kind

-- "indexes begin at 0; a store that stopped the run counts as the next one": the trace that was written has at the index an observation of
-- the rule's kind, or the run has stopped before a store
pub data Stands (n : Counts) (trace : List ℕ) (x : First) : Type 0 where
  observed : x.index < n.observations → get_or trace (2 * x.index) 0 ≡ cause_kind x.cause → Stands n trace x
  stopped : x.index ≡ n.observations → n.stop ≡ OutsideFull → x.cause ≡ Store → Stands n trace x

-- "the rule concerned (branch, jump, load or store)": the instructions by which a set is observed
pub data ObservesBy : Instr → Cause → Type 0 where
  branch : (r l : ℕ) → ObservesBy (beqz r l) Branch
  jump : (e : Expr) → ObservesBy (jmp e) Jump
  loading : (r : ℕ) (e : Expr) → ObservesBy (load r e) Load
  storing : (r : ℕ) (e : Expr) → ObservesBy (store r e) Store

-- "and the label of that instruction": the program has one of that rule there
pub record Labelled (code : Code) (x : First) : Type 0 where
  pub below : x.label < end_place code
  pub rule : ObservesBy (fetch code x.label) x.cause

-- "For each location in D the run reports the index of the first observation whose set holds it, the rule concerned (branch, jump, load or
-- store) and the label of that instruction." The run's answer is r, and `after` are the areas after it.
pub record Brought (f costs : List ℕ) (a : Areas) (r : RunAnswer) (after : Areas) : Type 0 where
  pub first : (l : ℕ) → l < limit → member r.full l ≡ true → FirstWith l (observed_in f costs a) (report_of r l)
  pub stands : {n : Counts} {v : Verdict} → r.outcome ≡ Ok (judged n v)
      → (l : ℕ) → l < limit → member r.full l ≡ true → Stands n (trace_in r after) (report_of r l)
  pub instruction : (job : Job) → parse f ≡ accepted job
      → (l : ℕ) → l < limit → member r.full l ≡ true → Labelled job.code (report_of r l)
  -- of any other location nothing is reported, and of none where the job is refused
  pub nothing : (l : ℕ) → member r.full l ≡ false → report_of r l ≡ no_report

-- ---- the wrong paths
-- "At most w + 1 branches are open, and a live wrong path holds at most w changes of a place.": of every machine that a mispredicting run of
-- the job comes to, by the costs and with whatever state, and of the changes that are live there. At one of these machines every such run
-- stops, with whatever budget and room, so that none is left out.
pub record WrongPathsBounded (f costs : List ℕ) : Type 0 where
  pub bounded : (job : Job) → tabled (parse f) costs ≡ accepted job → (vs : List ℕ) {M : Machine} {us : UndoLog} → Live (with_state job vs) M us
      → (length M.branches ≤ job.code.window + 1) × (size us ≤ job.code.window)
  pub stops : (job : Job) → tabled (parse f) costs ≡ accepted job → (vs : List ℕ) (budget room : ℕ)
      → (us : UndoLog) × Live (with_state job vs) (run (step job.code) job.code room budget (first (with_state job vs)) blank).last us

-- ---- the pair of states
-- "the job's state and a second one": the words of the second state's bytes
unfoldable pub second_state : List ℕ → List ℕ → List ℕ
second_state f second = words_at (locations (trailer f)) second 0

abbrev pub AlikePublic : List ℕ → List ℕ → Type 0
AlikePublic f second = AlikeOn (public_of (trailer f) f) (state_of (trailer f) f) (second_state f second)

-- g is a job file with the second state, and the same but for the state's bytes
pub record SecondJob (f second g : List ℕ) : Type 0 where
  pub same : SameButState f g
  pub state : state_of (trailer f) g ≡ second_state f second

-- areas for a run of either job: as much room for the trace as the pair has, and no shortage
pub record RunAreas (f : List ℕ) (a : PairAreas) (p : Areas) : Type 0 where
  pub trace : length p.trace ≡ length a.first
  pub end : locations (trailer f) + table_size ≤ length p.end
  pub work : working_words ≤ length p.work

-- the plain runs of the two jobs have one trace; or two
pub record SamePlain (f second : List ℕ) (a : PairAreas) : Type 0 where
  pub same : (g : List ℕ) (p p' : Areas) → SecondJob f second g → RunAreas f a p → RunAreas f a p' → plain_trace_of f p ≡ plain_trace_of g p'

pub record OtherPlain (f second : List ℕ) (a : PairAreas) : Type 0 where
  pub other : (g : List ℕ) (p p' : Areas) → SecondJob f second g → RunAreas f a p → RunAreas f a p' → plain_trace_of f p ≡ plain_trace_of g p' → ⊥

pub record BothFinished (n n' : Counts) : Type 0 where
  pub first : n.stop ≡ Finished
  pub second : n'.stop ≡ Finished

-- the two traces that were written are one
pub record SameTraces (n n' : Counts) (after : PairAreas) : Type 0 where
  pub same : take (2 * n.observations) after.first ≡ take (2 * n'.observations) after.second

-- What each word says: "not comparable (they differ at a public location), undecided (either run not finished), plain differs
-- (plain traces differ), leak shown (full traces differ), equal", each where those before it do not fit.
abbrev pub Means : PairWord → List ℕ → List ℕ → PairAreas → Counts → Counts → PairAreas → Type 0
Means words.NotComparable f second a n n' after = AlikePublic f second → ⊥
Means words.Undecided f second a n n' after = AlikePublic f second × (BothFinished n n' → ⊥)
Means words.PlainDiffers f second a n n' after = AlikePublic f second × BothFinished n n' × OtherPlain f second a
Means words.LeakShown f second a n n' after =
    AlikePublic f second × BothFinished n n' × SamePlain f second a × (SameTraces n n' after → ⊥)
Means words.Equal f second a n n' after = AlikePublic f second × BothFinished n n' × SamePlain f second a × SameTraces n n' after

pub record PairMeaning (f second : List ℕ) (a : PairAreas) (r : PairAnswer) (after : PairAreas) : Type 0 where
  pub compared : {word : PairWord} {n n' : Counts} → r ≡ Ok (paired word n n') → Means word f second a n n' after
