-- Job files for the tables, laid out byte by byte, and the rows of the tables.
-- Assumes nothing.
use Rattle.std.specs.Prelude.{Bool, true, List, [], ◌∷◌, ◌++◌, ℕ, ◌+◌, ◌-◌, ◌*◌, length, set, replicate, Ok}
use Rattle.location.specs.declared.LocationSet.{LocationSet}
use Rattle.location.specs.Sets.{limit, empty, single, union}
use Rattle.rules.specs.declared.Stop.{Stop}
use Rattle.rules.specs.declared.Verdict.{Verdict}
use Rattle.rules.specs.declared.Counts.{Counts}
use Rattle.rules.specs.declared.Cause.{Cause}
use Rattle.rules.specs.declared.First.{First}
use Rattle.rules.specs.declared.RunAnswer.{RunAnswer}
use Rattle.rules.specs.declared.PlainAnswer.{PlainAnswer}
use Rattle.rules.specs.declared.Tagged.{Tagged}
use Prim.Native.String.{String}
use Rattle.rules.specs.Rules.Outcomes.{PairAnswer, TestLoadAnswer, judged}
use Rattle.rules.specs.Rules.Answers.{cause_number, text}
use Rattle.rules.specs.Rules.Expressions.{tagged}
use Rattle.rules.specs.Rules.Instructions.{window_costs}
use Rattle.rules.specs.Rules.Firsts.{no_report}
use Rattle.rules.specs.Rules.Plain.{Entry, at}
use Rattle.rules.specs.Rules.Runs.{mispredicting_run, plain_run}
use Rattle.rules.specs.Rules.JobFile.{Parsed, accepted, rejected, parse}
use Rattle.rules.specs.Rules.Calls.{Areas, Called, run_call, plain_call}
use Rattle.rules.specs.Rules.Pairs.{with_state, same_words, same_trace, PairAreas, pair_call}
use Rattle.rules.specs.Rules.TestLoads.{new_words, new_state, TestLoadAreas, test_load_call}
use Rattle.rules.specs.Rules.Listing.{listing}
use Rattle.rules.specs.Rules.Encoding.{bytes_of, word_bytes}

-- ---- files
abbrev pub zeros : ℕ → List ℕ
zeros n = replicate n 0

-- the trailer with its seven numbers
unfoldable pub trailer_bytes : ℕ → ℕ → ℕ → ℕ → ℕ → ℕ → ℕ → List ℕ
trailer_bytes s q n m w z b = bytes_of 2 s ++ bytes_of 2 q ++ bytes_of 2 n ++ bytes_of 2 m ++ bytes_of 2 w ++ bytes_of 2 z ++ bytes_of 4 b

-- a program of n instructions, a state of 16 + m words, a public list of four words, a window and a budget
unfoldable pub file : List ℕ → ℕ → List ℕ → List ℕ → ℕ → ℕ → List ℕ
file prog n state public w b =
    let s = length prog in
    let m = length state - 16 in
    prog ++ word_bytes state ++ word_bytes public ++ trailer_bytes s (s + 128 + 8 * m) n m w 0 b

-- the bytes of some lines
unfoldable pub lines : List String → List ℕ
lines [] = []
lines (l ∷ ls) = text l ++ (10 ∷ lines ls)

-- ---- answers
-- the set of some locations
unfoldable pub set_of : List ℕ → LocationSet
set_of [] = empty
set_of (l ∷ ls) = union (single l) (set_of ls)

abbrev pub counted : Stop → ℕ → ℕ → ℕ → Counts
counted stop observations steps rollbacks = record { stop = stop; observations = observations; steps = steps; rollbacks = rollbacks }

-- an answer by its stop, counts of observations, steps and rollbacks, the locations of D and of the plain set, and verdict, without
-- its reports
unfoldable pub ran : Stop → ℕ → ℕ → ℕ → List ℕ → List ℕ → Verdict → RunAnswer
ran stop observations steps rollbacks full plain word = record {
  outcome = Ok (judged (counted stop observations steps rollbacks) word);
  full = set_of full;
  plain = set_of plain;
  firsts = [];
}

-- an answer without its reports, which have rows of their own
unfoldable pub unreported : RunAnswer → RunAnswer
unreported r = record { outcome = r.outcome; full = r.full; plain = r.plain; firsts = [] }

-- a report: the location, the index, the rule and the label
pub record Report : Type 0 where
  pub location : ℕ
  pub first : First

abbrev pub report : ℕ → ℕ → Cause → ℕ → Report
report l index cause label = record { location = l; first = record { index = index; label = label; cause = cause } }

-- the reports of all locations: these, and nothing of any other location
unfoldable pub reports : List Report → List First
reports [] = replicate limit no_report
reports (r ∷ rs) = set (reports rs) r.location r.first

-- as words
unfoldable pub report_words : List First → List ℕ
report_words [] = []
report_words (x ∷ xs) = x.index ∷ cause_number x.cause ∷ x.label ∷ report_words xs

-- a plain run's answer by its stop, counts of observations and steps, and the locations of its plain set
unfoldable pub plain_ran : Stop → ℕ → ℕ → List ℕ → PlainAnswer
plain_ran stop observations steps rests = record {
  outcome = Ok (record { stop = stop; observations = observations; steps = steps });
  plain = set_of rests;
}

-- ---- rows
-- A row that names no table of costs has eight ones.
pub data Row : Type 0 where
  -- a run and a plain run: the job, the words of the trace area, the words written to its front, the answer
  run : List ℕ → ℕ → List ℕ → RunAnswer → Row
  plain : List ℕ → ℕ → List ℕ → PlainAnswer → Row
  -- a pair: the job, the second state, the words of each trace area, the words written to each, the answer
  pair : List ℕ → List ℕ → ℕ → List ℕ → List ℕ → PairAnswer → Row
  -- a listing: the job and the printed bytes
  prints : List ℕ → List ℕ → Row
  -- all areas before a run, a plain run, a pair or a test load with its seed, the answer, and all areas after it
  leaves : List ℕ → Areas → RunAnswer → Areas → Row
  plain_leaves : List ℕ → Areas → PlainAnswer → Areas → Row
  pair_leaves : List ℕ → List ℕ → PairAreas → PairAnswer → PairAreas → Row
  test_leaves : List ℕ → ℕ → TestLoadAreas → TestLoadAnswer → TestLoadAreas → Row
  -- a run by a table: the job, the table, the words of the trace area, the words written to its front, the answer
  costed : List ℕ → List ℕ → ℕ → List ℕ → RunAnswer → Row
  -- all areas before a run, a pair or a test load by a table, the answer, and all areas after it
  costed_leaves : List ℕ → List ℕ → Areas → RunAnswer → Areas → Row
  costed_pair : List ℕ → List ℕ → List ℕ → PairAreas → PairAnswer → PairAreas → Row
  costed_load : List ℕ → ℕ → List ℕ → TestLoadAreas → TestLoadAnswer → TestLoadAreas → Row
  -- the word with its set at a location after a run
  holds : List ℕ → ℕ → Tagged → Row
  -- all areas before a run, the answer, and every word of the end area after it
  ends : List ℕ → Areas → RunAnswer → List ℕ → Row
  -- the entries of the table of stores outside the image after a run
  keeps : List ℕ → List Entry → Row
  -- a run: the job, the words of the trace area, and what is reported of the locations of D
  brings : List ℕ → ℕ → List Report → Row
  -- the words that are made from a seed
  makes : ℕ → List ℕ → Row
  -- the job, a seed, the stop of the job's own run, and whether the plain trace of the new state is the job's
  plainly : List ℕ → ℕ → Stop → Bool → Row

-- What is compared: an answer with trace areas, whether a listing is the wanted one, an answer with all areas, an answer with whether the
-- end area is the wanted one, a word with its set, a table, whether the reports are the wanted ones, words that are made, a stop with whether
-- two traces are the same; or that the job is refused. Where there are many words, whether they are the wanted ones computes in far fewer
-- steps than the words side by side.
pub data Seen : Type 0 where
  ran_to : RunAnswer → List ℕ → Seen
  plain_to : PlainAnswer → List ℕ → Seen
  paired_to : PairAnswer → List ℕ → List ℕ → Seen
  printed : Bool → Seen
  left : RunAnswer → Areas → Seen
  plain_left : PlainAnswer → Areas → Seen
  pair_left : PairAnswer → PairAreas → Seen
  test_left : Called TestLoadAnswer TestLoadAreas → Seen
  ended_as : RunAnswer → Bool → Seen
  word : Tagged → Seen
  table : List Entry → Seen
  brought : Bool → Seen
  made : List ℕ → Seen
  compared : Stop → Bool → Seen
  refused : Seen

-- the lent areas hold 7 before the call; the end area is long enough for every job
unfoldable pub areas : ℕ → Areas
areas n = record { trace = replicate n 7; end = replicate 385 7; work = replicate 4096 7 }

unfoldable pub pair_areas : ℕ → PairAreas
pair_areas n = record { first = replicate n 7; second = replicate n 7; work = replicate 4096 7 }

-- so many words, written from the front
unfoldable pub front : ℕ → List ℕ → List ℕ
front n ws = ws ++ replicate (n - length ws) 7

-- the word with its set at a location, as the run of an accepted job leaves it
unfoldable pub last_at : Parsed → ℕ → Tagged
last_at (accepted job) l = at (mispredicting_run job 512).last.state l
last_at (rejected r) l = tagged 0 empty

-- the table as the run of an accepted job leaves it
unfoldable pub last_table : Parsed → List Entry
last_table (accepted job) = (mispredicting_run job 512).last.state.outside
last_table (rejected r) = []

-- what becomes of the plain trace under the rule for a new state, also where the job's own run has not finished
unfoldable pub plain_traces : Parsed → ℕ → Seen
plain_traces (rejected r) seed = refused
plain_traces (accepted job) seed =
    let own = mispredicting_run job 512 in
    let new = with_state job (new_state job own seed) in
    compared own.stop (same_trace (plain_run job 512).gathered.trace (plain_run new 512).gathered.trace)

-- each call is computed once
unfoldable pub given : Row → Seen
given (run job n trace answer) =
    let c = run_call job window_costs (areas n) in
    ran_to (unreported c.answer) c.areas.trace
given (pair job second n trace trace' answer) =
    let c = pair_call job second window_costs (pair_areas n) in
    paired_to c.answer c.areas.first c.areas.second
given (prints job bytes) = printed (same_words (listing job) bytes)
given (plain job n trace answer) =
    let c = plain_call job (areas n) in
    plain_to c.answer c.areas.trace
given (leaves job before answer after) =
    let c = run_call job window_costs before in
    left (unreported c.answer) c.areas
given (plain_leaves job before answer after) =
    let c = plain_call job before in
    plain_left c.answer c.areas
given (pair_leaves job second before answer after) =
    let c = pair_call job second window_costs before in
    pair_left c.answer c.areas
given (ends job before answer after) =
    let c = run_call job window_costs before in
    ended_as (unreported c.answer) (same_words c.areas.end after)
given (costed job costs n trace answer) =
    let c = run_call job costs (areas n) in
    ran_to (unreported c.answer) c.areas.trace
given (costed_leaves job costs before answer after) =
    let c = run_call job costs before in
    left (unreported c.answer) c.areas
given (costed_pair job second costs before answer after) =
    let c = pair_call job second costs before in
    pair_left c.answer c.areas
given (costed_load job seed costs before answer after) = test_left (test_load_call job seed costs before)
given (holds job l t) = word (last_at (parse job) l)
given (keeps job es) = table (last_table (parse job))
given (brings job n rs) = brought (same_words (report_words (run_call job window_costs (areas n)).answer.firsts) (report_words (reports rs)))
given (test_leaves job seed before answer after) = test_left (test_load_call job seed window_costs before)
given (makes seed ws) = made (new_words empty 0 seed (zeros (length ws)))
given (plainly job seed stop same) = plain_traces (parse job) seed

unfoldable pub wanted : Row → Seen
wanted (run job n trace answer) = ran_to (unreported answer) (front n trace)
wanted (pair job second n trace trace' answer) = paired_to answer (front n trace) (front n trace')
wanted (prints job bytes) = printed true
wanted (plain job n trace answer) = plain_to answer (front n trace)
wanted (leaves job before answer after) = left (unreported answer) after
wanted (plain_leaves job before answer after) = plain_left answer after
wanted (pair_leaves job second before answer after) = pair_left answer after
wanted (ends job before answer after) = ended_as (unreported answer) true
wanted (costed job costs n trace answer) = ran_to (unreported answer) (front n trace)
wanted (costed_leaves job costs before answer after) = left (unreported answer) after
wanted (costed_pair job second costs before answer after) = pair_left answer after
wanted (costed_load job seed costs before answer after) = test_left (record { answer = answer; areas = after })
wanted (holds job l t) = word t
wanted (keeps job es) = table es
wanted (brings job n rs) = brought true
wanted (test_leaves job seed before answer after) = test_left (record { answer = answer; areas = after })
wanted (makes seed ws) = made ws
wanted (plainly job seed stop same) = compared stop same

unfoldable pub all_given : List Row → List Seen
all_given [] = []
all_given (r ∷ rs) = given r ∷ all_given rs

unfoldable pub all_wanted : List Row → List Seen
all_wanted [] = []
all_wanted (r ∷ rs) = wanted r ∷ all_wanted rs
