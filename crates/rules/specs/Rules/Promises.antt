-- What each call promises, in one record. Its contract states it of the bytes and areas that the call is given, of the very answer r
-- that it returns and of the areas as it leaves them (`after`).
--   exact      demands 1 and 2: the answer and every word of every lent area are those of the rules, for refused jobs too;
--   unaltered  demand 1: a refusal leaves every area as it was;
--   plainly    demand 2: where a run finishes, its trace with each outermost wrong path struck out is the plain run's trace, and the
--              end states are equal;
--   secret     demand 3: a second state that is alike on the reported set (with a clean verdict: on the public list) gives the same
--              trace, counts, stop, sets and verdict, and remembers the same addresses outside the image, with the same values where
--              their sets lie in the reported set;
--   brought    F-6: of each location of D the first observation whose set holds it, with its index in the trace, its rule and the label of
--              its instruction; of no other location anything;
--   fixed      F-7: a table of eight ones gives every earlier answer, that of the call by the fixed table, and leaves the same areas;
--   bounded    with any table at most w + 1 branches are open, and a live wrong path holds at most w changes;
--   meaning    what each word on a pair says of the two traces and of the two plain runs.
-- Assumes nothing.
use Rattle.std.specs.Prelude.{◌≡◌, List, ℕ}
use Rattle.std.specs.Borrow.{MutBor}
use denote.Triple.Both.{Both}
use Rattle.rules.specs.declared.RunAnswer.{RunAnswer}
use Rattle.rules.specs.declared.PlainAnswer.{PlainAnswer}
use Rattle.rules.specs.Rules.Outcomes.{PairAnswer}
use Rattle.rules.specs.Rules.Instructions.{window_costs}
use Rattle.rules.specs.Rules.Answers.{run_refusal, plain_refusal, pair_refusal}
use Rattle.rules.specs.Rules.Calls.{Areas, lent, fixed_run_call, run_call, plain_call}
use Rattle.rules.specs.Rules.Pairs.{PairAreas, pair_lent, fixed_pair_call, pair_call}
use Rattle.rules.specs.Rules.Demands.{Exact, Unaltered, Demand2, Demand3, Brought, WrongPathsBounded, PairMeaning}

pub record RunPromise (f costs : List ℕ) (before : Areas) (r : RunAnswer) (after : Areas) : Type 0 where
  pub exact : Exact (run_call f costs before) r after
  pub unaltered : Unaltered run_refusal r before after
  pub plainly : Demand2 f before r after
  pub secret : Demand3 f costs before r after
  pub brought : Brought f costs before r after
  pub fixed : costs ≡ window_costs → Exact (fixed_run_call f before) r after
  pub bounded : WrongPathsBounded f costs

pub record PlainPromise (f : List ℕ) (before : Areas) (r : PlainAnswer) (after : Areas) : Type 0 where
  pub exact : Exact (plain_call f before) r after
  pub unaltered : Unaltered plain_refusal r before after

pub record PairPromise (f second costs : List ℕ) (before : PairAreas) (r : PairAnswer) (after : PairAreas) : Type 0 where
  pub exact : Exact (pair_call f second costs before) r after
  pub unaltered : Unaltered pair_refusal r before after
  pub meaning : PairMeaning f second before r after
  pub fixed : costs ≡ window_costs → Exact (fixed_pair_call f second before) r after
  pub bounded : WrongPathsBounded f costs

-- ---- the lent areas in a contract
-- a lent area of words as a contract names it: as it is when the call begins, and as it is when the call returns
abbrev pub LentArea : Type 0
LentArea = Both (MutBor (List ℕ)) (MutBor (List ℕ))

abbrev pub areas_at_entry : LentArea → LentArea → LentArea → Areas
areas_at_entry trace ends work = lent trace.entry.now ends.entry.now work.entry.now

abbrev pub areas_at_exit : LentArea → LentArea → LentArea → Areas
areas_at_exit trace ends work = lent trace.exit.now ends.exit.now work.exit.now

abbrev pub pair_at_entry : LentArea → LentArea → LentArea → PairAreas
pair_at_entry first second work = pair_lent first.entry.now second.entry.now work.entry.now

abbrev pub pair_at_exit : LentArea → LentArea → LentArea → PairAreas
pair_at_exit first second work = pair_lent first.exit.now second.exit.now work.exit.now
