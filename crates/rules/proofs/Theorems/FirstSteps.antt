-- The reports of a mispredicting run: a step that observes a set with a location in it makes an observation of its rule's kind and carries out
-- an instruction of that rule; so each report has its observation in the trace, or is that of a store that stopped the run.
-- Assumes nothing.
use Rattle.std.proofs.Math.Path.{◌≡◌, refl, ap}
use Rattle.std.proofs.Common.{sym, ◌∙◌, true≢false, arith}
use Rattle.std.specs.Prelude.{Bool, false, ◌||◌, ℕ, ◌<◌, length}
use Rattle.std.proofs.Math.Bool.{true}
use mathlib.Core.List.{List, [], ◌∷◌, ◌++◌, append_assoc}
use Rattle.std.proofs.Math.Decide.{dec_lt}
use Rattle.std.proofs.Math.ListN.{get_or-eq_default}
use Rattle.location.specs.Sets.{member, empty}
use Rattle.location.specs.SetLaws.{member-empty}
use Rattle.rules.specs.declared.Stop.{Stop}
use Rattle.rules.specs.declared.Stop.TheVariants.{Finished, Spent, TraceFull, OutsideFull}
use Rattle.rules.specs.declared.Cause.{Cause}
use Rattle.rules.specs.declared.Cause.TheVariants.{Store}
use Rattle.rules.specs.declared.First.{First}
use Rattle.rules.specs.Rules.Instructions.{Instr, skip, assign, load, store, jmp, beqz, cassign, spbarr, other, branch_view, Observation}
use Rattle.rules.specs.Rules.Firsts.{ObservedSet, first_holding, held}
use Rattle.rules.specs.Rules.Plain.{Code, end_place, fetch, exec}
use Rattle.rules.specs.Rules.Mispredicting.{Machine, Step, ordinary, opening, forward, rolling, step}
use Rattle.rules.specs.Rules.Loop.{ended}
use Rattle.rules.specs.Rules.Runs.{Gathered, Result, observed_set, note, note_unmade, Job, first, blank, run, mispredicting_run}
use Rattle.rules.specs.Rules.Demands.{cause_kind, ObservesBy, branch, jump, loading, storing, Labelled}
use Rattle.rules.proofs.Theorems.RunLaws.{run_ind}
use Rattle.rules.proofs.Theorems.Firsts.{held_one, first-kept, first-later, first_one}
use Rattle.rules.proofs.Theorems.StepLaws.{forward_cases, step_cases}

-- ---- one step
-- what a step of the instruction i shows that observes a set with a location in it: its first observation, and the rule
record Shows (i : Instr) (s : Step) : Type 0 where
  found : Observation
  rest : List Observation
  obs : s.obs ≡ found ∷ rest
  kind : found.kind ≡ cause_kind s.cause
  rule : ObservesBy i s.cause

-- no location is in the empty set
not_empty : {P : Type 0} (l : ℕ) → member empty l ≡ true → P
not_empty l e = absurd (true≢false (sym e ∙ member-empty l))

module _ (code : Code) (M : Machine) where
  ordinary_shows : (i : Instr) → branch_view i ≡ other → (l : ℕ) → member (ordinary code M i).seen l ≡ true → Shows i (ordinary code M i)
  unfolding ordinary exec
  ordinary_shows skip q l e = not_empty l e
  ordinary_shows (assign r x) q l e = not_empty l e
  ordinary_shows (load r x) q l e = record { found = _; rest = []; obs = refl; kind = refl; rule = loading r x }
  ordinary_shows (store r x) q l e = record { found = _; rest = []; obs = refl; kind = refl; rule = storing r x }
  ordinary_shows (jmp x) q l e = record { found = _; rest = []; obs = refl; kind = refl; rule = jump x }
  ordinary_shows (beqz r k) q l e = absurd (let z : ◌≡◌ {A = ℕ} 0 1 = cc in omega arith)
  ordinary_shows (cassign r c x) q l e = not_empty l e
  ordinary_shows spbarr q l e = not_empty l e

  opening_shows : (r k l : ℕ) → member (opening code M r k).seen l ≡ true → Shows (beqz r k) (opening code M r k)
  unfolding opening
  opening_shows r k l e = record { found = _; rest = _; obs = refl; kind = refl; rule = branch r k }

  -- only a store can need one address too many
  ordinary-overfull : (i : Instr) → branch_view i ≡ other → (ordinary code M i).overfull ≡ true → (ordinary code M i).cause ≡ Store
  unfolding ordinary exec
  ordinary-overfull skip q e = absurd (true≢false (sym e))
  ordinary-overfull (assign r x) q e = absurd (true≢false (sym e))
  ordinary-overfull (load r x) q e = absurd (true≢false (sym e))
  ordinary-overfull (store r x) q e = refl
  ordinary-overfull (jmp x) q e = absurd (true≢false (sym e))
  ordinary-overfull (beqz r k) q e = absurd (true≢false (sym e))
  ordinary-overfull (cassign r c x) q e = absurd (true≢false (sym e))
  ordinary-overfull spbarr q e = absurd (true≢false (sym e))

module _ (code : Code) where
  step_shows : (M : Machine) (l : ℕ) → member (step code M).seen l ≡ true → Shows (fetch code M.place) (step code M)
  unfolding rolling
  step_shows =
      step_cases code (λ M s. (l : ℕ) → member s.seen l ≡ true → Shows (fetch code M.place) s)
      (λ σ p n. carried _ (fetch code p)) (λ σ p n b bs l e. not_empty l e) (λ σ p n b bs x. carried _ (fetch code p))
    where
      carried : (M : Machine) (i : Instr) (l : ℕ) → member (forward code M i).seen l ≡ true → Shows i (forward code M i)
      carried M = forward_cases code M (λ i s. (l : ℕ) → member s.seen l ≡ true → Shows i s) (ordinary_shows code M) (opening_shows code M)

  step-overfull : (M : Machine) → (step code M).overfull ≡ true → (step code M).cause ≡ Store
  unfolding rolling opening
  step-overfull =
      step_cases code (λ M s. s.overfull ≡ true → s.cause ≡ Store)
      (λ σ p n. carried _ (fetch code p)) (λ σ p n b bs e. absurd (true≢false (sym e))) (λ σ p n b bs x. carried _ (fetch code p))
    where
      carried : (M : Machine) (i : Instr) → (forward code M i).overfull ≡ true → (forward code M i).cause ≡ Store
      carried M =
          forward_cases code M (λ i s. s.overfull ≡ true → s.cause ≡ Store) (ordinary-overfull code M) (λ r l e. absurd (true≢false (sym e)))

-- ---- the label
by-skip : {P : Type 0} {i : Instr} {c : Cause} → ObservesBy i c → i ≡ skip → P
by-skip (branch r l) e = absurd (let z : ◌≡◌ {A = ℕ} 0 1 = cc in omega arith)
by-skip (jump x) e = absurd (let z : ◌≡◌ {A = ℕ} 0 1 = cc in omega arith)
by-skip (loading r x) e = absurd (let z : ◌≡◌ {A = ℕ} 0 1 = cc in omega arith)
by-skip (storing r x) e = absurd (let z : ◌≡◌ {A = ℕ} 0 1 = cc in omega arith)

-- past the end of the program nothing is observed
rule-below : (code : Code) (p : ℕ) {c : Cause} → ObservesBy (fetch code p) c → p < end_place code
unfolding end_place fetch
rule-below code p {c} h = go (dec_lt p (length code.prog))
  where
    go : Dec (p < length code.prog) → p < length code.prog
    go (yes lt) = lt
    go (no n) = by-skip h (get_or-eq_default code.prog skip {n = p} (omega arith))

-- ---- one set more
-- what holds of each report of the sets xs and of that of x, where x holds a location, holds of each report of both
one_more : (P : First → Type 0) (xs : List ObservedSet) (x : ObservedSet)
    → ((l : ℕ) → held xs l ≡ true → P (first_holding xs l)) → ((l : ℕ) → member x.set l ≡ true → P x.report)
    → (l : ℕ) → held (xs ++ (x ∷ [])) l ≡ true → P (first_holding (xs ++ (x ∷ [])) l)
one_more P xs x old new l e = go (held xs l) (member x.set l) refl refl (sym (held_one xs x l) ∙ e)
  where
    go : (b c : Bool) → held xs l ≡ b → member x.set l ≡ c → (b || c) ≡ true → P (first_holding (xs ++ (x ∷ [])) l)
    go true c p q e = rw (first-kept xs (x ∷ []) l p) (old l p)
    go false true p q e = rw (first-later xs (x ∷ []) l p, first_one x l, q) (new l q)
    go false false p q e = absurd (true≢false (sym e))

-- ---- a run
-- the trace has an observation of the rule's kind at a report's index
pub record InTrace (trace : List Observation) (x : First) : Type 0 where
  pub before : List Observation
  pub found : Observation
  pub after : List Observation
  pub split : trace ≡ before ++ found ∷ after
  pub index : length before ≡ x.index
  pub kind : found.kind ≡ cause_kind x.cause

-- so does a longer one
longer : (trace os : List Observation) (x : First) → InTrace trace x → InTrace (trace ++ os) x
longer trace os x t = record {
  before = t.before;
  found = t.found;
  after = t.after ++ os;
  split = ap (λ (ts : List Observation). ts ++ os) t.split ∙ append_assoc t.before (t.found ∷ t.after) os;
  index = t.index;
  kind = t.kind;
}

-- a report has its observation in the trace of a run, or is that of a store that stopped it
pub data Shown (r : Result) (x : First) : Type 0 where
  traced : InTrace r.gathered.trace x → Shown r x
  unmade : x.index ≡ length r.gathered.trace → r.stop ≡ OutsideFull → x.cause ≡ Store → Shown r x

module _ (code : Code) where
  -- the reports of what was gathered so far
  record Reports (g : Gathered) : Type 0 where
    traced : (l : ℕ) → held g.sets l ≡ true → InTrace g.trace (first_holding g.sets l)
    labelled : (l : ℕ) → held g.sets l ≡ true → Labelled code (first_holding g.sets l)

  -- and those of a run
  pub record RunReports (r : Result) : Type 0 where
    pub shown : (l : ℕ) → held r.gathered.sets l ≡ true → Shown r (first_holding r.gathered.sets l)
    pub labelled : (l : ℕ) → held r.gathered.sets l ≡ true → Labelled code (first_holding r.gathered.sets l)

  module _ (M : Machine) (g : Gathered) where
    -- the report of the set that a step observes
    new-traced : (l : ℕ) → member (step code M).seen l ≡ true → InTrace (g.trace ++ (step code M).obs) (observed_set M (step code M) g).report
    unfolding observed_set
    new-traced l e =
        let s = step_shows code M l e in
        record {
          before = g.trace;
          found = s.found;
          after = s.rest;
          split = ap (λ (os : List Observation). g.trace ++ os) s.obs;
          index = refl;
          kind = s.kind;
        }

    new-labelled : (l : ℕ) → member (step code M).seen l ≡ true → Labelled code (observed_set M (step code M) g).report
    unfolding observed_set
    new-labelled l e = let s = step_shows code M l e in record { below = rule-below code M.place s.rule; rule = s.rule }

    abbrev more : List ObservedSet
    more = g.sets ++ (observed_set M (step code M) g ∷ [])

    more-labelled : Reports g → (l : ℕ) → held more l ≡ true → Labelled code (first_holding more l)
    unfolding observed_set
    more-labelled h = one_more (Labelled code) g.sets (observed_set M (step code M) g) h.labelled new-labelled

    note-reports : Reports g → Reports (note M (step code M) g)
    unfolding note observed_set
    note-reports h = record {
      traced = one_more (InTrace (g.trace ++ (step code M).obs)) g.sets (observed_set M (step code M) g)
          (λ l e. longer g.trace (step code M).obs (first_holding g.sets l) (h.traced l e)) new-traced;
      labelled = more-labelled h;
    }

    unmade-reports : Reports g → (step code M).overfull ≡ true → RunReports (ended OutsideFull M (note_unmade M (step code M) g))
    unfolding ended note_unmade observed_set
    unmade-reports h o = record {
      shown = one_more (Shown (ended OutsideFull M (note_unmade M (step code M) g))) g.sets (observed_set M (step code M) g)
          (λ l e. traced (h.traced l e)) (λ l e. unmade refl refl (step-overfull code M o));
      labelled = more-labelled h;
    }

    ended-reports : (x : Stop) → Reports g → RunReports (ended x M g)
    unfolding ended
    ended-reports x h = record { shown = λ l e. traced (h.traced l e); labelled = h.labelled }

  run-reports : (room k : ℕ) (M : Machine) (g : Gathered) → Reports g → RunReports (run (step code) code room k M g)
  run-reports room =
      run_ind (step code) code room (λ k M g r. Reports g → RunReports r)
      (λ k M g e h. ended-reports M g Finished h) (λ M g e h. ended-reports M g Spent h) (λ k M g e x h. ended-reports M g TraceFull h)
      (λ k M g e x o h. unmade-reports M g h o) (λ k M g e x p h. p (note-reports M g h))

pub mispredicting_reports : (job : Job) (room : ℕ) → RunReports job.code (mispredicting_run job room)
unfolding mispredicting_run blank held
mispredicting_reports job room =
    run-reports job.code room job.budget (first job) blank
    (record { traced = λ l e. absurd (true≢false (sym e)); labelled = λ l e. absurd (true≢false (sym e)) })
