-- The table of window costs: an accepted one has an entry of 1 to 16 for each kind of instruction; the fixed one is accepted and gives what
-- was read of the file unchanged; and a plain run is the same by any table.
-- Assumes nothing.
use Rattle.std.specs.Prelude.{◌≡◌, Bool, true, false, ◌&&◌, ℕ, zero, suc, ◌<◌, ◌≤◌, eqb, leb, length}
use Rattle.std.proofs.Math.Path.{refl, sym}
use Rattle.std.proofs.Common.{ap, ◌∙◌, arith, eqb-true, leb-true}
use mathlib.Core.List.{List, [], ◌∷◌}
use Rattle.std.proofs.Math.ListN.{get_or}
use Rattle.location.specs.SetLaws.{and_left, and_right}
use Rattle.rules.specs.declared.Refusal.{Refusal}
use Rattle.rules.specs.declared.Refusal.TheVariants as refusals
use Rattle.rules.specs.Rules.Limits.{kinds, min_cost, max_cost}
use Rattle.rules.specs.Rules.Instructions.{Instr, skip, assign, load, store, jmp, beqz, cassign, spbarr, kind, window_costs}
use Rattle.rules.specs.Rules.Firsts.{cause_of}
use Rattle.rules.specs.Rules.Plain.{State, Code, end_place, fetch, loaded_from, stored_to, store_overfull, exec}
use Rattle.rules.specs.Rules.Mispredicting.{Branch, Machine, lower, ordinary, plain_step}
use Rattle.rules.specs.Rules.Runs.{over_on, over, Job, first, blank, plain_run}
use Rattle.rules.specs.Rules.JobFile.{Parsed, accepted, rejected, parse}
use Rattle.rules.specs.Rules.Costs.{entries_fit, costs_fit, with_costs, tabled}
use Rattle.rules.proofs.Theorems.RunLaws.{run-same}
use Rattle.rules.proofs.Theorems.PlainSecrecy.{stays_closed}
use Rattle.rules.proofs.Theorems.JobLaws.{rejected-accepted, passed, job-costs}
use Rattle.rules.specs.Theorems.Bounds.{PositiveCosts}

-- ---- the entries of an accepted table
pub fit_length : (cs : List ℕ) → costs_fit cs ≡ true → length cs ≡ kinds
unfolding costs_fit
fit_length cs e = eqb-true (length cs) kinds (and_left (eqb (length cs) kinds) (entries_fit cs) e)

pub fit_entries : (cs : List ℕ) → costs_fit cs ≡ true → entries_fit cs ≡ true
unfolding costs_fit
fit_entries cs e = and_right (eqb (length cs) kinds) (entries_fit cs) e

-- "Each entry must be 1 to 16."
pub entry-fits : (cs : List ℕ) (k : ℕ) → entries_fit cs ≡ true → k < length cs → (min_cost ≤ get_or cs k 0) × (get_or cs k 0 ≤ max_cost)
unfolding entries_fit
entry-fits [] k e h = absurd (omega arith)
entry-fits (c ∷ cs) zero e h =
    let q = and_left (leb min_cost c && leb c max_cost) (entries_fit cs) e in
    (leb-true min_cost c (and_left (leb min_cost c) (leb c max_cost) q), leb-true c max_cost (and_right (leb min_cost c) (leb c max_cost) q))
entry-fits (c ∷ cs) (suc k) e h = entry-fits cs k (and_right (leb min_cost c && leb c max_cost) (entries_fit cs) e) (omega arith)

-- "one per kind": every instruction has an entry
pub kind-below : (i : Instr) → kind i < kinds
kind-below skip = omega arith
kind-below (assign r e) = omega arith
kind-below (load r e) = omega arith
kind-below (store r e) = omega arith
kind-below (jmp e) = omega arith
kind-below (beqz r l) = omega arith
kind-below (cassign r c e) = omega arith
kind-below spbarr = omega arith

pub fit-positive : (cs : List ℕ) → costs_fit cs ≡ true → PositiveCosts cs
fit-positive cs e = record {
  each = λ i. let n = fit_length cs e in let k = kind-below i in (entry-fits cs (kind i) (fit_entries cs e) (omega arith)).0;
}

-- ---- what was read of a file, with a table
-- where it is accepted, the file was, and the table
pub record Tabled (f cs : List ℕ) (job : Job) : Type 0 where
  pub read : Job
  pub parsed : parse f ≡ accepted read
  pub fits : costs_fit cs ≡ true
  pub same : job ≡ with_costs read cs

pub tabled-accepted : (f cs : List ℕ) (read : Job) → parse f ≡ accepted read → costs_fit cs ≡ true
    → tabled (parse f) cs ≡ accepted (with_costs read cs)
unfolding tabled
tabled-accepted f cs read p e = rw (p, e, tabled)

pub tabled-refused : (f cs : List ℕ) (read : Job) → parse f ≡ accepted read → costs_fit cs ≡ false
    → tabled (parse f) cs ≡ rejected refusals.Costs
unfolding tabled
tabled-refused f cs read p e = rw (p, e, tabled)

pub tabled-rejected : (f cs : List ℕ) (n : Refusal) → parse f ≡ rejected n → tabled (parse f) cs ≡ rejected n
unfolding tabled
tabled-rejected f cs n p = rw (p, tabled)

accepted-same : (a b : Job) → accepted a ≡ accepted b → a ≡ b
accepted-same a b e = cc

pub tabled_of : (f cs : List ℕ) (job : Job) → tabled (parse f) cs ≡ accepted job → Tabled f cs job
tabled_of f cs job q = go (parse f) refl
  where
    by : (read : Job) → parse f ≡ accepted read → (b : Bool) → costs_fit cs ≡ b → Tabled f cs job
    by read p true e = record {
      read = read;
      parsed = p;
      fits = e;
      same = accepted-same job (with_costs read cs) (sym q ∙ tabled-accepted f cs read p e);
    }
    by read p false e = rejected-accepted (sym (tabled-refused f cs read p e) ∙ q)

    go : (P : Parsed) → parse f ≡ P → Tabled f cs job
    go (rejected n) p = rejected-accepted (sym (tabled-rejected f cs n p) ∙ q)
    go (accepted read) p = by read p (costs_fit cs) refl

-- ---- "a table of eight ones gives every earlier answer": it is accepted, and gives what was read
pub ones_fit : costs_fit window_costs ≡ true
unfolding costs_fit entries_fit window_costs
ones_fit = refl

pub ones_tabled : (f : List ℕ) → tabled (parse f) window_costs ≡ parse f
ones_tabled f = go (parse f) refl
  where
    go : (P : Parsed) → parse f ≡ P → tabled (parse f) window_costs ≡ parse f
    go (rejected n) p = tabled-rejected f window_costs n p ∙ sym p
    go (accepted job) p =
        let c = job-costs (passed f job p) in
        tabled-accepted f window_costs job p ones_fit
        ∙ ap accepted (λ i. record {
          code = record { prog = job.code.prog; cells = job.code.cells; window = job.code.window; costs = sym c i };
          init = job.init;
          public = job.public;
          budget = job.budget;
        })
        ∙ sym p

-- ---- a plain run is the same by any table
module _ (job : Job) (cs : List ℕ) where
  abbrev code' : Code
  code' = (with_costs job cs).code

  -- no effect of an instruction looks at the table
  same-exec : (σ : State) (p : ℕ) (i : Instr) → exec job.code σ p i ≡ exec code' σ p i
  unfolding exec loaded_from stored_to store_overfull end_place
  same-exec σ p skip = refl
  same-exec σ p (assign r e) = refl
  same-exec σ p (load r e) = refl
  same-exec σ p (store r e) = refl
  same-exec σ p (jmp e) = refl
  same-exec σ p (beqz r l) = refl
  same-exec σ p (cassign r c e) = refl
  same-exec σ p spbarr = refl

  -- and with nothing open there is no window to lower
  same-lower : (i : Instr) (bs : List Branch) → bs ≡ [] → lower job.code i bs ≡ lower code' i bs
  unfolding lower
  same-lower i bs e = rw e

  same-plain_step : (M : Machine) → M.branches ≡ [] → plain_step job.code M ≡ plain_step code' M
  unfolding plain_step ordinary fetch
  same-plain_step M e =
      let i = get_or job.code.prog M.place skip in
      λ j. record {
        next = record {
          state = (same-exec M.state M.place i j).state;
          place = (same-exec M.state M.place i j).place;
          branches = same-lower i M.branches e j;
          opened = M.opened;
        };
        obs = (same-exec M.state M.place i j).obs;
        seen = (same-exec M.state M.place i j).seen;
        cause = cause_of i;
        back = 0;
        overfull = (same-exec M.state M.place i j).overfull;
      }

  same_overs : (M : Machine) → over code' M ≡ over job.code M
  unfolding over over_on end_place
  same_overs M = go M.branches
    where
      go : (bs : List Branch) → over_on code' M.place bs ≡ over_on job.code M.place bs
      go [] = refl
      go (b ∷ bs) = refl

  pub plain_any_table : (k : ℕ) → plain_run (with_costs job cs) k ≡ plain_run job k
  unfolding plain_run first
  plain_any_table k =
      sym
      (run-same (plain_step job.code) (plain_step code') job.code code' k (λ M. M.branches ≡ []) same-plain_step
      (λ M e. stays_closed job.code M e) same_overs job.budget (first job) blank refl)
