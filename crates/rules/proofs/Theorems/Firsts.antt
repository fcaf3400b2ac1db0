-- The first of the observed sets that holds a location: its laws, that D is the union of the observed sets, and that a program which keeps
-- one report a location reports the same.
-- Assumes nothing.
use Rattle.std.specs.Prelude.{◌≡◌, refl, Bool, true, false, ◌||◌, ◌&&◌, not, cond, List, [], ◌∷◌, ◌++◌, ℕ, zero, suc, ◌+◌, ◌<◌, length, get_or, replicate}
use Rattle.std.proofs.Common.{sym, ap, ap₂, ◌∙◌, true≢false, append_assoc, append-nil, add-zero, zero-add, arith, ext_get_or}
use Rattle.location.specs.declared.LocationSet.{LocationSet}
use Rattle.location.specs.Sets.{limit, member, empty, union}
use Rattle.location.specs.SetLaws.{or_false, member_union, member-empty}
use Rattle.rules.specs.declared.First.{First}
use Rattle.rules.specs.Rules.Firsts.{ObservedSet, no_report, first_holding, held, firsts_from, firsts_of}
use Rattle.rules.specs.Rules.Plain.{Code}
use Rattle.rules.specs.Rules.Mispredicting.{Machine, Step, step}
use Rattle.rules.specs.Rules.Loop.{ended}
use Rattle.rules.specs.Rules.Runs.{Gathered, observed_set, note, note_unmade, run, Job, first, blank, mispredicting_run}
use Rattle.rules.proofs.Theorems.RunLaws.{run_ind}

-- ---- some of the sets holds a location
pub held-append : (xs ys : List ObservedSet) (l : ℕ) → held (xs ++ ys) l ≡ (held xs l || held ys l)
unfolding held
held-append [] ys l = refl
held-append (x ∷ xs) ys l = go (member x.set l) (held-append xs ys l)
  where
    go : (b : Bool) → held (xs ++ ys) l ≡ (held xs l || held ys l) → (b || held (xs ++ ys) l) ≡ ((b || held xs l) || held ys l)
    go true h = refl
    go false h = h

-- one set more
pub held_one : (xs : List ObservedSet) (x : ObservedSet) (l : ℕ) → held (xs ++ (x ∷ [])) l ≡ (held xs l || member x.set l)
unfolding held
held_one xs x l = held-append xs (x ∷ []) l ∙ ap (λ (b : Bool). held xs l || b) (or_false (member x.set l))

-- ---- the first of them
-- a location that is held keeps its report, whatever is observed later
pub first-kept : (xs ys : List ObservedSet) (l : ℕ) → held xs l ≡ true → first_holding (xs ++ ys) l ≡ first_holding xs l
unfolding held first_holding
first-kept [] ys l e = absurd (true≢false (sym e))
first-kept (x ∷ xs) ys l e = go (member x.set l) (first-kept xs ys l) e
  where
    go : (b : Bool) → (held xs l ≡ true → first_holding (xs ++ ys) l ≡ first_holding xs l) → (b || held xs l) ≡ true
        → cond b x.report (first_holding (xs ++ ys) l) ≡ cond b x.report (first_holding xs l)
    go true h e = refl
    go false h e = h e

-- one that is not held has the report of what is observed later
pub first-later : (xs ys : List ObservedSet) (l : ℕ) → held xs l ≡ false → first_holding (xs ++ ys) l ≡ first_holding ys l
unfolding held first_holding
first-later [] ys l e = refl
first-later (x ∷ xs) ys l e = go (member x.set l) (first-later xs ys l) e
  where
    go : (b : Bool) → (held xs l ≡ false → first_holding (xs ++ ys) l ≡ first_holding ys l) → (b || held xs l) ≡ false
        → cond b x.report (first_holding (xs ++ ys) l) ≡ first_holding ys l
    go true h e = absurd (true≢false e)
    go false h e = h e

pub first-none : (xs : List ObservedSet) (l : ℕ) → held xs l ≡ false → first_holding xs l ≡ no_report
unfolding held first_holding
first-none [] l e = refl
first-none (x ∷ xs) l e = go (member x.set l) (first-none xs l) e
  where
    go : (b : Bool) → (held xs l ≡ false → first_holding xs l ≡ no_report) → (b || held xs l) ≡ false
        → cond b x.report (first_holding xs l) ≡ no_report
    go true h e = absurd (true≢false e)
    go false h e = h e

-- one set alone
pub first_one : (x : ObservedSet) (l : ℕ) → first_holding (x ∷ []) l ≡ cond (member x.set l) x.report no_report
unfolding first_holding
first_one x l = refl

-- ---- the list of reports
from-length : (xs : List ObservedSet) (l n : ℕ) → length (firsts_from xs l n) ≡ n
unfolding firsts_from
from-length xs l zero = refl
from-length xs l (suc n) = ap suc (from-length xs (suc l) n)

from_at : (xs : List ObservedSet) (l n i : ℕ) → i < n → get_or (firsts_from xs l n) i no_report ≡ first_holding xs (l + i)
unfolding firsts_from
from_at xs l zero i h = absurd (omega arith)
from_at xs l (suc n) zero h = ap (first_holding xs) (sym (add-zero l))
from_at xs l (suc n) (suc i) h = from_at xs (suc l) n i (omega arith) ∙ ap (first_holding xs) (omega arith)

pub firsts-length : (xs : List ObservedSet) → length (firsts_of xs) ≡ limit
unfolding firsts_of
firsts-length xs = from-length xs 0 limit

pub firsts_at : (xs : List ObservedSet) (l : ℕ) → l < limit → get_or (firsts_of xs) l no_report ≡ first_holding xs l
unfolding firsts_of
firsts_at xs l h = from_at xs 0 limit l h ∙ ap (first_holding xs) (zero-add l)

-- a list that has at each location the report of the first set that holds it
pub firsts_are : (fs : List First) (xs : List ObservedSet) → length fs ≡ limit
    → ((l : ℕ) → l < limit → get_or fs l no_report ≡ first_holding xs l) → fs ≡ firsts_of xs
firsts_are fs xs n h =
    ext_get_or no_report fs (firsts_of xs) (n ∙ sym (firsts-length xs))
    (λ l lt. let b : l < limit = omega arith in h l b ∙ sym (firsts_at xs l b))

-- ---- D is the union of the observed sets
abbrev pub Gathers : Gathered → Type 0
Gathers g = (l : ℕ) → member g.full l ≡ held g.sets l

-- a set that joins both
joins : (full : LocationSet) (xs : List ObservedSet) (x : ObservedSet) → ((l : ℕ) → member full l ≡ held xs l)
    → (l : ℕ) → member (union full x.set) l ≡ held (xs ++ (x ∷ [])) l
joins full xs x h l = member_union full x.set l ∙ ap (λ (b : Bool). b || member x.set l) (h l) ∙ sym (held_one xs x l)

note-gathers : (M : Machine) (s : Step) (g : Gathered) → Gathers g → Gathers (note M s g)
unfolding note observed_set
note-gathers M s g h = joins g.full g.sets (observed_set M s g) h

unmade-gathers : (M : Machine) (s : Step) (g : Gathered) → Gathers g → Gathers (note_unmade M s g)
unfolding note_unmade observed_set
unmade-gathers M s g h = joins g.full g.sets (observed_set M s g) h

pub gathers : (f : Machine → Step) (code : Code) (room k : ℕ) (M : Machine) (g : Gathered)
    → Gathers g → Gathers (run f code room k M g).gathered
unfolding ended
gathers f code room =
    run_ind f code room (λ k M g r. Gathers g → Gathers r.gathered) (λ k M g e h. h) (λ M g e h. h) (λ k M g e x h. h)
    (λ k M g e x o h. unmade-gathers M (f M) g h) (λ k M g e x p h. p (note-gathers M (f M) g h))

pub mispredicting_gathers : (job : Job) (room : ℕ) → Gathers (mispredicting_run job room).gathered
unfolding mispredicting_run blank held
mispredicting_gathers job room = gathers (step job.code) job.code room job.budget (first job) blank (λ l. member-empty l)

-- ---- what a program that keeps one report a location does: where an observed set brings in a location that D has not, its report is written
unfoldable pub reported : LocationSet → ObservedSet → ℕ → List First → List First
reported full x l [] = []
reported full x l (f ∷ fs) = cond (member x.set l && not (member full l)) x.report f ∷ reported full x (suc l) fs

unfoldable pub running : LocationSet → List First → List ObservedSet → List First
running full fs [] = fs
running full fs (x ∷ xs) = running (union full x.set) (reported full x 0 fs) xs

-- of one location
report-one : (full : LocationSet) (ys : List ObservedSet) (x : ObservedSet) (l : ℕ) → member full l ≡ held ys l
    → cond (member x.set l && not (member full l)) x.report (first_holding ys l) ≡ first_holding (ys ++ (x ∷ [])) l
report-one full ys x l h = rw h (go (member x.set l) (held ys l) refl refl)
  where
    added : (b : Bool) → member x.set l ≡ b → held ys l ≡ false → first_holding (ys ++ (x ∷ [])) l ≡ cond b x.report no_report
    added b p q = first-later ys (x ∷ []) l q ∙ first_one x l ∙ ap (λ (c : Bool). cond c x.report no_report) p

    go : (b c : Bool) → member x.set l ≡ b → held ys l ≡ c
        → cond (b && not c) x.report (first_holding ys l) ≡ first_holding (ys ++ (x ∷ [])) l
    go false true p q = sym (first-kept ys (x ∷ []) l q)
    go true true p q = sym (first-kept ys (x ∷ []) l q)
    go false false p q = first-none ys l q ∙ sym (added false p q)
    go true false p q = sym (added true p q)

reported-from : (full : LocationSet) (ys : List ObservedSet) (x : ObservedSet) → ((l : ℕ) → member full l ≡ held ys l)
    → (l n : ℕ) → reported full x l (firsts_from ys l n) ≡ firsts_from (ys ++ (x ∷ [])) l n
unfolding reported firsts_from
reported-from full ys x h l zero = refl
reported-from full ys x h l (suc n) =
    ap₂ {C = List First} (λ (f : First) (fs : List First). f ∷ fs) (report-one full ys x l (h l)) (reported-from full ys x h (suc l) n)

-- one observed set more: what is reported of all locations
pub reported-next : (full : LocationSet) (ys : List ObservedSet) (x : ObservedSet) → ((l : ℕ) → member full l ≡ held ys l)
    → reported full x 0 (firsts_of ys) ≡ firsts_of (ys ++ (x ∷ []))
unfolding firsts_of
reported-next full ys x h = reported-from full ys x h 0 limit

running-from : (full : LocationSet) (ys xs : List ObservedSet) → ((l : ℕ) → member full l ≡ held ys l)
    → running full (firsts_of ys) xs ≡ firsts_of (ys ++ xs)
unfolding running
running-from full ys [] h = ap firsts_of (sym (append-nil ys))
running-from full ys (x ∷ xs) h =
    ap (λ (fs : List First). running (union full x.set) fs xs) (reported-next full ys x h)
    ∙ running-from (union full x.set) (ys ++ (x ∷ [])) xs (joins full ys x h)
    ∙ ap firsts_of (append_assoc ys (x ∷ []) xs)

none_from_lem : (l n : ℕ) → firsts_from [] l n ≡ replicate n no_report
unfolding firsts_from first_holding
none_from_lem l zero = refl
none_from_lem l (suc n) = ap (λ (fs : List First). no_report ∷ fs) (none_from_lem (suc l) n)

-- nothing was observed
pub firsts-none : firsts_of [] ≡ replicate limit no_report
unfolding firsts_of
firsts-none = none_from_lem 0 limit

pub running_is_literal : (xs : List ObservedSet) → running empty (replicate limit no_report) xs ≡ firsts_of xs
unfolding held
running_is_literal xs = ap (λ (fs : List First). running empty fs xs) (sym firsts-none) ∙ running-from empty [] xs (λ l. member-empty l)
