-- What the words tell of the observed sets is kept by every step, and by the record of a set that brings locations in.
-- Assumes nothing.
use mathlib.Core.Path.{◌≡◌, refl, sym, ap, ◌∙◌}
use mathlib.Core.Bool.{Bool, true, false, ◌&&◌, ◌||◌, not, cond, true≢false}
use mathlib.Core.List.{List, [], ◌∷◌, ◌++◌}
use Prim.Native.Nat.{ℕ, ◌<◌, ◌≤◌}
use native.Mathlib.Nat.{zero-add}
use native.Mathlib.Omega.{arith}
use lib.Dec.{lit<}
use lib.ListN.{length, get_or, drop}
use Rattle.location.specs.declared.LocationSet.{LocationSet}
use Rattle.location.specs.Sets.{limit, empty, union, subset, member}
use Rattle.location.specs.SetLaws.{subset-within, member_union, member-empty}
use Rattle.rules.specs.Rules.Calls.{working_words}
use Rattle.rules.specs.Rules.Firsts.{ObservedSet, no_report, held, first_holding, firsts_of}
use Rattle.rules.specs.Rules.Limits.{max_instructions}
use Rattle.rules.proofs.Theorems.Firsts.{held_one, first-kept, first-later, first-none, first_one, firsts_are}
use Rattle.work.specs.Layout.{reports, report_base}
use Rattle.work.proofs.Ranges.{same-past, first-same}
use Rattle.firsts.specs.Reports.{packed, unpacked, report_in, report_on, reports_in, Told}
use Rattle.firsts.specs.Recording.{recorded}
use Rattle.firsts.proofs.Laws.{unpack_packed, recorded-within, recorded-at, reports-length, reports-at}

-- nothing is observed yet
pub told-start : (w : List ℕ) → Told w empty []
unfolding held
told-start w = record { holds = λ l h. member-empty l; reports = λ l h m. absurd (true≢false (sym m ∙ member-empty l)) }

-- the words of the reports are the same
pub told-frame : {w w' : List ℕ} {full : LocationSet} {xs : List ObservedSet} → drop reports w' ≡ drop reports w → Told w full xs → Told w' full xs
told-frame {w} {w'} e t = record {
  holds = t.holds;
  reports = λ l h m.
      ap unpacked (first-same (same-past w' w reports (report_base l) 1 (omega arith) e) (lit< tt)) ∙ t.reports l h m;
}

module _ {w : List ℕ} {full : LocationSet} {xs : List ObservedSet} (x : ObservedSet) (t : Told w full xs) where
  -- of a set that lies within D nothing is to be told
  pub told-within : subset x.set full ≡ true → Told w full (xs ++ (x ∷ []))
  told-within e = record {
    holds = λ l h. t.holds l h ∙ sym (held_one xs x l ∙ same l (held xs l) (t.holds l h));
    reports = λ l h m. t.reports l h m ∙ sym (first-kept xs (x ∷ []) l (sym (t.holds l h) ∙ m));
  }
    where
      same : (l : ℕ) (b : Bool) → member full l ≡ b → (b || member x.set l) ≡ b
      same l true q = refl
      same l false q = go (member x.set l) refl
        where
          go : (b : Bool) → member x.set l ≡ b → b ≡ false
          go true m = absurd (true≢false (sym ((subset-within x.set full e).each l m) ∙ q))
          go false m = refl

-- D has the set of the last one already
pub told-joined : {w : List ℕ} {full : LocationSet} (xs : List ObservedSet) (x : ObservedSet) → Told w full (xs ++ (x ∷ []))
    → Told w (union full x.set) (xs ++ (x ∷ []))
told-joined {w} {full} xs x t = record {
  holds = λ l h. member_union full x.set l ∙ same l h ∙ t.holds l h;
  reports = λ l h m. t.reports l h (sym (same l h) ∙ sym (member_union full x.set l) ∙ m);
}
  where
    same : (l : ℕ) → l < limit → (member full l || member x.set l) ≡ member full l
    same l h = go (held xs l) (member x.set l) (t.holds l h ∙ held_one xs x l)
      where
        go : (a b : Bool) → member full l ≡ (a || b) → (member full l || b) ≡ member full l
        go true b e = rw e
        go false true e = rw e
        go false false e = rw e

-- ---- a set that brings locations in
module _ {w : List ℕ} {full : LocationSet} {xs : List ObservedSet} (x : ObservedSet) (t : Told w full xs) where
  -- the report is recorded for each of them
  told-new : length x.set.words ≡ 4 → working_words ≤ length w → x.report.index < 4294967296 → x.report.label < max_instructions
      → Told (recorded (packed x.report) full x.set w) (union full x.set) (xs ++ (x ∷ []))
  told-new size room index label = record {
    holds = λ l h. member_union full x.set l ∙ ap (λ (b : Bool). b || member x.set l) (t.holds l h) ∙ sym (held_one xs x l);
    reports = λ l h m.
        let word = recorded-at (packed x.report) full x.set w size room l h in
        ap unpacked word ∙ go l h (member full l) (member x.set l) refl refl (sym (member_union full x.set l) ∙ m);
  }
    where
      go : (l : ℕ) → l < limit → (a b : Bool) → member full l ≡ a → member x.set l ≡ b → (a || b) ≡ true
          → unpacked (cond (b && not a) (packed x.report) (get_or w (report_base l) 0)) ≡ first_holding (xs ++ (x ∷ [])) l
      go l h true true p q e = t.reports l h p ∙ sym (first-kept xs (x ∷ []) l (sym (t.holds l h) ∙ p))
      go l h true false p q e = t.reports l h p ∙ sym (first-kept xs (x ∷ []) l (sym (t.holds l h) ∙ p))
      go l h false true p q e =
          unpack_packed x.report.index x.report.cause x.report.label index label
          ∙ sym (first-later xs (x ∷ []) l (sym (t.holds l h) ∙ p) ∙ first_one x l ∙ ap (λ (b : Bool). cond b x.report no_report) q)
      go l h false false p q e = absurd (true≢false (sym e))

  -- any set: the bound on the label is needed where it brings something in
  pub told-recorded : length x.set.words ≡ 4 → working_words ≤ length w → x.report.index < 4294967296
      → (subset x.set full ≡ false → x.report.label < max_instructions)
      → Told (recorded (packed x.report) full x.set w) (union full x.set) (xs ++ (x ∷ []))
  told-recorded size room index label = go (subset x.set full) refl
    where
      go : (b : Bool) → subset x.set full ≡ b → Told (recorded (packed x.report) full x.set w) (union full x.set) (xs ++ (x ∷ []))
      go true e = rw (recorded-within (packed x.report) full x.set w e) (told-joined xs x (told-within x t e))
      go false e = told-new size room index (label e)

-- ---- what the words tell in the end are the rules' reports
pub told-firsts : {w : List ℕ} {full : LocationSet} {xs : List ObservedSet} → Told w full xs → reports_in w full 0 limit ≡ firsts_of xs
told-firsts {w} {full} {xs} t =
    firsts_are (reports_in w full 0 limit) xs (reports-length w full 0 limit)
    (λ l h. reports-at w full 0 limit l h ∙ ap (report_on w full) (zero-add l) ∙ go l h (member full l) refl)
  where
    go : (l : ℕ) → l < limit → (b : Bool) → member full l ≡ b → cond b (report_in w l) no_report ≡ first_holding xs l
    go l h true m = t.reports l h m
    go l h false m = sym (first-none xs l (sym (t.holds l h) ∙ m))
