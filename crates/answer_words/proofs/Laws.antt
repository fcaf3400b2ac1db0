-- The words of an answer, as the code writes them one by one.
-- Assumes nothing.
use mathlib.Core.Path.{◌≡◌, refl, sym, ap, ◌∙◌}
use mathlib.Core.List.{List, [], ◌∷◌, ◌++◌}
use Prim.Native.Nat.{ℕ, zero, suc, ◌+◌, ◌*◌, ◌<◌, ◌≤◌}
use native.Mathlib.Nat.{add-zero}
use native.Mathlib.Omega.{arith}
use borrow.Rule.Slice.PartMut.{put_mid}
use lib.ListN.{length, get_or, set, take, drop, replicate, length-replicate, length-drop}
use Rattle.std.proofs.Common.{append_assoc}
use Rattle.std.proofs.lemmas.List.{length-take-le}
use lib.Seq.{drop-drop, sets, sets-eq, length-sets, set-set, set_comm, ext_get_or}
use Rattle.location.specs.declared.LocationSet.{LocationSet}
use Rattle.location.specs.Sets.{limit}
use Rattle.location.specs.Members.{NoneFrom, IsFirst}
use Rattle.location.proofs.Laws.{four}
use Rattle.location.proofs.Filling.{Filled, filled_none, filled_all, filled_next}
use Rattle.rules.specs.declared.Verdict.{Verdict}
use Rattle.rules.specs.declared.Counts.{Counts}
use Rattle.rules.specs.declared.PlainCounts.{PlainCounts}
use Rattle.rules.specs.declared.First.{First}
use Rattle.rules.specs.Rules.Answers.{stop_number, verdict_number}
use Rattle.rules.specs.Rules.Firsts.{no_report}
use Rattle.answer_words.specs.Words.{count_words, report_words, reports_words, MembersOnly, run_words, plain_words}

-- ---- the reports of the locations, one after the other
-- words that are copied into a part of the area stand there one after the other
pub copied : (l : List ℕ) (at n : ℕ) (ws : List ℕ) → length ws ≡ n → at + n ≤ length l → put_mid at n l ws ≡ sets l at ws
copied l at n ws e h = rw (← e, drop-drop (length ws) at l) (sym (rw append_assoc at (sets-eq ws l at (rw e h))))

pub cleared : (l : List ℕ) (at m n : ℕ) (ws : List ℕ) → m ≡ n → at + n ≤ length l → ws ≡ replicate (length (take m (drop at l))) 0
    → put_mid at m l ws ≡ sets l at (replicate n 0)
cleared l at m n ws d h e =
    let q : length (take m (drop at l)) ≡ n = length-take-le m (drop at l) (omega (arith, length-drop at l)) ∙ d in
    let f : ws ≡ replicate n 0 = e ∙ ap (λ (k : ℕ). replicate k 0) q in
    ap (λ (k : ℕ). put_mid at k l ws) d ∙ copied l at n ws (ap length f ∙ length-replicate n 0) h ∙ ap (sets l at) f

-- the words of a list of locations of which nothing is reported
none-words : (n : ℕ) → replicate (3 * n) 0 ≡ reports_words (replicate n no_report)
unfolding reports_words
none-words zero = refl
none-words (suc n) =
    let e : 3 * suc n ≡ suc (suc (suc (3 * n))) = omega arith in
    rw e (ap (λ (ws : List ℕ). 0 ∷ 0 ∷ 0 ∷ ws) (none-words n))

-- a store ahead of others can be made after them
set_ahead : (l : List ℕ) (i j a : ℕ) (vs : List ℕ) → j < i → set (sets l i vs) j a ≡ sets (set l j a) i vs
set_ahead l i j a [] h = refl
set_ahead l i j a (v ∷ vs) h =
    set_ahead (set l i v) (suc i) j a vs (omega arith) ∙ ap (λ (m : List ℕ). sets m (suc i) vs) (set_comm l i j v a (λ e. absurd (omega arith)))

-- words are written over as many others
sets_over : (l : List ℕ) (at : ℕ) (us ws vs : List ℕ) → length us ≡ length ws → sets (sets l at (us ++ vs)) at ws ≡ sets l at (ws ++ vs)
sets_over l at [] [] vs h = refl
sets_over l at [] (w ∷ ws) vs h = absurd (omega arith)
sets_over l at (u ∷ us) [] vs h = absurd (omega arith)
sets_over l at (u ∷ us) (w ∷ ws) vs h =
    ap (λ (m : List ℕ). sets m (suc at) ws)
    (set_ahead (set l at u) (suc at) at w (us ++ vs) (omega arith) ∙ ap (λ (m : List ℕ). sets m (suc at) (us ++ vs)) (set-set l at u w))
    ∙ sets_over (set l at w) (suc at) us ws vs (omega arith)

-- the report of one location is written over what stands for it
report-set : (l : List ℕ) (at : ℕ) (xs : List First) (n : ℕ) (x : First) → n < length xs
    → sets (sets l at (reports_words xs)) (at + 3 * n) (report_words x) ≡ sets l at (reports_words (set xs n x))
unfolding reports_words
report-set l at [] n x h = absurd (omega arith)
report-set l at (y ∷ ys) zero x h = rw (add-zero at) (sets_over l at (report_words y) (report_words x) (reports_words ys) refl)
report-set l at (y ∷ ys) (suc n) x h =
    let e : at + 3 * suc n ≡ suc (suc (suc at)) + 3 * n = omega arith in
    rw e (report-set (sets l at (report_words y)) (suc (suc (suc at))) ys n x (omega arith))

-- A walk over the members of s writes the reports xs, and the next member is n or later. The area was l₀ when the walk began and is l₁ now: as if the reports so far
-- were written over any area l of which l₀ has the words, but for those of the reports, which are 0.
pub record Reported (l₀ : List ℕ) (at : ℕ) (s : LocationSet) (xs : List First) (l₁ : List ℕ) (n : ℕ) : Type 0 where
  pub written : List First
  pub filled : Filled s no_report (λ k. get_or xs k no_report) written n
  pub area : (l : List ℕ) → l₀ ≡ sets l at (replicate 768 0) → l₁ ≡ sets l at (reports_words written)

pub none-reported : (l₀ : List ℕ) (at : ℕ) {s t : LocationSet} {xs : List First} {n : ℕ} → t ≡ s → n ≡ 0 → MembersOnly s xs → Reported l₀ at t xs l₀ n
none-reported l₀ at {s} {t} {xs} e z h = rw (e, z) (record {
  written = replicate limit no_report;
  filled = filled_none s no_report (λ k. get_or xs k no_report) h.nothing;
  area = λ l f. f ∙ ap (sets l at) (none-words limit);
})

module _ {l₀ : List ℕ} {at : ℕ} {s : LocationSet} {xs : List First} {l₁ : List ℕ} {n : ℕ} (h : Reported l₀ at s xs l₁ n) where
  pub reported-length : (l : List ℕ) → l₀ ≡ sets l at (replicate 768 0) → length l₁ ≡ length l
  reported-length l cleared = ap length (h.area l cleared) ∙ length-sets l at (reports_words h.written)

  pub all-reported : (l : List ℕ) → l₀ ≡ sets l at (replicate 768 0) → length xs ≡ limit → NoneFrom s n limit → l₁ ≡ sets l at (reports_words xs)
  all-reported l cleared size last = h.area l cleared ∙ ap (λ (ys : List First). sets l at (reports_words ys)) same
    where
      all : Filled s no_report (λ k. get_or xs k no_report) h.written limit
      all = filled_all h.filled last

      same : h.written ≡ xs
      same = ext_get_or no_report h.written xs (all.size ∙ sym size) (λ k i. all.passed k (omega (arith, all.size)))

  -- the next member is m: j is its number, k the place after it, and t the set that is left to walk over
  pub reported-next : {m j k : ℕ} {t : LocationSet} → IsFirst s n m → t ≡ s → k ≡ m + 1 → j ≡ m
      → {l₂ : List ℕ} → l₂ ≡ sets l₁ (at + 3 * j) (report_words (get_or xs j no_report)) → Reported l₀ at t xs l₂ k
  reported-next {m} next e f g e₂ = rw (e, f) (record {
    written = set h.written m (get_or xs m no_report);
    filled = filled_next h.filled next (λ i. refl);
    area = λ l cleared.
        (rw g at e₂) ∙ ap (λ (k : List ℕ). sets k (at + 3 * m) (report_words (get_or xs m no_report))) (h.area l cleared)
        ∙ report-set l at h.written m (get_or xs m no_report) (omega (arith, h.filled.size, next.below));
  })

-- ---- the answers
-- the words are l, then l₁ after the counts, then l₂ after the sets and l₃ after the reports
pub run-written : (l : List ℕ) (c : Counts) (full plain : LocationSet) (v : Verdict) (firsts : List First) {k : ℕ} {l₁ l₂ l₃ fs ps : List ℕ}
    → length l ≡ 781 → length full.words ≡ 4 → length plain.words ≡ 4 → l₁ ≡ sets l 0 (count_words c) → fs ≡ full.words → ps ≡ plain.words
    → k ≡ verdict_number v → l₂ ≡ put_mid 8 4 (put_mid 4 4 l₁ fs) ps → l₃ ≡ sets (set l₂ 12 k) 13 (reports_words firsts)
    → l₃ ≡ sets l 0 (run_words c full plain v firsts)
run-written l c full plain v firsts {k} {l₁} {l₂} {l₃} {fs} {ps} hl hf hp e₁ ef ep ek e₂ e₃ =
    let n₁ : length l₁ ≡ 781 = ap length e₁ ∙ length-sets l 0 (count_words c) ∙ hl in
    let m₁ = copied l₁ 4 4 fs (ap length ef ∙ hf) (omega arith) in
    let n₂ : length (sets l₁ 4 fs) ≡ 781 = length-sets l₁ 4 fs ∙ n₁ in
    let m₂ = copied (sets l₁ 4 fs) 8 4 ps (ap length ep ∙ hp) (omega arith) in
    e₃
    ∙ ap (λ (m : List ℕ). sets (set m 12 k) 13 (reports_words firsts)) (e₂ ∙ ap (λ (m : List ℕ). put_mid 8 4 m ps) m₁ ∙ m₂)
    ∙ (λ i. sets (set (sets (sets (e₁ i) 4 (ef i)) 8 (ep i)) 12 (ek i)) 13 (reports_words firsts))
    ∙ (λ i. sets (set (sets (sets (sets l 0 (count_words c)) 4 (sym (four full.words hf) i)) 8 (sym (four plain.words hp) i)) 12 (verdict_number v)) 13 (reports_words firsts))
    ∙ (λ i. sets l 0 (count_words c ++ four full.words hf i ++ four plain.words hp i ++ (verdict_number v ∷ []) ++ reports_words firsts))

pub plain-written : (l : List ℕ) (c : PlainCounts) (plain : LocationSet) {s : ℕ} {ps : List ℕ} → length l ≡ 7 → length plain.words ≡ 4
    → s ≡ stop_number c.stop → ps ≡ plain.words
    → put_mid 3 4 (set (set (set l 0 s) 1 c.observations) 2 c.steps) ps ≡ sets l 0 (plain_words c plain)
plain-written l c plain {s} {ps} hl hp es ep =
    let m = sets l 0 (s ∷ c.observations ∷ c.steps ∷ []) in
    let n : length m ≡ 7 = length-sets l 0 (s ∷ c.observations ∷ c.steps ∷ []) ∙ hl in
    copied m 3 4 ps (ap length ep ∙ hp) (omega arith)
    ∙ (λ i. sets (sets l 0 (es i ∷ c.observations ∷ c.steps ∷ [])) 3 (ep i))
    ∙ (λ i. sets (sets l 0 (stop_number c.stop ∷ c.observations ∷ c.steps ∷ [])) 3 (sym (four plain.words hp) i))
    ∙ (λ i. sets l 0 ((stop_number c.stop ∷ c.observations ∷ c.steps ∷ []) ++ four plain.words hp i))
