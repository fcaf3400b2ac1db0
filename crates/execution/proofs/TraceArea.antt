-- Observations in the trace area, after those that stand there.
-- Assumes nothing.
use mathlib.Core.Path.{◌≡◌, refl, sym, ap, ap₂, ◌∙◌}
use mathlib.Core.List.{List, [], ◌∷◌, ◌++◌}
use Prim.Native.Nat.{ℕ, ◌+◌, ◌*◌, ◌≤◌}
use native.Mathlib.Omega.{arith}
use lib.ListN.{length, drop, length-append, length-drop}
use lib.Seq.{sets, sets-eq, take_at, drop_at, drop-drop}
use Rattle.rules.specs.Rules.Instructions.{Observation}
use Rattle.rules.specs.Rules.Calls.{written, trace_words}
use Rattle.rules.proofs.Theorems.CallLaws.{length-trace_words}

-- more words after those written
written-more : (ws vs a : List ℕ) → length ws + length vs ≤ length a → sets (written ws a) (length ws) vs ≡ written (ws ++ vs) a
unfolding written
written-more ws vs a h =
    sets-eq vs (ws ++ drop (length ws) a) (length ws) (simp (length-append, length-drop) (omega arith))
    ∙ ap₂ {C = List ℕ} (λ (x y : List ℕ). x ++ vs ++ y) (take_at ws (drop (length ws) a) (length ws) refl)
    (sym (drop-drop (length vs) (length ws) (ws ++ drop (length ws) a))
    ∙ ap (drop (length vs)) (drop_at ws (drop (length ws) a) (length ws) refl)
    ∙ drop-drop (length vs) (length ws) a)
    ∙ ap (λ (n : ℕ). ws ++ vs ++ drop n a) (sym (length-append ws vs))

trace-more : (os qs : List Observation) → trace_words (os ++ qs) ≡ trace_words os ++ trace_words qs
unfolding trace_words
trace-more [] qs = refl
trace-more (o ∷ os) qs = ap (λ (ws : List ℕ). o.kind ∷ o.value ∷ ws) (trace-more os qs)

-- an area with more observations, after those that stand there
pub observed-more : (os qs : List Observation) (area area' a₀ : List ℕ) (k : ℕ) → length os ≡ k → area ≡ written (trace_words os) a₀
    → area' ≡ sets area (2 * k) (trace_words qs) → 2 * (k + length qs) ≤ length a₀ → area' ≡ written (trace_words (os ++ qs)) a₀
observed-more os qs area area' a₀ k e w s h =
    let n = length-trace_words os in
    let m = length-trace_words qs in
    let d : 2 * k ≡ length (trace_words os) = omega arith in
    s
    ∙ ap₂ {C = List ℕ} (λ (x : List ℕ) (i : ℕ). sets x i (trace_words qs)) w d
    ∙ written-more (trace_words os) (trace_words qs) a₀ (omega arith)
    ∙ ap (λ (ws : List ℕ). written ws a₀) (sym (trace-more os qs))

pub written-length : (ws a : List ℕ) → length ws ≤ length a → length (written ws a) ≡ length a
unfolding written
written-length ws a h = simp (length-append, length-drop) (omega arith)
