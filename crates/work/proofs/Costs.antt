-- The table of window costs in the words: what is read there, what a table that was stored leaves, and what keeps it.
-- Assumes nothing.
use mathlib.Core.Path.{◌≡◌, sym, ap, ◌∙◌}
use mathlib.Core.List.{List}
use Prim.Native.Nat.{ℕ, ◌+◌, ◌<◌, ◌≤◌}
use native.Mathlib.Omega.{arith}
use lib.ListN.{length, get_or, drop, take, length-take, length-drop}
use lib.Seq.{sets, length-sets, get_or-take, get_or-drop, drop-drop, ext_get_or}
use Rattle.rules.specs.Rules.Limits.{kinds}
use Rattle.work.specs.Layout.{labels, cost_place, cost_base}
use Rattle.work.specs.Words.{costs_in}
use Rattle.work.proofs.Ranges.{in_sets, drop_past, drop-sets}

-- the table by the words of the whole area
costs-in : (w : List ℕ) → costs_in (drop labels w) ≡ take kinds (drop cost_base w)
unfolding costs_in
costs-in w = ap (take kinds) (drop-drop cost_place labels w)

-- ---- what is read: the entry of kind k is its word
pub cost_at : (w : List ℕ) (k : ℕ) → k < kinds → get_or w (cost_base + k) 0 ≡ get_or (costs_in (drop labels w)) k 0
cost_at w k h = rw (costs-in w) (sym (get_or-take kinds (drop cost_base w) k 0 h ∙ get_or-drop cost_base w k 0))

-- ---- a table that was stored
-- it is the table
pub costs-stored : (w cs : List ℕ) → length cs ≡ kinds → cost_base + kinds ≤ length w → costs_in (drop labels (sets w cost_base cs)) ≡ cs
costs-stored w cs l f =
    let w₁ = sets w cost_base cs in
    let n = length-take kinds (drop cost_base w₁) in
    let d = length-drop cost_base w₁ in
    let s = length-sets w cost_base cs in
    costs-in w₁
    ∙ ext_get_or 0 (take kinds (drop cost_base w₁)) cs (omega arith)
    (λ i h.
    get_or-take kinds (drop cost_base w₁) i 0 (omega arith)
    ∙ get_or-drop cost_base w₁ i 0
    ∙ in_sets cs w cost_base i (omega arith) (omega arith))

-- ---- what keeps the table: words that are the same from it on, and so stores that end before it
pub costs-past : (w w' : List ℕ) (m : ℕ) → m ≤ cost_base → drop m w ≡ drop m w' → costs_in (drop labels w) ≡ costs_in (drop labels w')
costs-past w w' m h d = costs-in w ∙ ap (take kinds) (drop_past w w' m cost_base h d) ∙ sym (costs-in w')

pub costs-kept : (vs w : List ℕ) (i : ℕ) → i + length vs ≤ cost_base → costs_in (drop labels (sets w i vs)) ≡ costs_in (drop labels w)
costs-kept vs w i h = costs-past (sets w i vs) w (i + length vs) h (drop-sets vs w i (i + length vs) (omega arith))
