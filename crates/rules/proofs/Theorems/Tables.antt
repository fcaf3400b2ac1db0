-- The tables in two end areas: where their entries are alike in D, they show the same count and addresses, and the same values where an entry's
-- set lies within D.
-- Assumes nothing.
use Rattle.std.specs.Prelude.{◌≡◌, true, List, ◌++◌, length, get_or, take, drop}
use Rattle.std.proofs.Math.Path.{refl, ap}
use Rattle.std.proofs.Common.{◌∙◌, take_at, drop_at, append_assoc}
use Prim.Native.Nat.{ℕ, zero, suc, ◌+◌, ◌*◌}
use native.Mathlib.Omega.{arith}
use Rattle.location.specs.declared.LocationSet.{LocationSet}
use Rattle.location.specs.Sets.{subset}
use Rattle.location.specs.SetLaws.{subset-within}
use Rattle.rules.specs.declared.Tagged.{Tagged}
use Rattle.rules.specs.Rules.Plain.{State, Entry, values}
use Rattle.rules.specs.Rules.JobFile.{trailer, locations}
use Rattle.rules.specs.Rules.Limits.{max_entries}
use Rattle.rules.specs.Rules.Calls.{padded, entry_words, table_size, table_words, end_words, written}
use Rattle.rules.specs.Rules.Demands.{table_in, entry_set, SameOutside}
use Rattle.rules.proofs.Theorems.Sizes.{values_length, table-length}
use Rattle.rules.proofs.Theorems.Alike.{AlikeOutside, none, more, same_count}

-- ---- entries side by side, as words
module _ {D : LocationSet} where
  same_address : (n i : ℕ) {es fs : List Entry} → AlikeOutside D es fs
      → get_or (padded n (entry_words es)) (2 * i) 0 ≡ get_or (padded n (entry_words fs)) (2 * i) 0
  unfolding padded entry_words
  same_address n i none = refl
  same_address zero i (more p k h) = refl
  same_address (suc n) zero (more p k h) = p
  same_address (suc zero) (suc i) (more p k h) = let e : 2 * suc i ≡ suc (suc (2 * i)) = omega arith in rw e refl
  same_address (suc (suc n)) (suc i) (more p k h) = let e : 2 * suc i ≡ suc (suc (2 * i)) = omega arith in rw e (same_address n i h)

  same-value : (n i : ℕ) {es fs : List Entry} → AlikeOutside D es fs → subset (entry_set es i) D ≡ true
      → get_or (padded n (entry_words es)) (suc (2 * i)) 0 ≡ get_or (padded n (entry_words fs)) (suc (2 * i)) 0
  unfolding padded entry_words entry_set
  same-value n i none s = refl
  same-value zero i (more p k h) s = refl
  same-value (suc zero) i (more p k h) s = refl
  same-value (suc (suc n)) zero (more {e} {f} p k h) s = ap (λ (t : Tagged). t.value) (k.left (subset-within e.word.deps D s))
  same-value (suc (suc n)) (suc i) (more p k h) s = let e : 2 * suc i ≡ suc (suc (2 * i)) = omega arith in rw e (same-value n i h s)

  pub same_tables : {es fs : List Entry} → AlikeOutside D es fs → SameOutside D es (table_words es) (table_words fs)
  unfolding table_words padded
  same_tables {es} {fs} h = record {
    shown = refl;
    count = same_count h;
    address = λ i. let e : 1 + 2 * i ≡ suc (2 * i) = omega arith in rw e (same_address (2 * max_entries) i h);
    value = λ i s. let e : 2 + 2 * i ≡ suc (suc (2 * i)) = omega arith in rw e (same-value (2 * max_entries) i h s);
  }

-- ---- the table of an end area that holds a state of the file's size
pub table-in : (f : List ℕ) (σ : State) (area : List ℕ) → length σ.inside ≡ locations (trailer f)
    → table_in f (written (end_words σ) area) ≡ table_words σ.outside
unfolding table_in written end_words
table-in f σ area e =
    let vs = values σ.inside in
    let ts = table_words σ.outside in
    let rest = drop (length (vs ++ ts)) area in
    ap (λ (ws : List ℕ). take table_size (drop (locations (trailer f)) ws)) (append_assoc vs ts rest)
    ∙ ap (take table_size) (drop_at vs (ts ++ rest) (locations (trailer f)) (values_length σ.inside ∙ e))
    ∙ take_at ts rest table_size (table-length σ.outside)
