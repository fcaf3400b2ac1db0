-- What stands in the working words, and the words after each store. Every number is read as something: a count of entries over 64 as 64,
-- any number in the log from 320 on as the count of entries.
-- Assumes nothing.
use Rattle.std.specs.Prelude.{cond, List, [], ◌∷◌, ℕ, zero, suc, ◌+◌, ◌-◌, min, ltb, get_or, set, take, drop}
use Rattle.std.proofs.lemmas.List.Edits.{sets}
use Rattle.location.specs.declared.LocationSet.{LocationSet}
use Rattle.location.specs.Sets.{limit}
use Rattle.rules.specs.declared.Tagged.{Tagged}
use Rattle.rules.specs.Rules.Limits.{kinds, max_entries}
use Rattle.rules.specs.Rules.Plain.{Entry}
use Rattle.rules.specs.Rules.Changes.{Change, located, replaced, added}
use Rattle.work.specs.declared.OpenBranch.{OpenBranch}
use Rattle.work.specs.Layout.{operand_base, value_place, operands, entry_count, address_base, change_base, branch_base, cost_place}

-- ---- an operand: the four words of its set, then its value
abbrev pub set_in : List ℕ → ℕ → LocationSet
set_in w i = record { words = get_or w i 0 ∷ get_or w (i + 1) 0 ∷ get_or w (i + 2) 0 ∷ get_or w (i + 3) 0 ∷ [] }

abbrev pub tagged_in : List ℕ → ℕ → Tagged
tagged_in w i = record { value = get_or w (i + value_place) 0; deps = set_in w i }

-- as its five words, whatever the length of the list that stands for the set
abbrev pub tagged_words : Tagged → List ℕ
tagged_words v =
    let s = v.deps.words in
    get_or s 0 0 ∷ get_or s 1 0 ∷ get_or s 2 0 ∷ get_or s 3 0 ∷ v.value ∷ []

abbrev pub stored_in : List ℕ → ℕ → Tagged → List ℕ
stored_in w i v = sets w i (tagged_words v)

-- operand number l, and its set alone
abbrev pub set_at : List ℕ → ℕ → LocationSet
set_at w l = set_in w (operand_base l)

abbrev pub tagged_at : List ℕ → ℕ → Tagged
tagged_at w l = tagged_in w (operand_base l)

abbrev pub stored : List ℕ → ℕ → Tagged → List ℕ
stored w l v = stored_in w (operand_base l) v

-- ---- the table outside the image
abbrev pub count_in : List ℕ → ℕ
count_in w = min (get_or w entry_count 0) max_entries

-- entry number i
abbrev pub entry_at : List ℕ → ℕ → Entry
entry_at w i = record { address = get_or w (address_base i) 0; word = tagged_at w (limit + i) }

-- one entry more, after i that there are
abbrev pub appended : List ℕ → ℕ → ℕ → Tagged → List ℕ
appended w i a v = set (set (stored w (limit + i) v) (address_base i) a) entry_count (i + 1)

-- ---- a change: an operand by its number, with what it was before; that of the count of entries is an entry that was added
abbrev pub change_in : ℕ → Tagged → Change
change_in x t = cond (ltb x limit) (located x t) (cond (ltb x operands) (replaced (x - limit) t) (added t.value))

-- the number of the operand that change number k is of, and the change
abbrev pub number_at : List ℕ → ℕ → ℕ
number_at w k = get_or w (change_base k) 0

abbrev pub change_at : List ℕ → ℕ → Change
change_at w k = change_in (number_at w k) (tagged_in w (change_base k + 1))

-- operand l as it is, logged as change number k
abbrev pub operand_logged : List ℕ → ℕ → ℕ → List ℕ
operand_logged w k l = sets w (change_base k) (l ∷ tagged_words (tagged_at w l))

-- operand l given v, logged as change number k
abbrev pub changed : List ℕ → ℕ → ℕ → Tagged → List ℕ
changed w k l v = stored (operand_logged w k l) l v

-- one entry more, after i that there are, logged as change number k: what it changes is the count
abbrev pub extended : List ℕ → ℕ → ℕ → ℕ → Tagged → List ℕ
extended w k i a v = appended (operand_logged w k operands) i a v

-- the last j of k changes undone, the last one first: each operand gets back what it was
abbrev pub undone : List ℕ → ℕ → ℕ → List ℕ
undone w k zero = w
undone w zero (suc j) = w
undone w (suc k) (suc j) = undone (stored w (number_at w k) (tagged_in w (change_base k + 1))) k j

-- ---- an open branch
abbrev pub branch_at : List ℕ → ℕ → OpenBranch
branch_at w k = record {
  id = get_or w (branch_base k) 0;
  target = get_or w (branch_base k + 1) 0;
  outer = get_or w (branch_base k + 2) 0;
  mark = get_or w (branch_base k + 3) 0;
}

abbrev pub branch_stored : List ℕ → ℕ → OpenBranch → List ℕ
branch_stored w k b = sets w (branch_base k) (b.id ∷ b.target ∷ b.outer ∷ b.mark ∷ [])

-- with d branches open: w with none, else v. So the window of a new branch, where w is the job's, and what an instruction leaves,
-- where w is what there was.
abbrev pub window_at : ℕ → ℕ → ℕ → ℕ
window_at zero w v = w
window_at (suc d) w v = v

-- ---- the table of window costs, in the words ws from the labels on
unfoldable pub costs_in : List ℕ → List ℕ
costs_in ws = take kinds (drop cost_place ws)
