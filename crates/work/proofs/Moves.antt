-- The machine in the words after each of the moves, and what the invariant says of it.
-- Assumes nothing.
use mathlib.Core.Path.{◌≡◌, refl, sym, ap, ◌∙◌, subst, subst₂}
use mathlib.Core.List.{List, [], ◌∷◌}
use Prim.Native.Nat.{ℕ, zero, suc, ◌+◌, ◌-◌, ◌*◌, ◌<◌, ◌≤◌}
use native.Mathlib.Nat.{pos_of_ne-zero}
use native.Mathlib.Numerals.{add-one}
use native.Mathlib.Omega.{arith}
use lib.ListN.{length, drop}
use lib.Seq.{sets, length-sets}
use borrow.Author.Tests.{lt-ltb, le-ltb}
use Rattle.location.specs.Sets.{limit}
use Rattle.rules.specs.declared.Tagged.{Tagged}
use Rattle.rules.specs.Rules.Limits.{max_entries}
use Rattle.rules.specs.Rules.Calls.{working_words}
use Rattle.rules.specs.Rules.Plain.{State, put, with_outside}
use Rattle.rules.specs.Rules.Mispredicting.{Branch, Machine, rolling}
use Rattle.rules.specs.Rules.Changes.{Change, reworded}
use Rattle.work.specs.declared.OpenBranch.{OpenBranch}
use Rattle.work.specs.declared.machine.Control.{Control}
use Rattle.work.specs.declared.machine.RolledBack.{RolledBack}
use Rattle.work.specs.Layout.{operand_base, operands, change_base, branch_base, reports, log_base, first_branch}
use Rattle.work.specs.Words.{tagged_at, stored, count_in, appended, number_at, change_at, changed, extended, undone, branch_at, branch_stored}
use Rattle.work.specs.Words.{window_at, tagged_words}
use Rattle.work.specs.Machines.{state_in, with_operand, with_entry, saved_at, branches_of, machine_of, max_window, WindowBound, LogBound, Fit, Left}
use Rattle.work.specs.Moves.{lower_to, window_on, ordinary_next, gone, logged_to, opening_next, Moves, RollsBack}
use Rattle.work.proofs.Ranges.{drop-sets, drop_past, log-same, branches-same}
use Rattle.work.proofs.States.{state-stored, Restored, undone-restores, Logged, changed-state, changed-log, changed-branch, changed_logged}
use Rattle.work.proofs.States.{appended-drop, appended-length, appended-state}
use Rattle.work.proofs.States.{extended-length, extended-log, extended-branch, extended-state, extended_logged, extended-frame}
use Rattle.work.proofs.Laws.{length-changed}
use Rattle.work.proofs.Branches.{top_left, bound-left, logged_branches, logged_bound, pushed-state, pushed-branches, pushed-bound, pushed-log}

together-bound : (e : ℕ → OpenBranch) (v d k : ℕ) → WindowBound e v d k → k + d ≤ max_window + 1
together-bound e v zero k h = let z = h.0 in omega arith
together-bound e v (suc d) k h = let b = h.1 in omega arith

log-bound : (e : ℕ → OpenBranch) (v d k : ℕ) → WindowBound e v d k → k ≤ max_window
log-bound e v zero k h = let z = h.0 in omega arith
log-bound e v (suc d) k h = let b = h.1 in omega arith

-- how many changes and branches there are together
pub fit-bound : {w : List ℕ} {c : Control} → Fit w c → c.log + c.depth ≤ max_window + 1
fit-bound {w} {c} f = together-bound (branch_at w) c.window c.depth c.log f.bound

-- the same move, to words and a control that are equal
pub moved_to : {w u u' : List ℕ} {c c' : Control} {next : Machine → Machine} → u' ≡ u → Moves w u c c' next → Moves w u' c c' next
moved_to {w} {u} {u'} {c} {c'} {next} e m = subst (λ (x : List ℕ). Moves w x c c' next) (sym e) m

pub moved_as : {w u u' : List ℕ} {c c' r : Control} {next : Machine → Machine} → u' ≡ u → r ≡ c' → Moves w u c c' next → Moves w u' c r next
moved_as {w} {u} {u'} {c} {c'} {r} {next} e q m = subst₂ (λ (x : List ℕ) (y : Control). Moves w x c y next) (sym e) (sym q) m

-- with d branches open, where d is not 0
pub at_above : (d u v : ℕ) → (d ≡ 0 → ⊥) → v ≡ window_at d u v
at_above zero u v h = absurd (h refl)
at_above (suc d) u v h = refl

-- ---- rule 3, with the state as it is
pub go_law : (w : List ℕ) (c : Control) (p v : ℕ) → Fit w c → Left c v
    → Moves w w c (gone c p v) (λ M. ordinary_next M M.state p v)
go_law w c p v f b =
    record {
      machine = λ n hn.
          let B = top_left (branch_at w) (change_at w) (state_in w n) c.window v c.log c.depth in
          λ t. record { state = state_in w n; place = p; branches = B t; opened = c.opened };
      fits = record {
        room = f.room;
        bound = bound-left (branch_at w) c.window v c.depth c.log b.less b.some f.bound;
        opened = f.opened;
        log = f.log;
      };
      frame = refl;
    }

-- ---- rule 3, with another state: `next` gives it, and the words w₁ hold it
module _ (w w₁ : List ℕ) (c : Control) (p v : ℕ) (next : State → State) (f : Fit w c) (b : Left c v)
    (state : (n : ℕ) → n ≤ limit → state_in w₁ n ≡ next (state_in w n)) (size : length w₁ ≡ length w) (frame : drop reports w₁ ≡ drop reports w) where
  abbrev k : ℕ
  k = c.log

  -- the branches in the words w₁, with k' changes logged, are those of w with v left of the top's window, where d are open
  abbrev Lowered : ℕ → ℕ → ℕ → Type 0
  Lowered k' n d =
      branches_of (branch_at w₁) (change_at w₁) (state_in w₁ n) v k' d ≡ lower_to v (branches_of (branch_at w) (change_at w) (state_in w n) c.window k d)

  long : working_words ≤ length w₁
  long = rw size f.room

  -- with nothing open
  pub stored-plain : c.depth ≡ 0 → Moves w w₁ c (gone c p v) (λ M. ordinary_next M (next M.state) p v)
  stored-plain z =
      let h = subst (λ (d : ℕ). WindowBound (branch_at w) c.window d k) z f.bound in
      record {
        machine = λ n hn.
            let S = state n hn in
            let B = subst (Lowered k n) (sym z) refl in
            λ t. record { state = S t; place = p; branches = B t; opened = c.opened };
        fits = record {
          room = long;
          bound = subst (λ (d : ℕ). WindowBound (branch_at w₁) v d k) (sym z) (h.0, b.some z);
          opened = f.opened;
          log = subst (λ (j : ℕ). LogBound (number_at w₁) (change_at w₁) j (count_in w₁)) (sym h.0) tt;
        };
        frame = frame;
      }

  -- with a branch open the change is logged; the branches stand past the log
  pub stored_open : (c.depth ≡ 0 → ⊥) → ((n : ℕ) → n ≤ limit → Logged w w₁ n k)
      → LogBound (number_at w₁) (change_at w₁) (k + 1) (count_in w₁)
      → ((j : ℕ) → change_base k + 6 ≤ branch_base j → branch_at w₁ j ≡ branch_at w j)
      → Moves w w₁ c (logged_to c p v) (λ M. ordinary_next M (next M.state) p v)
  stored_open o logged log others =
      let d = c.depth - 1 in
      let s : c.depth ≡ suc d = omega (arith, pos_of_ne-zero o) in
      let b₁ = b.less (pos_of_ne-zero o) in
      let h : WindowBound (branch_at w) c.window (suc d) k = subst (λ (j : ℕ). WindowBound (branch_at w) c.window j k) s f.bound in
      let h₁ = h.1 in
      let entries : (j : ℕ) → j ≤ d → branch_at w₁ j ≡ branch_at w j = λ j i. others j (omega arith) in
      let H = logged_bound w w₁ k d c.window entries h v (omega arith) in
      record {
        machine = λ n hn.
            let S = state n hn in
            let B = subst (Lowered (k + 1) n) (sym s) (logged_branches w w₁ k d c.window entries h n (logged n hn) v) in
            λ t. record { state = S t; place = p; branches = B t; opened = c.opened };
        fits = record {
          room = long;
          bound = subst (λ (j : ℕ). WindowBound (branch_at w₁) v j (k + 1)) (sym s) H;
          opened = f.opened;
          log = log;
        };
        frame = frame;
      }

-- the log has room for one change more, before the branches
log-room : {w : List ℕ} {c : Control} → Fit w c → change_base c.log + 6 ≤ reports
log-room {w} {c} f = let b = log-bound (branch_at w) c.window c.depth c.log f.bound in omega arith

-- operand l given the word x
module _ (w : List ℕ) (c : Control) (l p v : ℕ) (x : Tagged) (f : Fit w c) (b : Left c v) (hl : l < operands) (e : length x.deps.words ≡ 4) where
  abbrev old : List ℕ
  old = l ∷ tagged_words (tagged_at w l)

  room : change_base c.log + 6 ≤ length w
  room = let r = f.room in let q = log-room f in omega arith

  pub give_plain : c.depth ≡ 0 → Moves w (stored w l x) c (gone c p v) (λ M. ordinary_next M (with_operand M.state l x) p v)
  give_plain =
      stored-plain w (stored w l x) c p v (λ σ. with_operand σ l x) f b (λ n hn. state-stored w n l x hn hl e (omega (arith, f.room)))
      (length-sets w (operand_base l) (tagged_words x)) (drop-sets (tagged_words x) w (operand_base l) reports (omega arith))

  pub give_open : (c.depth ≡ 0 → ⊥) → Moves w (changed w c.log l x) c (logged_to c p v) (λ M. ordinary_next M (with_operand M.state l x) p v)
  give_open o =
      let q = log-room f in
      stored_open w (changed w c.log l x) c p v (λ σ. with_operand σ l x) f b (λ n hn. changed-state w n c.log l x hn hl room e)
      (length-changed w c.log l x)
      (drop-sets (tagged_words x) (sets w (change_base c.log) old) (operand_base l) reports (omega arith)
      ∙ drop-sets old w (change_base c.log) reports (omega arith))
      o (λ n hn. changed_logged w n c.log l x hn hl room e) (changed-log w 0 c.log l x (omega arith) hl room e f.log)
      (changed-branch w 0 c.log l x (omega arith) hl room e)

-- of an operand's number l that the code has: a location's, or an entry's
pub location-moved : {w w₁ : List ℕ} {c r : Control} {p v : ℕ} (j l : ℕ) (x : Tagged) → j ≡ l → l < limit
    → Moves w w₁ c r (λ M. ordinary_next M (with_operand M.state j x) p v) → Moves w w₁ c r (λ M. ordinary_next M (put M.state l x) p v)
location-moved {w} {w₁} {c} {r} {p} {v} j l x e h m =
    let q : Moves w w₁ c r (λ M. ordinary_next M (with_operand M.state l x) p v) = rw e at m in
    rw (lt-ltb l limit h) at q

pub entry-moved : {w w₁ : List ℕ} {c r : Control} {p v : ℕ} (i : ℕ) (x : Tagged)
    → Moves w w₁ c r (λ M. ordinary_next M (with_operand M.state (limit + i) x) p v)
    → Moves w w₁ c r (λ M. ordinary_next M (with_outside M.state (reworded M.state.outside i x)) p v)
entry-moved {w} {w₁} {c} {r} {p} {v} i x m =
    let h : limit ≤ limit + i = omega arith in
    let z : limit + i - limit ≡ i = omega arith in
    rw (le-ltb (limit + i) limit h, z) at m

-- an entry added to the table, which has i
module _ (w : List ℕ) (c : Control) (i a p v : ℕ) (x : Tagged) (f : Fit w c) (b : Left c v) (hc : i ≡ count_in w) (hi : i < max_entries)
    (e : length x.deps.words ≡ 4) where
  past-log : log_base ≤ length w
  past-log = omega (arith, f.room)

  pub append-plain : c.depth ≡ 0 → Moves w (appended w i a x) c (gone c p v) (λ M. ordinary_next M (with_entry M.state a x) p v)
  append-plain =
      stored-plain w (appended w i a x) c p v (λ σ. with_entry σ a x) f b (λ n hn. appended-state w i a x hi past-log e n hn hc)
      (appended-length w i a x hi past-log e)
      (drop_past (appended w i a x) w log_base reports (omega arith) (appended-drop w i a x hi past-log e))

  pub append_open : (c.depth ≡ 0 → ⊥) → Moves w (extended w c.log i a x) c (logged_to c p v) (λ M. ordinary_next M (with_entry M.state a x) p v)
  append_open o =
      let q = log-room f in
      let r : change_base c.log + 6 ≤ length w = omega (arith, f.room) in
      stored_open w (extended w c.log i a x) c p v (λ σ. with_entry σ a x) f b (λ n hn. extended-state w n c.log i a x hn hi hc r e)
      (extended-length w 0 c.log i a x (omega arith) hi hc r e) (extended-frame w 0 c.log i a x (omega arith) hi hc r e reports q)
      o (λ n hn. extended_logged w n c.log i a x hn hi hc r e) (extended-log w 0 c.log i a x (omega arith) hi hc r e f.log)
      (extended-branch w 0 c.log i a x (omega arith) hi hc r e)

-- ---- rule 2
new-window : (e : ℕ → OpenBranch) (g : ℕ → Change) (σ : State) (x k d u v : ℕ) → window_at d u v ≡ window_on (branches_of e g σ x k d) u v
new-window e g σ x k zero u v = refl
new-window e g σ x k (suc d) u v = refl

new-bound : (e : ℕ → OpenBranch) (x d k u v : ℕ) → WindowBound e x d k → (0 < d → v < x) → u ≤ max_window → k + d + window_at d u v ≤ max_window
new-bound e x zero k u v h b a = let z = h.0 in omega arith
new-bound e x (suc d) k u v h b a = let y = h.1 in let z = b (omega arith) in omega arith

module _ (w : List ℕ) (c : Control) (p t u v : ℕ) (f : Fit w c) (b : Left c v) (a : u ≤ max_window) where
  pub open_bound : c.log + c.depth + window_at c.depth u v ≤ max_window
  open_bound = new-bound (branch_at w) c.window c.depth c.log u v f.bound b.less a

  abbrev new : OpenBranch
  new = record { id = c.opened; target = t; outer = v; mark = c.log }

  abbrev w₁ : List ℕ
  w₁ = branch_stored w c.depth new

  abbrev deeper : ℕ → Control
  deeper x = record { place = p; depth = c.depth + 1; log = c.log; opened = c.opened + 1; window = x }

  opened : Moves w w₁ c (deeper (window_at c.depth u v)) (λ M. opening_next M p t u v)
  opened =
      let d = c.depth in
      let k = c.log in
      let x = window_at d u v in
      let ns = c.opened ∷ t ∷ v ∷ k ∷ [] in
      let r = f.room in
      let h = bound-left (branch_at w) c.window v d k b.less b.some f.bound in
      let i : 6 * k + 4 * d ≤ first_branch = omega (arith, open_bound) in
      let H = pushed-bound w 0 k d new (omega arith) r i refl h x open_bound in
      record {
        machine = λ n hn.
            let S = pushed-state w n k d new hn r i refl h in
            let W = new-window (branch_at w) (change_at w) (state_in w n) c.window k d u v in
            let L = top_left (branch_at w) (change_at w) (state_in w n) c.window v k d in
            let B₁ = ap (branches_of (branch_at w₁) (change_at w₁) (state_in w₁ n) x k) (add-one d) in
            let B₂ = pushed-branches w n k d new hn r i refl h x in
            let B = B₁ ∙ B₂ ∙ (λ j. record { id = c.opened; saved = state_in w n; target = t; window = W j } ∷ L j) in
            λ j. record { state = S j; place = p; branches = B j; opened = add-one c.opened j };
        fits = record {
          room = rw (length-sets w (branch_base d) ns) r;
          bound = subst (λ (j : ℕ). WindowBound (branch_at w₁) x j k) (sym (add-one d)) H;
          opened = let o = f.opened in omega arith;
          log = pushed-log w 0 k d new (omega arith) r i refl h f.log;
        };
        frame = drop-sets ns w (branch_base d) reports (omega arith);
      }

  pub open_law : (x : ℕ) → x ≡ window_at c.depth u v → Moves w w₁ c (deeper x) (λ M. opening_next M p t u v)
  open_law x e = subst (λ (y : ℕ). Moves w w₁ c (deeper y) (λ M. opening_next M p t u v)) (sym e) opened

-- ---- rule 1
-- the branch of an open branch in the words with the window v, whose saved state is what the changes down to its mark give back
abbrev pub branch_of : OpenBranch → (ℕ → Change) → State → ℕ → ℕ → Branch
branch_of y g σ v k = record { id = y.id; saved = saved_at g σ k y.mark; target = y.target; window = v }

-- where a branch is open, the top and the others
pub open_branches : (e : ℕ → OpenBranch) (g : ℕ → Change) (σ : State) (v k d : ℕ) → 0 < d
    → branches_of e g σ v k d
    ≡ branch_of (e (d - 1)) g σ v k ∷ branches_of e g (saved_at g σ k (e (d - 1)).mark) (e (d - 1)).outer (e (d - 1)).mark (d - 1)
open_branches e g σ v k zero h = absurd (omega arith)
open_branches e g σ v k (suc d) h = let s : suc d - 1 ≡ d = omega arith in rw s

rest-bound : (e : ℕ → OpenBranch) (v d k : ℕ) → 0 < d → WindowBound e v d k → WindowBound e (e (d - 1)).outer (d - 1) (e (d - 1)).mark
rest-bound e v zero k h t = absurd (omega arith)
rest-bound e v (suc d) k h t = let s : suc d - 1 ≡ d = omega arith in rw s t.2

mark_below : (e : ℕ → OpenBranch) (v d k : ℕ) → 0 < d → WindowBound e v d k → (e (d - 1)).mark ≤ k
mark_below e v zero k h t = absurd (omega arith)
mark_below e v (suc d) k h t = let s : suc d - 1 ≡ d = omega arith in rw s t.0

heads : {x y : Branch} {xs ys : List Branch} → x ∷ xs ≡ y ∷ ys → x ≡ y
heads e = cc

tails : {x y : Branch} {xs ys : List Branch} → x ∷ xs ≡ y ∷ ys → xs ≡ ys
tails e = cc

-- of the open branch y that the code read, and of the words w₁ that undoing left
module _ (w w₁ : List ℕ) (c : Control) (y : OpenBranch) (f : Fit w c) (h : 0 < c.depth) (ey : y ≡ branch_at w (c.depth - 1))
    (ew : w₁ ≡ undone w c.log (c.log - y.mark)) where
  abbrev top : OpenBranch
  top = branch_at w (c.depth - 1)

  abbrev after : RolledBack
  after = record {
    control = record { place = y.target; depth = c.depth - 1; log = y.mark; opened = c.opened; window = y.outer };
    id = y.id;
    target = y.target;
  }

  restored : Restored w w₁ c.log (c.log - y.mark)
  restored =
      subst (λ (u : List ℕ). Restored w u c.log (c.log - y.mark)) (sym ew)
      (undone-restores w c.log (c.log - y.mark) (omega (arith, f.room)) f.log)

  past : drop log_base w₁ ≡ drop log_base w
  past = restored.past

  state-back : (n : ℕ) → n ≤ limit → state_in w₁ n ≡ saved_at (change_at w) (state_in w n) c.log top.mark
  state-back n hn = restored.state n hn ∙ ap (λ (b : OpenBranch). saved_at (change_at w) (state_in w n) c.log b.mark) ey

  module _ (n : ℕ) (b : Branch) (bs : List Branch) (e : (machine_of w c n).branches ≡ b ∷ bs) where
    abbrev σ : State
    σ = saved_at (change_at w) (state_in w n) c.log top.mark

    split : branch_of top (change_at w) (state_in w n) c.window c.log ∷ branches_of (branch_at w) (change_at w) σ top.outer top.mark (c.depth - 1)
        ≡ b ∷ bs
    split = sym (open_branches (branch_at w) (change_at w) (state_in w n) c.window c.log c.depth h) ∙ e

    top_is : branch_of top (change_at w) (state_in w n) c.window c.log ≡ b
    top_is = heads split

    others : branches_of (branch_at w) (change_at w) σ top.outer top.mark (c.depth - 1) ≡ bs
    others = tails split

    id_is : y.id ≡ b.id
    id_is = ap (λ (x : OpenBranch). x.id) ey ∙ ap (λ (x : Branch). x.id) top_is

    target_is : y.target ≡ b.target
    target_is = ap (λ (x : OpenBranch). x.target) ey ∙ ap (λ (x : Branch). x.target) top_is

    rolled : n ≤ limit → machine_of w₁ after.control n ≡ (rolling (machine_of w c n) b bs).next
    unfolding rolling
    rolled hn =
        let E = branches-same w₁ w past in
        let G = log-same w₁ w past in
        let S = state-back n hn ∙ ap (λ (x : Branch). x.saved) top_is in
        let R = (λ t. branches_of (E t) (G t) (state-back n hn t) (ey t).outer (ey t).mark (c.depth - 1)) ∙ others in
        λ t. record { state = S t; place = target_is t; branches = R t; opened = c.opened }

  pub roll_law : RollsBack w w₁ c after
  roll_law =
      let T = rest-bound (branch_at w) c.window c.depth c.log h f.bound in
      let E = branches-same w w₁ (sym past) in
      let m = mark_below (branch_at w) c.window c.depth c.log h f.bound in
      let q : y.mark ≡ top.mark = ap (λ (b : OpenBranch). b.mark) ey in
      let left : c.log - (c.log - y.mark) ≡ y.mark = omega arith in
      record {
        machine = λ n b bs hn e. rolled n b bs e hn;
        id = id_is;
        target = target_is;
        fits = record {
          room = rw restored.size f.room;
          bound = subst₂ (λ (e : ℕ → OpenBranch) (b : OpenBranch). WindowBound e b.outer (c.depth - 1) b.mark) E (sym ey) T;
          opened = let o = f.opened in omega arith;
          log = subst (λ (j : ℕ). LogBound (number_at w₁) (change_at w₁) j (count_in w₁)) left restored.log;
        };
        frame = drop_past w₁ w log_base reports (omega arith) past;
      }
