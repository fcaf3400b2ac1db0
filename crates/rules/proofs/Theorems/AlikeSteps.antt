-- Two machines side by side: one step of either run keeps them the same but for words whose sets reach outside D, as long as the
-- set of what the step observes lies within D.
-- Assumes nothing.
use Rattle.std.specs.Prelude.{◌≡◌, Bool, cond, List, [], ◌∷◌, leb}
use Rattle.std.proofs.Math.Path.{refl, ap, ap₂}
use Rattle.std.proofs.Math.Bool.{true, false}
use Prim.Native.Nat.{ℕ, suc, min}
use Rattle.std.proofs.Math.ListN.{length}
use Rattle.location.specs.declared.LocationSet.{LocationSet}
use Rattle.location.specs.SetLaws.{Within}
use Rattle.rules.specs.declared.Tagged.{Tagged}
use Rattle.rules.specs.Rules.Expressions.{Expr, eval}
use Rattle.rules.specs.Rules.Instructions.{Instr, skip, assign, load, store, jmp, beqz, cassign, spbarr, start, rollback, pc, loaded, stored}
use Rattle.rules.specs.Rules.Plain.{State, at, Code, end_place, fetch, branch_to, Effect, exec}
use Rattle.rules.specs.Rules.Mispredicting.{Branch, Machine, Step, remaining, lower, ordinary, new_window, opening, forward, rolling, expired, step_on, step}
use Rattle.rules.specs.Rules.Runs.{gather, over_on, over}
use Rattle.rules.proofs.Theorems.StepLaws.{forward-both}
use Rattle.rules.proofs.Theorems.Alike.{Alike, agree_eval, agree_loaded_from, agree_chosen, alike-put, alike-stored_to, same-store_overfull}

-- ---- one instruction: "D gathers the set of every observed address, jump value and branch register", so what is observed is
-- the same where its set lies within D
record SameEffect (D : LocationSet) (x y : Effect) : Type 0 where
  state : Alike D x.state y.state
  place : x.place ≡ y.place
  obs : x.obs ≡ y.obs
  seen : x.seen ≡ y.seen
  overfull : x.overfull ≡ y.overfull

module _ (code : Code) {D : LocationSet} {σ τ : State} (h : Alike D σ τ) where
  same-value : (e : Expr) → Within (eval (at σ) e).deps D → eval (at σ) e ≡ eval (at τ) e
  same-value e w = (agree_eval (at σ) (at τ) h.here e).left w

  same-exec : (p : ℕ) (i : Instr) → Within (exec code σ p i).seen D → SameEffect D (exec code σ p i) (exec code τ p i)
  unfolding exec
  same-exec p skip w = record { state = h; place = refl; obs = refl; seen = refl; overfull = refl }
  same-exec p (assign r e) w = record
      { state = alike-put r h (agree_eval (at σ) (at τ) h.here e); place = refl; obs = refl; seen = refl; overfull = refl }
  same-exec p (load r e) w =
      let q = same-value e w in
      record {
        state = rw (← q) (alike-put r h (agree_loaded_from code h (eval (at σ) e)));
        place = refl;
        obs = ap (λ (t : Tagged). loaded t.value ∷ []) q;
        seen = ap (λ (t : Tagged). t.deps) q;
        overfull = refl;
      }
  same-exec p (store r e) w =
      let q = same-value e w in
      record {
        state = rw (← q) (alike-stored_to code h (eval (at σ) e) (h.here r));
        place = refl;
        obs = ap (λ (t : Tagged). stored t.value ∷ []) q;
        seen = ap (λ (t : Tagged). t.deps) q;
        overfull = rw (← q) (same-store_overfull code h (eval (at σ) e));
      }
  same-exec p (jmp e) w =
      let q = same-value e w in
      record {
        state = h;
        place = ap (λ (t : Tagged). min t.value (end_place code)) q;
        obs = ap (λ (t : Tagged). pc (min t.value (end_place code)) ∷ []) q;
        seen = ap (λ (t : Tagged). t.deps) q;
        overfull = refl;
      }
  same-exec p (beqz r l) w =
      let q = (h.here r).left w in
      record {
        state = h;
        place = ap (λ (t : Tagged). branch_to t l (suc p)) q;
        obs = ap (λ (t : Tagged). pc (branch_to t l (suc p)) ∷ []) q;
        seen = ap (λ (t : Tagged). t.deps) q;
        overfull = refl;
      }
  same-exec p (cassign r c e) w = record {
    state = alike-put r h (agree_chosen (agree_eval (at σ) (at τ) h.here c) (agree_eval (at σ) (at τ) h.here e) (h.here r));
    place = refl;
    obs = refl;
    seen = refl;
    overfull = refl;
  }
  same-exec p spbarr w = record { state = h; place = refl; obs = refl; seen = refl; overfull = refl }

-- how many observations an instruction makes does not rest on the state
count-exec : (code : Code) (σ τ : State) (p q : ℕ) (i : Instr) → length (exec code σ p i).obs ≡ length (exec code τ q i).obs
unfolding exec
count-exec code σ τ p q skip = refl
count-exec code σ τ p q (assign r e) = refl
count-exec code σ τ p q (load r e) = refl
count-exec code σ τ p q (store r e) = refl
count-exec code σ τ p q (jmp e) = refl
count-exec code σ τ p q (beqz r l) = refl
count-exec code σ τ p q (cassign r c e) = refl
count-exec code σ τ p q spbarr = refl

-- ---- machines that differ only in words whose sets reach outside D
pub record SameBranch (D : LocationSet) (a b : Branch) : Type 0 where
  pub id : a.id ≡ b.id
  pub saved : Alike D a.saved b.saved
  pub target : a.target ≡ b.target
  pub window : a.window ≡ b.window

pub data SameBranches (D : LocationSet) : List Branch → List Branch → Type 0 where
  none : SameBranches D [] []
  more : {a b : Branch} {xs ys : List Branch} → SameBranch D a b → SameBranches D xs ys → SameBranches D (a ∷ xs) (b ∷ ys)

pub record Same (D : LocationSet) (M N : Machine) : Type 0 where
  pub state : Alike D M.state N.state
  pub place : M.place ≡ N.place
  pub branches : SameBranches D M.branches N.branches
  pub opened : M.opened ≡ N.opened

pub record SameStep (D : LocationSet) (s t : Step) : Type 0 where
  pub next : Same D s.next t.next
  pub obs : s.obs ≡ t.obs
  pub seen : s.seen ≡ t.seen
  pub cause : s.cause ≡ t.cause
  pub back : s.back ≡ t.back
  pub overfull : s.overfull ≡ t.overfull

module _ (code : Code) {D : LocationSet} where
  same-lower : (i : Instr) {xs ys : List Branch} → SameBranches D xs ys → SameBranches D (lower code i xs) (lower code i ys)
  unfolding lower
  same-lower i none = none
  same-lower i (more b bs) =
      more (record { id = b.id; saved = b.saved; target = b.target; window = ap (remaining code i) b.window }) bs

  same-window : {xs ys : List Branch} → SameBranches D xs ys → new_window code xs ≡ new_window code ys
  unfolding new_window
  same-window none = refl
  same-window (more b bs) = b.window

  same-over_on : {p q : ℕ} {xs ys : List Branch} → p ≡ q → SameBranches D xs ys → over_on code p xs ≡ over_on code q ys
  unfolding over_on
  same-over_on e none = ap (leb (end_place code)) e
  same-over_on e (more b bs) = refl

  pub same-gather : {xs ys : List Branch} (P s : LocationSet) → SameBranches D xs ys → gather xs P s ≡ gather ys P s
  unfolding gather
  same-gather P s none = refl
  same-gather P s (more b bs) = refl

  module _ {M N : Machine} (h : Same D M N) where
    pub same-ordinary : (i : Instr) → Within (ordinary code M i).seen D → SameStep D (ordinary code M i) (ordinary code N i)
    unfolding ordinary
    same-ordinary i w =
        let x : SameEffect D (exec code M.state M.place i) (exec code N.state N.place i) =
        rw (← h.place) (same-exec code h.state M.place i w) in
        record {
          next = record { state = x.state; place = x.place; branches = same-lower i h.branches; opened = h.opened };
          obs = x.obs;
          seen = x.seen;
          cause = refl;
          back = refl;
          overfull = x.overfull;
        }

    same-opening : (r l : ℕ) → Within (opening code M r l).seen D → SameStep D (opening code M r l) (opening code N r l)
    unfolding opening
    same-opening r l w =
        let q = (h.state.here r).left w in
        let bs = same-lower (beqz r l) h.branches in
        let target = ap₂ (λ (t : Tagged) (p : ℕ). branch_to t l (suc p)) q h.place in
        let wrong = ap₂ (λ (t : Tagged) (p : ℕ). branch_to t (suc p) l) q h.place in
        record {
          next = record {
            state = h.state;
            place = wrong;
            branches = more (record { id = h.opened; saved = h.state; target = target; window = same-window bs }) bs;
            opened = ap suc h.opened;
          };
          obs = ap₂ (λ (i p : ℕ). start i ∷ pc p ∷ []) h.opened wrong;
          seen = ap (λ (t : Tagged). t.deps) q;
          cause = refl;
          back = refl;
          overfull = refl;
        }

    same-forward : (i : Instr) → Within (forward code M i).seen D → SameStep D (forward code M i) (forward code N i)
    same-forward = forward-both code M N (λ s t. Within s.seen D → SameStep D s t) same-ordinary same-opening

    pub count-ordinary : (i : Instr) → length (ordinary code M i).obs ≡ length (ordinary code N i).obs
    unfolding ordinary
    count-ordinary i = count-exec code M.state N.state M.place N.place i

    count-forward : (i : Instr) → length (forward code M i).obs ≡ length (forward code N i).obs
    unfolding opening
    count-forward = forward-both code M N (λ s t. length s.obs ≡ length t.obs) count-ordinary (λ r l. refl)

    same-rolling : {a b : Branch} {xs ys : List Branch} → SameBranch D a b → SameBranches D xs ys
        → SameStep D (rolling M a xs) (rolling N b ys)
    unfolding rolling
    same-rolling b bs = record {
      next = record { state = b.saved; place = b.target; branches = bs; opened = h.opened };
      obs = ap₂ (λ (i p : ℕ). rollback i ∷ pc p ∷ []) b.id b.target;
      seen = refl;
      cause = refl;
      back = refl;
      overfull = refl;
    }

    pub same_over : over code M ≡ over code N
    unfolding over
    same_over = same-over_on h.place h.branches

    pub same-fetch : fetch code M.place ≡ fetch code N.place
    same-fetch = ap (fetch code) h.place

    same-expired : {a b : Branch} → SameBranch D a b → expired code M.place a ≡ expired code N.place b
    unfolding expired
    same-expired s = rw (s.window, h.place)

    same-step_on : {xs ys : List Branch} → SameBranches D xs ys → Within (step_on code M xs).seen D
        → SameStep D (step_on code M xs) (step_on code N ys)
    unfolding step_on
    same-step_on none w = rw (← same-fetch) (same-forward (fetch code M.place) w)
    same-step_on (more {a = a} {b = b} {xs = xs} {ys = ys} s bs) w =
        rw (← same-fetch, ← same-expired s) (go (expired code M.place a) w)
      where
        go : (c : Bool) → Within (cond c (rolling M a xs) (forward code M (fetch code M.place))).seen D
            → SameStep D (cond c (rolling M a xs) (forward code M (fetch code M.place)))
            (cond c (rolling N b ys) (forward code N (fetch code M.place)))
        go true w = same-rolling s bs
        go false w = same-forward (fetch code M.place) w

    count-step_on : {xs ys : List Branch} → SameBranches D xs ys → length (step_on code M xs).obs ≡ length (step_on code N ys).obs
    unfolding step_on
    count-step_on none = rw (← same-fetch) (count-forward (fetch code M.place))
    count-step_on (more {a = a} {b = b} {xs = xs} {ys = ys} s bs) =
        rw (← same-fetch, ← same-expired s) (go (expired code M.place a))
      where
        go : (c : Bool) → length (cond c (rolling M a xs) (forward code M (fetch code M.place))).obs
            ≡ length (cond c (rolling N b ys) (forward code N (fetch code M.place))).obs
        go true = unfold rolling in refl
        go false = count-forward (fetch code M.place)

    -- the two laws of a step
    pub same_step : Within (step code M).seen D → SameStep D (step code M) (step code N)
    unfolding step
    same_step w = same-step_on h.branches w

    pub count-step : length (step code M).obs ≡ length (step code N).obs
    unfolding step
    count-step = count-step_on h.branches
