-- Demand 2: where the mispredicting run finishes, the plain run of the same job finishes too; its trace is the other's with each
-- outermost wrong path struck out, and the end states and plain sets are equal. The proof is a simulation: the plain machine
-- waits at the true target of the bottom branch until the mispredicting one has rolled back to it.
-- Assumes nothing.
use Rattle.std.specs.Prelude.{◌≡◌, true, false, ◌≢◌, leb, length}
use Rattle.std.proofs.Math.Path.{refl, sym, ap}
use Rattle.std.proofs.Common.{◌∙◌, true≢false, le_refl, leb-true, le-leb, eq-eqb, ne_eqb}
use mathlib.Core.List.{List, [], ◌∷◌, ◌++◌, append_assoc, append-nil}
use Prim.Native.Nat.{ℕ, zero, suc, ◌+◌, ◌<◌, ◌≤◌}
use native.Mathlib.Omega.{arith}
use Rattle.std.proofs.Math.ListN.{length-append}
use Rattle.location.specs.declared.LocationSet.{LocationSet}
use Rattle.location.specs.Sets.{register_location, union}
use Rattle.rules.specs.declared.Stop.TheVariants.{Finished, Spent, TraceFull, OutsideFull}
use Rattle.rules.specs.Rules.Instructions.{Instr, skip, assign, load, store, jmp, beqz, cassign, spbarr, Observation, rollback, pc}
use Rattle.rules.specs.Rules.Plain.{State, at, Code, fetch, branch_to, exec}
use Rattle.rules.specs.Rules.Mispredicting.{Branch, Machine, Step, lower, ordinary, opening, forward, rolling, step, plain_step}
use Rattle.rules.specs.Rules.Loop.{ended}
use Rattle.rules.specs.Rules.Runs.{Gathered, Result, gather, note, over_on, over, fits, run, Job, first, blank, mispredicting_run, plain_run}
use Rattle.rules.specs.Rules.Strike.{strike, strike_to}
use Rattle.rules.proofs.Theorems.RunLaws.{Makes, run-over, run_step, run_ind}
use Rattle.rules.proofs.Theorems.StepLaws.{machine_with, branch_with, forward_cases, step-empty, step_open}

-- ---- the simulation relation
-- the bottom of the stack is branch i, which goes back to state σ and place p; every other id is not i
data BottomIs (i : ℕ) (σ : State) (p : ℕ) : List Branch → Type 0 where
  bottom : {v : ℕ} → BottomIs i σ p (branch_with i σ p v ∷ [])
  above : {j v t : ℕ} {τ : State} {bs : List Branch} → j ≢ i → BottomIs i σ p bs → BottomIs i σ p (branch_with j τ t v ∷ bs)

-- what the mispredicting and the plain run have gathered, with nothing open
record ClosedLogs (g q : Gathered) : Type 0 where
  plain : g.plain ≡ q.plain
  shorter : length q.trace ≤ length g.trace
  struck : (rest : List Observation) → strike (g.trace ++ rest) ≡ q.trace ++ strike rest

-- and with branch i at the bottom, which goes back to place p
record OpenGathered (i p : ℕ) (g q : Gathered) : Type 0 where
  plain : g.plain ≡ q.plain
  shorter : length q.trace ≤ length g.trace
  base : List Observation
  last : q.trace ≡ base ++ (pc p ∷ [])
  struck : (rest : List Observation) → strike (g.trace ++ rest) ≡ base ++ strike_to rest i

-- The plain machine beside the mispredicting one: at the same state and place with nothing open; else at the state and place that
-- the bottom branch goes back to, its last observation being the one that this rollback will make.
data Simulates : Machine → Gathered → Machine → Gathered → Type 0 where
  nothing_open : {σ : State} {p n n' : ℕ} {g q : Gathered} → ClosedLogs g q
      → Simulates (machine_with σ p [] n) g (machine_with σ p [] n') q
  branch_open : {σ τ : State} {i p t n n' : ℕ} {bs : List Branch} {g q : Gathered} → BottomIs i σ p bs → i < n → OpenGathered i p g q
      → Simulates (machine_with τ t bs n) g (machine_with σ p [] n') q

module _ (code : Code) where
  bottom-lower : (x : Instr) {i p : ℕ} {σ : State} {bs : List Branch} → BottomIs i σ p bs → BottomIs i σ p (lower code x bs)
  unfolding lower
  bottom-lower x bottom = bottom
  bottom-lower x (above ne o) = above ne o

  bottom-gather : {i p : ℕ} {σ : State} {bs : List Branch} (P s : LocationSet) → BottomIs i σ p bs → gather bs P s ≡ P
  unfolding gather
  bottom-gather P s bottom = refl
  bottom-gather P s (above ne o) = refl

  bottom-over : {i p : ℕ} {σ : State} {bs : List Branch} (t : ℕ) → BottomIs i σ p bs → over_on code t bs ≡ false
  unfolding over_on
  bottom-over t bottom = refl
  bottom-over t (above ne o) = refl

  -- an instruction of the table observes neither a start nor a rollback
  strike-exec : (σ : State) (p : ℕ) (x : Instr) (rest : List Observation)
      → strike ((exec code σ p x).obs ++ rest) ≡ (exec code σ p x).obs ++ strike rest
  unfolding exec strike
  strike-exec σ p skip rest = refl
  strike-exec σ p (assign r e) rest = refl
  strike-exec σ p (load r e) rest = refl
  strike-exec σ p (store r e) rest = refl
  strike-exec σ p (jmp e) rest = refl
  strike-exec σ p (beqz r l) rest = refl
  strike-exec σ p (cassign r c e) rest = refl
  strike-exec σ p spbarr rest = refl

  strike_to-exec : (σ : State) (p : ℕ) (x : Instr) (rest : List Observation) (i : ℕ)
      → strike_to ((exec code σ p x).obs ++ rest) i ≡ strike_to rest i
  unfolding exec strike_to
  strike_to-exec σ p skip rest i = refl
  strike_to-exec σ p (assign r e) rest i = refl
  strike_to-exec σ p (load r e) rest i = refl
  strike_to-exec σ p (store r e) rest i = refl
  strike_to-exec σ p (jmp e) rest i = refl
  strike_to-exec σ p (beqz r l) rest i = refl
  strike_to-exec σ p (cassign r c e) rest i = refl
  strike_to-exec σ p spbarr rest i = refl

  -- ---- while a branch is open the plain machine waits
  -- what they have gathered after a step whose observations are all struck out
  open_gathered : {i p : ℕ} {g q : Gathered} (M : Machine) (s : Step) → OpenGathered i p g q
      → gather M.branches g.plain s.seen ≡ g.plain
      → ((rest : List Observation) → strike_to (s.obs ++ rest) i ≡ strike_to rest i) → OpenGathered i p (note M s g) q
  unfolding note
  open_gathered M s a e h = record {
    plain = e ∙ a.plain;
    shorter = simp length-append (omega (arith, a.shorter));
    base = a.base;
    last = a.last;
    struck = λ rest. simp append_assoc (a.struck (s.obs ++ rest) ∙ ap (λ (os : List Observation). a.base ++ os) (h rest));
  }

  -- the step s of M, while the plain machine waits
  abbrev Waits : Machine → Gathered → Machine → Gathered → Step → Type 0
  Waits M g N q s = Simulates s.next (note M s g) N q

  module _ {σ : State} {p i : ℕ} {bs : List Branch} {g q : Gathered} (τ : State) (t n n' : ℕ)
      (o : BottomIs i σ p bs) (lt : i < n) (a : OpenGathered i p g q) where
    open_ordinary : (x : Instr)
        → (let M = machine_with τ t bs n in Waits M g (machine_with σ p [] n') q (ordinary code M x))
    unfolding ordinary
    open_ordinary x =
        let M = machine_with τ t bs n in
        branch_open (bottom-lower x o) lt
        (open_gathered M (ordinary code M x) a (bottom-gather g.plain (exec code τ t x).seen o) (λ rest. strike_to-exec τ t x rest i))

    open_opening : (r l : ℕ)
        → (let M = machine_with τ t bs n in Waits M g (machine_with σ p [] n') q (opening code M r l))
    unfolding opening strike_to
    open_opening r l =
        let M = machine_with τ t bs n in
        let lt' : i < suc n = omega arith in
        let ne : n ≢ i = λ (e : n ≡ i). omega arith in
        branch_open (above ne (bottom-lower (beqz r l) o)) lt'
        (open_gathered M (opening code M r l) a (bottom-gather g.plain (at τ (register_location r)).deps o) (λ rest. refl))

    open_forward : (x : Instr)
        → (let M = machine_with τ t bs n in Waits M g (machine_with σ p [] n') q (forward code M x))
    open_forward =
        let M = machine_with τ t bs n in
        forward_cases code M (λ x s. Waits M g (machine_with σ p [] n') q s) (λ x e. open_ordinary x) open_opening

  strike_to-rollback : (i p : ℕ) (rest : List Observation) → strike_to (rollback i ∷ pc p ∷ rest) i ≡ pc p ∷ strike rest
  unfolding strike_to
  strike_to-rollback i p rest = rw (eq-eqb i i refl)

  module _ (σ : State) {p i : ℕ} {g q : Gathered} (τ : State) (t n n' : ℕ) (lt : i < n) (a : OpenGathered i p g q) where
    rolled_gathered : (v : ℕ)
        → (let M = machine_with τ t (branch_with i σ p v ∷ []) n in ClosedLogs (note M (rolling M (branch_with i σ p v) []) g) q)
    unfolding rolling note gather
    rolled_gathered v = record {
      plain = a.plain;
      shorter = simp length-append (omega (arith, a.shorter));
      struck = λ rest.
          ap strike (append_assoc g.trace (rollback i ∷ pc p ∷ []) rest)
          ∙ a.struck (rollback i ∷ pc p ∷ rest)
          ∙ ap (λ (os : List Observation). a.base ++ os) (strike_to-rollback i p rest)
          ∙ sym (ap (λ (os : List Observation). os ++ strike rest) a.last ∙ append_assoc a.base (pc p ∷ []) (strike rest));
    }

    rolling-bottom : (v : ℕ)
        → (let b = branch_with i σ p v in let M = machine_with τ t (b ∷ []) n in Waits M g (machine_with σ p [] n') q (rolling M b []))
    unfolding rolling
    rolling-bottom v = nothing_open (rolled_gathered v)

    rolling-above : (j v t' : ℕ) (ρ : State) {bs : List Branch} → j ≢ i → BottomIs i σ p bs
        → (let b = branch_with j ρ t' v in let M = machine_with τ t (b ∷ bs) n in Waits M g (machine_with σ p [] n') q (rolling M b bs))
    unfolding rolling gather strike_to
    rolling-above j v t' ρ {bs} ne o =
        let M = machine_with τ t (branch_with j ρ t' v ∷ bs) n in
        branch_open o lt (open_gathered M (rolling M (branch_with j ρ t' v) bs) a refl (λ rest. rw (ne_eqb j i ne)))

  -- ---- with nothing open both make the same step, or a branch is opened
  module _ (σ : State) (p n n' : ℕ) {g q : Gathered} (a : ClosedLogs g q) where
    closed-gathered : (x : Instr)
        → (let M = machine_with σ p [] n in let N = machine_with σ p [] n' in
        ClosedLogs (note M (ordinary code M x) g) (note N (ordinary code N x) q))
    unfolding note ordinary gather
    closed-gathered x =
        let os = (exec code σ p x).obs in
        record {
          plain = ap (λ (s : LocationSet). union s (exec code σ p x).seen) a.plain;
          shorter = simp length-append (omega (arith, a.shorter));
          struck = λ rest.
              ap strike (append_assoc g.trace os rest)
              ∙ a.struck (os ++ rest)
              ∙ ap (λ (r : List Observation). q.trace ++ r) (strike-exec σ p x rest)
              ∙ sym (append_assoc q.trace os (strike rest));
        }

    opened-gathered : (r l : ℕ)
        → (let M = machine_with σ p [] n in let N = machine_with σ p [] n' in
        OpenGathered n (branch_to (at σ (register_location r)) l (suc p)) (note M (opening code M r l) g)
        (note N (ordinary code N (beqz r l)) q))
    unfolding note ordinary opening gather exec strike
    opened-gathered r l = record {
      plain = ap (λ (s : LocationSet). union s (at σ (register_location r)).deps) a.plain;
      shorter = simp length-append (omega (arith, a.shorter));
      base = q.trace;
      last = refl;
      struck = λ rest. ap strike (append_assoc g.trace _ rest) ∙ a.struck _;
    }

    closed-ordinary : (x : Instr)
        → (let M = machine_with σ p [] n in let N = machine_with σ p [] n' in let s = ordinary code M x in let u = ordinary code N x in
        Simulates s.next (note M s g) u.next (note N u q))
    unfolding ordinary lower
    closed-ordinary x = nothing_open (closed-gathered x)

    closed-opening : (r l : ℕ)
        → (let M = machine_with σ p [] n in let N = machine_with σ p [] n' in
        let s = opening code M r l in let u = ordinary code N (beqz r l) in
        Simulates s.next (note M s g) u.next (note N u q))
    unfolding ordinary opening lower exec
    closed-opening r l = let lt : n < suc n = omega arith in branch_open bottom lt (opened-gathered r l)

    -- the plain step of x is made beside the step s
    record Beside (room : ℕ) (x : Instr) (s : Step) : Type 0 where
      makes : Makes room (ordinary code (machine_with σ p [] n') x) q
      simulates : (let N = machine_with σ p [] n' in let u = ordinary code N x in
          Simulates s.next (note (machine_with σ p [] n) s g) u.next (note N u q))

    fits-less : (room k k' : ℕ) → k' ≤ k → leb (length g.trace + k) room ≡ true
        → leb (length q.trace + k') room ≡ true
    fits-less room k k' h e = le-leb (length q.trace + k') room (omega (arith, leb-true (length g.trace + k) room e, a.shorter))

    beside_ordinary : (room : ℕ) (x : Instr) → Makes room (ordinary code (machine_with σ p [] n) x) g
        → Beside room x (ordinary code (machine_with σ p [] n) x)
    unfolding fits ordinary
    beside_ordinary room x e = record {
      makes = record { fit = fits-less room _ _ (le_refl _) e.fit; storable = e.storable };
      simulates = closed-ordinary x;
    }

    beside_opening : (room r l : ℕ) → Makes room (opening code (machine_with σ p [] n) r l) g
        → Beside room (beqz r l) (opening code (machine_with σ p [] n) r l)
    unfolding fits ordinary opening exec
    beside_opening room r l e = record {
      makes = record { fit = fits-less room 2 1 (omega arith) e.fit; storable = refl };
      simulates = closed-opening r l;
    }

    closed-forward : (room : ℕ) (x : Instr) → Makes room (forward code (machine_with σ p [] n) x) g
        → Beside room x (forward code (machine_with σ p [] n) x)
    closed-forward room =
        forward_cases code (machine_with σ p [] n) (λ x s. Makes room s g → Beside room x s)
        (λ x e. beside_ordinary room x) (beside_opening room)

  -- ---- one step: the plain machine waits, or makes a step of its own
  data Simulated (room : ℕ) (M : Machine) (g : Gathered) (N : Machine) (q : Gathered) : Type 0 where
    waits : Waits M g N q (step code M) → Simulated room M g N q
    steps : over code N ≡ false → Makes room (plain_step code N) q
        → Simulates (step code M).next (note M (step code M) g) (plain_step code N).next (note N (plain_step code N) q)
        → Simulated room M g N q

  simulated : (room : ℕ) {M N : Machine} {g q : Gathered} → over code M ≡ false → Makes room (step code M) g
      → Simulates M g N q → Simulated room M g N q
  unfolding plain_step over over_on
  simulated room {g = g} e f (nothing_open {σ = σ} {p = p} {n = n} {n' = n'} a) =
      let b = closed-forward σ p n n' a room (fetch code p) (rw (step-empty code σ p n) at f) in
      steps e b.makes (rw (step-empty code σ p n) b.simulates)
  simulated room {g = g} {q = q} e f (branch_open {σ = σ} {τ = τ} {i = i} {p = p} {t = t} {n = n} {n' = n'} (bottom {v = v}) lt a) =
      let M = machine_with τ t (branch_with i σ p v ∷ []) n in
      waits (step_open code τ t n (branch_with i σ p v) [] (Waits M g (machine_with σ p [] n') q) (rolling-bottom σ τ t n n' lt a v)
      (λ x. open_forward τ t n n' bottom lt a (fetch code t)))
  simulated room {g = g} {q = q} e f
      (branch_open {σ = σ} {τ = τ} {p = p} {t = t} {n = n} {n' = n'} (above {j = j} {v = v} {t = t'} {τ = ρ} {bs = bs} ne o) lt a) =
      let M = machine_with τ t (branch_with j ρ t' v ∷ bs) n in
      waits (step_open code τ t n (branch_with j ρ t' v) bs (Waits M g (machine_with σ p [] n') q)
      (rolling-above σ τ t n n' lt a j v t' ρ ne o)
      (λ x. open_forward τ t n n' (above ne o) lt a (fetch code t)))

-- ---- runs
-- "When a run finishes, striking out all from each outermost start to its rollback gives the plain run's trace, and the end states
-- are equal.": what holds of a mispredicting run r that finished and of the plain run s. An end state has values and sets.
pub record PlainMatches (r s : Result) : Type 0 where
  pub stop : s.stop ≡ Finished
  pub trace : s.gathered.trace ≡ strike r.gathered.trace
  pub state : s.last.state ≡ r.last.state
  pub plain : s.gathered.plain ≡ r.gathered.plain

spent≢finished : Spent ≢ Finished
spent≢finished e = let z : ◌≡◌ {A = ℕ} 0 1 = cc in omega arith

full≢finished : TraceFull ≢ Finished
full≢finished e = let z : ◌≡◌ {A = ℕ} 0 1 = cc in omega arith

outside≢finished : OutsideFull ≢ Finished
outside≢finished e = let z : ◌≡◌ {A = ℕ} 0 1 = cc in omega arith

module _ (code : Code) (room : ℕ) where
  -- a plain run of at least as many steps, from any machine that stands beside M
  abbrev Matched : ℕ → Machine → Gathered → Result → Type 0
  Matched k M g r =
      r.stop ≡ Finished → (k' : ℕ) (N : Machine) (q : Gathered) → k ≤ k' → Simulates M g N q
      → PlainMatches r (run (plain_step code) code room k' N q)

  closed-end : (σ : State) (p n n' : ℕ) {g q : Gathered} → ClosedLogs g q
      → PlainMatches (ended Finished (machine_with σ p [] n) g) (ended Finished (machine_with σ p [] n') q)
  unfolding ended strike
  closed-end σ p n n' {g} {q} a = record {
    stop = refl;
    trace = sym (rw (append-nil g.trace, append-nil q.trace) at (a.struck []));
    state = refl;
    plain = sym a.plain;
  }

  at-end : (k : ℕ) (M : Machine) (g : Gathered) → over code M ≡ true → Matched k M g (ended Finished M g)
  unfolding over over_on
  at-end k M g e d k' N q le (nothing_open {σ = σ} {p = p} {n = n} {n' = n'} a) =
      rw (run-over (plain_step code) code room k' (machine_with σ p [] n') q e) (closed-end σ p n n' a)
  at-end k M g e d k' N q le (branch_open {t = t} o lt a) = absurd (true≢false (sym e ∙ bottom-over code t o))

  at-step : (k : ℕ) (M : Machine) (g : Gathered) → over code M ≡ false → Makes room (step code M) g
      → (let M' = (step code M).next in let g' = note M (step code M) g in
      Matched k M' g' (run (step code) code room k M' g') → Matched (suc k) M g (run (step code) code room k M' g'))
  at-step k M g e f ih d k' N q le h = go k' le (simulated code room e f h)
    where
      r : Result
      r = run (step code) code room k (step code M).next (note M (step code M) g)

      go : (k' : ℕ) → suc k ≤ k' → Simulated code room M g N q → PlainMatches r (run (plain_step code) code room k' N q)
      go zero le m = absurd (omega arith)
      go (suc k') le (waits s) = ih d (suc k') N q (omega arith) s
      go (suc k') le (steps e' f' s) =
          rw (run_step (plain_step code) code room k' N q e' f')
          (ih d k' (plain_step code N).next (note N (plain_step code N) q) (omega arith) s)

  matched : (k : ℕ) (M : Machine) (g : Gathered) → Matched k M g (run (step code) code room k M g)
  unfolding ended
  matched =
      run_ind (step code) code room Matched at-end
      (λ M g e d k' N q le h. absurd (spent≢finished d))
      (λ k M g e f d k' N q le h. absurd (full≢finished d))
      (λ k M g e f o d k' N q le h. absurd (outside≢finished d))
      at-step

-- Demand 2: "When a run finishes, striking out all from each outermost start to its rollback gives the plain run's trace, and the end
-- states are equal."
pub demand2 : (job : Job) (room : ℕ) → (mispredicting_run job room).stop ≡ Finished
    → PlainMatches (mispredicting_run job room) (plain_run job room)
unfolding mispredicting_run plain_run first blank strike
demand2 job room d =
    matched job.code room job.budget (first job) blank d job.budget (first job) blank (le_refl job.budget)
    (nothing_open (record { plain = refl; shorter = le_refl _; struck = λ rest. refl }))
