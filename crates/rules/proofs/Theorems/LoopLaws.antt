-- The four ways a run goes on, and the induction over a run; no later proof opens the loop.
-- Assumes nothing.
use Rattle.std.specs.Prelude.{◌≡◌, Bool}
use Rattle.std.proofs.Math.Path.{refl}
use Rattle.std.proofs.Math.Bool.{true, false}
use Prim.Native.Nat.{ℕ, zero, suc}
use Rattle.rules.specs.declared.Stop.{Stop}
use Rattle.rules.specs.declared.Stop.TheVariants.{Finished, Spent}
use Rattle.rules.specs.Rules.Loop.{Halt, proceed, halted, Ended, ended, loop}

module _ {M G : Type 0} (over : M → Bool) (halt : M → G → Halt G) (next : M → M) (note : M → G → G) where
  pub loop-over : (k : ℕ) (m : M) (g : G) → over m ≡ true → loop over halt next note k m g ≡ ended Finished m g
  unfolding loop
  loop-over zero m g e = rw (e, loop)
  loop-over (suc k) m g e = rw (e, loop)

  pub loop_spent : (m : M) (g : G) → over m ≡ false → loop over halt next note zero m g ≡ ended Spent m g
  unfolding loop
  loop_spent m g e = rw (e, loop)

  pub loop-halted : (k : ℕ) (m : M) (g h : G) (x : Stop) → over m ≡ false → halt m g ≡ halted x h
      → loop over halt next note (suc k) m g ≡ ended x m h
  unfolding loop
  loop-halted k m g h x e q = rw (e, q, loop)

  pub loop-step : (k : ℕ) (m : M) (g : G) → over m ≡ false → halt m g ≡ proceed
      → loop over halt next note (suc k) m g ≡ loop over halt next note k (next m) (note m g)
  unfolding loop
  loop-step k m g e h = rw (e, h, loop)

  -- What holds at each way out, and is carried back over each step made, holds of a run.
  module _
      (P : ℕ → M → G → Ended M G → Type 0)
      (at-over : (k : ℕ) (m : M) (g : G) → over m ≡ true → P k m g (ended Finished m g))
      (at-spent : (m : M) (g : G) → over m ≡ false → P zero m g (ended Spent m g))
      (at-halted : (k : ℕ) (m : M) (g h : G) (x : Stop) → over m ≡ false → halt m g ≡ halted x h → P (suc k) m g (ended x m h))
      (at-step : (k : ℕ) (m : M) (g : G) → over m ≡ false → halt m g ≡ proceed
      → P k (next m) (note m g) (loop over halt next note k (next m) (note m g))
      → P (suc k) m g (loop over halt next note k (next m) (note m g))) where
    pub loop_ind : (k : ℕ) (m : M) (g : G) → P k m g (loop over halt next note k m g)
    unfolding loop
    loop_ind zero m g = go (over m) refl
      where
        go : (b : Bool) → over m ≡ b → P zero m g (elim b [ true ↦ ended Finished m g | false ↦ ended Spent m g ])
        go true e = at-over zero m g e
        go false e = at-spent m g e
    loop_ind (suc k) m g = go (over m) (halt m g) refl refl (loop_ind k (next m) (note m g))
      where
        go : (b : Bool) (h : Halt G) → over m ≡ b → halt m g ≡ h
            → P k (next m) (note m g) (loop over halt next note k (next m) (note m g))
            → P (suc k) m g (elim b [
              | true ↦ ended Finished m g
              | false ↦ elim h [ proceed ↦ loop over halt next note k (next m) (note m g) | halted x h ↦ ended x m h ]
            ])
        go true h e q r = at-over (suc k) m g e
        go false proceed e q r = at-step k m g e q r
        go false (halted x h) e q r = at-halted k m g h x e q
