-- A run of any machine: it is finished, or out of steps, or halted before its next step; else it makes the step.
-- Assumes nothing.
use Rattle.std.specs.Prelude.{Bool, true, false, ℕ, zero, suc}
use Rattle.rules.specs.declared.Stop.{Stop}
use Rattle.rules.specs.declared.Stop.TheVariants.{Finished, Spent}

-- what halts the run before its next step, if anything does, and what the run has then gathered
pub data Halt (G : Type 0) : Type 0 where
  proceed : Halt G
  halted : Stop → G → Halt G

-- how a run ended: its stop, its last machine and what it has gathered
pub record Ended (M G : Type 0) : Type 0 where
  pub stop : Stop
  pub last : M
  pub gathered : G

unfoldable pub ended : {M G : Type 0} → Stop → M → G → Ended M G
ended x m g = record { stop = x; last = m; gathered = g }

module _ {M G : Type 0} (over : M → Bool) (halt : M → G → Halt G) (next : M → M) (note : M → G → G) where
  -- at most k steps more
  unfoldable pub loop : ℕ → M → G → Ended M G
  loop zero m g = elim (over m) [ true ↦ ended Finished m g | false ↦ ended Spent m g ]
  loop (suc k) m g =
      elim (over m) [
        | true ↦ ended Finished m g
        | false ↦ elim (halt m g) [ proceed ↦ loop k (next m) (note m g) | halted x h ↦ ended x m h ]
      ]
