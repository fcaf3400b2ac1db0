-- What each kind of instruction observes, by what the code has found.
-- Assumes nothing.
use mathlib.Core.Path.{◌≡◌, refl, ap, ◌∙◌, subst}
use mathlib.Core.Bool.{true}
use mathlib.Core.List.{List}
use Prim.Native.Nat.{ℕ, ◌+◌, ◌<◌}
use lib.ListN.{length}
use Rattle.location.specs.declared.Label.{Label}
use Rattle.location.specs.declared.LocationSet.{LocationSet}
use Rattle.location.specs.Sets.{registers, none, empty}
use Rattle.rules.specs.declared.Cause.TheVariants as causes
use Rattle.rules.specs.declared.Tagged.{Tagged}
use Rattle.rules.specs.Rules.Expressions.{sound, eval, SetFirst}
use Rattle.rules.specs.Rules.Plain.{at, exec}
use Rattle.rules.specs.Rules.Mispredicting.{ordinary}
use Rattle.token.specs.declared.Expression.{Expression}
use Rattle.token.specs.Meaning.{tokens_of}
use Rattle.instruction.specs.declared.Instruction.{Instruction}
use Rattle.instruction.specs.declared.Instruction.TheVariants.{Skip, Assign, Load, Store, Jump, BranchZero, AssignIf, Barrier}
use Rattle.work.specs.Words.{set_at, tagged_at}
use Rattle.work.specs.Machines.{state_in}
use Rattle.evaluation.proofs.Laws.{register-at, value_in}
use Rattle.std.specs.Prelude.{Option, Some, None}
use Rattle.execution.specs.declared.first.Sight.{Sight}
use Rattle.execution.specs.Running.{Observes, SightOf}

-- any kind but these four observes nothing
pub observes_nothing : (p w : List ℕ) (i : Instruction) → ((r : ℕ) (e : Expression) → i ≡ Load r e → ⊥)
    → ((r : ℕ) (e : Expression) → i ≡ Store r e → ⊥) → ((e : Expression) → i ≡ Jump e → ⊥)
    → ((r : ℕ) (l : Label) → i ≡ BranchZero r l → ⊥) → Observes p w i causes.Branch empty
unfolding ordinary exec empty none
observes_nothing p w Skip a b c d = record { rule = refl; set = λ code c cells. refl; size = refl }
observes_nothing p w (Assign r e) a b c d = record { rule = refl; set = λ code c cells. refl; size = refl }
observes_nothing p w (Load r e) a b c d = absurd (a r e refl)
observes_nothing p w (Store r e) a b c d = absurd (b r e refl)
observes_nothing p w (Jump e) a b c d = absurd (c e refl)
observes_nothing p w (BranchZero r l) a b c d = absurd (d r l refl)
observes_nothing p w (AssignIf r k e) a b c d = record { rule = refl; set = λ code c cells. refl; size = refl }
observes_nothing p w Barrier a b c d = record { rule = refl; set = λ code c cells. refl; size = refl }

-- the set that was gathered from the registers' sets is that of the value, whatever they hold
in_state : (p w : List ℕ) (e : Expression) {s : LocationSet} → SetFirst (set_at w) (tokens_of p e) s → sound (tokens_of p e) ≡ true → (cells : ℕ)
    → s ≡ (eval (at (state_in w (registers + cells))) (tokens_of p e)).deps
in_state p w e f h cells = f.whatever h (λ r. (tagged_at w r).value) ∙ ap (λ (t : Tagged). t.deps) (value_in p w cells e refl)

module _ (p w : List ℕ) {i : Instruction} where
  pub observes_load : {r : ℕ} (e : Expression) {s : LocationSet} → i ≡ Load r e → SetFirst (set_at w) (tokens_of p e) s → sound (tokens_of p e) ≡ true
      → length s.words ≡ 4 → Observes p w i causes.Load s
  unfolding ordinary exec
  observes_load e ei f h n = rw ei (record { rule = refl; set = λ code c cells. in_state p w e f h cells; size = n })

  pub observes_store : {r : ℕ} (e : Expression) {s : LocationSet} → i ≡ Store r e → SetFirst (set_at w) (tokens_of p e) s → sound (tokens_of p e) ≡ true
      → length s.words ≡ 4 → Observes p w i causes.Store s
  unfolding ordinary exec
  observes_store e ei f h n = rw ei (record { rule = refl; set = λ code c cells. in_state p w e f h cells; size = n })

  pub observes_jump : (e : Expression) {s : LocationSet} → i ≡ Jump e → SetFirst (set_at w) (tokens_of p e) s → sound (tokens_of p e) ≡ true
      → length s.words ≡ 4 → Observes p w i causes.Jump s
  unfolding ordinary exec
  observes_jump e ei f h n = rw ei (record { rule = refl; set = λ code c cells. in_state p w e f h cells; size = n })

  -- register number k is r
  pub observes_branch : {r k : ℕ} {l : Label} {s : LocationSet} → i ≡ BranchZero r l → r < registers → k ≡ r → s ≡ set_at w k
      → length s.words ≡ 4 → Observes p w i causes.Branch s
  unfolding ordinary exec
  observes_branch {r} ei h ek es n =
      rw ei (record {
        rule = refl;
        set = λ code c cells. es ∙ ap (set_at w) ek ∙ ap (λ (t : Tagged). t.deps) (register-at w cells {r = r} h refl refl);
        size = n;
      })

-- what the code has found, and what it has not
pub found : {p w : List ℕ} {i : Instruction} {o : Option Sight} {s : Sight} → o ≡ Some s → SightOf p w i o → Observes p w i s.cause s.seen
found {p} {w} {i} e h = subst (SightOf p w i) e h

pub found_none : {p w : List ℕ} {i : Instruction} (o : Option Sight) → ((s : Sight) → o ≡ Some s → ⊥) → SightOf p w i o
    → Observes p w i causes.Branch empty
found_none None n h = h
found_none (Some s) n h = absurd (n s refl)
