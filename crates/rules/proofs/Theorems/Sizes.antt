-- No instruction changes how many locations there are, and how many words an end area takes.
-- Assumes nothing.
use Rattle.std.specs.Prelude.{◌≡◌, refl, Bool, true, false, cond, List, [], ◌∷◌, ℕ, zero, suc, ◌+◌, ltb, length}
use Rattle.std.proofs.Common.{ap, ap₂, ◌∙◌, length-set, length-append}
use Rattle.location.specs.Sets.{cell_location}
use Rattle.rules.specs.declared.Tagged.{Tagged}
use Rattle.rules.specs.Rules.Instructions.{Instr, skip, assign, load, store, jmp, beqz, cassign, spbarr}
use Rattle.rules.specs.Rules.Plain.{State, Entry, put, with_outside, own_from, values, Code, joined, stored_to, exec}
use Rattle.rules.specs.Rules.Outside.{remember}
use Rattle.rules.specs.Rules.Calls.{padded, table_size, table_words, end_words}

pub own-length : (i : ℕ) (vs : List ℕ) → length (own_from i vs) ≡ length vs
unfolding own_from
own-length i [] = refl
own-length i (v ∷ vs) = ap suc (own-length (suc i) vs)

pub values_length : (ts : List Tagged) → length (values ts) ≡ length ts
unfolding values
values_length [] = refl
values_length (t ∷ ts) = ap suc (values_length ts)

padded-length : (n : ℕ) (ws : List ℕ) → length (padded n ws) ≡ n
unfolding padded
padded-length zero ws = refl
padded-length (suc n) [] = ap suc (padded-length n [])
padded-length (suc n) (w ∷ ws) = ap suc (padded-length n ws)

pub table-length : (es : List Entry) → length (table_words es) ≡ table_size
unfolding table_words
table-length es = padded-length table_size _

pub end-length : (σ : State) → length (end_words σ) ≡ length σ.inside + table_size
unfolding end_words
end-length σ = length-append (values σ.inside) _ ∙ ap₂ ◌+◌ (values_length σ.inside) (table-length σ.outside)

pub put-length : (σ : State) (l : ℕ) (t : Tagged) → length (put σ l t).inside ≡ length σ.inside
unfolding put
put-length σ l t = length-set σ.inside l t

stored-length : (code : Code) (σ : State) (a t : Tagged) → length (stored_to code σ a t).inside ≡ length σ.inside
unfolding stored_to
stored-length code σ a t = go (ltb a.value code.cells)
  where
    go : (b : Bool) → length (cond b (put σ (cell_location a.value) (joined t a.deps))
        (with_outside σ (remember σ.outside a.value (joined t a.deps)))).inside ≡ length σ.inside
    go true = put-length σ (cell_location a.value) (joined t a.deps)
    go false = refl

pub exec-length : (code : Code) (σ : State) (p : ℕ) (i : Instr) → length (exec code σ p i).state.inside ≡ length σ.inside
unfolding exec
exec-length code σ p skip = refl
exec-length code σ p (assign r e) = put-length σ _ _
exec-length code σ p (load r e) = put-length σ _ _
exec-length code σ p (store r e) = stored-length code σ _ _
exec-length code σ p (jmp e) = refl
exec-length code σ p (beqz r l) = refl
exec-length code σ p (cassign r c e) = put-length σ _ _
exec-length code σ p spbarr = refl
