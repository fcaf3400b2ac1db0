-- The registers of an instruction that the rules read are below 16.
-- Assumes nothing.
use Rattle.std.specs.Prelude.{◌≡◌, refl, Bool, true, false, cond, List, ℕ, zero, suc, ◌<◌, ltb, get_or}
use Rattle.std.proofs.Common.{ltb-true}
use Rattle.location.specs.Sets.{registers}
use Rattle.rules.specs.declared.Refusal.TheVariants as refusals
use Rattle.rules.specs.Rules.Expressions.{Expr}
use Rattle.rules.specs.Rules.Instructions.{Instr, skip, assign, load, store, jmp, beqz, cassign, spbarr}
use Rattle.rules.specs.Rules.JobFile.{Read, got, refused, and_then, refuse, byte, register, word_of, expr, with_register, jump, branch, conditional, fields, instr}
use Rattle.rules.specs.Theorems.Readers.{value_or, Holds, then, always, holds-value}

-- the register that an instruction names, beside those of its expressions
abbrev pub RegistersBelow : ℕ → Instr → Type 0
RegistersBelow n skip = Unit
RegistersBelow n (assign r e) = r < n
RegistersBelow n (load r e) = r < n
RegistersBelow n (store r e) = r < n
RegistersBelow n (jmp e) = Unit
RegistersBelow n (beqz r l) = r < n
RegistersBelow n (cassign r c e) = r < n
RegistersBelow n spbarr = Unit

abbrev Below : Instr → Type 0
Below = RegistersBelow registers

register-holds : (p : List ℕ) (at : ℕ) → Holds (λ r. r < registers) (register p at)
unfolding register
register-holds p at =
    then (λ r. Unit) (λ r. r < registers) (byte p at) (λ r q. cond (ltb r registers) (got r q) (refused refusals.Encoding)) (always (byte p at))
    (λ r q u. tested r q (ltb r registers) refl)
  where
    tested : (r q : ℕ) (b : Bool) → ltb r registers ≡ b → Holds (λ x. x < registers) (cond b (got r q) (refused refusals.Encoding))
    tested r q true e = ltb-true r registers e
    tested r q false e = tt

-- the fields that follow a register, and those that follow anything else
after-register : (p : List ℕ) (at : ℕ) (f : ℕ → ℕ → Read Instr) → ((r q : ℕ) → r < registers → Holds Below (f r q))
    → Holds Below (and_then (register p at) f)
after-register p at f k = then (λ r. r < registers) Below (register p at) f (register-holds p at) k

after : {A : Type 0} (m : Read A) (f : A → ℕ → Read Instr) → ((a : A) (q : ℕ) → Holds Below (f a q)) → Holds Below (and_then m f)
after m f k = then (λ a. Unit) Below m f (always m) (λ a q u. k a q)

with_register-holds : (f : ℕ → Expr → Instr) → ((r : ℕ) (e : Expr) → r < registers → Below (f r e))
    → (p : List ℕ) (at : ℕ) → Holds Below (with_register f p at)
unfolding with_register
with_register-holds f k p at = after-register p at _ (λ r q h. after (expr p q) _ (λ e q'. k r e h))

jump-holds : (p : List ℕ) (at : ℕ) → Holds Below (jump p at)
unfolding jump
jump-holds p at = after (expr p at) _ (λ e q. tt)

branch-holds : (p : List ℕ) (at : ℕ) → Holds Below (branch p at)
unfolding branch
branch-holds p at = after-register p at _ (λ r q h. after (word_of 2 p q) _ (λ l q'. h))

conditional-holds : (p : List ℕ) (at : ℕ) → Holds Below (conditional p at)
unfolding conditional
conditional-holds p at = after-register p at _ (λ r q h. after (expr p q) _ (λ c q'. after (expr p q') _ (λ e q''. h)))

-- by the kind byte
fields-hold : (k : ℕ) (p : List ℕ) (at : ℕ) → Holds Below (get_or fields k (refuse refusals.Encoding) p at)
unfolding fields
fields-hold zero p at = tt
fields-hold (suc zero) p at = with_register-holds assign (λ r e h. h) p at
fields-hold (suc (suc zero)) p at = with_register-holds load (λ r e h. h) p at
fields-hold (suc (suc (suc zero))) p at = with_register-holds store (λ r e h. h) p at
fields-hold (suc (suc (suc (suc zero)))) p at = jump-holds p at
fields-hold (suc (suc (suc (suc (suc zero))))) p at = branch-holds p at
fields-hold (suc (suc (suc (suc (suc (suc zero)))))) p at = conditional-holds p at
fields-hold (suc (suc (suc (suc (suc (suc (suc zero))))))) p at = tt
fields-hold (suc (suc (suc (suc (suc (suc (suc (suc k)))))))) p at = tt

instr-holds : (p : List ℕ) (at : ℕ) → Holds Below (instr p at)
unfolding instr
instr-holds p at = after (byte p at) _ (λ k q. fields-hold k p q)

pub instr-below : (p : List ℕ) (at : ℕ) → RegistersBelow registers (value_or skip (instr p at))
instr-below p at = holds-value Below skip (instr p at) tt (instr-holds p at)
