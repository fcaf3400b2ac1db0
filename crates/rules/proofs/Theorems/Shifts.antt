-- Document 02, F-2, of every operand: "uses the shift count modulo 64", and "a shift by 64 now gives the left operand".
-- Assumes nothing.
use Rattle.std.specs.Prelude.{◌≡◌, ℕ, ◌<◌, ◌*◌, ◌/◌, ◌%◌, ◌^◌}
use Rattle.std.proofs.Common.{ap, arith}
use Rattle.rules.specs.Rules.Operators.{shl, shr, apply2}

-- counts that are the same modulo 64 shift alike
pub shl_modulo : (a j k : ℕ) → j % 64 ≡ k % 64 → apply2 shl a j ≡ apply2 shl a k
shl_modulo a j k h = ap (λ (c : ℕ). a * 2 ^ c % 2 ^ 64) h

pub shr_modulo : (a j k : ℕ) → j % 64 ≡ k % 64 → apply2 shr a j ≡ apply2 shr a k
shr_modulo a j k h = ap (λ (c : ℕ). a / 2 ^ c) h

-- a count below 64 is itself the number of places
pub shl_below : (a k : ℕ) → k < 64 → apply2 shl a k ≡ a * 2 ^ k % 2 ^ 64
shl_below a k h = ap (λ (c : ℕ). a * 2 ^ c % 2 ^ 64) (omega arith)

pub shr_below : (a k : ℕ) → k < 64 → apply2 shr a k ≡ a / 2 ^ k
shr_below a k h = ap (λ (c : ℕ). a / 2 ^ c) (omega arith)

-- a shift by 64 gives the left operand, whatever word it is
pub shl_by_64 : (a : ℕ) → a < 2 ^ 64 → apply2 shl a 64 ≡ a
shl_by_64 a h = omega arith

pub shr_by_64 : (a : ℕ) → apply2 shr a 64 ≡ a
shr_by_64 a = omega arith
