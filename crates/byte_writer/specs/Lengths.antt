-- How long a text can be: one of two texts, and the digits of a number.
-- Assumes nothing.
use Rattle.std.specs.Prelude.{Bool, true, false, cond, List, [], ◌∷◌, ℕ, zero, suc, ◌+◌, ◌/◌, ◌%◌, ◌≤◌, ltb, length}
use Rattle.std.proofs.Common.{arith}
use Rattle.rules.specs.Rules.Listing.{digits, decimal}

-- one of two texts
pub cond-length : (b : Bool) (x y : List ℕ) (m : ℕ) → length x ≤ m → length y ≤ m → length (cond b x y) ≤ m
cond-length true x y m p q = p
cond-length false x y m p q = q

digits-length : (k n : ℕ) (rest : List ℕ) → length (digits k n rest) ≤ k + length rest
unfolding digits
digits-length zero n rest = omega arith
digits-length (suc k) n rest =
    cond-length (ltb n 10) ((48 + n) ∷ rest) (digits k (n / 10) ((48 + n % 10) ∷ rest)) (suc k + length rest) (omega arith)
    (omega (arith, digits-length k (n / 10) ((48 + n % 10) ∷ rest)))

pub decimal-length : (n : ℕ) → length (decimal n) ≤ 20
unfolding decimal
decimal-length n = digits-length 20 n []
