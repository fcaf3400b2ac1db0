-- An answer is a refusal or not, and says one thing.
-- Assumes nothing.
use Rattle.std.specs.Prelude.{◌≡◌, ℕ, Result, Ok, Err}
use Rattle.std.proofs.Common.{arith}

pub refused-done : {A E P : Type 0} {e : E} {x : A} → ◌≡◌ {A = Result A E} (Err e) (Ok x) → P
refused-done {A} {E} {P} {e} {x} h = absurd (let z : ◌≡◌ {A = ℕ} 0 1 = cc in omega arith)

pub same-done : {A E : Type 0} {x y : A} → ◌≡◌ {A = Result A E} (Ok x) (Ok y) → x ≡ y
same-done {A} {E} {x} {y} h = cc
