-- The product of two words by their halves of 32 bits.
-- Assumes nothing.
use Rattle.std.proofs.Common.{◌≡◌, ℕ, ◌+◌, ◌*◌, ◌/◌, ◌%◌, ◌^◌, sym, ◌∙◌, ap₂, mul_assoc, add-mul, div-add-mod', mul-add, mul_right_comm, arith}

abbrev H : ℕ
H = 4294967296

expand : (a b c d : ℕ) → (a * H + b) * (c * H + d) ≡ a * c * (2 ^ 64) + (a * d + b * c) * H + b * d
expand a b c d =
    let e₁ : (a * H + b) * (c * H + d) ≡ (a * H + b) * (c * H) + (a * H + b) * d = mul-add _ _ _ in
    let e₂ : (a * H + b) * (c * H) ≡ (a * H + b) * c * H = sym (mul_assoc _ _ _) in
    let e₃ : (a * H + b) * c ≡ a * H * c + b * c = add-mul _ _ _ in
    let e₄ : a * H * c ≡ a * c * H = mul_right_comm _ _ _ in
    let e₅ : (a * H + b) * d ≡ a * H * d + b * d = add-mul _ _ _ in
    let e₆ : a * H * d ≡ a * d * H = mul_right_comm _ _ _ in
    omega arith

-- t is the sum of the cross products modulo 2^64, r what the code gives
pub by_halves : (x y t r : ℕ) → t ≡ (x / H * (y % H) + x % H * (y / H)) % 2 ^ 64
    → r ≡ (t % H * H + x % H * (y % H)) % 2 ^ 64 → r ≡ x * y % 2 ^ 64
by_halves x y t r ht hr =
    let q = x / H * (y / H) in
    let e₀ = expand (x / H) (x % H) (y / H) (y % H) in
    let e₁ : x / H * H + x % H ≡ x = div-add-mod' x H in
    let e₂ : y / H * H + y % H ≡ y = div-add-mod' y H in
    let e₃ : x * y ≡ q * 2 ^ 64 + (x / H * (y % H) + x % H * (y / H)) * H + x % H * (y % H) = ap₂ (λ (u v : ℕ). u * v) (sym e₁) (sym e₂) ∙ e₀ in
    omega arith
