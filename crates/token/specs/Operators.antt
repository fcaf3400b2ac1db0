-- The operators by their places in the rules' tables.
-- Assumes nothing.
use Rattle.std.specs.Prelude.{◌≡◌, refl, ◌≢◌, ℕ, zero, suc, get_or}
use Rattle.rules.specs.Rules.Operators.{neg, add}
use Rattle.rules.specs.Rules.JobFile.{unary, binary}

-- ---- a place in a table that no arm of the code names: the first operator
pub unary_default : (i : ℕ) → i ≢ 1 → get_or unary i neg ≡ neg
unfolding unary
unary_default zero h = refl
unary_default (suc zero) h = absurd (h refl)
unary_default (suc (suc i)) h = refl

pub binary_default : (i : ℕ) → i ≢ 1 → i ≢ 2 → i ≢ 3 → i ≢ 4 → i ≢ 5 → i ≢ 6 → i ≢ 7 → i ≢ 8 → i ≢ 9 → get_or binary i add ≡ add
unfolding binary
binary_default zero h₁ h₂ h₃ h₄ h₅ h₆ h₇ h₈ h₉ = refl
binary_default (suc zero) h₁ h₂ h₃ h₄ h₅ h₆ h₇ h₈ h₉ = absurd (h₁ refl)
binary_default (suc (suc zero)) h₁ h₂ h₃ h₄ h₅ h₆ h₇ h₈ h₉ = absurd (h₂ refl)
binary_default (suc (suc (suc zero))) h₁ h₂ h₃ h₄ h₅ h₆ h₇ h₈ h₉ = absurd (h₃ refl)
binary_default (suc (suc (suc (suc zero)))) h₁ h₂ h₃ h₄ h₅ h₆ h₇ h₈ h₉ = absurd (h₄ refl)
binary_default (suc (suc (suc (suc (suc zero))))) h₁ h₂ h₃ h₄ h₅ h₆ h₇ h₈ h₉ = absurd (h₅ refl)
binary_default (suc (suc (suc (suc (suc (suc zero)))))) h₁ h₂ h₃ h₄ h₅ h₆ h₇ h₈ h₉ = absurd (h₆ refl)
binary_default (suc (suc (suc (suc (suc (suc (suc zero))))))) h₁ h₂ h₃ h₄ h₅ h₆ h₇ h₈ h₉ = absurd (h₇ refl)
binary_default (suc (suc (suc (suc (suc (suc (suc (suc zero)))))))) h₁ h₂ h₃ h₄ h₅ h₆ h₇ h₈ h₉ = absurd (h₈ refl)
binary_default (suc (suc (suc (suc (suc (suc (suc (suc (suc zero))))))))) h₁ h₂ h₃ h₄ h₅ h₆ h₇ h₈ h₉ = absurd (h₉ refl)
binary_default (suc (suc (suc (suc (suc (suc (suc (suc (suc (suc i)))))))))) h₁ h₂ h₃ h₄ h₅ h₆ h₇ h₈ h₉ = refl
