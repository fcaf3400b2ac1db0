-- How sums of bytes and the loops over tokens meet the rules' readers.
-- Assumes nothing.
use mathlib.Core.Path.{◌≡◌, refl, ap}
use mathlib.Core.List.{List, [], ◌∷◌}
use Rattle.std.specs.Prelude.{◌⊎◌, Ok, Err}
use Rattle.std.proofs.lemmas.Bool.Decides.{nat_tests}
use Rattle.rules.specs.declared.Refusal.TheVariants as refusals
use Prim.Native.Nat.{ℕ, zero, suc, ◌+◌, ◌*◌, ◌^◌, ◌<◌, ◌≤◌}
use native.Mathlib.Nat.{pow-suc, mul_assoc, mul_comm}
use native.Mathlib.Omega.{arith}
use lib.ListN.{length, get_or}
use borrow.Author.Tests.{le-leb}
use Rattle.rules.specs.declared.Refusal.{Refusal}
use Rattle.rules.specs.Rules.Expressions.{Token, Expr, takes, after, held}
use Rattle.rules.specs.Rules.JobFile.{Read, got, refused, and_then, little, token, tokens, expr}
use Rattle.rules.specs.Theorems.Readers.{value_or}
use Rattle.token.specs.declared.Scan.{Scan}
use Rattle.token.specs.Bytes.{byte-got}
use Rattle.token.specs.Meaning.{scan_of}

-- ---- numbers: those of the first j bytes and of the k after them
pub little_join : (p : List ℕ) (at j k : ℕ) → little p at j + 256 ^ j * little p (at + j) k ≡ little p at (j + k)
unfolding little
little_join p at zero k =
    let here : at + 0 ≡ at = omega arith in
    let all : 0 + k ≡ k = omega arith in
    rw (here, all) (omega arith)
little_join p at (suc j) k =
    let next : at + 1 + j ≡ at + suc j = omega arith in
    let count : suc j + k ≡ suc (j + k) = omega arith in
    let rest = rw next at (little_join p (at + 1) j k) in
    let high = little p (at + suc j) k in
    let weight : 256 ^ suc j * high ≡ 256 * (256 ^ j * high) = rw (pow-suc 256 j, mul_comm (256 ^ j) 256) (mul_assoc 256 (256 ^ j) high) in
    rw count (omega arith)

-- ---- tokens: the scan of one more token
cons : (R : Read Expr) (t : Token) (d : ℕ) → scan_of d (and_then R (λ ts q. got (t ∷ ts) q)) ≡ scan_of (after d (takes t)) R
unfolding held
cons (got ts q) t d = refl
cons (refused r) t d = refl

pub tokens-got : (k : ℕ) (p : List ℕ) (at d q : ℕ) (t : Token) → got t q ≡ token p at
    → scan_of d (tokens (suc k) p at) ≡ scan_of (after d (takes t)) (tokens k p q)
unfolding tokens
tokens-got k p at d q t e = rw (← e) (cons (tokens k p q) t d)

pub tokens-refused : (k : ℕ) (p : List ℕ) (at d : ℕ) (r : Refusal) → refused r ≡ token p at
    → scan_of d (tokens (suc k) p at) ≡ Err r
unfolding tokens
tokens-refused k p at d r e = rw (← e)

-- an expression with a count that is allowed: its tokens
pub expr-tokens : (p : List ℕ) (at k : ℕ) → at < length p → k ≡ get_or p at 0 → 1 ≤ k → k ≤ 16 → expr p at ≡ tokens k p (at + 1)
unfolding expr
expr-tokens p at k h e l u = rw (byte-got p at h, ← e, le-leb 1 k l, le-leb k 16 u)

-- a count that is not allowed
pub expr_refused : (p : List ℕ) (at k : ℕ) → at < length p → k ≡ get_or p at 0 → (k < 1) ⊎ ((1 ≤ k) × (16 < k)) → expr p at ≡ refused refusals.Encoding
unfolding expr
expr_refused p at k h e n = rw (byte-got p at h, ← e) (grind (arith, nat_tests, n))

-- ---- what a scan s says of the tokens
pub scan_got : (R : Read Expr) (d : ℕ) (s : Scan) → Ok s ≡ scan_of d R → got (value_or [] R) s.next ≡ R
scan_got (got ts q) d s e = let e₁ : s ≡ record { next = q; held = held d ts } = cc in ap (λ (x : Scan). got ts x.next) e₁
scan_got (refused r) d s e = absurd (cc)

pub scan_held : (R : Read Expr) (d : ℕ) (s : Scan) → Ok s ≡ scan_of d R → s.held ≡ held d (value_or [] R)
scan_held (got ts q) d s e = let e₁ : s ≡ record { next = q; held = held d ts } = cc in ap (λ (x : Scan). x.held) e₁
scan_held (refused r) d s e = absurd (cc)

pub scan_refused : (R : Read Expr) (d : ℕ) (r : Refusal) → Err r ≡ scan_of d R → refused r ≡ R
scan_refused (got ts q) d r e = absurd (cc)
scan_refused (refused r') d r e = let e₁ : r ≡ r' = cc in ap refused e₁
