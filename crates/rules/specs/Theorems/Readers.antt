-- The logic of readers: whether something was read, what it is, and what holds of it.
-- Assumes nothing.
use Rattle.std.specs.Prelude.{◌≡◌, refl, Bool, true, false, ℕ}
use Rattle.std.proofs.Common.{arith}
use Rattle.rules.specs.declared.Refusal.{Refusal}
use Rattle.rules.specs.Rules.JobFile.{Read, got, refused, and_then}

-- whether something was read
unfoldable pub readable : {A : Type 0} → Read A → Bool
readable (got a q) = true
readable (refused r) = false

-- the offset after what was read
unfoldable pub next_offset : {A : Type 0} → Read A → ℕ
next_offset (got a q) = q
next_offset (refused r) = 0

-- what was read, or a value in its place
abbrev pub value_or : {A : Type 0} → A → Read A → A
value_or d (got a q) = a
value_or d (refused r) = d

-- ---- what is refused was not read
pub refused-got : {P A : Type 0} {r : Refusal} {x : A} {q : ℕ} → refused r ≡ got x q → P
refused-got {P} {A} {r} {x} {q} e = absurd (let z : ◌≡◌ {A = ℕ} 0 1 = cc in omega arith)

pub unread : {P : Type 0} → false ≡ true → P
unread h = absurd (let z : ◌≡◌ {A = ℕ} 0 1 = cc in omega arith)

-- two parts, one after the other
pub first_read : {A B : Type 0} (d : A) (R : Read A) (f : A → ℕ → Read B) → readable (and_then R f) ≡ true
    → (readable R ≡ true) × (and_then R f ≡ f (value_or d R) (next_offset R))
unfolding readable next_offset
first_read d (got a q) f h = (refl, refl)
first_read d (refused r) f h = unread h

-- ---- what is read has a property
abbrev pub Holds : {A : Type 0} → (A → Type 0) → Read A → Type 0
Holds P (got a q) = P a
Holds P (refused r) = Unit

pub then : {A B : Type 0} (P : A → Type 0) (Q : B → Type 0) (m : Read A) (f : A → ℕ → Read B) → Holds P m
    → ((a : A) (q : ℕ) → P a → Holds Q (f a q)) → Holds Q (and_then m f)
then P Q (got a q) f h k = k a q h
then P Q (refused r) f h k = tt

pub always : {A : Type 0} (m : Read A) → Holds (λ a. Unit) m
always (got a q) = tt
always (refused r) = tt

-- of the value, where a property holds also for the value that stands in its place
pub holds-value : {A : Type 0} (P : A → Type 0) (d : A) (m : Read A) → P d → Holds P m → P (value_or d m)
holds-value P d (got a q) k h = h
holds-value P d (refused r) k h = k

-- ---- what is read has a property together with the offset after it
abbrev pub HoldsAt : {A : Type 0} → (A → ℕ → Type 0) → Read A → Type 0
HoldsAt P (got a q) = P a q
HoldsAt P (refused r) = Unit

pub then_at : {A B : Type 0} (P : A → ℕ → Type 0) (Q : B → ℕ → Type 0) (m : Read A) (f : A → ℕ → Read B) → HoldsAt P m
    → ((a : A) (q : ℕ) → P a q → HoldsAt Q (f a q)) → HoldsAt Q (and_then m f)
then_at P Q (got a q) f h k = k a q h
then_at P Q (refused r) f h k = tt

pub holds-map : {A : Type 0} (P Q : A → ℕ → Type 0) (m : Read A) → HoldsAt P m → ((a : A) (q : ℕ) → P a q → Q a q) → HoldsAt Q m
holds-map P Q (got a q) h k = k a q h
holds-map P Q (refused r) h k = tt

pub holds-got : {A : Type 0} {a : A} {q : ℕ} (P : A → ℕ → Type 0) (m : Read A) → HoldsAt P m → m ≡ got a q → P a q
holds-got P m h e = rw e at h
