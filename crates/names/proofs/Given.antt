-- What an option of the code says of the rules' option that it was made of.
-- Assumes nothing.
use Rattle.std.proofs.Common.{◌≡◌, refl, Option, Some, None}
use Rattle.std.proofs.Math.Option as rules
use Rattle.names.specs.Meaning.{given}

pub record Gives {A B : Type 0} (f : A → B) (o : rules.Option A) (b : B) : Type 0 where
  pub value : A
  pub named : o ≡ rules.some value
  pub is : b ≡ f value

pub given-some : {A B : Type 0} (f : A → B) (o : rules.Option A) {b : B} → Some b ≡ given f o → Gives f o b
given-some f (rules.some a) e = record { value = a; named = refl; is = (cc) }
given-some f rules.none e = (cc)

pub given-none : {A B : Type 0} (f : A → B) (o : rules.Option A) → None ≡ given f o → o ≡ rules.none
given-none f (rules.some a) e = (cc)
given-none f rules.none e = refl
