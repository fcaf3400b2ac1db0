-- The part that the lexer finds, as the readers of fields and lines meet it: the field that a name is, and what is none.
-- Assumes nothing.
use mathlib.Core.Path.{◌≡◌, refl, sym, ap, ◌∙◌}
use mathlib.Core.Bool.{Bool, true, false, ◌&&◌}
use mathlib.Core.List.{List}
use mathlib.Core.Option.{Option, none, some}
use Prim.Native.Nat.{ℕ, ◌+◌, ◌<◌, ◌≤◌}
use native.Mathlib.Omega.{arith}
use Prim.{⊥}
use lib.Dec.{leb}
use lib.ListN.{drop}
use borrow.Author.Tests.{lt-leb, le-leb, eq-eqb, ne_eqb}
use Rattle.rules.specs.Rules.Encoding.{bytes_of}
use Rattle.rules.specs.Rules.Parts as rules
use Rattle.rules.specs.Rules.Parts.{parts, segment}
use Rattle.rules.specs.Rules.TextReading.{Taken, took, nothing, taken, by_name}
use Rattle.lexer.specs.declared.Part.{Part}
use Rattle.lexer.specs.declared.Part.TheVariants.{End, Name, Opening, Closing, Other}
use Rattle.lexer.specs.Places.{PartTold}
use Rattle.std.proofs.Common.{Some, None}
use Rattle.names.specs.Meaning.{given}
use Rattle.names.proofs.Given.{given-some, given-none}
use Rattle.byte_writer.specs.Writing.{Put}
use Rattle.text_reader.specs.Fields.{Field, Brought, Unread, label}

-- ---- what is not read
module _ {A : Type 0} {F : Field A} {R : Taken A} where
  pub unread-nothing : R ≡ nothing → Unread F R
  unread-nothing e = record { breaks = λ x ps r. no (sym e ∙ r) }
    where
      no : {x : A} {ps : List rules.Part} → nothing ≡ took x ps → F.kept x ≡ false
      no r = absurd (let z : ◌≡◌ {A = ℕ} 0 1 = cc in omega arith)

  pub unread-broken : {x : A} {ps : List rules.Part} → R ≡ took x ps → F.kept x ≡ false → Unread F R
  unread-broken {x} {ps} e h = record { breaks = λ y qs r. same (sym e ∙ r) }
    where
      same : {y : A} {qs : List rules.Part} → took x ps ≡ took y qs → F.kept y ≡ false
      same {y} r = let s : x ≡ y = cc in ap F.kept (sym s) ∙ h

-- ---- a field that is a name
module _ (text : List ℕ) (at : ℕ) {A : Type 0} (F : Field A) (f : List ℕ → Option A) where
  -- no name stands first
  pub other-unread : (r : Part) → PartTold text at r → ((s e : ℕ) → r ≡ Name s e → ⊥) → Unread F (by_name f (parts (drop at text)))
  other-unread End h no_name = unread-nothing (ap (by_name f) h)
  other-unread (Name s e) h no_name = absurd (no_name s e refl)
  other-unread (Opening q) h no_name = unread-nothing (ap (by_name f) h.2)
  other-unread (Closing q) h no_name = unread-nothing (ap (by_name f) h.2)
  other-unread Other h no_name = unread-nothing (ap (by_name f) h.found)

  module _ {s e : ℕ} (told : PartTold text at (Name s e)) where
    name-taken : {o : Option A} → f (segment text s e) ≡ o → by_name f (parts (drop at text)) ≡ taken o (parts (drop e text))
    name-taken k = ap (by_name f) told.3 ∙ ap (λ (x : Option A). taken x (parts (drop e text))) k

    pub name-read : {x : A} → f (segment text s e) ≡ some x → by_name f (parts (drop at text)) ≡ took x (parts (drop e text))
    name-read k = name-taken k

    pub name-unread : f (segment text s e) ≡ none → Unread F (by_name f (parts (drop at text)))
    name-unread k = unread-nothing (name-taken k)

-- ---- a register or a label by its number
pub number-some : (o : Option ℕ) {x : ℕ} → Some x ≡ given (λ n. n) o → o ≡ some x
number-some o e = let i = given-some (λ n. n) o e in i.named ∙ ap (λ (n : ℕ). some n) (sym i.is)

pub number-none : (o : Option ℕ) → None ≡ given (λ (n : ℕ). n) o → o ≡ none
number-none o e = given-none (λ n. n) o e

-- ---- the label of a branch
pub label-over : (n i l : ℕ) → n < l → ((label n i).kept l) ≡ false
label-over n i l h = rw (lt-leb l n h)

pub label-next : (n i l : ℕ) → l ≡ i + 1 → ((label n i).kept l) ≡ false
label-next n i l h = rw (eq-eqb l (i + 1) h) (and_no (leb l n))
  where
    and_no : (a : Bool) → (a && false) ≡ false
    and_no true = refl
    and_no false = refl

module _ (n i : ℕ) {text : List ℕ} {R : Taken ℕ} {a b : List ℕ} {l to next at : ℕ} where
  pub label-read : R ≡ took l (parts (drop at text)) → l ≤ n → (l ≡ i + 1 → ⊥) → Put a to (bytes_of 2 l) b next
      → Brought (label n i) text R a to b (record { at = at; to = next })
  unfolding bytes_of
  label-read e h k p = record { value = l; read = e; kept = rw (le-leb l n h, ne_eqb l (i + 1) k); put = p; size = omega (arith, p.place) }
