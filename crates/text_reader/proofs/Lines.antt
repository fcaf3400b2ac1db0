-- What a line leaves, by what stands in it: nothing, an instruction that is the whole line, or a fault.
-- Assumes nothing.
use mathlib.Core.Path.{◌≡◌, refl, sym, ap, subst, ◌∙◌}
use mathlib.Core.Bool.{Bool, true, false, not, ◌&&◌}
use Prim.{⊥}
use mathlib.Core.List.{List, [], ◌∷◌}
use Prim.Native.Nat.{ℕ, ◌+◌, ◌<◌, ◌≤◌}
use native.Mathlib.Omega.{arith}
use borrow.Author.Tests.{lt-ltb, le-ltb}
use lib.Dec.{ltb}
use lib.ListN.{drop}
use Rattle.rules.specs.Rules.Limits.{max_instructions}
use Rattle.rules.specs.Rules.Instructions.{Instr}
use Rattle.rules.specs.Rules.Encoding.{field_bytes, instr_bytes}
use Rattle.rules.specs.Rules.Parts.{Part, name, opening, closing, other, parts, segment}
use Rattle.rules.specs.Rules.TextReading.{Taken, took, nothing, instruction_words, place_among, instr_named, Line, holds, whole_line, line_of}
use Rattle.byte_writer.specs.Writing.{Put}
use Rattle.byte_writer.specs.Texts.{put-append, put-nothing}
use Rattle.lexer.specs.declared.Part.TheVariants as lexer
use Rattle.lexer.specs.declared.Part.{Part as Found}
use Rattle.lexer.specs.Places.{PartTold}
use Rattle.text_reader.specs.declared.Progress.{Progress}
use Rattle.text_reader.specs.declared.LineRead.{LineRead}
use Rattle.text_reader.specs.Faults.{held_line, passes, faulty}
use Rattle.text_reader.specs.Fields.{Unread, instruction, fields_of, FieldsBrought}
use Rattle.text_reader.specs.Reading.{no_parts, instruction_line, LineKept, LineTold}
use Rattle.std.proofs.Common.{Option}
use Rattle.std.specs.Int.{from_bool}
use Rattle.text_reader.proofs.Fields.{no_kind_unread}

-- ---- a line is blank where it has no part
whole-held : (R : Taken Instr) → 1 ≡ held_line (whole_line R)
whole-held nothing = refl
whole-held (took x []) = refl
whole-held (took x (p ∷ ps)) = refl

true_false : {P : Type 0} → true ≡ false → P
true_false e = absurd (let z : ◌≡◌ {A = ℕ} 0 1 = cc in omega arith)

pub blank-held : (ps : List Part) {s : Bool} → s ≡ no_parts ps → from_bool (not s) ≡ held_line (line_of ps)
unfolding line_of
blank-held [] h = rw h
blank-held (name w ∷ ps) h = rw h (whole-held (instr_named w ps))
blank-held (opening ∷ ps) h = rw h
blank-held (closing ∷ ps) h = rw h
blank-held (other b ∷ ps) h = rw h

-- ---- faults
module _ (n i : ℕ) where
  -- the fields were not read, or they break a rule
  unread-faulty : (R : Taken Instr) → Unread (instruction n i) R → faulty n i (whole_line R) ≡ true
  unread-faulty nothing u = refl
  unread-faulty (took x (p ∷ ps)) u = refl
  unread-faulty (took x []) u = ap not (and_no (ltb i max_instructions) (passes n i x) (u.breaks x [] refl))
    where
      and_no : (a b : Bool) → b ≡ false → (a && b) ≡ false
      and_no true b h = h
      and_no false b h = refl

  -- what is told of a line, by its case
  pub line_by : (L : Line) (a : List ℕ) (to : ℕ) (b : List ℕ) {x y : Option LineRead} → x ≡ y → LineTold L n i a to b y → LineTold L n i a to b x
  line_by L a to b e h = subst (LineTold L n i a to b) (sym e) h

  pub refused-told : (t : List ℕ) (at k : ℕ) → Unread (instruction n i) (fields_of k (parts (drop at t))) → faulty n i (instruction_line t at k) ≡ true
  refused-told t at k u = unread-faulty (fields_of k (parts (drop at t))) u

  -- there are as many instructions as a program may have
  full-faulty : (R : Taken Instr) → max_instructions ≤ i → faulty n i (whole_line R) ≡ true
  full-faulty nothing h = refl
  full-faulty (took x (p ∷ ps)) h = refl
  full-faulty (took x []) h = rw (le-ltb i max_instructions h)

  -- ---- the fields were read: the line ends after them, or it does not
  module _ {t : List ℕ} {at k : ℕ} {b d : List ℕ} {next : ℕ} {p : Progress} (h : FieldsBrought t at k n i b next d p) where
    pub line_goes_on : false ≡ no_parts (parts (drop p.at t)) → faulty n i (instruction_line t at k) ≡ true
    line_goes_on e = go (parts (drop p.at t)) h.fields.read e
      where
        go : (ps : List Part) → fields_of k (parts (drop at t)) ≡ took h.fields.value ps → false ≡ no_parts ps → faulty n i (instruction_line t at k) ≡ true
        go [] r f = true_false (sym f)
        go (q ∷ ps) r f = ap (λ (R : Taken Instr). faulty n i (whole_line R)) r

    pub fields_told : {a : List ℕ} {to : ℕ} → i < max_instructions → Put a to (k ∷ []) b next → true ≡ no_parts (parts (drop p.at t))
        → LineKept (instruction_line t at k) n i a to d (record { to = p.to; count = i + 1 })
    unfolding instr_bytes
    fields_told {a} {to} few first e = go (parts (drop p.at t)) h.fields.read e
      where
        x : Instr
        x = h.fields.value

        go : (ps : List Part) → fields_of k (parts (drop at t)) ≡ took x ps → true ≡ no_parts ps
            → LineKept (instruction_line t at k) n i a to d (record { to = p.to; count = i + 1 })
        go (q ∷ ps) r f = true_false f
        go [] r f =
            let line : instruction_line t at k ≡ holds x = ap whole_line r in
            let put : Put a to (k ∷ field_bytes x) d p.to = put-append first h.fields.put in
            subst (λ (L : Line). LineKept L n i a to d (record { to = p.to; count = i + 1 })) (sym line) (record {
              fault = rw (lt-ltb i max_instructions few, h.fields.kept);
              put = rw h.kind put;
              count = refl;
              size = omega (arith, first.place, h.fields.size);
            })

  -- ---- by the part that stands first
  module _ (t : List ℕ) (at : ℕ) where
    pub end-told : {a : List ℕ} {to : ℕ} → PartTold t at lexer.End → LineKept (line_of (parts (drop at t))) n i a to a (record { to = to; count = i })
    unfolding line_of
    end-told {a} {to} h =
        subst (λ (L : Line). LineKept L n i a to a (record { to = to; count = i })) (sym (ap line_of h))
        (record { fault = refl; put = put-nothing a to; count = omega arith; size = omega arith })

    -- neither a name nor the line's end stands first
    pub other-told : (r : Found) → PartTold t at r → (r ≡ lexer.End → ⊥) → ((s f : ℕ) → r ≡ lexer.Name s f → ⊥)
        → faulty n i (line_of (parts (drop at t))) ≡ true
    unfolding line_of
    other-told lexer.End h no_end no_name = absurd (no_end refl)
    other-told (lexer.Name s f) h no_end no_name = absurd (no_name s f refl)
    other-told (lexer.Opening q) h no_end no_name = ap (λ (ps : List Part). faulty n i (line_of ps)) h.2
    other-told (lexer.Closing q) h no_end no_name = ap (λ (ps : List Part). faulty n i (line_of ps)) h.2
    other-told lexer.Other h no_end no_name = ap (λ (ps : List Part). faulty n i (line_of ps)) h.found

    module _ {s e : ℕ} (told : PartTold t at (lexer.Name s e)) where
      abbrev place : ℕ
      place = place_among instruction_words (segment t s e)

      name-line : line_of (parts (drop at t)) ≡ instruction_line t e place
      unfolding line_of instr_named
      name-line = ap line_of told.3

      pub full-told : max_instructions ≤ i → faulty n i (line_of (parts (drop at t))) ≡ true
      full-told m = ap (λ (L : Line). faulty n i L) name-line ∙ full-faulty (fields_of place (parts (drop e t))) m

      -- the name is no instruction's word
      pub word_unknown : 8 ≡ place → faulty n i (line_of (parts (drop at t))) ≡ true
      word_unknown m =
          ap (λ (L : Line). faulty n i L) name-line ∙ refused-told t e place (no_kind_unread n i place (parts (drop e t)) (sym m))

      pub name-told : {k : ℕ} (a : List ℕ) (to : ℕ) (b : List ℕ) (l : Option LineRead) → k ≡ place → LineTold (instruction_line t e k) n i a to b l
          → LineTold (line_of (parts (drop at t))) n i a to b l
      name-told {k} a to b l m h = subst (λ (L : Line). LineTold L n i a to b l) (ap (instruction_line t e) m ∙ sym name-line) h
