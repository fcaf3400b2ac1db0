-- The answer on a whole text, and the line of its first fault, from what counting and reading its lines leaves.
-- Assumes nothing.
use mathlib.Core.Path.{◌≡◌, refl, sym, ap, ◌∙◌}
use mathlib.Core.List.{List, [], ◌∷◌, ◌++◌}
use mathlib.Core.Option.{Option, none, some}
use Prim.Native.Nat.{ℕ, ◌<◌, ◌≤◌}
use native.Mathlib.Omega.{arith}
use borrow.Author.Tests.{le-leb, lt-leb, eq-eqb, ne_eqb, eqb-true}
use mathlib.Core.Bool.{Bool, true, false, cond, true≢false}
use Prim.{⊥}
use lib.Dec.{eqb}
use Rattle.std.proofs.Common as rust
use Rattle.std.proofs.Common.{Some, None}
use Rattle.std.specs.Option.{is_some, unwrap_or}
use lib.ListN.{length}
use Rattle.std.specs.Prelude.{Ok, Err}
use Rattle.rules.specs.declared.Refusal.TheVariants as refusals
use Rattle.rules.specs.Rules.Outcomes.{ReadAnswer, read_as}
use Rattle.rules.specs.Rules.Instructions.{Instr}
use Rattle.rules.specs.Rules.Encoding.{instr_bytes, program_bytes}
use Rattle.rules.specs.Rules.Calls.{Called, written}
use Rattle.rules.specs.Rules.Parts.{parts, lines_of}
use Rattle.rules.specs.Rules.TextReading.{Line, blank, holds, unreadable, line_of, joined_line, instructions_of, read_text}
use Rattle.rules.specs.Rules.TextCalls.{read_program, read_call}
use Rattle.rules.specs.Rules.TextPromises.{ReadPromise}
use Rattle.rules.proofs.Theorems.TextPromises.{output_done, output_short, read-promise}
use Rattle.byte_writer.specs.Areas.{put_next, put-fits}
use Rattle.text_reader.specs.declared.Counted.{Counted}
use Rattle.text_reader.specs.declared.Scanned.{Scanned}
use Rattle.text_reader.specs.Faults.{held_lines, first_fault, fault_line}
use Rattle.text_reader.specs.FaultLaws.{ReadAs, faultless-read, empty-unread, fault-unread}
use Rattle.text_reader.specs.Reading.{line_bytes, lines_bytes, line_if, CountTold, ScanTold}

-- ---- the bytes of lines that can all be read are those of their instructions
lines-program : (ls : List (List ℕ)) (xs : List Instr) → instructions_of ls ≡ some xs → lines_bytes ls ≡ program_bytes xs
unfolding instructions_of lines_bytes program_bytes
lines-program [] xs e = let s : [] ≡ xs = cc in ap program_bytes s
lines-program (l ∷ ls) xs e = by (line_of (parts l)) (instructions_of ls) (λ ys f. lines-program ls ys f) e
  where
    no : {ys : List Instr} {P : Type 0} → none ≡ some ys → P
    no {ys} {P} h = absurd (let z : ◌≡◌ {A = ℕ} 0 1 = cc in omega arith)

    by : (L : Line) (R : Option (List Instr)) → ((ys : List Instr) → R ≡ some ys → lines_bytes ls ≡ program_bytes ys) → joined_line L R ≡ some xs
        → line_bytes L ++ lines_bytes ls ≡ program_bytes xs
    by blank R f h = f xs h
    by unreadable R f h = no h
    by (holds x) none f h = no h
    by (holds x) (some ys) f h =
        let s : x ∷ ys ≡ xs = cc in ap (λ (bs : List ℕ). instr_bytes x ++ bs) (f ys refl) ∙ ap program_bytes s

-- ---- the call, by what the rules read
module _ (t out : List ℕ) where
  answered : {c : Called ReadAnswer (List ℕ)} → read_call t out ≡ c → {after : List ℕ} → after ≡ c.areas → ReadPromise t out c.answer after
  answered e h =
      read-promise t out (record {
        answer = sym (ap (λ (d : Called ReadAnswer (List ℕ)). d.answer) e);
        areas = h ∙ sym (ap (λ (d : Called ReadAnswer (List ℕ)). d.areas) e);
      })

  unread_call : read_text t ≡ none → read_call t out ≡ record { answer = Err refusals.Text; areas = out }
  unfolding read_call read_program
  unread_call e = ap (λ (R : Option (List Instr)). read_program R out) e

  short_call : (r : ReadAs t) → length out < length (program_bytes r.instrs) → read_call t out ≡ record { answer = Err refusals.Output; areas = out }
  unfolding read_call read_program
  short_call r h =
      let xs = r.instrs in
      ap (λ (R : Option (List Instr)). read_program R out) r.read
      ∙ output_short (Err refusals.Output) (Ok (read_as (length (program_bytes xs)) (length xs))) (program_bytes xs) out
      (lt-leb (length (program_bytes xs)) (length out) h)

  read-call : (r : ReadAs t) → length (program_bytes r.instrs) ≤ length out
      → read_call t out
      ≡ record { answer = Ok (read_as (length (program_bytes r.instrs)) (length r.instrs)); areas = written (program_bytes r.instrs) out }
  unfolding read_call read_program
  read-call r h =
      let xs = r.instrs in
      ap (λ (R : Option (List Instr)). read_program R out) r.read
      ∙ output_done (Err refusals.Output) (Ok (read_as (length (program_bytes xs)) (length xs))) (program_bytes xs) out
      (le-leb (length (program_bytes xs)) (length out) h)

-- a part without length that was lent leaves the area as it was
pub lent_nothing : (x out : List ℕ) → length x ≡ 0 → x ++ out ≡ out
lent_nothing [] out e = refl
lent_nothing (b ∷ bs) out e = absurd (omega arith)

-- ---- the line of a fault, by its number
none-unless : (k : ℕ) → is_some (line_if k) ≡ false → k ≡ 0
none-unless k e = by (eqb k 0) refl e
  where
    by : (t : Bool) → eqb k 0 ≡ t → is_some (cond t None (Some k)) ≡ false → k ≡ 0
    by true h f = eqb-true k 0 h
    by false h f = (cc)

some-unless : (k : ℕ) → is_some (line_if k) ≡ true → k ≡ 0 → ⊥
some-unless k e z = true≢false (sym e ∙ ap (λ (n : ℕ). is_some (line_if n)) z)

number_of_line : (k : ℕ) → unwrap_or (line_if k) 0 ≡ k
number_of_line k = by (eqb k 0) refl
  where
    by : (t : Bool) → eqb k 0 ≡ t → unwrap_or (cond t None (Some k)) 0 ≡ k
    by true h = sym (eqb-true k 0 h)
    by false h = refl

no-line : (f : rust.Option ℕ) → is_some f ≡ false → f ≡ None
no-line None e = refl
no-line (Some k) e = (cc)

-- ---- after counting
module _ (t : List ℕ) {k : Counted} (counted : CountTold t k) where
  abbrev first : ℕ
  first = first_fault (held_lines (lines_of t)) 0 1 (lines_of t)

  none-held : k.held ≡ 0 → held_lines (lines_of t) ≡ 0
  none-held z = sym counted.held ∙ z

  some-held : (k.held ≡ 0 → ⊥) → held_lines (lines_of t) ≡ 0 → ⊥
  some-held z e = z (counted.held ∙ e)

  scanned_fault : {a b : List ℕ} {r : Scanned} → ScanTold t k.held a b r → r.fault ≡ line_if first
  scanned_fault s = s.fault ∙ ap (λ (n : ℕ). line_if (first_fault n 0 1 (lines_of t))) counted.held

  -- the line of the first fault
  pub last-fault : k.held ≡ 0 → k.lines ≡ fault_line t
  unfolding fault_line
  last-fault z = rw (eq-eqb (held_lines (lines_of t)) 0 (none-held z)) counted.lines

  pub line-fault : {a b : List ℕ} {r : Scanned} → (k.held ≡ 0 → ⊥) → ScanTold t k.held a b r → unwrap_or r.fault 0 ≡ fault_line t
  unfolding fault_line
  line-fault z s = rw (ne_eqb (held_lines (lines_of t)) 0 (some-held z)) (ap (λ (f : rust.Option ℕ). unwrap_or f 0) (scanned_fault s) ∙ number_of_line first)

  -- the answers
  module _ (out : List ℕ) {after : List ℕ} (same : after ≡ out) where
    pub empty-text : k.held ≡ 0 → ReadPromise t out (Err refusals.Text) after
    empty-text z = answered t out (unread_call t out (empty-unread t (none-held z))) same

    module _ {a b : List ℕ} {r : Scanned} (s : ScanTold t k.held a b r) where
      pub faulty-text : is_some r.fault ≡ true → ReadPromise t out (Err refusals.Text) after
      faulty-text f = answered t out (unread_call t out (fault-unread t (some-unless first (ap is_some (sym (scanned_fault s)) ∙ f)))) same

      module _ (some-lines : k.held ≡ 0 → ⊥) (sound : is_some r.fault ≡ false) where
        program : ReadAs t
        program = faultless-read t (some-held some-lines) (none-unless first (ap is_some (sym (scanned_fault s)) ∙ sound))

        bytes : lines_bytes (lines_of t) ≡ program_bytes program.instrs
        bytes = lines-program (lines_of t) program.instrs program.lines

        size : r.to ≡ length (program_bytes program.instrs)
        size = put_next (s.kept (no-line r.fault sound)).put ∙ ap length bytes

        pub short_area : length after < r.to → ReadPromise t out (Err refusals.Output) after
        short_area h = answered t out (short_call t out program (omega (arith, size, ap length same))) same

        -- the second reading writes
        pub text-read : {d : List ℕ} {q : Scanned} → r.to ≤ length after → ScanTold t k.held after d q
            → ReadPromise t out (Ok (read_as q.to q.count)) d
        text-read {d} {q} h u = go (rw same at u)
          where
            go : ScanTold t k.held out d q → ReadPromise t out (Ok (read_as q.to q.count)) d
            go v =
                let kept = v.kept (scanned_fault v ∙ sym (scanned_fault s) ∙ no-line r.fault sound) in
                let to : q.to ≡ length (program_bytes program.instrs) = put_next kept.put ∙ ap length bytes in
                let count : q.count ≡ length program.instrs = kept.count ∙ program.count in
                let fits = put-fits kept.put (omega (arith, size, ap length bytes, ap length same)) ∙ ap (λ (bs : List ℕ). written bs out) bytes in
                rw (to, count) (answered t out (read-call t out program (omega (arith, size, ap length same))) fits)
