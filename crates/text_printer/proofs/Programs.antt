-- What an accepted program says of its instructions; how long texts can be; and the text of a program by its instructions.
-- Assumes nothing.
use mathlib.Core.Path.{◌≡◌, refl, ap, ◌∙◌}
use mathlib.Core.Bool.{Bool, true, false, ◌&&◌, cond, and-eq-true_iff}
use mathlib.Core.List.{List, [], ◌∷◌, ◌++◌}
use Prim.Native.Nat.{ℕ, zero, suc, ◌+◌, ◌-◌, ◌*◌, ◌^◌, ◌<◌, ◌≤◌}
use native.Mathlib.Omega.{arith}
use lib.Dec.{eqb, leb}
use lib.ListN.{length, get_or, length-append}
use borrow.Author.Tests.{leb-true}
use Rattle.rules.specs.declared.Refusal.{Refusal}
use Rattle.rules.specs.declared.Refusal.TheVariants as refusals
use Rattle.rules.specs.Rules.Operators.{Op1, neg, inv, Op2, add, sub, mul, and, or, xor, shl, shr, eq, ult}
use Rattle.rules.specs.Rules.Expressions.{Token, reg, const, op1, op2, Expr, sound}
use Rattle.std.specs.Prelude.{Result, Ok, Err, IsOk}
use Rattle.instruction.specs.declared.Decoded.{Decoded}
use Rattle.instruction.specs.Meaning.{instruction_read_meaning}
use Rattle.rules.specs.Rules.Instructions.{Instr, skip, assign, load, store, jmp, beqz, cassign, spbarr, kind}
use Rattle.rules.specs.Rules.JobFile.{Read, got, refused, and_then, refuse, byte, register, word_of, tokens, expr, with_register, jump, branch, conditional}
use Rattle.rules.specs.Rules.JobFile.{fields, instr, postfix, instruction, nothing_left, program}
use Rattle.rules.specs.Rules.Answers.{text}
use Rattle.rules.specs.Rules.Listing.{decimal}
use Rattle.rules.specs.Rules.Limits.{max_instructions, max_tokens}
use Rattle.rules.specs.Rules.Parts.{newline, space, closing_bracket}
use Rattle.rules.specs.Rules.TextReading.{instruction_words, sign_name, operator_name}
use Rattle.rules.specs.Rules.TextPrinting.{register_text, signed_text, bracketed_text, text_pushed, text_on, top_text, expr_text, spaced, field_text}
use Rattle.rules.specs.Rules.TextPrinting.{instr_text, program_text}
use Rattle.rules.specs.Theorems.Readers.{readable, value_or, unread, refused-got, first_read, Holds, then, always}
use Rattle.byte_writer.specs.Lengths.{decimal-length}
use Rattle.program.specs.Programs.{Found, instruction-found}
use Rattle.text_printer.specs.Operands.{Printable}
use Rattle.text_printer.specs.Programs.{PrintableInstr, word_text, program_printed}
use Rattle.text_printer.proofs.Operands.{tokens-length}

-- ---- the expressions that the rules read have at most 16 tokens
abbrev Few : Expr → Type 0
Few e = length e ≤ max_tokens

abbrev FewInstr : Instr → Type 0
FewInstr skip = Unit
FewInstr (assign r e) = Few e
FewInstr (load r e) = Few e
FewInstr (store r e) = Few e
FewInstr (jmp e) = Few e
FewInstr (beqz r l) = Unit
FewInstr (cassign r c e) = Few c × Few e
FewInstr spbarr = Unit

few-tokens : (k : ℕ) (p : List ℕ) (at : ℕ) → k ≤ 16 → Holds Few (tokens k p at)
unfolding readable
few-tokens k p at l = go (tokens k p at) (tokens-length k p at)
  where
    go : (R : Read Expr) → (readable R ≡ true → length (value_or [] R) ≡ k) → Holds Few R
    go (got ts q) h = omega (arith, h refl)
    go (refused r) h = tt

few-expr : (p : List ℕ) (at : ℕ) → Holds Few (expr p at)
unfolding expr
few-expr p at =
    then (λ k. Unit) Few (byte p at) (λ k q. cond (leb 1 k && leb k 16) (tokens k) (refuse refusals.Encoding) p q) (always (byte p at))
    (λ k q u. tested k q (leb 1 k && leb k 16) refl)
  where
    tested : (k q : ℕ) (b : Bool) → (leb 1 k && leb k 16) ≡ b → Holds Few (cond b (tokens k) (refuse refusals.Encoding) p q)
    tested k q true e = few-tokens k p q (leb-true k 16 ((and-eq-true_iff (leb 1 k) (leb k 16)).0 e).1)
    tested k q false e = tt

after : {A : Type 0} (m : Read A) (f : A → ℕ → Read Instr) → ((a : A) (q : ℕ) → Holds FewInstr (f a q)) → Holds FewInstr (and_then m f)
after m f k = then (λ a. Unit) FewInstr m f (always m) (λ a q u. k a q)

after-expr : (p : List ℕ) (at : ℕ) (f : Expr → ℕ → Read Instr) → ((e : Expr) (q : ℕ) → Few e → Holds FewInstr (f e q))
    → Holds FewInstr (and_then (expr p at) f)
after-expr p at f k = then Few FewInstr (expr p at) f (few-expr p at) k

few_with : (f : ℕ → Expr → Instr) → ((r : ℕ) (e : Expr) → Few e → FewInstr (f r e)) → (p : List ℕ) (at : ℕ) → Holds FewInstr (with_register f p at)
unfolding with_register
few_with f k p at = after (register p at) _ (λ r q. after-expr p q _ (λ e q' h. k r e h))

few-fields : (k : ℕ) (p : List ℕ) (at : ℕ) → Holds FewInstr (get_or fields k (refuse refusals.Encoding) p at)
unfolding fields jump branch conditional
few-fields zero p at = tt
few-fields (suc zero) p at = few_with assign (λ r e h. h) p at
few-fields (suc (suc zero)) p at = few_with load (λ r e h. h) p at
few-fields (suc (suc (suc zero))) p at = few_with store (λ r e h. h) p at
few-fields (suc (suc (suc (suc zero)))) p at = after-expr p at _ (λ e q h. h)
few-fields (suc (suc (suc (suc (suc zero))))) p at = after (register p at) _ (λ r q. after (word_of 2 p q) _ (λ l q'. tt))
few-fields (suc (suc (suc (suc (suc (suc zero)))))) p at =
    after (register p at) _ (λ r q. after-expr p q _ (λ c q' h. after-expr p q' _ (λ e q'' h'. (h, h'))))
few-fields (suc (suc (suc (suc (suc (suc (suc zero))))))) p at = tt
few-fields (suc (suc (suc (suc (suc (suc (suc (suc k)))))))) p at = tt

few-instr : (p : List ℕ) (at : ℕ) → Holds FewInstr (instr p at)
unfolding instr
few-instr p at = after (byte p at) _ (λ k q. few-fields k p q)

-- ---- an instruction that was accepted can be printed
printable : (x : Instr) → postfix x ≡ true → FewInstr x → PrintableInstr x
printable skip h l = tt
printable (assign r e) h l = record { sound = h; few = l }
printable (load r e) h l = record { sound = h; few = l }
printable (store r e) h l = record { sound = h; few = l }
printable (jmp e) h l = record { sound = h; few = l }
printable (beqz r m) h l = tt
printable (cassign r c e) h l =
    let s = (and-eq-true_iff (sound c) (sound e)).0 h in
    (record { sound = s.0; few = l.0 }, record { sound = s.1; few = l.1 })
printable spbarr h l = tt

found_printable : {p : List ℕ} {at : ℕ} {x : Instr} {q : ℕ} → Found p at x q → PrintableInstr x
found_printable {p} {at} {x} {q} f = printable x f.sound (rw f.read at (few-instr p at))

-- ---- how long texts can be: at most 21 bytes a token
total : List (List ℕ) → ℕ
total [] = 0
total (x ∷ st) = length x + total st

sign-length : (o : Op1) → length (sign_name o) ≤ 3
unfolding text
sign-length neg = omega arith
sign-length inv = omega arith

operator-length : (o : Op2) → length (operator_name o) ≤ 3
unfolding text
operator-length add = omega arith
operator-length sub = omega arith
operator-length mul = omega arith
operator-length and = omega arith
operator-length or = omega arith
operator-length xor = omega arith
operator-length shl = omega arith
operator-length shr = omega arith
operator-length eq = omega arith
operator-length ult = omega arith

register-length : (r : ℕ) → length (register_text r) ≤ 21
unfolding register_text
register-length r = omega (arith, decimal-length r)

pushed_total : (t : Token) (st : List (List ℕ)) → total (text_pushed t st) ≤ total st + 21
unfolding text_pushed total signed_text bracketed_text
pushed_total (reg r) st = omega (arith, register-length r)
pushed_total (const c) st = omega (arith, decimal-length c)
pushed_total (op1 o) [] = omega arith
pushed_total (op1 o) (x ∷ st) = omega (arith, length-append (sign_name o) (space ∷ x), sign-length o)
pushed_total (op2 o) [] = omega arith
pushed_total (op2 o) (y ∷ []) = omega arith
pushed_total (op2 o) (y ∷ x ∷ st) =
    omega (
      arith,
      length-append x (space ∷ (operator_name o ++ (space ∷ (y ++ (closing_bracket ∷ []))))),
      length-append (operator_name o) (space ∷ (y ++ (closing_bracket ∷ []))),
      length-append y (closing_bracket ∷ []),
      operator-length o,
    )

texts_total : (ts : Expr) (st : List (List ℕ)) → total (text_on ts st) ≤ total st + 21 * length ts
unfolding text_on
texts_total [] st = omega arith
texts_total (t ∷ ts) st = omega (arith, texts_total ts (text_pushed t st), pushed_total t st)

top_total : (st : List (List ℕ)) → length (top_text st) ≤ total st
unfolding top_text total
top_total [] = omega arith
top_total (x ∷ st) = omega arith

expression-length : (e : Expr) → Printable e → length (expr_text e) ≤ 336
unfolding expr_text total
expression-length e h = omega (arith, top_total (text_on e []), texts_total e [], h.few)

-- ---- lines
pub length_three : (x y z : List ℕ) → length (x ++ (y ++ z)) ≡ length x + length y + length z
length_three x y z = omega (arith, length-append x (y ++ z), length-append y z)

pub length-line : (x : Instr) → length (instr_text x) ≡ length (word_text x) + length (field_text x) + 1
unfolding instr_text word_text
length-line x = length_three (get_or instruction_words (kind x) []) (field_text x) (newline ∷ [])

-- the lengths of what is made of parts, by which each part has room
pub ruleset lengths = (length_three, length-line, length-append)

word-length : (x : Instr) → length (word_text x) ≤ 6
unfolding word_text instruction_words text
word-length skip = omega arith
word-length (assign r e) = omega arith
word-length (load r e) = omega arith
word-length (store r e) = omega arith
word-length (jmp e) = omega arith
word-length (beqz r l) = omega arith
word-length (cassign r c e) = omega arith
word-length spbarr = omega arith

one-length : (r : ℕ) (e : Expr) → Printable e → length (spaced (register_text r) ++ spaced (expr_text e)) ≤ 696
one-length r e h =
    omega (arith, length-append (spaced (register_text r)) (spaced (expr_text e)), register-length r, expression-length e h)

field_length : (x : Instr) → PrintableInstr x → length (field_text x) ≤ 696
field_length skip h = omega arith
field_length (assign r e) h = one-length r e h
field_length (load r e) h = one-length r e h
field_length (store r e) h = one-length r e h
field_length (jmp e) h = omega (arith, expression-length e h)
field_length (beqz r l) h =
    omega (arith, length-append (spaced (register_text r)) (spaced (decimal l)), register-length r, decimal-length l)
field_length (cassign r c e) h =
    omega (
      arith,
      length_three (spaced (register_text r)) (spaced (expr_text c)) (spaced (expr_text e)),
      register-length r,
      expression-length c h.0,
      expression-length e h.1,
    )
field_length spbarr h = omega arith

line-length : (x : Instr) → PrintableInstr x → length (instr_text x) ≤ 703
line-length x h = omega (arith, length-line x, word-length x, field_length x h)

-- ---- an accepted program: its first instruction, and the others
pub record First (n k i : ℕ) (p : List ℕ) (at : ℕ) : Type 0 where
  pub instruction : Instr
  pub next : ℕ
  pub read : instr p at ≡ got instruction next
  pub printable : PrintableInstr instruction
  pub later : readable (program n k (i + 1) p next) ≡ true
  pub split : program_text (value_or [] (program n (suc k) i p at))
      ≡ instr_text instruction ++ program_text (value_or [] (program n k (i + 1) p next))

pub first_of : (n k i : ℕ) (p : List ℕ) (at : ℕ) → readable (program n (suc k) i p at) ≡ true → First n k i p at
unfolding program readable
first_of n k i p at h = go (instruction n i p at) refl h
  where
    rest : Instr → ℕ → Read (List Instr)
    rest x q = and_then (program n k (i + 1) p q) (λ xs q'. got (x ∷ xs) q')

    value : (x : Instr) (R : Read (List Instr)) → readable R ≡ true
        → program_text (value_or [] (and_then R (λ xs q'. got (x ∷ xs) q'))) ≡ instr_text x ++ program_text (value_or [] R)
    value x (got xs q) e = unfold program_text in refl
    value x (refused r) e = unread e

    go : (R : Read Instr) → instruction n i p at ≡ R → readable (and_then R rest) ≡ true → First n k i p at
    go (refused r) e h' = unread h'
    go (got x q) e h' =
        let f = instruction-found n i p at x q e in
        let l = (first_read [] (program n k (i + 1) p q) (λ xs q'. got (x ∷ xs) q') h').0 in
        record {
          instruction = x;
          next = q;
          read = f.read;
          printable = found_printable f;
          later = l;
          split =
              ap (λ (R : Read Instr). program_text (value_or [] (and_then R rest))) e ∙ value x (program n k (i + 1) p q) l;
        }

-- what was read at the first instruction's offset is that instruction, and it was read
module _ {n k i : ℕ} {p : List ℕ} {at : ℕ} (f : First n k i p at) where
  pub first_decoded : (r : Result Decoded Refusal) → instruction_read_meaning p r ≡ instr p at → IsOk r
  first_decoded (Ok d) e = refl
  first_decoded (Err r) e = refused-got (e ∙ f.read)

  module _ {x : Instr} {q : ℕ} (e : got x q ≡ instr p at) where
    same_first : (x ≡ f.instruction) × (q ≡ f.next)
    same_first = let g = e ∙ f.read in (cc, cc)

    pub first_printable : PrintableInstr x
    first_printable = rw same_first.0 f.printable

    pub first-later : readable (program n k (i + 1) p q) ≡ true
    first-later = rw same_first.1 f.later

    pub first-split : program_text (value_or [] (program n (suc k) i p at)) ≡ instr_text x ++ program_text (value_or [] (program n k (i + 1) p q))
    first-split = rw (same_first.0, same_first.1) f.split

-- the text of the instructions that are left at an offset, after i of n
abbrev pub text_left : ℕ → List ℕ → ℕ → ℕ → List ℕ
text_left n p offset i = program_text (value_or [] (program n (n - i) i p offset))

pub none_left : (n i : ℕ) (p : List ℕ) (at : ℕ) → program_text (value_or [] (program n 0 i p at)) ≡ []
unfolding program nothing_left program_text
none_left n i p at = go (eqb at (length p))
  where
    go : (b : Bool) → program_text (value_or [] (cond b (got [] at) (refused refusals.Surplus))) ≡ []
    go true = refl
    go false = refl

program-length : (n k i : ℕ) (p : List ℕ) (at : ℕ) → readable (program n k i p at) ≡ true
    → length (program_text (value_or [] (program n k i p at))) ≤ 703 * k
program-length n zero i p at h = omega (arith, ap length (none_left n i p at))
program-length n (suc k) i p at h =
    let f = first_of n k i p at h in
    omega (
      arith,
      ap length f.split,
      length-append (instr_text f.instruction) (program_text (value_or [] (program n k (i + 1) p f.next))),
      line-length f.instruction f.printable,
      program-length n k (i + 1) p f.next f.later,
    )

-- a program's text is far shorter than the numbers of 64 bits
pub printed-length : (n : ℕ) (p : List ℕ) → readable (program n n 0 p 0) ≡ true → n ≤ max_instructions → length (program_printed p n) < 2 ^ 63
unfolding program_printed
printed-length n p h l = omega (arith, program-length n n 0 p 0 h)
