-- The line of an instruction reads back as the instruction.
-- Assumes nothing.
use Rattle.std.specs.Prelude.{◌≡◌, refl, true, false, List, [], ◌++◌, ℕ, ◌^◌, ◌<◌, get_or}
use Rattle.std.proofs.Common.{sym, ap, ◌∙◌, append-nil, arith}
use Rattle.std.proofs.Math.Option.{Option, some}
use Rattle.location.specs.Sets.{registers}
use Rattle.location.specs.SetLaws.{and_left, and_right}
use Rattle.rules.specs.Rules.Expressions.{Expr, sound}
use Rattle.rules.specs.Rules.Instructions.{Instr, skip, assign, load, store, jmp, beqz, cassign, spbarr, kind}
use Rattle.rules.specs.Rules.Answers.{text}
use Rattle.rules.specs.Rules.JobFile.{postfix}
use Rattle.rules.specs.Rules.Pairs.{same_words}
use Rattle.rules.specs.Rules.Listing.{decimal}
use Rattle.rules.specs.Rules.Parts.{in_name, Part, starts_name, parts}
use Rattle.rules.specs.Rules.TextReading.{instruction_words, place_among, constant_named, register_named, Taken, took, and_take, taken, by_name}
use Rattle.rules.specs.Rules.TextReading.{whole_operand, with_register, jump, branch, conditional, fields, instr_named, holds, whole_line, line_of}
use Rattle.rules.specs.Rules.TextPrinting.{register_text, expr_text, spaced, field_text}
use Rattle.rules.proofs.Theorems.Encodable.{ExprFits, InstrFits}
use Rattle.rules.proofs.Theorems.TextParts.{Word, word, nil, more, word-parts, space-parts, space-ends, nothing_ends, Unbroken, unbroken-append}
use Rattle.rules.proofs.Theorems.TextParts.{word-unbroken}
use Rattle.rules.proofs.Theorems.Decimals.{constant-named, register-named, constant-word, register-word}
use Rattle.rules.proofs.Theorems.TextOperands.{operand-reads}
use Rattle.rules.proofs.Theorems.TextExpressions.{expression-reads}

-- ---- a field after its space, before what does not go on with a name
named_field : {A : Type 0} {w : List ℕ} {a : A} (f : List ℕ → Option A) → Word w → f w ≡ some a → (rest : List ℕ) → starts_name rest ≡ false
    → by_name f (parts (spaced w ++ rest)) ≡ took a (parts rest)
named_field {A} {w} {a} f n e rest t =
    ap (by_name f) (space-parts (w ++ rest) ∙ word-parts rest n t) ∙ ap (λ (o : Option A). taken o (parts rest)) e

register_field : (r : ℕ) → r < registers → (rest : List ℕ) → starts_name rest ≡ false
    → by_name register_named (parts (spaced (register_text r) ++ rest)) ≡ took r (parts rest)
register_field r h = named_field register_named (register-word r) (register-named r h)

label_field : (l : ℕ) → l < 2 ^ 16 → (rest : List ℕ) → starts_name rest ≡ false
    → by_name constant_named (parts (spaced (decimal l) ++ rest)) ≡ took l (parts rest)
label_field l h = named_field constant_named (constant-word l (omega arith)) (constant-named l (omega arith))

expression_field : (e : Expr) → ExprFits e → sound e ≡ true → (rest : List ℕ) → starts_name rest ≡ false
    → whole_operand (parts (spaced (expr_text e) ++ rest)) ≡ took e (parts rest)
expression_field e f s rest t =
    ap whole_operand (space-parts (expr_text e ++ rest)) ∙ operand-reads (expression-reads e f.tokens s) f.most rest t

-- the last field of a line
last_field : {A : Type 0} {a : A} (m : List Part → Taken A) (w : List ℕ)
    → ((rest : List ℕ) → starts_name rest ≡ false → m (parts (spaced w ++ rest)) ≡ took a (parts rest)) → m (parts (spaced w)) ≡ took a []
unfolding parts
last_field m w h = ap (λ (v : List ℕ). m (parts v)) (sym (append-nil (spaced w))) ∙ h [] nothing_ends

-- ---- what follows the instruction word
register-then : (f : ℕ → Expr → Instr) (r : ℕ) (e : Expr) → (r < registers) × ExprFits e → sound e ≡ true
    → with_register f (parts (spaced (register_text r) ++ spaced (expr_text e))) ≡ took (f r e) []
unfolding with_register
register-then f r e h s =
    ap (λ (m : Taken ℕ). and_take m (λ q ps. and_take (whole_operand ps) (λ d. took (f q d))))
    (register_field r h.0 (spaced (expr_text e)) (space-ends (expr_text e)))
    ∙ ap (λ (m : Taken Expr). and_take m (λ d. took (f r d))) (last_field whole_operand (expr_text e) (expression_field e h.1 s))

jump-then : (e : Expr) → ExprFits e → sound e ≡ true → jump (parts (spaced (expr_text e))) ≡ took (jmp e) []
unfolding jump
jump-then e f s = ap (λ (m : Taken Expr). and_take m (λ d. took (jmp d))) (last_field whole_operand (expr_text e) (expression_field e f s))

branch-then : (r l : ℕ) → r < registers → l < 2 ^ 16 → branch (parts (spaced (register_text r) ++ spaced (decimal l))) ≡ took (beqz r l) []
unfolding branch
branch-then r l h k =
    ap (λ (m : Taken ℕ). and_take m (λ q ps. and_take (by_name constant_named ps) (λ i. took (beqz q i))))
    (register_field r h (spaced (decimal l)) (space-ends (decimal l)))
    ∙ ap (λ (m : Taken ℕ). and_take m (λ i. took (beqz r i))) (last_field (by_name constant_named) (decimal l) (label_field l k))

conditional-then : (r : ℕ) (c e : Expr) → r < registers → ExprFits c → ExprFits e → sound c ≡ true → sound e ≡ true
    → conditional (parts (spaced (register_text r) ++ (spaced (expr_text c) ++ spaced (expr_text e)))) ≡ took (cassign r c e) []
unfolding conditional
conditional-then r c e h f g s t =
    ap (λ (m : Taken ℕ). and_take m (λ q ps. and_take (whole_operand ps) (λ b qs. and_take (whole_operand qs) (λ d. took (cassign q b d)))))
    (register_field r h (spaced (expr_text c) ++ spaced (expr_text e)) (space-ends (expr_text c ++ spaced (expr_text e))))
    ∙ ap (λ (m : Taken Expr). and_take m (λ b qs. and_take (whole_operand qs) (λ d. took (cassign r b d))))
    (expression_field c f s (spaced (expr_text e)) (space-ends (expr_text e)))
    ∙ ap (λ (m : Taken Expr). and_take m (λ d. took (cassign r c d))) (last_field whole_operand (expr_text e) (expression_field e g t))

-- ---- the line
-- the line of an instruction, without its newline
abbrev pub line_text : Instr → List ℕ
line_text x = get_or instruction_words (kind x) [] ++ field_text x

instruction-word : (x : Instr) → Word (get_or instruction_words (kind x) [])
unfolding instruction_words text in_name
instruction-word skip = word _ _ (more refl (more refl (more refl (more refl nil))))
instruction-word (assign r e) = word _ _ (more refl (more refl (more refl nil)))
instruction-word (load r e) = word _ _ (more refl (more refl (more refl (more refl nil))))
instruction-word (store r e) = word _ _ (more refl (more refl (more refl (more refl (more refl nil)))))
instruction-word (jmp e) = word _ _ (more refl (more refl (more refl nil)))
instruction-word (beqz r l) = word _ _ (more refl (more refl (more refl (more refl nil))))
instruction-word (cassign r c e) = word _ _ (more refl (more refl (more refl (more refl nil))))
instruction-word spbarr = word _ _ (more refl (more refl (more refl (more refl (more refl (more refl nil))))))

line-named : (x : Instr) → starts_name (field_text x) ≡ false
    → line_of (parts (line_text x)) ≡ whole_line (instr_named (get_or instruction_words (kind x) []) (parts (field_text x)))
unfolding line_of
line-named x t = ap line_of (word-parts (field_text x) (instruction-word x) t)

pub line_reads : (x : Instr) → InstrFits x → postfix x ≡ true → line_of (parts (line_text x)) ≡ holds x
unfolding instruction_words place_among fields instr_named text same_words parts
line_reads skip f s = line-named skip nothing_ends
line_reads (assign r e) f s = line-named (assign r e) (space-ends _) ∙ ap whole_line (register-then assign r e f s)
line_reads (load r e) f s = line-named (load r e) (space-ends _) ∙ ap whole_line (register-then load r e f s)
line_reads (store r e) f s = line-named (store r e) (space-ends _) ∙ ap whole_line (register-then store r e f s)
line_reads (jmp e) f s = line-named (jmp e) (space-ends _) ∙ ap whole_line (jump-then e f s)
line_reads (beqz r l) f s = line-named (beqz r l) (space-ends _) ∙ ap whole_line (branch-then r l f.0 f.1)
line_reads (cassign r c e) f s =
    line-named (cassign r c e) (space-ends _)
    ∙ ap whole_line (conditional-then r c e f.0 f.1 f.2 (and_left (sound c) (sound e) s) (and_right (sound c) (sound e) s))
line_reads spbarr f s = line-named spbarr nothing_ends

-- ---- no newline stands inside the line
register-unbroken : (r : ℕ) → Unbroken (spaced (register_text r))
register-unbroken r = more refl (word-unbroken (register-word r))

expression-unbroken : (e : Expr) → ExprFits e → sound e ≡ true → Unbroken (spaced (expr_text e))
expression-unbroken e f s = more refl (expression-reads e f.tokens s).whole

fields-unbroken : (x : Instr) → InstrFits x → postfix x ≡ true → Unbroken (field_text x)
fields-unbroken skip f s = nil
fields-unbroken (assign r e) f s = unbroken-append (register-unbroken r) (expression-unbroken e f.1 s)
fields-unbroken (load r e) f s = unbroken-append (register-unbroken r) (expression-unbroken e f.1 s)
fields-unbroken (store r e) f s = unbroken-append (register-unbroken r) (expression-unbroken e f.1 s)
fields-unbroken (jmp e) f s = expression-unbroken e f s
fields-unbroken (beqz r l) f s = unbroken-append (register-unbroken r) (more refl (word-unbroken (constant-word l (let h = f.1 in omega arith))))
fields-unbroken (cassign r c e) f s =
    unbroken-append (register-unbroken r)
    (unbroken-append (expression-unbroken c f.1 (and_left (sound c) (sound e) s)) (expression-unbroken e f.2 (and_right (sound c) (sound e) s)))
fields-unbroken spbarr f s = nil

pub line-unbroken : (x : Instr) → InstrFits x → postfix x ≡ true → Unbroken (line_text x)
line-unbroken x f s = unbroken-append (word-unbroken (instruction-word x)) (fields-unbroken x f s)
