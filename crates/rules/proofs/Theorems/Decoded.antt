-- Document 01's reader takes the bytes of a program as that program, if its instructions fit the encoding and pass 4 to 6.
-- Assumes nothing.
use Rattle.std.specs.Prelude.{◌≡◌, refl, Bool, true, false, ◌&&◌, ltb, get_or, drop}
use Rattle.std.proofs.Common.{sym, ap, ◌∙◌, add-zero, add-one, length-drop, drop_of_length-le, drop-cons, ltb-true, ltb-false, le-leb, lt-ltb, eq-eqb}
use Rattle.std.proofs.Math.Bool.{cond}
use mathlib.Core.List.{List, [], ◌∷◌, ◌++◌, append_assoc}
use Prim.Native.Nat.{ℕ, zero, suc, ◌+◌, ◌*◌, ◌/◌, ◌%◌, ◌^◌, ◌<◌, ◌≤◌}
use Rattle.std.proofs.Math.Nat.{pow-suc}
use native.Mathlib.Omega.{arith}
use Rattle.std.proofs.Math.Dec.{leb}
use Rattle.std.proofs.Math.ListN.{length}
use Rattle.location.specs.Sets.{registers}
use Rattle.location.specs.SetLaws.{and_left, and_right, and_true}
use Rattle.rules.specs.declared.Refusal.TheVariants as refusals
use Rattle.rules.specs.Rules.Operators.{neg, inv, add, sub, mul, and, or, xor, shl, shr, eq, ult}
use Rattle.rules.specs.Rules.Expressions.{Token, reg, const, op1, op2, Expr, held, sound}
use Rattle.rules.specs.Rules.Instructions.{Instr, skip, assign, load, store, jmp, beqz, cassign, spbarr}
use Rattle.rules.specs.Rules.JobFile.{little, Read, got, refused, and_then, refuse, word_of, byte, register, unary, binary, constant, token_of}
use Rattle.rules.specs.Rules.JobFile.{token, tokens, expr, with_register, jump, branch, conditional, fields, instr, postfix}
use Rattle.rules.specs.Rules.JobFile.{branch_label_holds, instruction, nothing_left, program}
use Rattle.rules.specs.Rules.Encoding.{bytes_of, token_bytes, tokens_bytes, expr_bytes, instr_bytes, program_bytes}
use Rattle.rules.specs.Rules.TextReading.{all_hold}
use Rattle.rules.specs.Theorems.Readers.{unread}
use Rattle.rules.proofs.Theorems.Encodable.{TokenFits, TokensFit, nil, more, ExprFits, InstrFits, InstrsFit}

-- an expression that keeps the postfix rule has a token
sound_least : (e : Expr) → sound e ≡ true → 1 ≤ length e
unfolding sound held
sound_least [] h = unread h
sound_least (t ∷ ts) h = omega arith

module _ (p : List ℕ) where
  -- the bytes from an offset to the end
  pub record Stands (at : ℕ) (bs : List ℕ) : Type 0 where
    pub bytes : drop at p ≡ bs
    pub within : at ≤ length p

  -- what was read, and the bytes that are left after it
  record Gives {A : Type 0} (m : Read A) (a : A) (rest : List ℕ) : Type 0 where
    next : ℕ
    read : m ≡ got a next
    left : Stands next rest

  given : {A : Type 0} {q : ℕ} {rest : List ℕ} (a : A) → Stands q rest → Gives (got a q) a rest
  given {A} {q} a s = record { next = q; read = refl; left = s }

  -- two parts, one after the other
  both : {A B : Type 0} {m : Read A} {a : A} {b : B} {more rest : List ℕ} (f : A → ℕ → Read B) → Gives m a more
      → ((q : ℕ) → Stands q more → Gives (f a q) b rest) → Gives (and_then m f) b rest
  both {A} {B} f g k =
      let h = k g.next g.left in
      record { next = h.next; read = ap (λ (r : Read A). and_then r f) g.read ∙ h.read; left = h.left }

  equal : {A : Type 0} {m n : Read A} {a : A} {rest : List ℕ} → m ≡ n → Gives n a rest → Gives m a rest
  equal e g = record { next = g.next; read = e ∙ g.read; left = g.left }

  moved : {at : ℕ} {bs cs : List ℕ} → Stands at bs → bs ≡ cs → Stands at cs
  moved s e = record { bytes = s.bytes ∙ e; within = s.within }

  -- ---- numbers
  record First (at b : ℕ) (rest : List ℕ) : Type 0 where
    inside : at < length p
    value : get_or p at 0 ≡ b
    after : Stands (at + 1) rest

  first : (at b : ℕ) (rest : List ℕ) → Stands at (b ∷ rest) → First at b rest
  first at b rest s = go (ltb at (length p)) refl
    where
      heads : {x y : ℕ} {xs ys : List ℕ} → x ∷ xs ≡ y ∷ ys → (x ≡ y) × (xs ≡ ys)
      heads {x} {y} {xs} {ys} e = (cc, cc)

      no_byte : {P : Type 0} → [] ≡ b ∷ rest → P
      no_byte {P} e = absurd (let z = ap length e in omega arith)

      go : (t : Bool) → ltb at (length p) ≡ t → First at b rest
      go true e =
          let l = ltb-true at (length p) e in
          let h = heads (sym (drop-cons p at 0 l) ∙ s.bytes) in
          record {
            inside = l;
            value = h.0;
            after = record { bytes = ap (λ (n : ℕ). drop n p) (add-one at) ∙ h.1; within = omega arith };
          }
      go false e = no_byte (sym (drop_of_length-le p {i = at} (ltb-false at (length p) e)) ∙ s.bytes)

  byte-given : (at b : ℕ) (rest : List ℕ) → Stands at (b ∷ rest) → Gives (byte p at) b rest
  unfolding byte
  byte-given at b rest s =
      let f = first at b rest s in
      record { next = at + 1; read = rw (lt-ltb at (length p) f.inside, f.value); left = f.after }

  register-given : (at r : ℕ) (rest : List ℕ) → r < registers → Stands at (r ∷ rest) → Gives (register p at) r rest
  unfolding register
  register-given at r rest h s =
      both (λ b q. cond (ltb b registers) (got b q) (refused refusals.Encoding)) (byte-given at r rest s)
      (λ q l. equal (ap (λ (t : Bool). cond t (got r q) (refused refusals.Encoding)) (lt-ltb r registers h)) (given r l))

  pub little-given : (k v at : ℕ) (rest : List ℕ) → v < 256 ^ k → Stands at (bytes_of k v ++ rest) → (little p at k ≡ v) × Stands (at + k) rest
  unfolding little bytes_of
  little-given zero v at rest h s = (omega arith, rw (add-zero at) s)
  little-given (suc k) v at rest h s =
      let e : 256 ^ suc k ≡ 256 ^ k * 256 = pow-suc 256 k in
      let f = first at (v % 256) (bytes_of k (v / 256) ++ rest) s in
      let l : v / 256 < 256 ^ k = omega (arith, e) in
      let g = little-given k (v / 256) (at + 1) rest l f.after in
      let x = f.value in
      let y = g.0 in
      let z : at + 1 + k ≡ at + suc k = omega arith in
      (rw (x, y) (omega arith), rw z at g.1)

  word-given : (k v at : ℕ) (rest : List ℕ) → v < 256 ^ k → Stands at (bytes_of k v ++ rest) → Gives (word_of k p at) v rest
  unfolding word_of
  word-given k v at rest h s =
      let g = little-given k v at rest h s in
      record { next = at + k; read = rw (le-leb (at + k) (length p) g.1.within, g.0); left = g.1 }

  -- ---- expressions
  token_of-register : (q r : ℕ) (rest : List ℕ) → r < registers → Stands q rest → Gives (token_of r p q) (reg r) rest
  unfolding token_of
  token_of-register q r rest h s = equal (rw (lt-ltb r 16 h)) (given (reg r) s)

  constant-given : (at c : ℕ) (rest : List ℕ) → c < 2 ^ 64 → Stands at (bytes_of 8 c ++ rest) → Gives (constant p at) (const c) rest
  unfolding constant
  constant-given at c rest h s = both (λ v q. got (const v) q) (word-given 8 c at rest h s) (λ q l. given (const c) l)

  token-given : (t : Token) (at : ℕ) (rest : List ℕ) → TokenFits t → Stands at (token_bytes t ++ rest) → Gives (token p at) t rest
  unfolding token token_of unary binary
  token-given (reg r) at rest h s = both (λ b q. token_of b p q) (byte-given at r rest s) (λ q l. token_of-register q r rest h l)
  token-given (const c) at rest h s =
      both (λ b q. token_of b p q) (byte-given at 16 (bytes_of 8 c ++ rest) s) (λ q l. constant-given q c rest h l)
  token-given (op1 neg) at rest h s = both (λ b q. token_of b p q) (byte-given at 17 rest s) (λ q l. given (op1 neg) l)
  token-given (op1 inv) at rest h s = both (λ b q. token_of b p q) (byte-given at 18 rest s) (λ q l. given (op1 inv) l)
  token-given (op2 add) at rest h s = both (λ b q. token_of b p q) (byte-given at 19 rest s) (λ q l. given (op2 add) l)
  token-given (op2 sub) at rest h s = both (λ b q. token_of b p q) (byte-given at 20 rest s) (λ q l. given (op2 sub) l)
  token-given (op2 mul) at rest h s = both (λ b q. token_of b p q) (byte-given at 21 rest s) (λ q l. given (op2 mul) l)
  token-given (op2 and) at rest h s = both (λ b q. token_of b p q) (byte-given at 22 rest s) (λ q l. given (op2 and) l)
  token-given (op2 or) at rest h s = both (λ b q. token_of b p q) (byte-given at 23 rest s) (λ q l. given (op2 or) l)
  token-given (op2 xor) at rest h s = both (λ b q. token_of b p q) (byte-given at 24 rest s) (λ q l. given (op2 xor) l)
  token-given (op2 shl) at rest h s = both (λ b q. token_of b p q) (byte-given at 25 rest s) (λ q l. given (op2 shl) l)
  token-given (op2 shr) at rest h s = both (λ b q. token_of b p q) (byte-given at 26 rest s) (λ q l. given (op2 shr) l)
  token-given (op2 eq) at rest h s = both (λ b q. token_of b p q) (byte-given at 27 rest s) (λ q l. given (op2 eq) l)
  token-given (op2 ult) at rest h s = both (λ b q. token_of b p q) (byte-given at 28 rest s) (λ q l. given (op2 ult) l)

  tokens-given : {ts : Expr} → TokensFit ts → (at : ℕ) (rest : List ℕ) → Stands at (tokens_bytes ts ++ rest) → Gives (tokens (length ts) p at) ts rest
  unfolding tokens tokens_bytes
  tokens-given nil at rest s = given [] s
  tokens-given (more {t = t} {ts = ts} f fs) at rest s =
      both (λ u q. and_then (tokens (length ts) p q) (λ us r. got (u ∷ us) r))
      (token-given t at (tokens_bytes ts ++ rest) f (moved s (append_assoc (token_bytes t) (tokens_bytes ts) rest)))
      (λ q l. both (λ us r. got (t ∷ us) r) (tokens-given fs q rest l) (λ r m. given (t ∷ ts) m))

  expr-given : (e : Expr) (at : ℕ) (rest : List ℕ) → ExprFits e → sound e ≡ true → Stands at (expr_bytes e ++ rest) → Gives (expr p at) e rest
  unfolding expr expr_bytes
  expr-given e at rest f h s =
      let n = length e in
      let fits = and_true (leb 1 n) (leb n 16) (le-leb 1 n (sound_least e h)) (le-leb n 16 f.most) in
      both (λ k q. cond (leb 1 k && leb k 16) (tokens k) (refuse refusals.Encoding) p q) (byte-given at n (tokens_bytes e ++ rest) s)
      (λ q l. equal (ap (λ (b : Bool). cond b (tokens n) (refuse refusals.Encoding) p q) fits) (tokens-given f.tokens q rest l))

  -- ---- instructions
  with-register : (f : ℕ → Expr → Instr) (r : ℕ) (e : Expr) (at : ℕ) (rest : List ℕ) → (r < registers) × ExprFits e → sound e ≡ true
      → Stands at (r ∷ (expr_bytes e ++ rest)) → Gives (with_register f p at) (f r e) rest
  unfolding with_register
  with-register f r e at rest h i s =
      both (λ b q. and_then (expr p q) (λ x t. got (f b x) t)) (register-given at r (expr_bytes e ++ rest) h.0 s)
      (λ q l. both (λ x t. got (f r x) t) (expr-given e q rest h.1 i l) (λ t m. given (f r e) m))

  jump-given : (e : Expr) (at : ℕ) (rest : List ℕ) → ExprFits e → sound e ≡ true → Stands at (expr_bytes e ++ rest) → Gives (jump p at) (jmp e) rest
  unfolding jump
  jump-given e at rest h i s = both (λ x t. got (jmp x) t) (expr-given e at rest h i s) (λ t m. given (jmp e) m)

  branch-given : (r l at : ℕ) (rest : List ℕ) → r < registers → l < 2 ^ 16 → Stands at (r ∷ (bytes_of 2 l ++ rest)) → Gives (branch p at) (beqz r l) rest
  unfolding branch
  branch-given r l at rest h i s =
      both (λ b q. and_then (word_of 2 p q) (λ x t. got (beqz b x) t)) (register-given at r (bytes_of 2 l ++ rest) h s)
      (λ q m. both (λ x t. got (beqz r x) t) (word-given 2 l q rest i m) (λ t n. given (beqz r l) n))

  conditional-given : (r : ℕ) (c e : Expr) (at : ℕ) (rest : List ℕ) → r < registers → ExprFits c → ExprFits e → sound c ≡ true → sound e ≡ true
      → Stands at (r ∷ ((expr_bytes c ++ expr_bytes e) ++ rest)) → Gives (conditional p at) (cassign r c e) rest
  unfolding conditional
  conditional-given r c e at rest h f g i j s =
      let later = expr_bytes e ++ rest in
      both (λ b q. and_then (expr p q) (λ x t. and_then (expr p t) (λ y u. got (cassign b x y) u)))
      (register-given at r (expr_bytes c ++ later) h (moved s (ap (λ (bs : List ℕ). r ∷ bs) (append_assoc (expr_bytes c) (expr_bytes e) rest))))
      (λ q l. both (λ x t. and_then (expr p t) (λ y u. got (cassign r x y) u)) (expr-given c q later f i l)
      (λ t m. both (λ y u. got (cassign r c y) u) (expr-given e t rest g j m) (λ u n. given (cassign r c e) n)))

  -- what follows the kind byte
  abbrev after_kind : ℕ → ℕ → Read Instr
  after_kind k q = get_or fields k (refuse refusals.Encoding) p q

  instr-given : (x : Instr) (at : ℕ) (rest : List ℕ) → InstrFits x → postfix x ≡ true → Stands at (instr_bytes x ++ rest) → Gives (instr p at) x rest
  unfolding instr instr_bytes fields
  instr-given skip at rest f h s = both after_kind (byte-given at 0 rest s) (λ q l. given skip l)
  instr-given (assign r e) at rest f h s =
      both after_kind (byte-given at 1 (r ∷ (expr_bytes e ++ rest)) s) (λ q l. with-register assign r e q rest f h l)
  instr-given (load r e) at rest f h s =
      both after_kind (byte-given at 2 (r ∷ (expr_bytes e ++ rest)) s) (λ q l. with-register load r e q rest f h l)
  instr-given (store r e) at rest f h s =
      both after_kind (byte-given at 3 (r ∷ (expr_bytes e ++ rest)) s) (λ q l. with-register store r e q rest f h l)
  instr-given (jmp e) at rest f h s = both after_kind (byte-given at 4 (expr_bytes e ++ rest) s) (λ q l. jump-given e q rest f h l)
  instr-given (beqz r l) at rest f h s =
      both after_kind (byte-given at 5 (r ∷ (bytes_of 2 l ++ rest)) s) (λ q m. branch-given r l q rest f.0 f.1 m)
  instr-given (cassign r c e) at rest f h s =
      let i = and_left (sound c) (sound e) h in
      let j = and_right (sound c) (sound e) h in
      both after_kind (byte-given at 6 (r ∷ ((expr_bytes c ++ expr_bytes e) ++ rest)) s)
      (λ q l. conditional-given r c e q rest f.0 f.1 f.2 i j l)
  instr-given spbarr at rest f h s = both after_kind (byte-given at 7 rest s) (λ q l. given spbarr l)

  -- ---- the program
  instruction-given : (n i : ℕ) (x : Instr) (at : ℕ) (rest : List ℕ) → InstrFits x → postfix x ≡ true → branch_label_holds n i x ≡ true
      → Stands at (instr_bytes x ++ rest) → Gives (instruction n i p at) x rest
  unfolding instruction
  instruction-given n i x at rest f h b s =
      both (λ y q. and_then (cond (postfix y) (got y q) (refused refusals.Postfix))
      (λ z r. cond (branch_label_holds n i z) (got z r) (refused refusals.BranchLabel))) (instr-given x at rest f h s)
      (λ q l. both (λ z r. cond (branch_label_holds n i z) (got z r) (refused refusals.BranchLabel))
      (equal (ap (λ (t : Bool). cond t (got x q) (refused refusals.Postfix)) h) (given x l))
      (λ r m. equal (ap (λ (t : Bool). cond t (got x r) (refused refusals.BranchLabel)) b) (given x m)))

  at-end : {at : ℕ} → Stands at [] → at ≡ length p
  at-end {at} s =
      let l = length-drop at p in
      let z : length (drop at p) ≡ 0 = ap length s.bytes in
      let w = s.within in
      omega arith

  nothing_left_lem : (at : ℕ) → Stands at [] → Gives (nothing_left p at) [] []
  unfolding nothing_left
  nothing_left_lem at s =
      equal (ap (λ (t : Bool). cond t (got [] at) (refused refusals.Surplus)) (eq-eqb at (length p) (at-end s))) (given [] s)

  program-given : (n i : ℕ) {xs : List Instr} → InstrsFit xs → all_hold n i xs ≡ true → (at : ℕ) → Stands at (program_bytes xs)
      → Gives (program n (length xs) i p at) xs []
  unfolding program program_bytes all_hold
  program-given n i nil h at s = nothing_left_lem at s
  program-given n i (more {x = x} {xs = xs} f fs) h at s =
      let here = postfix x && branch_label_holds n i x in
      let now = and_left here (all_hold n (i + 1) xs) h in
      let later = and_right here (all_hold n (i + 1) xs) h in
      both (λ y q. and_then (program n (length xs) (i + 1) p q) (λ ys r. got (y ∷ ys) r))
      (instruction-given n i x at (program_bytes xs) f (and_left (postfix x) (branch_label_holds n i x) now)
      (and_right (postfix x) (branch_label_holds n i x) now) s)
      (λ q l. both (λ ys r. got (x ∷ ys) r) (program-given n (i + 1) fs later q l) (λ r m. given (x ∷ xs) m))

-- the reader takes the bytes of a program as that program
pub program_decoded : (n : ℕ) (xs : List Instr) → InstrsFit xs → all_hold n 0 xs ≡ true
    → program n (length xs) 0 (program_bytes xs) 0 ≡ got xs (length (program_bytes xs))
program_decoded n xs f h =
    let p = program_bytes xs in
    let g = program-given p n 0 f h 0 (record { bytes = refl; within = omega arith }) in
    g.read ∙ ap (got xs) (at-end p g.left)
