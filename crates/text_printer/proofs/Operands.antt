-- The offsets of an expression's tokens as they are found one after the other, and the text of an operand by its last token.
-- Assumes nothing.
use mathlib.Core.Path.{◌≡◌, refl, sym, ap, ap₂, ◌∙◌}
use mathlib.Core.Logic.{◌≢◌}
use mathlib.Core.Bool.{Bool, true, false}
use mathlib.Core.List.{List, [], ◌∷◌, ◌++◌, append_assoc}
use Prim.Native.Nat.{ℕ, zero, suc, ◌+◌, ◌-◌, ◌^◌, ◌<◌, ◌≤◌}
use native.Mathlib.Omega.{arith}
use lib.Dec.{eqb}
use lib.ListN.{length, get_or, drop, set, length-append}
use lib.Seq.{get_or-set_same, get_or-set_other}
use borrow.Author.Tests.{eqb-true, eqb-false}
use Rattle.rules.specs.Rules.Operators.{Op1, Op2}
use Rattle.rules.specs.Rules.Expressions.{Token, reg, const, op1, op2, Expr, takes, held, sound}
use Rattle.rules.specs.Rules.JobFile.{Read, got, refused, and_then, token, tokens}
use Rattle.rules.specs.Rules.Listing.{decimal}
use Rattle.rules.specs.Rules.Parts.{space, opening_bracket, closing_bracket}
use Rattle.rules.specs.Rules.TextReading.{sign_name, operator_name}
use Rattle.rules.specs.Rules.TextPrinting.{register_text, signed_text, bracketed_text, text_pushed, text_on, top_text, expr_text}
use Rattle.rules.specs.Theorems.Readers.{readable, value_or, unread}
use Rattle.token.specs.declared.Expression.{Expression}
use Rattle.token.specs.Meaning.{tokens_of}
use Rattle.token.specs.Readable.{tokens-read}
use Rattle.rules.proofs.Theorems.Postfix.{after_holds}
use Rattle.text_printer.specs.Operands.{sign_part, operator_part, token_in, texts_at, below_after, Indexed, IndexedAll, Operand, Printable}

-- ---- tokens that were read
token-in : (p : List ℕ) (at : ℕ) (t : Token) (q : ℕ) → got t q ≡ token p at → token_in p at ≡ t
unfolding token_in
token-in p at t q e = rw (← e)

tokens-value : (k : ℕ) (p : List ℕ) (at : ℕ) (t : Token) (q : ℕ) → got t q ≡ token p at → readable (tokens (suc k) p at) ≡ true
    → value_or [] (tokens (suc k) p at) ≡ t ∷ value_or [] (tokens k p q)
unfolding tokens readable
tokens-value k p at t q e h = rw (← e) (go (tokens k p q) ((tokens-read k p at h).1 t q e))
  where
    go : (R : Read Expr) → readable R ≡ true → value_or [] (and_then R (λ ts q'. got (t ∷ ts) q')) ≡ t ∷ value_or [] R
    go (got ts q') h = refl
    go (refused r) h = unread h

pub tokens-length : (k : ℕ) (p : List ℕ) (at : ℕ) → readable (tokens k p at) ≡ true → length (value_or [] (tokens k p at)) ≡ k
unfolding tokens readable
tokens-length zero p at h = refl
tokens-length (suc k) p at h = go (token p at) refl (tokens-read k p at h).0 (λ q. tokens-length k p q)
  where
    go : (R : Read Token) → token p at ≡ R → readable R ≡ true
        → ((q : ℕ) → readable (tokens k p q) ≡ true → length (value_or [] (tokens k p q)) ≡ k)
        → length (value_or [] (tokens (suc k) p at)) ≡ suc k
    go (got t q) e h' rec =
        ap length (tokens-value k p at t q (sym e) h) ∙ ap suc (rec q ((tokens-read k p at h).1 t q (sym e)))
    go (refused r) e h' rec = unread h'

-- ---- the offsets of more tokens change no text of those before them
texts-set : (p offsets : List ℕ) (i o j : ℕ) → j ≤ i → texts_at p (set offsets i o) j ≡ texts_at p offsets j
unfolding texts_at
texts-set p offsets i o zero h = refl
texts-set p offsets i o (suc j) h =
    let ne : j ≢ i = omega arith in
    ap₂ text_pushed (ap (token_in p) (get_or-set_other offsets i j o 0 ne)) (texts-set p offsets i o j (omega arith))

-- what a token leaves of the other operands
others-pushed : (t : Token) (st : List (List ℕ)) → drop 1 (text_pushed t st) ≡ drop (takes t) st
unfolding text_pushed
others-pushed (reg r) st = refl
others-pushed (const c) st = refl
others-pushed (op1 o) [] = refl
others-pushed (op1 o) (x ∷ st) = refl
others-pushed (op2 o) [] = refl
others-pushed (op2 o) (y ∷ []) = refl
others-pushed (op2 o) (y ∷ x ∷ st) = refl

drop-two : (st : List (List ℕ)) → drop 1 (drop 1 st) ≡ drop 2 st
drop-two [] = refl
drop-two (x ∷ []) = refl
drop-two (x ∷ y ∷ st) = refl

module _ {p offsets below : List ℕ} {i : ℕ} (h : Indexed p i offsets below) where
  below-most : (t : Token) → below_after below i t ≤ i
  below-most (reg r) = omega arith
  below-most (const c) = omega arith
  below-most (op1 o) = h.first i (omega arith)
  below-most (op2 o) = let a = h.first i (omega arith) in let b = h.first (get_or below i 0) a in omega arith

  below-texts : (t : Token) → texts_at p offsets (below_after below i t) ≡ drop (takes t) (texts_at p offsets i)
  below-texts (reg r) = refl
  below-texts (const c) = refl
  below-texts (op1 o) = h.others i (omega arith)
  below-texts (op2 o) =
      h.others (get_or below i 0) (h.first i (omega arith)) ∙ ap (drop 1) (h.others i (omega arith)) ∙ drop-two (texts_at p offsets i)

-- ---- one token more: the token t at the offset o
module _ {p offsets below : List ℕ} {i : ℕ} (h : Indexed p i offsets below) (o q : ℕ) (t : Token) (e : got t q ≡ token p o)
    (room : i < length offsets) (more : suc i < length below) where
  texts-next : texts_at p (set offsets i o) (suc i) ≡ text_pushed t (texts_at p offsets i)
  unfolding texts_at
  texts-next =
      ap₂ text_pushed (ap (token_in p) (get_or-set_same offsets i o 0 room) ∙ token-in p o t q e) (texts-set p offsets i o i (omega arith))

  token-next : (j : ℕ) → j < suc i → readable (token p (get_or (set offsets i o) j 0)) ≡ true
  unfolding readable
  token-next j l = go (eqb j i) refl
    where
      go : (b : Bool) → eqb j i ≡ b → readable (token p (get_or (set offsets i o) j 0)) ≡ true
      go true z = rw (eqb-true j i z, get_or-set_same offsets i o 0 room, ← e)
      go false z =
          let ne : j ≢ i = eqb-false j i z in
          rw (get_or-set_other offsets i j o 0 ne) (h.token j (omega arith))

  first_next : (j : ℕ) → j ≤ suc i → get_or (set below (suc i) (below_after below i t)) j 0 ≤ j
  first_next j l = go (eqb j (suc i)) refl
    where
      go : (b : Bool) → eqb j (suc i) ≡ b → get_or (set below (suc i) (below_after below i t)) j 0 ≤ j
      go true z =
          let m = below-most h t in
          let s = eqb-true j (suc i) z in
          rw (s, get_or-set_same below (suc i) (below_after below i t) 0 more) (omega arith)
      go false z =
          let ne : j ≢ suc i = eqb-false j (suc i) z in
          rw (get_or-set_other below (suc i) j (below_after below i t) 0 ne) (h.first j (omega arith))

  others-next : (j : ℕ) → j ≤ suc i
      → texts_at p (set offsets i o) (get_or (set below (suc i) (below_after below i t)) j 0) ≡ drop 1 (texts_at p (set offsets i o) j)
  others-next j l = go (eqb j (suc i)) refl
    where
      go : (b : Bool) → eqb j (suc i) ≡ b
          → texts_at p (set offsets i o) (get_or (set below (suc i) (below_after below i t)) j 0) ≡ drop 1 (texts_at p (set offsets i o) j)
      go true z =
          let s = eqb-true j (suc i) z in
          rw (s, get_or-set_same below (suc i) (below_after below i t) 0 more)
          (texts-set p offsets i o (below_after below i t) (below-most h t)
          ∙ below-texts h t
          ∙ sym (others-pushed t (texts_at p offsets i))
          ∙ ap (drop 1) (sym texts-next))
      go false z =
          let ne : j ≢ suc i = eqb-false j (suc i) z in
          let f : get_or below j 0 ≤ j = h.first j (omega arith) in
          rw (get_or-set_other below (suc i) j (below_after below i t) 0 ne)
          (texts-set p offsets i o (get_or below j 0) (omega arith)
          ∙ h.others j (omega arith)
          ∙ ap (drop 1) (sym (texts-set p offsets i o j (omega arith))))

  indexed-next : Indexed p (suc i) (set offsets i o) (set below (suc i) (below_after below i t))
  indexed-next = record { token = token-next; first = first_next; others = others-next }

-- ---- the loop over the tokens: k are left at an offset, after i others, and all leave the texts ts
pub record Left (p : List ℕ) (ts : List (List ℕ)) (k at i : ℕ) (offsets below : List ℕ) : Type 0 where
  pub indexed : Indexed p i offsets below
  pub left : readable (tokens k p at) ≡ true
  pub texts : text_on (value_or [] (tokens k p at)) (texts_at p offsets i) ≡ ts

pub left-start : (p : List ℕ) (e : Expression) (offsets below : List ℕ) → 0 < length below → readable (tokens e.count p e.at) ≡ true
    → Left p (text_on (tokens_of p e) []) e.count e.at 0 offsets (set below 0 0)
unfolding texts_at tokens_of
left-start p e offsets below l h = record {
  indexed = record { token = λ j l'. absurd (omega arith); first = first; others = others };
  left = h;
  texts = refl;
}
  where
    first : (j : ℕ) → j ≤ 0 → get_or (set below 0 0) j 0 ≤ j
    first j l' = let z : j ≡ 0 = omega arith in rw (z, get_or-set_same below 0 0 0 l) (omega arith)

    others : (j : ℕ) → j ≤ 0 → texts_at p offsets (get_or (set below 0 0) j 0) ≡ drop 1 (texts_at p offsets j)
    others j l' = let z : j ≡ 0 = omega arith in rw (z, get_or-set_same below 0 0 0 l)

module _ {p : List ℕ} {ts : List (List ℕ)} {k at i : ℕ} {offsets below : List ℕ} (left : Left p ts (suc k) at i offsets below) where
  pub left-readable : readable (token p at) ≡ true
  left-readable = (tokens-read k p at left.left).0

  pub left-next : (n : ℕ) → n ≡ suc i → (t : Token) (q b : ℕ) → got t q ≡ token p at → b ≡ below_after below i t
      → i < length offsets → suc i < length below → Left p ts k q n (set offsets i at) (set below n b)
  unfolding text_on
  left-next n en t q b e eb room more = rw (en, eb) record {
    indexed = indexed-next left.indexed at q t e room more;
    left = (tokens-read k p at left.left).1 t q e;
    texts =
        ap (text_on (value_or [] (tokens k p q))) (texts-next left.indexed at q t e room more)
        ∙ (rw (tokens-value k p at t q e left.left) at left.texts);
  }

pub left_done : (p : List ℕ) (e : Expression) (at : ℕ) (offsets below : List ℕ)
    → Left p (text_on (tokens_of p e) []) 0 at e.count offsets below → IndexedAll p e offsets below
unfolding text_on tokens
left_done p e at offsets below left = record { indexed = left.indexed; texts = left.texts }

-- ---- the operand that some tokens end with, by the last of them
indexed_down : {p offsets below : List ℕ} {k : ℕ} (j : ℕ) → j ≤ k → Indexed p k offsets below → Indexed p j offsets below
indexed_down {p} {offsets} {below} {k} j l h = record {
  token = λ i l'. h.token i (omega arith);
  first = λ i l'. h.first i (omega arith);
  others = λ i l'. h.others i (omega arith);
}

signed_parts : (o : Op1) (st : List (List ℕ)) → 0 < length (text_pushed (op1 o) st)
    → (0 < length st) × (top_text (text_pushed (op1 o) st) ≡ sign_part o ++ top_text st)
unfolding text_pushed top_text signed_text sign_part
signed_parts o [] h = absurd (omega arith)
signed_parts o (x ∷ st) h = (omega arith, sym (append_assoc (sign_name o) (space ∷ []) x))

-- the texts of a bracketed operand, one after the other
abbrev pub bracketed : Op2 → List ℕ → List ℕ → List ℕ
bracketed o x y = (opening_bracket ∷ []) ++ (x ++ (operator_part o ++ (y ++ (closing_bracket ∷ []))))

bracketed_parts : (o : Op2) (st : List (List ℕ)) → 0 < length (text_pushed (op2 o) st)
    → (0 < length st) × (0 < length (drop 1 st)) × (top_text (text_pushed (op2 o) st) ≡ bracketed o (top_text (drop 1 st)) (top_text st))
unfolding text_pushed top_text bracketed_text operator_part
bracketed_parts o [] h = absurd (omega arith)
bracketed_parts o (y ∷ []) h = absurd (omega arith)
bracketed_parts o (y ∷ x ∷ st) h = (
  omega arith,
  omega arith,
  ap (λ (r : List ℕ). opening_bracket ∷ (x ++ (space ∷ r))) (sym (append_assoc (operator_name o) (space ∷ []) (y ++ (closing_bracket ∷ [])))),
)

pub operand-some : {p offsets below : List ℕ} {k at : ℕ} → Operand p offsets below k at → 0 < k
unfolding texts_at
operand-some {p} {offsets} {below} {k} {at} o = go k o.some
  where
    go : (k : ℕ) → 0 < length (texts_at p offsets k) → 0 < k
    go zero h = h
    go (suc k) h = omega arith

module _ {p offsets below : List ℕ} {k j at : ℕ} (ek : k ≡ suc j) (o : Operand p offsets below k at) where
  pub last-readable : readable (token p (get_or offsets j 0)) ≡ true
  last-readable = o.indexed.token j (omega arith)

  module _ {q : ℕ} where
    pushed-last : (t : Token) → got t q ≡ token p (get_or offsets j 0) → texts_at p offsets k ≡ text_pushed t (texts_at p offsets j)
    unfolding texts_at
    pushed-last t e = rw ek (ap (λ (u : Token). text_pushed u (texts_at p offsets j)) (token-in p (get_or offsets j 0) t q e))

    pub register-last : (r : ℕ) → got (reg r) q ≡ token p (get_or offsets j 0) → top_text (texts_at p offsets k) ≡ register_text r
    unfolding top_text text_pushed
    register-last r e = ap top_text (pushed-last (reg r) e)

    pub constant-last : (c : ℕ) → got (const c) q ≡ token p (get_or offsets j 0) → top_text (texts_at p offsets k) ≡ decimal c
    unfolding top_text text_pushed
    constant-last c e = ap top_text (pushed-last (const c) e)

    module _ (s : Op1) (e : got (op1 s) q ≡ token p (get_or offsets j 0)) where
      signed : (0 < length (texts_at p offsets j)) × (top_text (text_pushed (op1 s) (texts_at p offsets j)) ≡ sign_part s ++ top_text (texts_at p offsets j))
      signed = signed_parts s (texts_at p offsets j) (rw (pushed-last (op1 s) e) at o.some)

      pub sign-last : top_text (texts_at p offsets k) ≡ sign_part s ++ top_text (texts_at p offsets j)
      sign-last = ap top_text (pushed-last (op1 s) e) ∙ signed.1

      sign-length : length (top_text (texts_at p offsets k)) ≡ length (sign_part s) + length (top_text (texts_at p offsets j))
      sign-length = ap length sign-last ∙ length-append (sign_part s) (top_text (texts_at p offsets j))

      pub sign-room : at + length (sign_part s) < 2 ^ 64
      sign-room = omega (arith, o.room, sign-length)

      pub signed-operand : (next : ℕ) → next ≡ at + length (sign_part s) → Operand p offsets below j next
      signed-operand next n = record {
        indexed = indexed_down j (omega arith) o.indexed;
        many = omega (arith, o.many);
        more = omega (arith, o.more);
        some = signed.0;
        room = omega (arith, o.room, sign-length);
      }

    module _ (s : Op2) (e : got (op2 s) q ≡ token p (get_or offsets j 0)) where
      abbrev left_text : List ℕ
      left_text = top_text (texts_at p offsets (get_or below j 0))

      abbrev right_text : List ℕ
      right_text = top_text (texts_at p offsets j)

      others : texts_at p offsets (get_or below j 0) ≡ drop 1 (texts_at p offsets j)
      others = o.indexed.others j (omega arith)

      parts : (0 < length (texts_at p offsets j)) × (0 < length (drop 1 (texts_at p offsets j)))
          × (top_text (text_pushed (op2 s) (texts_at p offsets j)) ≡ bracketed s (top_text (drop 1 (texts_at p offsets j))) right_text)
      parts = bracketed_parts s (texts_at p offsets j) (rw (pushed-last (op2 s) e) at o.some)

      pub binary-last : top_text (texts_at p offsets k) ≡ bracketed s left_text right_text
      binary-last = ap top_text (pushed-last (op2 s) e) ∙ parts.2 ∙ ap (λ (st : List (List ℕ)). bracketed s (top_text st) right_text) (sym others)

      binary-length : length (top_text (texts_at p offsets k))
          ≡ 1 + length left_text + length (operator_part s) + length right_text + 1
      binary-length =
          ap length binary-last
          ∙ omega (
            arith,
            length-append left_text (operator_part s ++ (right_text ++ (closing_bracket ∷ []))),
            length-append (operator_part s) (right_text ++ (closing_bracket ∷ [])),
            length-append right_text (closing_bracket ∷ []),
          )

      -- there is room for each part
      pub binary-room : at + 1 + length left_text + length (operator_part s) + length right_text + 1 < 2 ^ 64
      binary-room = omega (arith, o.room, binary-length)

      pub left-operand : (next : ℕ) → next ≡ at + 1 → Operand p offsets below (get_or below j 0) next
      left-operand next n =
          let l : get_or below j 0 ≤ j = o.indexed.first j (omega arith) in
          record {
            indexed = indexed_down (get_or below j 0) (omega arith) o.indexed;
            many = omega (arith, o.many);
            more = omega (arith, o.more);
            some = rw others parts.1;
            room = omega (arith, binary-room);
          }

      pub right_operand : (next : ℕ) → next ≡ at + 1 + length left_text + length (operator_part s) → Operand p offsets below j next
      right_operand next n = record {
        indexed = indexed_down j (omega arith) o.indexed;
        many = omega (arith, o.many);
        more = omega (arith, o.more);
        some = parts.0;
        room = omega (arith, binary-room);
      }

-- ---- the whole expression
held-texts : (ts : Expr) (st : List (List ℕ)) (d : ℕ) → d ≡ length st → held d ts ≡ 1 → 0 < length (text_on ts st)
unfolding held text_on text_pushed
held-texts [] st d l h = omega arith
held-texts (t ∷ ts) st d l h =
    let a = after_holds d (takes t) ts h in
    held-texts ts (text_pushed t st) (d - takes t + 1) (pushed-length t st d l a.1) a.3
  where
    pushed-length : (t : Token) (st : List (List ℕ)) (d : ℕ) → d ≡ length st → takes t ≤ d → d - takes t + 1 ≡ length (text_pushed t st)
    pushed-length (reg r) st d l k = omega arith
    pushed-length (const c) st d l k = omega arith
    pushed-length (op1 o) [] d l k = absurd (omega arith)
    pushed-length (op1 o) (x ∷ st) d l k = omega arith
    pushed-length (op2 o) [] d l k = absurd (omega arith)
    pushed-length (op2 o) (y ∷ []) d l k = absurd (omega arith)
    pushed-length (op2 o) (y ∷ x ∷ st) d l k = omega arith

module _ (p : List ℕ) (e : Expression) (h : Printable (tokens_of p e)) where
  pub printable_readable : readable (tokens e.count p e.at) ≡ true
  unfolding tokens_of sound held readable
  printable_readable = go (tokens e.count p e.at) h.sound
    where
      go : (R : Read Expr) → eqb (held 0 (value_or [] R)) 1 ≡ true → readable R ≡ true
      go (got ts q) k = refl
      go (refused r) k = absurd (let z : ◌≡◌ {A = ℕ} 0 1 = eqb-true 0 1 k in omega arith)

  pub printable_few : e.count ≤ 16
  unfolding tokens_of
  printable_few = omega (arith, h.few, tokens-length e.count p e.at printable_readable)

  module _ {offsets below : List ℕ} (all : IndexedAll p e offsets below) where
    pub whole-text : top_text (texts_at p offsets e.count) ≡ expr_text (tokens_of p e)
    unfolding expr_text
    whole-text = ap top_text all.texts

    pub whole-operand : (at : ℕ) → 16 ≤ length offsets → 17 ≤ length below → at + length (expr_text (tokens_of p e)) < 2 ^ 64
        → Operand p offsets below e.count at
    unfolding sound
    whole-operand at l m room =
        let f = printable_few in
        record {
          indexed = all.indexed;
          many = omega arith;
          more = omega arith;
          some = rw all.texts (held-texts (tokens_of p e) [] 0 refl (eqb-true _ 1 h.sound));
          room = rw whole-text room;
        }
