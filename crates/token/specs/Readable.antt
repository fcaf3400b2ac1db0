-- What was read where something was read: each part of it stands where the rules look for it, before the end of the bytes.
-- Assumes nothing.
use Rattle.std.specs.Prelude.{◌≡◌, refl, ◌≢◌, Bool, true, false, ◌&&◌, cond, List, [], ◌∷◌, eqb, leb, ltb, length}
use Rattle.std.proofs.Common.{◌∙◌}
use Prim.Native.Nat.{ℕ, suc, ◌+◌, ◌-◌, ◌<◌, ◌≤◌}
use native.Mathlib.Omega.{arith}
use Rattle.std.proofs.Math.ListN.{get_or}
use borrow.Author.Tests.{leb-true, ltb-true, ltb-false, le-leb, lt-leb, lt-ltb, le-ltb, ne_eqb}
use Rattle.rules.specs.declared.Refusal.TheVariants as refusals
use Rattle.rules.specs.Rules.Operators.{neg, add}
use Rattle.rules.specs.Rules.Expressions.{Token, reg, const, op1, op2}
use Rattle.rules.specs.Rules.JobFile.{Read, got, refused, and_then, return, refuse, little, word_of, byte, unary, binary, constant, token_of, token, tokens, expr}
use Rattle.rules.specs.Theorems.Readers.{readable, next_offset, unread, first_read}
use Rattle.token.specs.Bytes.{byte-got, byte_past}

pub byte-read : (p : List ℕ) (at : ℕ) → readable (byte p at) ≡ true → at < length p
unfolding byte readable
byte-read p at h = go (ltb at (length p)) refl h
  where
    go : (b : Bool) → ltb at (length p) ≡ b → readable (cond b (got (get_or p at 0) (at + 1)) (refused refusals.Encoding)) ≡ true → at < length p
    go true e h = ltb-true _ _ e
    go false e h = unread h

pub word_read : (k : ℕ) (p : List ℕ) (at : ℕ) → readable (word_of k p at) ≡ true
    → (at + k ≤ length p) × (word_of k p at ≡ got (little p at k) (at + k))
unfolding word_of readable
word_read k p at h = go (leb (at + k) (length p)) refl h
  where
    go : (b : Bool) → leb (at + k) (length p) ≡ b → readable (cond b (got (little p at k) (at + k)) (refused refusals.Encoding)) ≡ true
        → (at + k ≤ length p) × (cond b (got (little p at k) (at + k)) (refused refusals.Encoding) ≡ got (little p at k) (at + k))
    go true e h = (leb-true _ _ e, refl)
    go false e h = unread h

-- ---- a token: its byte, then what the byte asks for
pub token-read : (p : List ℕ) (at : ℕ) → readable (token p at) ≡ true → (at < length p) × (token p at ≡ token_of (get_or p at 0) p (at + 1))
unfolding token readable
token-read p at h = let l = byte-read p at (first_read 0 (byte p at) _ h).0 in (l, rw (byte-got p at l))

pub register-read : (p : List ℕ) (at : ℕ) → readable (token p at) ≡ true → get_or p at 0 < 16 → token p at ≡ got (reg (get_or p at 0)) (at + 1)
unfolding token_of
register-read p at h l = rw (lt-ltb _ 16 l) at (token-read p at h).1

pub constant-read : (p : List ℕ) (at : ℕ) → readable (token p at) ≡ true → get_or p at 0 ≡ 16
    → (at + 1 + 8 ≤ length p) × (token p at ≡ got (const (little p (at + 1) 8)) (at + 1 + 8))
unfolding token_of constant
constant-read p at h e =
    let t = rw e at (token-read p at h).1 in
    let w = word_read 8 p (at + 1) (first_read 0 (word_of 8 p (at + 1)) _ (rw t at h)).0 in
    (w.0, rw (t, w.1))

pub unary_read : (p : List ℕ) (at : ℕ) → readable (token p at) ≡ true → 16 ≤ get_or p at 0 → get_or p at 0 ≢ 16 → get_or p at 0 < 19
    → token p at ≡ got (op1 (get_or unary (get_or p at 0 - 17) neg)) (at + 1)
unfolding token_of
unary_read p at h l ne u = rw (le-ltb _ 16 l, ne_eqb _ 16 ne, lt-ltb _ 19 u) at (token-read p at h).1

pub operator-read : (p : List ℕ) (at : ℕ) → readable (token p at) ≡ true → 19 ≤ get_or p at 0
    → token p at ≡ got (op2 (get_or binary (get_or p at 0 - 19) add)) (at + 1)
unfolding token_of readable
operator-read p at h l =
    let k = get_or p at 0 in
    let ne : k ≢ 16 = omega arith in
    let t = rw (le-ltb k 16 (omega arith), ne_eqb k 16 ne, le-ltb k 19 l) at (token-read p at h).1 in
    t ∙ go (ltb k 29) (rw t at h)
  where
    go : (b : Bool) → readable (cond b (return (op2 (get_or binary (get_or p at 0 - 19) add))) (refuse refusals.Encoding) p (at + 1)) ≡ true
        → cond b (return (op2 (get_or binary (get_or p at 0 - 19) add))) (refuse refusals.Encoding) p (at + 1) ≡ got
        (op2 (get_or binary (get_or p at 0 - 19) add)) (at + 1)
    go true h = refl
    go false h = unread h

-- the offset after it: a constant has eight bytes after its first, any other token none
pub constant-next : (p : List ℕ) (at : ℕ) → readable (token p at) ≡ true → get_or p at 0 ≡ 16 → next_offset (token p at) ≡ at + 9
unfolding next_offset
constant-next p at h e = rw (constant-read p at h e).1 (omega arith)

pub other-next : (p : List ℕ) (at : ℕ) → readable (token p at) ≡ true → get_or p at 0 ≢ 16 → next_offset (token p at) ≡ at + 1
unfolding token_of readable next_offset
other-next p at h ne =
    let t = rw (ne_eqb _ 16 ne) at (token-read p at h).1 in
    rw t (go (ltb (get_or p at 0) 16) (ltb (get_or p at 0) 19) (ltb (get_or p at 0) 29) (rw t at h))
  where
    k : ℕ
    k = get_or p at 0

    by : Bool → Bool → Bool → Read Token
    by a b c =
        cond a (return (reg k))
        (cond b (return (op1 (get_or unary (k - 17) neg))) (cond c (return (op2 (get_or binary (k - 19) add))) (refuse refusals.Encoding))) p (at + 1)

    go : (a b c : Bool) → readable (by a b c) ≡ true → next_offset (by a b c) ≡ at + 1
    go true b c h = refl
    go false true c h = refl
    go false false true h = refl
    go false false false h = unread h

-- ---- when a token can be read: its byte stands before the end, and is known
module _ (p : List ℕ) (at : ℕ) (l : at < length p) where
  pub known-readable : get_or p at 0 ≢ 16 → get_or p at 0 ≤ 28 → readable (token p at) ≡ true
  unfolding token token_of readable
  known-readable ne k = rw (byte-got p at l, ne_eqb _ _ ne, lt-ltb (get_or p at 0) 29 (omega arith)) (go (ltb (get_or p at 0) 16) (ltb (get_or p at 0) 19))
    where
      t : ℕ
      t = get_or p at 0

      go : (a b : Bool)
          → readable
          (cond a (return (reg t)) (cond b (return (op1 (get_or unary (t - 17) neg))) (return (op2 (get_or binary (t - 19) add)))) p (at + 1)) ≡ true
      go true b = refl
      go false true = refl
      go false false = refl

  pub unknown_unreadable : 29 ≤ get_or p at 0 → readable (token p at) ≡ false
  unfolding token token_of readable
  unknown_unreadable k =
      let t = get_or p at 0 in
      let ne : t ≢ 16 = omega arith in
      rw (byte-got p at l, le-ltb t 16 (omega arith), ne_eqb t 16 ne, le-ltb t 19 (omega arith), le-ltb t 29 k)

  pub constant-readable : get_or p at 0 ≡ 16 → at + 1 + 8 ≤ length p → readable (token p at) ≡ true
  unfolding token token_of constant word_of readable
  constant-readable e k = rw (byte-got p at l, e, le-leb (at + 1 + 8) (length p) k)

  pub constant-unreadable : get_or p at 0 ≡ 16 → length p < at + 1 + 8 → readable (token p at) ≡ false
  unfolding token token_of constant word_of readable
  constant-unreadable e k = rw (byte-got p at l, e, lt-leb (at + 1 + 8) (length p) k)

pub past-unreadable : (p : List ℕ) (at : ℕ) → length p ≤ at → readable (token p at) ≡ false
unfolding token readable
past-unreadable p at h = rw (byte_past p at h)

-- ---- a token that cannot be read is refused with 4
abbrev Refuses : Read Token → Type 0
Refuses R = readable R ≡ false → R ≡ refused refusals.Encoding

was_read : {A : Type 0} → true ≡ false → A
was_read h = absurd (let z : ◌≡◌ {A = ℕ} 0 1 = cc in omega arith)

constant-refuses : (p : List ℕ) (at : ℕ) → Refuses (constant p at)
unfolding constant word_of readable
constant-refuses p at = go (leb (at + 8) (length p))
  where
    go : (b : Bool) → Refuses (and_then (cond b (got (little p at 8) (at + 8)) (refused refusals.Encoding)) (λ c q. got (const c) q))
    go true h = was_read h
    go false h = refl

token_of-refuses : (t : ℕ) (p : List ℕ) (at : ℕ) → Refuses (token_of t p at)
unfolding token_of readable
token_of-refuses t p at = go (ltb t 16) (eqb t 16) (ltb t 19) (ltb t 29)
  where
    go : (a b c d : Bool)
        → Refuses
        (cond a (return (reg t))
        (cond b constant
        (cond c (return (op1 (get_or unary (t - 17) neg))) (cond d (return (op2 (get_or binary (t - 19) add))) (refuse refusals.Encoding)))) p at)
    go true b c d h = was_read h
    go false true c d h = constant-refuses p at h
    go false false true d h = was_read h
    go false false false true h = was_read h
    go false false false false h = refl

pub unreadable-refused : (p : List ℕ) (at : ℕ) → readable (token p at) ≡ false → token p at ≡ refused refusals.Encoding
unfolding token
unreadable-refused p at = go (ltb at (length p)) refl
  where
    go : (b : Bool) → ltb at (length p) ≡ b → Refuses (and_then (byte p at) (λ t q. token_of t p q))
    go true e = let l = ltb-true at (length p) e in rw (byte-got p at l) (token_of-refuses (get_or p at 0) p (at + 1))
    go false e = let l = ltb-false at (length p) e in λ h. rw (byte_past p at l)

-- the first of some tokens, and the others
pub tokens-read : (k : ℕ) (p : List ℕ) (at : ℕ) → readable (tokens (suc k) p at) ≡ true
    → (readable (token p at) ≡ true) × ((t : Token) (q : ℕ) → got t q ≡ token p at → readable (tokens k p q) ≡ true)
unfolding tokens
tokens-read k p at h =
    ((first_read skipped (token p at) _ h).0, λ t q e. (first_read [] (tokens k p q) (λ ts q'. got (t ∷ ts) q') (rw (← e) at h)).0)
  where
    skipped : Token
    skipped = const 0

-- the offset after some tokens is that after the others, which follow the first
pub tokens-next : (k : ℕ) (p : List ℕ) (at : ℕ) → readable (tokens (suc k) p at) ≡ true
    → (readable (tokens k p (next_offset (token p at))) ≡ true)
    × (next_offset (tokens (suc k) p at) ≡ next_offset (tokens k p (next_offset (token p at))))
unfolding tokens next_offset
tokens-next k p at h =
    let t = first_read (const 0) (token p at) _ h in
    let ts = first_read [] (tokens k p (next_offset (token p at))) _ (rw t.1 at h) in
    (ts.0, rw (t.1, ts.1))

-- an expression: its token count, then so many tokens
pub expr-read : (p : List ℕ) (at : ℕ) → readable (expr p at) ≡ true → (at < length p) × (expr p at ≡ tokens (get_or p at 0) p (at + 1))
unfolding expr readable
expr-read p at h =
    let k = get_or p at 0 in
    let l = byte-read p at (first_read 0 (byte p at) _ h).0 in
    (l, rw (byte-got p at l) (go (leb 1 k && leb k 16) (rw (byte-got p at l) at h)))
  where
    go : (b : Bool) → readable (cond b (tokens (get_or p at 0)) (refuse refusals.Encoding) p (at + 1)) ≡ true
        → cond b (tokens (get_or p at 0)) (refuse refusals.Encoding) p (at + 1) ≡ tokens (get_or p at 0) p (at + 1)
    go true h = refl
    go false h = unread h
