-- What is read of a file's bytes: a number, a register, a token and an expression each fit the encoding, and their bytes are those at
-- the offset where they were read.
-- Assumes nothing.
use Rattle.std.specs.Prelude.{◌≡◌, Bool, ◌&&◌, eqb, length}
use Rattle.std.proofs.Math.Path.{refl, sym, ap}
use Rattle.std.proofs.Common.{◌∙◌, add-zero, add-one}
use Rattle.std.proofs.Math.Bool.{true, false, cond}
use mathlib.Core.List.{List, [], ◌∷◌, ◌++◌, append_assoc}
use Prim.Native.Nat.{ℕ, zero, suc, ◌+◌, ◌-◌, ◌*◌, ◌/◌, ◌%◌, ◌^◌, ◌<◌, ◌≤◌}
use Rattle.std.proofs.Math.Nat.{pow-suc}
use native.Mathlib.Omega.{arith}
use Rattle.std.proofs.Math.Dec.{leb, ltb}
use Rattle.std.proofs.Math.ListN.{get_or, drop}
use Rattle.std.proofs.Math.Seq.{drop-cons}
use borrow.Author.Tests.{leb-true, ltb-true, ltb-false, eqb-true, eqb-false}
use Rattle.location.specs.Sets.{registers}
use Rattle.location.specs.SetLaws.{and_right}
use Rattle.rules.specs.declared.Refusal.TheVariants as refusals
use Rattle.rules.specs.Rules.Operators.{neg, add}
use Rattle.rules.specs.Rules.Expressions.{Token, reg, const, op1, op2, Expr}
use Rattle.rules.specs.Rules.JobFile.{little, got, refused, and_then, return, refuse, word_of, byte, register, unary, binary, constant, token_of}
use Rattle.rules.specs.Rules.JobFile.{token, tokens, expr}
use Rattle.rules.specs.Rules.Encoding.{bytes_of, op1_byte, op2_byte, token_bytes, tokens_bytes, expr_bytes, Bytes}
use Rattle.rules.specs.Theorems.Readers.{HoldsAt, then_at, holds-map}
use Rattle.rules.proofs.Theorems.Encodable.{TokenFits, TokensFit, nil, more, ExprFits}

-- what was read between two offsets fits, and has these bytes
pub record Encodes {A : Type 0} (Fits : A → Type 0) (bytesFor : A → List ℕ) (p : List ℕ) (at : ℕ) (a : A) (q : ℕ) : Type 0 where
  pub fits : Fits a
  pub bytes : drop at p ≡ bytesFor a ++ drop q p

abbrev pub single : ℕ → List ℕ
single b = b ∷ []

-- ---- the bytes of operators
unary-byte : (j : ℕ) → j < 2 → op1_byte (get_or unary j neg) ≡ 17 + j
unfolding unary
unary-byte zero h = refl
unary-byte (suc zero) h = refl
unary-byte (suc (suc j)) h = absurd (omega arith)

binary-byte : (j : ℕ) → j < 10 → op2_byte (get_or binary j add) ≡ 19 + j
unfolding binary
binary-byte zero h = refl
binary-byte (suc zero) h = refl
binary-byte (suc (suc zero)) h = refl
binary-byte (suc (suc (suc zero))) h = refl
binary-byte (suc (suc (suc (suc zero)))) h = refl
binary-byte (suc (suc (suc (suc (suc zero))))) h = refl
binary-byte (suc (suc (suc (suc (suc (suc zero)))))) h = refl
binary-byte (suc (suc (suc (suc (suc (suc (suc zero))))))) h = refl
binary-byte (suc (suc (suc (suc (suc (suc (suc (suc zero)))))))) h = refl
binary-byte (suc (suc (suc (suc (suc (suc (suc (suc (suc zero))))))))) h = refl
binary-byte (suc (suc (suc (suc (suc (suc (suc (suc (suc (suc j)))))))))) h = absurd (omega arith)

-- ---- numbers
pub length-bytes_of : (k v : ℕ) → length (bytes_of k v) ≡ k
unfolding bytes_of
length-bytes_of zero v = refl
length-bytes_of (suc k) v = ap suc (length-bytes_of k (v / 256))

module _ (p : List ℕ) (all : Bytes p) where
  pub little-below : (k at : ℕ) → little p at k < 256 ^ k
  unfolding little
  little-below zero at = omega arith
  little-below (suc k) at =
      let h = little-below k (at + 1) in
      let b = all.each at in
      let e : 256 ^ suc k ≡ 256 ^ k * 256 = pow-suc 256 k in
      omega (arith, e)

  little-bytes : (k at : ℕ) → at + k ≤ length p → drop at p ≡ bytes_of k (little p at k) ++ drop (at + k) p
  unfolding little bytes_of
  little-bytes zero at h = rw (add-zero at)
  little-bytes (suc k) at h =
      let b = all.each at in
      let low : (get_or p at 0 + 256 * little p (at + 1) k) % 256 ≡ get_or p at 0 = omega arith in
      let high : (get_or p at 0 + 256 * little p (at + 1) k) / 256 ≡ little p (at + 1) k = omega arith in
      let e : at + suc k ≡ at + 1 + k = omega arith in
      let next = little-bytes k (at + 1) (omega arith) in
      drop-cons p at 0 (omega arith)
      ∙ ap (λ (n : ℕ). get_or p at 0 ∷ drop n p) (sym (add-one at))
      ∙ ap (λ (bs : List ℕ). get_or p at 0 ∷ bs) next
      ∙ rw (low, high, e)

  pub word-encoded : (k at : ℕ) → HoldsAt (Encodes (λ (v : ℕ). v < 256 ^ k) (bytes_of k) p at) (word_of k p at)
  unfolding word_of
  word-encoded k at = go (leb (at + k) (length p)) refl
    where
      go : (b : Bool) → leb (at + k) (length p) ≡ b
          → HoldsAt (Encodes (λ (v : ℕ). v < 256 ^ k) (bytes_of k) p at) (cond b (got (little p at k) (at + k)) (refused refusals.Encoding))
      go true e = record { fits = little-below k at; bytes = little-bytes k at (leb-true (at + k) (length p) e) }
      go false e = tt

  pub byte-encoded : (at : ℕ) → HoldsAt (Encodes (λ (b : ℕ). b < 256) single p at) (byte p at)
  unfolding byte
  byte-encoded at = go (ltb at (length p)) refl
    where
      go : (b : Bool) → ltb at (length p) ≡ b
          → HoldsAt (Encodes (λ (c : ℕ). c < 256) single p at) (cond b (got (get_or p at 0) (at + 1)) (refused refusals.Encoding))
      go true e = record {
        fits = all.each at;
        bytes = drop-cons p at 0 (ltb-true at (length p) e) ∙ ap (λ (n : ℕ). get_or p at 0 ∷ drop n p) (sym (add-one at));
      }
      go false e = tt

  pub register-encoded : (at : ℕ) → HoldsAt (Encodes (λ (r : ℕ). r < registers) single p at) (register p at)
  unfolding register
  register-encoded at =
      then_at (Encodes (λ (b : ℕ). b < 256) single p at) (Encodes (λ (r : ℕ). r < registers) single p at) (byte p at)
      (λ r q. cond (ltb r registers) (got r q) (refused refusals.Encoding)) (byte-encoded at) (λ r q h. go r q h (ltb r registers) refl)
    where
      go : (r q : ℕ) → Encodes (λ (b : ℕ). b < 256) single p at r q → (b : Bool) → ltb r registers ≡ b
          → HoldsAt (Encodes (λ (c : ℕ). c < registers) single p at) (cond b (got r q) (refused refusals.Encoding))
      go r q h true e = record { fits = ltb-true r registers e; bytes = h.bytes }
      go r q h false e = tt

  -- ---- tokens
  constant-encoded : (at q : ℕ) → drop at p ≡ 16 ∷ drop q p → HoldsAt (Encodes TokenFits token_bytes p at) (constant p q)
  unfolding constant
  constant-encoded at q e =
      then_at (Encodes (λ (v : ℕ). v < 256 ^ 8) (bytes_of 8) p q) (Encodes TokenFits token_bytes p at) (word_of 8 p q) (λ c r. got (const c) r)
      (word-encoded 8 q) (λ c r h. record { fits = h.fits; bytes = e ∙ ap (λ (bs : List ℕ). 16 ∷ bs) h.bytes })

  token_of-encoded : (at t q : ℕ) → drop at p ≡ t ∷ drop q p → HoldsAt (Encodes TokenFits token_bytes p at) (token_of t p q)
  unfolding token_of
  token_of-encoded at t q e = go (ltb t 16) (eqb t 16) (ltb t 19) (ltb t 29) refl refl refl refl
    where
      sign : (17 ≤ t) → t < 19 → drop at p ≡ op1_byte (get_or unary (t - 17) neg) ∷ drop q p
      sign l h =
          let f = unary-byte (t - 17) (omega arith) in
          let g : 17 + (t - 17) ≡ t = omega arith in
          e ∙ ap (λ (b : ℕ). b ∷ drop q p) (sym (f ∙ g))

      operator : (19 ≤ t) → t < 29 → drop at p ≡ op2_byte (get_or binary (t - 19) add) ∷ drop q p
      operator l h =
          let f = binary-byte (t - 19) (omega arith) in
          let g : 19 + (t - 19) ≡ t = omega arith in
          e ∙ ap (λ (b : ℕ). b ∷ drop q p) (sym (f ∙ g))

      go : (a b c d : Bool) → ltb t 16 ≡ a → eqb t 16 ≡ b → ltb t 19 ≡ c → ltb t 29 ≡ d
          → HoldsAt (Encodes TokenFits token_bytes p at)
          (cond a (return (reg t)) (cond b constant (cond c (return (op1 (get_or unary (t - 17) neg)))
          (cond d (return (op2 (get_or binary (t - 19) add))) (refuse refusals.Encoding)))) p q)
      go true b c d h i j k = record { fits = ltb-true t 16 h; bytes = e }
      go false true c d h i j k = constant-encoded at q (e ∙ ap (λ (b : ℕ). b ∷ drop q p) (eqb-true t 16 i))
      go false false true d h i j k =
          let l = ltb-false t 16 h in
          let m = eqb-false t 16 i in
          record { fits = tt; bytes = sign (omega arith) (ltb-true t 19 j) }
      go false false false true h i j k = record { fits = tt; bytes = operator (ltb-false t 19 j) (ltb-true t 29 k) }
      go false false false false h i j k = tt

  token-encoded : (at : ℕ) → HoldsAt (Encodes TokenFits token_bytes p at) (token p at)
  unfolding token
  token-encoded at =
      then_at (Encodes (λ (b : ℕ). b < 256) single p at) (Encodes TokenFits token_bytes p at) (byte p at) (λ t q. token_of t p q)
      (byte-encoded at) (λ t q h. token_of-encoded at t q h.bytes)

  -- ---- expressions
  -- k tokens
  abbrev Tokens : ℕ → Expr → Type 0
  Tokens k ts = TokensFit ts × (length ts ≡ k)

  tokens-encoded : (k at : ℕ) → HoldsAt (Encodes (Tokens k) tokens_bytes p at) (tokens k p at)
  unfolding tokens tokens_bytes
  tokens-encoded zero at = record { fits = (nil, refl); bytes = refl }
  tokens-encoded (suc k) at =
      then_at (Encodes TokenFits token_bytes p at) (Encodes (Tokens (suc k)) tokens_bytes p at) (token p at)
      (λ t q. and_then (tokens k p q) (λ ts r. got (t ∷ ts) r)) (token-encoded at) (λ t q h. go t q h (tokens-encoded k q))
    where
      go : (t : Token) (q : ℕ) → Encodes TokenFits token_bytes p at t q → HoldsAt (Encodes (Tokens k) tokens_bytes p q) (tokens k p q)
          → HoldsAt (Encodes (Tokens (suc k)) tokens_bytes p at) (and_then (tokens k p q) (λ ts r. got (t ∷ ts) r))
      go t q h i =
          then_at (Encodes (Tokens k) tokens_bytes p q) (Encodes (Tokens (suc k)) tokens_bytes p at) (tokens k p q) (λ ts r. got (t ∷ ts) r) i
          (λ ts r j. record {
            fits = (more h.fits j.fits.0, ap suc j.fits.1);
            bytes = h.bytes ∙ ap (λ (bs : List ℕ). token_bytes t ++ bs) j.bytes ∙ sym (append_assoc (token_bytes t) (tokens_bytes ts) (drop r p));
          })

  pub expr-encoded : (at : ℕ) → HoldsAt (Encodes ExprFits expr_bytes p at) (expr p at)
  unfolding expr expr_bytes
  expr-encoded at =
      then_at (Encodes (λ (b : ℕ). b < 256) single p at) (Encodes ExprFits expr_bytes p at) (byte p at)
      (λ k q. cond (leb 1 k && leb k 16) (tokens k) (refuse refusals.Encoding) p q) (byte-encoded at)
      (λ k q h. go k q h (leb 1 k && leb k 16) refl)
    where
      go : (k q : ℕ) → Encodes (λ (b : ℕ). b < 256) single p at k q → (b : Bool) → (leb 1 k && leb k 16) ≡ b
          → HoldsAt (Encodes ExprFits expr_bytes p at) (cond b (tokens k) (refuse refusals.Encoding) p q)
      go k q h false e = tt
      go k q h true e =
          let most = leb-true k 16 (and_right (leb 1 k) (leb k 16) e) in
          holds-map (Encodes (Tokens k) tokens_bytes p q) (Encodes ExprFits expr_bytes p at) (tokens k p q) (tokens-encoded k q)
          (λ ts r i. record {
            fits = record { tokens = i.fits.0; most = rw i.fits.1 most };
            bytes = h.bytes ∙ ap (λ (bs : List ℕ). k ∷ bs) i.bytes ∙ ap (λ (n : ℕ). n ∷ (tokens_bytes ts ++ drop r p)) (sym i.fits.1);
          })
