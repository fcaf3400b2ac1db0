-- Operands read part by part: what each reading brings is put together as the rules put it together.
-- Assumes nothing.
use mathlib.Core.Path.{◌≡◌, refl, sym, ap, ◌∙◌}
use mathlib.Core.List.{List, [], ◌∷◌, ◌++◌, append-nil, append_assoc}
use Prim.Native.Nat.{ℕ, ◌+◌, ◌*◌, ◌<◌, ◌≤◌}
use native.Mathlib.Omega.{arith}
use lib.ListN.{length, drop, length-append}
use Rattle.rules.specs.Rules.Limits.{max_tokens}
use Rattle.rules.specs.Rules.Operators.{Op1, Op2}
use Rattle.rules.specs.Rules.Expressions.{Token, reg, const, op1, op2, Expr, takes, after, held}
use Rattle.rules.specs.Rules.Encoding.{op1_byte, op2_byte, token_bytes, tokens_bytes, bytes_of}
use Rattle.rules.specs.Rules.Parts.{Part, name, opening, closing, other, parts}
use Rattle.rules.specs.Rules.TextReading.{Taken, took, nothing, and_take, by_name, closed, signed, expression, operator_named}
use Rattle.byte_writer.specs.Texts.{put-append}
use Rattle.operand.specs.declared.Progress.{Progress}
use Rattle.operand.specs.Operands.{Roomy, moved, Advanced, Tokens, Brought, Unread}

-- ---- tokens one after another
pub held-append : (d : ℕ) (x y : Expr) → held d (x ++ y) ≡ held (held d x) y
unfolding held
held-append d [] y = refl
held-append d (t ∷ ts) y = held-append (after d (takes t)) ts y

pub bytes-append : (x y : Expr) → tokens_bytes (x ++ y) ≡ tokens_bytes x ++ tokens_bytes y
unfolding tokens_bytes
bytes-append [] y = refl
bytes-append (t ∷ ts) y = ap (λ (r : List ℕ). token_bytes t ++ r) (bytes-append ts y) ∙ sym (append_assoc (token_bytes t) (tokens_bytes ts) (tokens_bytes y))

pub bytes_one : (t : Token) → tokens_bytes (t ∷ []) ≡ token_bytes t
unfolding tokens_bytes
bytes_one t = append-nil (token_bytes t)

pub held_one : (d : ℕ) (t : Token) → held d (t ∷ []) ≡ after d (takes t)
unfolding held
held_one d t = refl

-- ---- at most nine bytes a token
token-size : (t : Token) → length (token_bytes t) ≤ 9
unfolding bytes_of
token-size (reg r) = omega arith
token-size (const c) = omega arith
token-size (op1 o) = omega arith
token-size (op2 o) = omega arith

pub tokens-size : (e : Expr) → length (tokens_bytes e) ≤ 9 * length e
unfolding tokens_bytes
tokens-size [] = omega arith
tokens-size (t ∷ ts) = omega (arith, length-append (token_bytes t) (tokens_bytes ts), token-size t, tokens-size ts)

-- ---- after some tokens there is room for what an expression may still have
pub tokens-room : {p : Progress} {e : Expr} {a b : List ℕ} {q : Progress} → Roomy p → Tokens p e a b q → Roomy q
tokens-room {p} {e} {a} {b} {q} h x = record {
  few = x.few;
  room = omega (arith, h.few, h.room, x.few, x.count, x.put.place, tokens-size e);
}

-- ---- one token; tokens after others
pub tokens-one : {p : Progress} {next : ℕ} (t : Token) {a b : List ℕ} {q : Progress} → Advanced p next (token_bytes t) (takes t) a b q
    → Tokens p (t ∷ []) a b q
tokens-one {p} t x = record { put = rw (bytes_one t) x.put; count = x.count; few = x.few; held = x.held ∙ sym (held_one p.held t) }

pub tokens_append : {p x q : Progress} (e f : Expr) {a b d : List ℕ} → Tokens p e a b x → Tokens x f b d q → Tokens p (e ++ f) a d q
tokens_append {p} {x} {q} e f g h = record {
  put = rw (bytes-append e f) (put-append g.put h.put);
  count = omega (arith, g.count, h.count, length-append e f);
  few = h.few;
  held = h.held ∙ ap (λ (k : ℕ). held k f) g.held ∙ sym (held-append p.held e f);
}

-- tokens do not ask where the text goes on
pub tokens-moved : {p : Progress} {next : ℕ} {e : Expr} {a b : List ℕ} {q : Progress} → Tokens (moved p next) e a b q → Tokens p e a b q
tokens-moved g = record { put = g.put; count = g.count; few = g.few; held = g.held }

-- ---- what is not read
pub nothing-unread : {R : Taken Expr} (c : ℕ) → R ≡ nothing → Unread R c
nothing-unread {R} c e = record { many = λ x ps r. no (sym e ∙ r) }
  where
    no : {x : Expr} {ps : List Part} → nothing ≡ took x ps → max_tokens < c + length x
    no {x} {ps} r = absurd (let z : ◌≡◌ {A = ℕ} 0 1 = cc in omega arith)

pub long-unread : {R : Taken Expr} {x : Expr} {qs : List Part} (c : ℕ) → R ≡ took x qs → max_tokens < c + length x → Unread R c
long-unread {R} {x} {qs} c e h = record { many = λ y ps r. longer (sym e ∙ r) }
  where
    longer : {y : Expr} {ps : List Part} → took x qs ≡ took y ps → max_tokens < c + length y
    longer {y} {ps} r = let same : x ≡ y = cc in omega (arith, ap length same)

-- a reading that gives at least so many tokens
abbrev AtLeast : ℕ → Taken Expr → Type 0
AtLeast k (took e ps) = k ≤ length e
AtLeast k nothing = Unit {0}

unread_least : (k c : ℕ) (R : Taken Expr) → max_tokens < c + k → AtLeast k R → Unread R c
unread_least k c (took x qs) m h = let z : k ≤ length x = h in long-unread c refl (omega arith)
unread_least k c nothing m h = nothing-unread c refl

-- what goes on from an operand has no fewer tokens than it
unread-from : {c : ℕ} (R : Taken Expr) (f : Expr → List Part → Taken Expr) → ((x : Expr) (ps : List Part) → AtLeast (length x) (f x ps))
    → Unread R c → Unread (and_take R f) c
unread-from {c} nothing f h u = nothing-unread c refl
unread-from {c} (took x qs) f h u = unread_least (length x) c (f x qs) (u.many x qs refl) (h x qs)

-- ---- a token of its own: a register or a constant
module _ (text : List ℕ) (p : Progress) {R : Taken Expr} (t : Token) (next : ℕ) (read : R ≡ took (t ∷ []) (parts (drop next text))) where
  pub leaf_read : {a b : List ℕ} {q : Progress} → p.at < next → next ≤ length text → Advanced p next (token_bytes t) (takes t) a b q
      → Brought text R p a b q
  leaf_read {a} {b} {q} on within x = record {
    expr = t ∷ [];
    read = read ∙ ap (λ (k : ℕ). took (t ∷ []) (parts (drop k text))) (sym x.at);
    tokens = tokens-one t x;
    on = omega (arith, x.at);
    within = omega (arith, x.at);
  }

  pub leaf_many : max_tokens ≤ p.count → Unread R p.count
  leaf_many h = long-unread p.count read (omega arith)

-- ---- a sign before an operand
module _ (rd : List Part → Taken Expr) (o : Op1) (ps : List Part) where
  signed-took : {x : Expr} {qs : List Part} → rd ps ≡ took x qs → signed rd o ps ≡ took (x ++ (op1 o ∷ [])) qs
  unfolding signed
  signed-took e = rw e

  -- the operand was not read
  pub sign-unread : {c : ℕ} → Unread (rd ps) c → Unread (signed rd o ps) c
  unfolding signed
  sign-unread u =
      unread-from (rd ps) (λ x qs. took (x ++ (op1 o ∷ [])) qs)
      (λ x qs. (let z : length x ≤ length (x ++ (op1 o ∷ [])) = omega (arith, length-append x (op1 o ∷ [])) in z)) u

  module _ (text : List ℕ) (p : Progress) (next : ℕ) {x : Progress} {a b : List ℕ} (read : Brought text (rd ps) (moved p next) a b x) where
    pub sign-many : max_tokens ≤ x.count → Unread (signed rd o ps) p.count
    sign-many h =
        long-unread p.count (signed-took read.read)
        (omega (arith, length-append read.expr (op1 o ∷ []), read.tokens.count))

    pub sign_read : {d : List ℕ} {q : Progress} → p.at < next → Advanced x x.at (op1_byte o ∷ []) 1 b d q → Brought text (signed rd o ps) p a d q
    sign_read {d} {q} on token = record {
      expr = read.expr ++ (op1 o ∷ []);
      read = signed-took read.read ∙ ap (λ (k : ℕ). took (read.expr ++ (op1 o ∷ [])) (parts (drop k text))) (sym token.at);
      tokens = tokens-moved (tokens_append read.expr (op1 o ∷ []) read.tokens (tokens-one (op1 o) token));
      on = omega (arith, read.on, token.at);
      within = omega (arith, read.within, token.at);
    }

-- ---- two operands round an operator
-- the tokens of the whole
abbrev bracket : Expr → Expr → Op2 → Expr
bracket x y o = x ++ (y ++ (op2 o ∷ []))

bracket_length : (x y : Expr) (o : Op2) → length (bracket x y o) ≡ length x + length y + 1
bracket_length x y o = omega (arith, length-append x (y ++ (op2 o ∷ [])), length-append y (op2 o ∷ []))

closed_least : (k : ℕ) (e : Expr) (ps : List Part) → k ≤ length e → AtLeast k (closed e ps)
closed_least k e [] h = tt
closed_least k e (name w ∷ ps) h = tt
closed_least k e (opening ∷ ps) h = tt
closed_least k e (closing ∷ ps) h = h
closed_least k e (other b ∷ ps) h = tt

closed_same : (e f : Expr) (ps qs : List Part) → closed e ps ≡ took f qs → e ≡ f
closed_same e f [] qs r = absurd (let z : ◌≡◌ {A = ℕ} 0 1 = cc in omega arith)
closed_same e f (name w ∷ ps) qs r = absurd (let z : ◌≡◌ {A = ℕ} 0 1 = cc in omega arith)
closed_same e f (opening ∷ ps) qs r = absurd (let z : ◌≡◌ {A = ℕ} 0 1 = cc in omega arith)
closed_same e f (closing ∷ ps) qs r = cc
closed_same e f (other b ∷ ps) qs r = absurd (let z : ◌≡◌ {A = ℕ} 0 1 = cc in omega arith)

-- from the second operand on, and from the operator on
abbrev from_second : Expr → Op2 → Taken Expr → Taken Expr
from_second x o R = and_take R (λ y ss. closed (bracket x y o) ss)

abbrev from_operator : (List Part → Taken Expr) → Expr → Taken Op2 → Taken Expr
from_operator rd x R = and_take R (λ o rs. from_second x o (rd rs))

second_least : (x : Expr) (o : Op2) (R : Taken Expr) → AtLeast (length x) (from_second x o R)
second_least x o nothing = tt
second_least x o (took y ss) = closed_least (length x) (bracket x y o) ss (omega (arith, bracket_length x y o))

operator_least : (rd : List Part → Taken Expr) (x : Expr) (R : Taken Op2) → AtLeast (length x) (from_operator rd x R)
operator_least rd x nothing = tt
operator_least rd x (took o rs) = second_least x o (rd rs)

module _ (rd : List Part → Taken Expr) (ps : List Part) where
  -- the first operand was not read
  pub first-unread : {c : ℕ} → Unread (rd ps) c → Unread (expression rd ps) c
  unfolding expression
  first-unread u = unread-from (rd ps) (λ x qs. from_operator rd x (by_name operator_named qs)) (λ x qs. operator_least rd x (by_name operator_named qs)) u

  module _ {x : Expr} {qs : List Part} (first : rd ps ≡ took x qs) where
    -- no operator stands after it
    pub no_operator : (c : ℕ) → by_name operator_named qs ≡ nothing → Unread (expression rd ps) c
    unfolding expression
    no_operator c e = nothing-unread c (rw first (rw e))

    module _ {o : Op2} {rs : List Part} (operator : by_name operator_named qs ≡ took o rs) where
      from_second_lem : expression rd ps ≡ from_second x o (rd rs)
      unfolding expression
      from_second_lem = rw first (rw operator)

      -- the second operand was not read
      pub second-unread : (c d : ℕ) → d ≡ c + length x → Unread (rd rs) d → Unread (expression rd ps) c
      second-unread c d h u = rw from_second_lem (go (rd rs) u)
        where
          go : (R : Taken Expr) → Unread R d → Unread (from_second x o R) c
          go nothing v = nothing-unread c refl
          go (took y ss) v =
              let m : max_tokens < d + length y = v.many y ss refl in
              unread_least (length x + length y) c (closed (bracket x y o) ss) (omega arith)
              (closed_least (length x + length y) (bracket x y o) ss (omega (arith, bracket_length x y o)))

      module _ {y : Expr} {ss : List Part} (second : rd rs ≡ took y ss) where
        to_closed : expression rd ps ≡ closed (bracket x y o) ss
        to_closed = from_second_lem ∙ ap (from_second x o) second

        -- no closing bracket, or too many tokens
        pub not_closed : (c d : ℕ) → d ≡ c + length x + length y
            → ((e f : Expr) (ts : List Part) → closed e ss ≡ took f ts → max_tokens ≤ d) → Unread (expression rd ps) c
        not_closed c d h u = record { many = λ e ts r. longer e ts (sym to_closed ∙ r) }
          where
            longer : (e : Expr) (ts : List Part) → closed (bracket x y o) ss ≡ took e ts → max_tokens < c + length e
            longer e ts r =
                let m : max_tokens ≤ d = u (bracket x y o) e ts r in
                omega (arith, ap length (closed_same (bracket x y o) e ss ts r), bracket_length x y o)

        pub expression-took : {ts : List Part} → ss ≡ closing ∷ ts → expression rd ps ≡ took (bracket x y o) ts
        expression-took e = to_closed ∙ ap (closed (bracket x y o)) e

-- what the two operands and the operator have written
pub bracket_tokens : {p x y q : Progress} {a b d f : List ℕ} {next next' : ℕ} (e g : Expr) (o : Op2)
    → Tokens p e a b x → Tokens (moved x next) g b d y → Advanced y next' (op2_byte o ∷ []) 2 d f q → Tokens p (bracket e g o) a f q
bracket_tokens e g o s u v = tokens_append e (g ++ (op2 o ∷ [])) s (tokens_append g (op2 o ∷ []) (tokens-moved u) (tokens-one (op2 o) v))

-- room does not ask where the text goes on
pub moved-room : {p : Progress} (next : ℕ) → Roomy p → Roomy (moved p next)
moved-room next h = record { few = h.few; room = h.room }
