-- What the answers of this crate's code mean in the rules: a token, the tokens of an expression, and what a reader found.
-- Assumes nothing.
use Rattle.std.specs.Prelude.{◌≡◌, List, [], ℕ, get_or, Result, Ok, Err}
use Rattle.rules.specs.declared.Refusal.{Refusal}
use Rattle.rules.specs.Rules.Operators.{neg, add}
use Rattle.rules.specs.Rules.Expressions.{Token, reg, const, op1, op2, Expr, held, sound}
use Rattle.rules.specs.Rules.JobFile.{Read, got, refused, unary, binary, tokens}
pub use Rattle.rules.specs.Theorems.Readers.{value_or}
use Rattle.token.specs.declared.Token as code
use Rattle.token.specs.declared.Token.TheVariants as token
use Rattle.token.specs.declared.TokenAt.{TokenAt}
use Rattle.token.specs.declared.Scan.{Scan}
use Rattle.token.specs.declared.Expression.{Expression}
use Rattle.token.specs.declared.ExpressionRead.{ExpressionRead}

abbrev pub token_meaning : code.Token → Token
token_meaning (token.Register r) = reg r
token_meaning (token.Constant c) = const c
token_meaning (token.Unary i) = op1 (get_or unary i neg)
token_meaning (token.Binary i) = op2 (get_or binary i add)

abbrev pub token_read_meaning : Result TokenAt Refusal → Read Token
token_read_meaning (Ok t) = got (token_meaning t.token) t.next
token_read_meaning (Err r) = refused r

-- The code's answer for tokens read by the rules: the offset after them, and the values held after them where d are held before.
abbrev pub scan_of : ℕ → Read Expr → Result Scan Refusal
scan_of d (got ts q) = Ok (record { next = q; held = held d ts })
scan_of d (refused r) = Err r

-- the tokens of an expression of the bytes p; none where they cannot be read
unfoldable pub tokens_of : List ℕ → Expression → Expr
tokens_of p e = value_or [] (tokens e.count p e.at)

abbrev pub expression_read_meaning : List ℕ → Result ExpressionRead Refusal → Read Expr
expression_read_meaning p (Ok e) = got (tokens_of p e.expression) e.next
expression_read_meaning p (Err r) = refused r

-- an expression that was found comes with its answer to the postfix rule
abbrev pub ExpressionTested : List ℕ → Result ExpressionRead Refusal → Type 0
ExpressionTested p (Ok e) = e.sound ≡ sound (tokens_of p e.expression)
ExpressionTested p (Err r) = Unit {0}
