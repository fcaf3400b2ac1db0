-- The job file: bytes to a job, or the first refusal. A reader takes the bytes and an offset, and gives what stands there with
-- the next offset.
-- Assumes nothing.
use Rattle.std.specs.Prelude.{Bool, true, not, ◌&&◌, cond, List, [], ◌∷◌, ℕ, zero, suc, ◌+◌, ◌-◌, ◌*◌, eqb, leb, ltb, length, take, get_or}
use Rattle.location.specs.declared.LocationSet.{LocationSet}
use Rattle.location.specs.Sets.{registers, limit, member}
use Rattle.rules.specs.declared.Trailer.{Trailer}
use Rattle.rules.specs.declared.Refusal.{Refusal}
use Rattle.rules.specs.declared.Refusal.TheVariants as refusals
use Rattle.rules.specs.Rules.Limits.{max_bytes, max_instructions, max_tokens, max_cells, max_window, max_budget, registers_size, list_size, trailer_size}
use Rattle.rules.specs.Rules.Operators.{Op1, neg, inv, Op2, add, sub, mul, and, or, xor, shl, shr, eq, ult}
use Rattle.rules.specs.Rules.Expressions.{Token, reg, const, op1, op2, Expr, sound}
use Rattle.rules.specs.Rules.Instructions.{Instr, skip, assign, load, store, jmp, beqz, cassign, spbarr, window_costs, branching, other, branch_view}
use Rattle.rules.specs.Rules.Runs.{Job}

-- "Little-endian.": the number in the k bytes at an offset
unfoldable pub little : List ℕ → ℕ → ℕ → ℕ
little p at zero = 0
little p at (suc k) = get_or p at 0 + 256 * little p (at + 1) k

-- ---- readers
pub data Read (A : Type 0) : Type 0 where
  got : A → ℕ → Read A
  refused : Refusal → Read A

abbrev pub Reader : Type 0 → Type 0
Reader A = List ℕ → ℕ → Read A

abbrev pub and_then : {A B : Type 0} → Read A → (A → ℕ → Read B) → Read B
and_then (got a q) f = f a q
and_then (refused r) f = refused r

infixl 20 ◌>>=◌
abbrev pub ◌>>=◌ : {A B : Type 0} → Reader A → (A → Reader B) → Reader B
m >>= f = λ p at. and_then (m p at) (λ a q. f a p q)

abbrev pub return : {A : Type 0} → A → Reader A
return a = λ p at. got a at

abbrev pub refuse : {A : Type 0} → Refusal → Reader A
refuse r = λ p at. refused r

abbrev pub require : {A : Type 0} → Bool → Refusal → A → Reader A
require b r a = λ p at. cond b (got a at) (refused r)

-- "a kind byte or field past S": the bytes are those before S, so a field that runs past their end is refused with 4
unfoldable pub word_of : ℕ → Reader ℕ
word_of k = λ p at. cond (leb (at + k) (length p)) (got (little p at k) (at + k)) (refused refusals.Encoding)

unfoldable pub byte : Reader ℕ
byte = λ p at. cond (ltb at (length p)) (got (get_or p at 0) (at + 1)) (refused refusals.Encoding)

-- "register over 15"
unfoldable pub register : Reader ℕ
register = do
  r ← byte
  require (ltb r registers) refusals.Encoding r

-- ---- tokens
-- "17 neg, 18 not"
unfoldable pub unary : List Op1
unary = neg ∷ inv ∷ []

-- "19 add, 20 sub, 21 mul, 22 and, 23 or, 24 xor, 25 shl, 26 shr, 27 eq, 28 ult"
unfoldable pub binary : List Op2
binary = add ∷ sub ∷ mul ∷ and ∷ or ∷ xor ∷ shl ∷ shr ∷ eq ∷ ult ∷ []

-- "16 a constant, 8 bytes after it"
unfoldable pub constant : Reader Token
constant = do
  c ← word_of 8
  return (const c)

unfoldable pub token_of : ℕ → Reader Token
token_of t =
    cond (ltb t 16) (return (reg t))
    (cond (eqb t 16) constant
    (cond (ltb t 19) (return (op1 (get_or unary (t - 17) neg)))
    (cond (ltb t 29) (return (op2 (get_or binary (t - 19) add))) (refuse refusals.Encoding))))

unfoldable pub token : Reader Token
token = do
  t ← byte
  token_of t

unfoldable pub tokens : ℕ → Reader Expr
tokens zero = return []
tokens (suc k) = do
  t ← token
  ts ← tokens k
  return (t ∷ ts)

-- "An expression is a byte with its token count, 1 to 16, then the tokens."
unfoldable pub expr : Reader Expr
expr = do
  k ← byte
  cond (leb 1 k && leb k max_tokens) (tokens k) (refuse refusals.Encoding)

-- ---- instructions
unfoldable pub with_register : (ℕ → Expr → Instr) → Reader Instr
with_register f = do
  r ← register
  e ← expr
  return (f r e)

unfoldable pub jump : Reader Instr
jump = do
  e ← expr
  return (jmp e)

unfoldable pub branch : Reader Instr
branch = do
  r ← register
  l ← word_of 2
  return (beqz r l)

unfoldable pub conditional : Reader Instr
conditional = do
  r ← register
  c ← expr
  e ← expr
  return (cassign r c e)

-- the table's column "fields", by the kind byte
unfoldable pub fields : List (Reader Instr)
fields = return skip ∷ with_register assign ∷ with_register load ∷ with_register store ∷ jump ∷ branch ∷ conditional ∷ return spbarr ∷ []

unfoldable pub instr : Reader Instr
instr = do
  k ← byte
  get_or fields k (refuse refusals.Encoding)

-- "postfix rule broken", in any expression of the instruction
abbrev pub postfix : Instr → Bool
postfix skip = true
postfix (assign r e) = sound e
postfix (load r e) = sound e
postfix (store r e) = sound e
postfix (jmp e) = sound e
postfix (beqz r l) = true
postfix (cassign r c e) = sound c && sound e
postfix spbarr = true

-- "beqz label over n, or the next label", of the instruction with label i
abbrev pub branch_label_holds : ℕ → ℕ → Instr → Bool
branch_label_holds n i x = elim (branch_view x) [ branching r l ↦ leb l n && not (eqb l (i + 1)) | other ↦ true ]

-- ---- the program
-- "4, 5, 6 are tried on one instruction before the next is read": 4 on the whole instruction, then 5, then 6
unfoldable pub instruction : ℕ → ℕ → Reader Instr
instruction n i = do
  x ← instr
  y ← require (postfix x) refusals.Postfix x
  require (branch_label_holds n i y) refusals.BranchLabel y

-- "bytes left between the nth instruction and S"
unfoldable pub nothing_left : Reader (List Instr)
nothing_left = λ p at. cond (eqb at (length p)) (got [] at) (refused refusals.Surplus)

-- k instructions of n, the first with label i
unfoldable pub program : ℕ → ℕ → ℕ → Reader (List Instr)
program n zero i = nothing_left
program n (suc k) i = do
  x ← instruction n i
  xs ← program n k (i + 1)
  return (x ∷ xs)

-- ---- the trailer: "state offset S, list offset Q, n, m, window w, a zero (2 bytes each), budget b (4 bytes)"
unfoldable pub trailer_at : List ℕ → ℕ → Trailer
trailer_at bs at = record {
  state = little bs at 2;
  list = little bs (at + 2) 2;
  count = little bs (at + 4) 2;
  cells = little bs (at + 6) 2;
  window = little bs (at + 8) 2;
  zero = little bs (at + 10) 2;
  budget = little bs (at + 12) 4;
}

-- "then a trailer of 16 bytes that points back"
unfoldable pub trailer : List ℕ → Trailer
trailer bs = trailer_at bs (length bs - trailer_size)

-- "length under 16 or over 16,384"
unfoldable pub sized : ℕ → Bool
sized len = leb trailer_size len && leb len max_bytes

-- "n 1 to 512, m 0 to 240, w 0 to 200, b 0 to 1,000,000", and the zero is 0
unfoldable pub limits : Trailer → Bool
limits t =
    leb 1 t.count
    && (leb t.count max_instructions
    && (leb t.cells max_cells && (leb t.window max_window && (eqb t.zero 0 && leb t.budget max_budget))))

-- "S > Q, Q − S not 128 + 8m, or Q + 48 not the length"
unfoldable pub offsets : Trailer → ℕ → Bool
offsets t len =
    leb t.state t.list
    && (eqb (t.list - t.state) (registers_size + 8 * t.cells) && eqb (t.list + (list_size + trailer_size)) len)

-- ---- the state and the public list
-- "16 registers and m cells"
abbrev pub locations : Trailer → ℕ
locations t = registers + t.cells

-- k words of 8 bytes each at an offset
unfoldable pub words_at : ℕ → List ℕ → ℕ → List ℕ
words_at zero bs at = []
words_at (suc k) bs at = little bs at 8 ∷ words_at k bs (at + 8)

-- "the state (16 registers and m cells, 8 bytes each)"
unfoldable pub state_of : Trailer → List ℕ → List ℕ
state_of t bs = words_at (locations t) bs t.state

-- "32 bytes of public list (bit k of byte j, lowest bit 0, is location 8j + k)": four words, lowest byte first
unfoldable pub public_of : Trailer → List ℕ → LocationSet
public_of t bs = record { words = words_at 4 bs t.list }

-- none of k locations from l on is in the set
unfoldable pub none_from : LocationSet → ℕ → ℕ → Bool
none_from s l zero = true
none_from s l (suc k) = not (member s l) && none_from s (l + 1) k

-- "public bit at 16 + m or above"
unfoldable pub listed : Trailer → List ℕ → Bool
listed t bs = none_from (public_of t bs) (locations t) (limit - locations t)

-- ---- the job
pub data Parsed : Type 0 where
  accepted : Job → Parsed
  rejected : Refusal → Parsed

unfoldable pub job_of : List ℕ → Trailer → List Instr → Job
job_of bs t xs = record {
  code = record { prog = xs; cells = t.cells; window = t.window; costs = window_costs };
  init = state_of t bs;
  public = public_of t bs;
  budget = t.budget;
}

-- "The program starts at offset 0", and ends at S
unfoldable pub program_of : List ℕ → Trailer → Read (List Instr)
program_of bs t = program t.count t.count 0 (take t.state bs) 0

-- the program's refusals, then that of the public list
unfoldable pub finish : List ℕ → Trailer → Read (List Instr) → Parsed
finish bs t (refused r) = rejected r
finish bs t (got xs q) = cond (listed t bs) (accepted (job_of bs t xs)) (rejected refusals.PublicList)

-- "Checked in this order": 1, 2, 3, then 4 to 7, then 8
unfoldable pub parse : List ℕ → Parsed
parse bs =
    cond (sized (length bs))
    (cond (limits (trailer bs))
    (cond (offsets (trailer bs) (length bs)) (finish bs (trailer bs) (program_of bs (trailer bs))) (rejected refusals.Offsets))
    (rejected refusals.Trailer))
    (rejected refusals.Length)
