-- What is laid out is a file of the rules' tables of cases: each side computes, but for the bytes that the caller chooses.
-- Assumes nothing.
use mathlib.Core.Path.{◌≡◌, refl, sym, ap, ap₂, ◌∙◌}
use mathlib.Core.List.{List, ◌∷◌, ◌++◌}
use Prim.Native.Nat.{ℕ, zero, suc, ◌+◌, ◌-◌, ◌*◌, ◌/◌, ◌%◌, ◌<◌, ◌≤◌}
use native.Mathlib.Omega.{arith}
use Rattle.std.proofs.lemmas.List.{append_assoc, length-append, length-replicate, replicate-append-replicate, set-append_right}
use lib.ListN.{length, take, drop, set}
use lib.Seq.{take-length}
use Rattle.rules.specs.Rules.Encoding.{bytes_of, word_bytes}
use Rattle.rules.specs.Cases.Files.{zeros, trailer_bytes, file}
use Rattle.rules.specs.Cases.Document01.{printed_program, barrier_program, state, public, job}
use Rattle.cases.specs.Jobs.{stores, laid_out, nested_with, many_cells}

pub laid_out_lem : (program area : List ℕ) (n m r0 r1 w b : ℕ) {s : ℕ} {l : List ℕ}
    → s ≡ length program → l ≡ take (length program) program ++ drop (length program) area
    → stores s l n m r0 r1 w b ≡ laid_out program n m r0 r1 w b area
unfolding laid_out
laid_out_lem program area n m r0 r1 w b e f =
    ap₂ (λ (s : ℕ) (l : List ℕ). stores s l n m r0 r1 w b) e
    (f ∙ ap (λ (p : List ℕ). p ++ drop (length program) area) (take-length program))

-- ---- a byte as a number of several bytes
zero-bytes : (k : ℕ) → bytes_of k 0 ≡ zeros k
unfolding bytes_of
zero-bytes zero = refl
zero-bytes (suc k) = ap {B = List ℕ} (λ (r : List ℕ). 0 ∷ r) (zero-bytes k)

byte-bytes : (k v : ℕ) → v < 256 → bytes_of (suc k) v ≡ v ∷ zeros k
unfolding bytes_of
byte-bytes k v h =
    let d : v / 256 ≡ 0 = omega arith in
    let m : v % 256 ≡ v = omega arith in
    rw (d, m, zero-bytes k)

-- ---- the printed job, by the bytes of r0, the window and the budget
shape : List ℕ → List ℕ → List ℕ → List ℕ
shape x y z =
    printed_program ++ (x ++ word_bytes (1 ∷ zeros 15 ++ (1 ∷ zeros 2))) ++ word_bytes public
    ++ (bytes_of 2 28 ++ bytes_of 2 188 ++ bytes_of 2 4 ++ bytes_of 2 4 ++ y ++ bytes_of 2 0 ++ z)

job_shape : (r0 w b : ℕ) → job r0 w b ≡ shape (bytes_of 8 r0) (bytes_of 2 w) (bytes_of 4 b)
unfolding shape word_bytes trailer_bytes file printed_program state job
job_shape r0 w b = refl

shape_laid : (r0 w b : ℕ) → laid_out printed_program 4 4 r0 1 w b (zeros 236) ≡ shape (r0 ∷ zeros 7) (w ∷ zeros 1) (b ∷ zeros 3)
unfolding shape bytes_of word_bytes public printed_program stores laid_out
shape_laid r0 w b = refl

pub printed_laid : (r0 w b : ℕ) → r0 < 256 → w < 256 → b < 256 → laid_out printed_program 4 4 r0 1 w b (zeros 236) ≡ job r0 w b
printed_laid r0 w b hr hw hb =
    shape_laid r0 w b ∙ sym (λ i. shape (byte-bytes 7 r0 hr i) (byte-bytes 1 w hw i) (byte-bytes 3 b hb i)) ∙ sym (job_shape r0 w b)

-- ---- the other jobs
pub barrier_laid : laid_out barrier_program 5 4 1 1 10 100 (zeros 237) ≡ file barrier_program 5 (state 1 1 1) public 10 100
unfolding bytes_of word_bytes trailer_bytes file barrier_program state public stores laid_out
barrier_laid = refl

pub nested_laid : (label : ℕ) → laid_out (nested_with label) 3 4 0 0 2 100 (zeros 217) ≡ file (nested_with label) 3 (state 0 0 1) public 2 100
unfolding bytes_of word_bytes trailer_bytes file state public stores laid_out
nested_laid label = refl

-- ---- the printed job with more cells: zeros behind the others, and the trailer after them
word-zeros : (k : ℕ) → word_bytes (zeros k) ≡ zeros (8 * k)
unfolding bytes_of word_bytes
word-zeros zero = refl
word-zeros (suc k) =
    let e : 8 + 8 * k ≡ 8 * suc k = omega arith in
    ap {B = List ℕ} (λ (r : List ℕ). zeros 8 ++ r) (word-zeros k) ∙ replicate-append-replicate 8 (8 * k) 0 ∙ ap zeros e

-- the trailer's bytes that are not 0, and those of the public list, behind the bytes p of program and state
behind : (p y : List ℕ) {q : ℕ} (m : ℕ) → length p ≡ q
    → set (set (set (set
    (set (set (set (set (p ++ y) q 3) (q + 32) 28) (q + 34) (q % 256)) (q + 35) (q / 256 % 256)) (q + 36) 4) (q + 38) m) (q + 40) 10) (q + 44) 100
    ≡ p ++ set (set (set (set (set (set (set (set y 0 3) 32 28) 34 (q % 256)) 35 (q / 256 % 256)) 36 4) 38 m) 40 10) 44 100
behind p y {q} m e =
    let at : (y : List ℕ) (j v : ℕ) (i : ℕ) → i ≡ q + j → set (p ++ y) i v ≡ p ++ set y j v =
    λ y j v i f.
    let le : q ≤ i = omega (arith, f) in
    let left : i - q ≡ j = omega (arith, f) in
    set-append_right p y q i v e le ∙ ap (λ n. p ++ set y n v) left
    in
    let none : q ≡ q + 0 = omega arith in
    rw (
      at y 0 3 q none,
      at _ 32 28 _ refl,
      at _ 34 (q % 256) _ refl,
      at _ 35 (q / 256 % 256) _ refl,
      at _ 36 4 _ refl,
      at _ 38 m _ refl,
      at _ 40 10 _ refl,
      at _ 44 100 _ refl,
    )

-- the bytes of program and state
front : ℕ → List ℕ
front k = printed_program ++ word_bytes (1 ∷ 1 ∷ zeros 15 ++ (1 ∷ zeros 2)) ++ zeros (8 * k)

-- the whole, by the number of cells, the bytes of the zeros and the two bytes of the number
with_trailer : ℕ → List ℕ → List ℕ → List ℕ
with_trailer m words number =
    printed_program ++ (word_bytes (1 ∷ 1 ∷ zeros 15 ++ (1 ∷ zeros 2)) ++ words) ++ word_bytes public
    ++ (bytes_of 2 28 ++ bytes_of 2 (28 + 128 + 8 * m) ++ bytes_of 2 4 ++ number ++ bytes_of 2 10 ++ bytes_of 2 0 ++ bytes_of 4 100)

-- how many cells a file counts
abbrev cells_with : ℕ → ℕ
cells_with k = length (state 1 1 1 ++ zeros k) - 16

many_by : (k : ℕ) → many_cells k ≡ with_trailer (cells_with k) (word_bytes (zeros k)) (bytes_of 2 (cells_with k))
unfolding with_trailer bytes_of word_bytes trailer_bytes file printed_program state public many_cells
many_by k = refl

front_length : (k : ℕ) → length (front k) ≡ 28 + 128 + 8 * (4 + k)
unfolding front bytes_of word_bytes printed_program
front_length k =
    let e : length (zeros (8 * k)) ≡ 8 * k = length-replicate (8 * k) 0 in omega (arith, e)

laid_by : (k : ℕ) → stores 28 (printed_program ++ (zeros 160 ++ (zeros (8 * k) ++ zeros 48))) 4 (4 + k) 1 1 10 100
    ≡ with_trailer (4 + k) (zeros (8 * k)) ((4 + k) ∷ zeros 1)
unfolding stores front with_trailer bytes_of word_bytes public printed_program
laid_by k =
    let trailer : List ℕ =
    bytes_of 2 28 ++ bytes_of 2 (28 + 128 + 8 * (4 + k)) ++ bytes_of 2 4 ++ ((4 + k) ∷ zeros 1) ++ bytes_of 2 10 ++ bytes_of 2 0 ++ bytes_of 4 100
    in
    behind (front k) (zeros 48) (4 + k) (front_length k) ∙ sym (append_assoc (front k) (word_bytes public) trailer)

area : (k n : ℕ) → n ≡ 204 + 8 * (4 + k) → zeros n ≡ zeros 28 ++ (zeros 160 ++ (zeros (8 * k) ++ zeros 48))
area k n e =
    let f : n ≡ 188 + (8 * k + 48) = omega (arith, e) in
    ap zeros f ∙ sym (ap (λ (l : List ℕ). zeros 188 ++ l) (replicate-append-replicate (8 * k) 48 0) ∙ replicate-append-replicate 188 (8 * k + 48) 0)

many_laid : (k n : ℕ) → 4 + k < 256 → n ≡ 204 + 8 * (4 + k) → laid_out printed_program 4 (4 + k) 1 1 10 100 (zeros n) ≡ many_cells k
unfolding state laid_out printed_program
many_laid k n h e =
    let whole : length (state 1 1 1 ++ zeros k) ≡ length (state 1 1 1) + length (zeros k) = length-append (state 1 1 1) (zeros k) in
    let own : length (state 1 1 1) ≡ 20 = refl in
    let more : length (zeros k) ≡ k = length-replicate k 0 in
    let cells : cells_with k ≡ 4 + k = omega (arith, whole, own, more) in
    ap (λ (l : List ℕ). laid_out printed_program 4 (4 + k) 1 1 10 100 l) (area k n e) ∙ laid_by k
    ∙ sym (many_by k ∙ ap (λ (x : ℕ). with_trailer x (word_bytes (zeros k)) (bytes_of 2 x)) cells
    ∙ (λ i. with_trailer (4 + k) (word-zeros k i) (byte-bytes 1 (4 + k) h i)))

pub many_cells_laid : (m n : ℕ) → 4 ≤ m → m < 256 → n ≡ 204 + 8 * m → laid_out printed_program 4 m 1 1 10 100 (zeros n) ≡ many_cells (m - 4)
many_cells_laid m n le lt e =
    let s : m ≡ 4 + (m - 4) = omega arith in
    ap (λ (x : ℕ). laid_out printed_program 4 x 1 1 10 100 (zeros n)) s ∙ many_laid (m - 4) n (omega arith) (omega (arith, e))
