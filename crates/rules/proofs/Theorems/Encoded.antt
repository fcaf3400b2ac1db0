-- The bytes of an accepted program are those of its instructions, and its instructions fit the encoding.
-- Assumes nothing.
use Rattle.std.specs.Prelude.{◌≡◌, Bool, ◌&&◌, ltb, length}
use Rattle.std.proofs.Math.Path.{refl, sym, ap}
use Rattle.std.proofs.Common.{◌∙◌, arith, length-take, get_or-take}
use Rattle.std.proofs.Math.Bool.{true, false, cond}
use mathlib.Core.List.{List, [], ◌∷◌, ◌++◌, append_assoc}
use Prim.Native.Nat.{ℕ, zero, suc, ◌+◌, ◌^◌, ◌<◌, ◌≤◌}
use Rattle.std.proofs.Math.Dec.{eqb}
use Rattle.std.proofs.Math.ListN.{get_or, take, drop, get_or-eq_default}
use Rattle.std.proofs.Math.Seq.{drop-length}
use borrow.Author.Tests.{eqb-true, ltb-true, ltb-false}
use Rattle.location.specs.Sets.{registers}
use Rattle.location.specs.SetLaws.{and_true}
use Rattle.rules.specs.declared.Refusal.TheVariants as refusals
use Rattle.rules.specs.Rules.Expressions.{Expr}
use Rattle.rules.specs.Rules.Instructions.{Instr, assign, load, store, jmp, beqz, cassign, kind}
use Rattle.rules.specs.Rules.Runs.{Job}
use Rattle.rules.specs.Rules.JobFile.{Read, got, refused, and_then, refuse, word_of, byte, register, expr, with_register, jump, branch}
use Rattle.rules.specs.Rules.JobFile.{conditional, fields, instr, postfix, branch_label_holds, instruction, nothing_left, program, trailer}
use Rattle.rules.specs.Rules.JobFile.{accepted, program_of, parse}
use Rattle.rules.specs.Rules.Encoding.{bytes_of, expr_bytes, field_bytes, instr_bytes, program_bytes, Bytes}
use Rattle.rules.specs.Rules.TextReading.{all_hold}
use Rattle.rules.specs.Theorems.Readers.{HoldsAt, then_at, holds-map, holds-got}
use Rattle.rules.proofs.Theorems.JobLaws.{passed}
use Rattle.rules.proofs.Theorems.Encodable.{ExprFits, InstrFits, InstrsFit, nil, more}
use Rattle.rules.proofs.Theorems.EncodedFields.{Encodes, single, word-encoded, byte-encoded, register-encoded, expr-encoded}

-- what follows the kind byte k: an instruction of that kind, its fields' bytes, and what fits
record Fields (k : ℕ) (p : List ℕ) (at : ℕ) (x : Instr) (q : ℕ) : Type 0 where
  kind : kind x ≡ k
  fits : InstrFits x
  bytes : drop at p ≡ field_bytes x ++ drop q p

-- an instruction that passed 4 to 6, with label i of n
record Valid (n i : ℕ) (p : List ℕ) (at : ℕ) (x : Instr) (q : ℕ) : Type 0 where
  encoded : Encodes InstrFits instr_bytes p at x q
  postfix : postfix x ≡ true
  label : branch_label_holds n i x ≡ true

-- the instructions of a whole program, the first with label i of n
pub record WholeProgram (n i : ℕ) (p : List ℕ) (at : ℕ) (xs : List Instr) (q : ℕ) : Type 0 where
  pub end : q ≡ length p
  pub fits : InstrsFit xs
  pub holds : all_hold n i xs ≡ true
  pub bytes : drop at p ≡ program_bytes xs

module _ (p : List ℕ) (all : Bytes p) where
  abbrev RegisterAt : ℕ → ℕ → ℕ → Type 0
  RegisterAt at = Encodes (λ (r : ℕ). r < registers) single p at

  abbrev ExprAt : ℕ → Expr → ℕ → Type 0
  ExprAt at = Encodes ExprFits expr_bytes p at

  -- ---- instructions
  with-register : (f : ℕ → Expr → Instr) (k : ℕ) → ((r : ℕ) (e : Expr) → kind (f r e) ≡ k)
      → ((r : ℕ) (e : Expr) → r < registers → ExprFits e → InstrFits (f r e)) → ((r : ℕ) (e : Expr) → field_bytes (f r e) ≡ r ∷ expr_bytes e)
      → (at : ℕ) → HoldsAt (Fields k p at) (with_register f p at)
  unfolding with_register
  with-register f k kinds fit fields at =
      then_at (RegisterAt at) (Fields k p at) (register p at) (λ r q. and_then (expr p q) (λ e s. got (f r e) s)) (register-encoded p all at)
      (λ r q h. then_at (ExprAt q) (Fields k p at) (expr p q) (λ e s. got (f r e) s) (expr-encoded p all q) (λ e s i. record {
        kind = kinds r e;
        fits = fit r e h.fits i.fits;
        bytes = h.bytes ∙ ap (λ (bs : List ℕ). r ∷ bs) i.bytes ∙ ap (λ (bs : List ℕ). bs ++ drop s p) (sym (fields r e));
      }))

  jump-fields : (at : ℕ) → HoldsAt (Fields 4 p at) (jump p at)
  unfolding jump
  jump-fields at =
      then_at (ExprAt at) (Fields 4 p at) (expr p at) (λ e s. got (jmp e) s) (expr-encoded p all at)
      (λ e s i. record { kind = refl; fits = i.fits; bytes = i.bytes })

  branch-fields : (at : ℕ) → HoldsAt (Fields 5 p at) (branch p at)
  unfolding branch
  branch-fields at =
      then_at (RegisterAt at) (Fields 5 p at) (register p at) (λ r q. and_then (word_of 2 p q) (λ l s. got (beqz r l) s)) (register-encoded p all at)
      (λ r q h. then_at (Encodes (λ (v : ℕ). v < 256 ^ 2) (bytes_of 2) p q) (Fields 5 p at) (word_of 2 p q) (λ l s. got (beqz r l) s) (word-encoded p all 2 q)
      (λ l s i. record { kind = refl; fits = (h.fits, i.fits); bytes = h.bytes ∙ ap (λ (bs : List ℕ). r ∷ bs) i.bytes }))

  conditional-fields : (at : ℕ) → HoldsAt (Fields 6 p at) (conditional p at)
  unfolding conditional
  conditional-fields at =
      then_at (RegisterAt at) (Fields 6 p at) (register p at) (λ r q. and_then (expr p q) (λ c s. and_then (expr p s) (λ e t. got (cassign r c e) t)))
      (register-encoded p all at)
      (λ r q h. then_at (ExprAt q) (Fields 6 p at) (expr p q) (λ c s. and_then (expr p s) (λ e t. got (cassign r c e) t)) (expr-encoded p all q)
      (λ c s i. then_at (ExprAt s) (Fields 6 p at) (expr p s) (λ e t. got (cassign r c e) t) (expr-encoded p all s) (λ e t j. record {
        kind = refl;
        fits = (h.fits, i.fits, j.fits);
        bytes = h.bytes ∙ ap (λ (bs : List ℕ). r ∷ bs) (i.bytes ∙ ap (λ (bs : List ℕ). expr_bytes c ++ bs) j.bytes
            ∙ sym (append_assoc (expr_bytes c) (expr_bytes e) (drop t p)));
      })))

  -- by the kind byte
  kind-fields : (k at : ℕ) → HoldsAt (Fields k p at) (get_or fields k (refuse refusals.Encoding) p at)
  unfolding fields
  kind-fields zero at = record { kind = refl; fits = tt; bytes = refl }
  kind-fields (suc zero) at = with-register assign 1 (λ r e. refl) (λ r e h i. (h, i)) (λ r e. refl) at
  kind-fields (suc (suc zero)) at = with-register load 2 (λ r e. refl) (λ r e h i. (h, i)) (λ r e. refl) at
  kind-fields (suc (suc (suc zero))) at = with-register store 3 (λ r e. refl) (λ r e h i. (h, i)) (λ r e. refl) at
  kind-fields (suc (suc (suc (suc zero)))) at = jump-fields at
  kind-fields (suc (suc (suc (suc (suc zero))))) at = branch-fields at
  kind-fields (suc (suc (suc (suc (suc (suc zero)))))) at = conditional-fields at
  kind-fields (suc (suc (suc (suc (suc (suc (suc zero))))))) at = record { kind = refl; fits = tt; bytes = refl }
  kind-fields (suc (suc (suc (suc (suc (suc (suc (suc k)))))))) at = tt

  pub instr-encoded : (at : ℕ) → HoldsAt (Encodes InstrFits instr_bytes p at) (instr p at)
  unfolding instr instr_bytes
  instr-encoded at =
      then_at (Encodes (λ (b : ℕ). b < 256) single p at) (Encodes InstrFits instr_bytes p at) (byte p at)
      (λ k q. get_or fields k (refuse refusals.Encoding) p q) (byte-encoded p all at)
      (λ k q h. holds-map (Fields k p q) (Encodes InstrFits instr_bytes p at) (get_or fields k (refuse refusals.Encoding) p q) (kind-fields k q)
      (λ x r i. record {
        fits = i.fits;
        bytes = h.bytes ∙ ap (λ (bs : List ℕ). k ∷ bs) i.bytes ∙ ap (λ (b : ℕ). b ∷ (field_bytes x ++ drop r p)) (sym i.kind);
      }))

  -- ---- the program
  instruction-valid : (n i at : ℕ) → HoldsAt (Valid n i p at) (instruction n i p at)
  unfolding instruction
  instruction-valid n i at = go (instr p at) (instr-encoded at)
    where
      tests : (x : Instr) (q : ℕ) → Encodes InstrFits instr_bytes p at x q → (a b : Bool) → postfix x ≡ a → branch_label_holds n i x ≡ b
          → HoldsAt (Valid n i p at)
          (and_then (cond a (got x q) (refused refusals.Postfix)) (λ y s. cond (branch_label_holds n i y) (got y s) (refused refusals.BranchLabel)))
      tests x q h true true e f = rw f (record { encoded = h; postfix = e; label = f })
      tests x q h true false e f = rw f tt
      tests x q h false b e f = tt

      go : (m : Read Instr) → HoldsAt (Encodes InstrFits instr_bytes p at) m → HoldsAt (Valid n i p at)
          (and_then m (λ x q. and_then (cond (postfix x) (got x q) (refused refusals.Postfix))
          (λ y s. cond (branch_label_holds n i y) (got y s) (refused refusals.BranchLabel))))
      go (got x q) h = tests x q h (postfix x) (branch_label_holds n i x) refl refl
      go (refused r) h = tt

  pub program-whole : (n k i at : ℕ) → HoldsAt (WholeProgram n i p at) (program n k i p at)
  unfolding program nothing_left program_bytes all_hold
  program-whole n zero i at = go (eqb at (length p)) refl
    where
      go : (b : Bool) → eqb at (length p) ≡ b → HoldsAt (WholeProgram n i p at) (cond b (got [] at) (refused refusals.Surplus))
      go true e =
          let q = eqb-true at (length p) e in
          record { end = q; fits = nil; holds = refl; bytes = ap (λ (j : ℕ). drop j p) q ∙ drop-length p }
      go false e = tt
  program-whole n (suc k) i at =
      then_at (Valid n i p at) (WholeProgram n i p at) (instruction n i p at) (λ x q. and_then (program n k (i + 1) p q) (λ xs r. got (x ∷ xs) r))
      (instruction-valid n i at) (λ x q h. go x q h (program-whole n k (i + 1) q))
    where
      go : (x : Instr) (q : ℕ) → Valid n i p at x q → HoldsAt (WholeProgram n (i + 1) p q) (program n k (i + 1) p q)
          → HoldsAt (WholeProgram n i p at) (and_then (program n k (i + 1) p q) (λ xs r. got (x ∷ xs) r))
      go x q h w =
          then_at (WholeProgram n (i + 1) p q) (WholeProgram n i p at) (program n k (i + 1) p q) (λ xs r. got (x ∷ xs) r) w (λ xs r j. record {
            end = j.end;
            fits = more h.encoded.fits j.fits;
            holds = and_true (postfix x && branch_label_holds n i x) (all_hold n (i + 1) xs)
                (and_true (postfix x) (branch_label_holds n i x) h.postfix h.label) j.holds;
            bytes = h.encoded.bytes ∙ ap (λ (bs : List ℕ). instr_bytes x ++ bs) j.bytes;
          })

-- ---- the program of an accepted job
pub bytes_take : (n : ℕ) (l : List ℕ) → Bytes l → Bytes (take n l)
bytes_take n l h = record { each = λ i. go i (ltb i n) refl }
  where
    go : (i : ℕ) (b : Bool) → ltb i n ≡ b → get_or (take n l) i 0 < 256
    go i true e = rw (get_or-take n l i 0 (ltb-true i n e)) (h.each i)
    go i false e =
        let k = ltb-false i n e in
        let m = length-take n l in
        let z : length (take n l) ≤ i = omega arith in
        rw (get_or-eq_default (take n l) 0 z) (omega arith)

module _ (f : List ℕ) (j : Job) (e : parse f ≡ accepted j) (all : Bytes f) where
  pub job-program : WholeProgram (trailer f).count 0 (take (trailer f).state f) 0 j.code.prog (passed f j e).next
  unfolding program_of
  job-program =
      let p = take (trailer f).state f in
      let n = (trailer f).count in
      holds-got (WholeProgram n 0 p 0) (program n n 0 p 0) (program-whole p (bytes_take (trailer f).state f all) n n 0 0) (passed f j e).read

  -- the bytes before the state are the program's
  pub program-encoded : take (trailer f).state f ≡ program_bytes j.code.prog
  program-encoded = job-program.bytes
