-- Fields one after another, and the fields of an instruction by its kind: what each reading brings is put together as the rules put it
-- together.
-- Assumes nothing.
use mathlib.Core.Path.{◌≡◌, refl, sym, ap, subst, ◌∙◌}
use mathlib.Core.Bool.{Bool, true, false, ◌&&◌}
use mathlib.Core.List.{List, []}
use Prim.Native.Nat.{ℕ, ◌≤◌}
use native.Mathlib.Omega.{arith}
use lib.ListN.{drop, get_or-eq_default}
use Rattle.location.specs.SetLaws.{and_true}
use Rattle.rules.specs.Rules.Expressions.{Expr, sound}
use Rattle.rules.specs.Rules.Instructions.{Instr, skip, assign, load, store, jmp, beqz, cassign, spbarr, kind, kind_number}
use Rattle.rules.specs.Rules.Encoding.{field_bytes}
use Rattle.rules.specs.Rules.Parts.{Part, parts}
use Rattle.rules.specs.Rules.TextReading.{Taken, took, nothing, and_take, PartReader, by_name, register_named, constant_named, whole_operand}
use Rattle.rules.specs.Rules.TextReading.{with_register, jump, branch, conditional, fields}
use Rattle.byte_writer.specs.Texts.{put-append, put-nothing}
use Rattle.operand.specs.declared.Whole.{Whole}
use Rattle.std.proofs.Common.{Option, Some, None}
use Rattle.rules.specs.declared.Kind.{Kind}
use Rattle.operand.specs.Operands.{WholeBrought}
use Rattle.text_reader.specs.declared.Progress.{Progress}
use Rattle.text_reader.specs.Faults.{passes}
use Rattle.text_reader.specs.Fields.{Field, Brought, Unread, FieldTold, both, and_then, register, expression, label, assignment_reader}
use Rattle.text_reader.specs.Fields.{AssignmentTold, OperandTold, BranchTold, ConditionalTold, instruction, fields_of, FieldsTold}
use Rattle.text_reader.proofs.Parts.{unread-nothing, unread-broken}

and_false : (a b : Bool) → b ≡ false → (a && b) ≡ false
and_false true b h = h
and_false false b h = refl

false_and : (a b : Bool) → a ≡ false → (a && b) ≡ false
false_and a b h = rw h

and_true_right : (a : Bool) → (a && true) ≡ a
and_true_right true = refl
and_true_right false = refl

-- what is told of a reading, by its case
pub told-by : {A : Type 0} (F : Field A) (t : List ℕ) (R : Taken A) (a : List ℕ) (to : ℕ) (b : List ℕ) {x y : Option Progress} → x ≡ y
    → FieldTold F t R a to b x → FieldTold F t R a to b y
told-by F t R a to b e h = subst (FieldTold F t R a to b) e h

-- ---- one field, then another
module _ {A B : Type 0} (F : Field A) (G : Field B) (f : PartReader A) (g : PartReader B) (t : List ℕ) (ps : List Part) where
  pub first-unread : Unread F (f ps) → Unread (both F G) (and_then f g ps)
  first-unread u = go (f ps) u
    where
      go : (R : Taken A) → Unread F R → Unread (both F G) (and_take R (λ x qs. and_take (g qs) (λ y rs. took (x, y) rs)))
      go nothing v = unread-nothing refl
      go (took x qs) v = second (g qs)
        where
          second : (S : Taken B) → Unread (both F G) (and_take S (λ y rs. took (x, y) rs))
          second nothing = unread-nothing refl
          second (took y rs) = unread-broken refl (false_and (F.kept x) (G.kept y) (v.breaks x qs refl))

  module _ {a b : List ℕ} {to : ℕ} {p : Progress} (h : Brought F t (f ps) a to b p) where
    abbrev rest : List Part
    rest = parts (drop p.at t)

    abbrev paired : Taken B → Taken (A × B)
    paired S = and_take S (λ y rs. took (h.value, y) rs)

    first_read : and_then f g ps ≡ paired (g rest)
    first_read = ap (λ (R : Taken A). and_take R (λ x qs. and_take (g qs) (λ y rs. took (x, y) rs))) h.read

    pub both_told : (d : List ℕ) (x : Option Progress) → FieldTold G t (g rest) b p.to d x → FieldTold (both F G) t (and_then f g ps) a to d x
    both_told d (Some q) k = record {
      value = (h.value, k.value);
      read = first_read ∙ ap paired k.read;
      kept = and_true (F.kept h.value) (G.kept k.value) h.kept k.kept;
      put = put-append h.put k.put;
      size = omega (arith, h.size, k.size);
    }
    both_told d None u = subst (Unread (both F G)) (sym first_read) (go (g rest) u)
      where
        go : (S : Taken B) → Unread G S → Unread (both F G) (paired S)
        go nothing v = unread-nothing refl
        go (took y rs) v = unread-broken refl (and_false (F.kept h.value) (G.kept y) (v.breaks y rs refl))

-- ---- an operand, by what the reader of operands tells
module _ {t a b : List ℕ} {at to : ℕ} {q : Whole} (h : WholeBrought t at a to b q) where
  pub whole-read : q.sound ≡ true → Brought expression t (whole_operand (parts (drop at t))) a to b (record { at = q.at; to = q.to })
  whole-read e = record { value = h.tokens; read = h.read; kept = sym h.sound ∙ e; put = h.put; size = omega (arith, h.size) }

  pub whole_unsound : q.sound ≡ false → Unread expression (whole_operand (parts (drop at t)))
  whole_unsound e = unread-broken h.read (sym h.sound ∙ e)

pub whole-unread : (t : List ℕ) (at : ℕ) → whole_operand (parts (drop at t)) ≡ nothing → Unread expression (whole_operand (parts (drop at t)))
whole-unread t at e = unread-nothing e

-- ---- the instruction that fields make
module _ {A : Type 0} (F : Field A) (t : List ℕ) (at k n i : ℕ) (h : A → Instr) (R : Taken A)
    (read : fields_of k (parts (drop at t)) ≡ and_take R (λ x ps. took (h x) ps)) (kinds : (x : A) → kind (h x) ≡ k)
    (bytes : (x : A) → field_bytes (h x) ≡ F.bytes x) (kept : (x : A) → passes n i (h x) ≡ F.kept x) (small : F.size ≤ 291) where
  fields_told : (a : List ℕ) (to : ℕ) (b : List ℕ) (x : Option Progress) → FieldTold F t R a to b x → FieldsTold t at k n i a to b x
  fields_told a to b (Some q) f = record {
    fields = record {
      value = h f.value;
      read = read ∙ ap (λ (S : Taken A). and_take S (λ x ps. took (h x) ps)) f.read;
      kept = kept f.value ∙ f.kept;
      put = rw (bytes f.value) f.put;
      size = omega (arith, f.size);
    };
    kind = kinds f.value;
  }
  fields_told a to b None u = subst (Unread (instruction n i)) (sym read) (go R u)
    where
      go : (S : Taken A) → Unread F S → Unread (instruction n i) (and_take S (λ x ps. took (h x) ps))
      go nothing v = unread-nothing refl
      go (took x ps) v = unread-broken refl (kept x ∙ v.breaks x ps refl)

-- ---- the rules' readers, by the fields that they read
register_reader : (f : ℕ → Expr → Instr) (ps : List Part) → with_register f ps ≡ and_take (assignment_reader ps) (λ x qs. took (f x.0 x.1) qs)
unfolding with_register
register_reader f ps = go (by_name register_named ps)
  where
    second : (r : ℕ) (S : Taken Expr) → and_take S (λ e rs. took (f r e) rs)
        ≡ and_take (and_take S (λ e rs. took (r, e) rs)) (λ (x : ℕ × Expr) qs. took (f x.0 x.1) qs)
    second r nothing = refl
    second r (took e rs) = refl

    go : (R : Taken ℕ) → and_take R (λ r qs. and_take (whole_operand qs) (λ e rs. took (f r e) rs))
        ≡ and_take (and_take R (λ r qs. and_take (whole_operand qs) (λ e rs. took (r, e) rs))) (λ (x : ℕ × Expr) qs. took (f x.0 x.1) qs)
    go nothing = refl
    go (took r qs) = second r (whole_operand qs)

branch_reader : (ps : List Part)
    → branch ps ≡ and_take (and_then (by_name register_named) (by_name constant_named) ps) (λ x qs. took (beqz x.0 x.1) qs)
unfolding branch
branch_reader ps = go (by_name register_named ps)
  where
    second : (r : ℕ) (S : Taken ℕ) → and_take S (λ l rs. took (beqz r l) rs)
        ≡ and_take (and_take S (λ l rs. took (r, l) rs)) (λ (x : ℕ × ℕ) qs. took (beqz x.0 x.1) qs)
    second r nothing = refl
    second r (took l rs) = refl

    go : (R : Taken ℕ) → and_take R (λ r qs. and_take (by_name constant_named qs) (λ l rs. took (beqz r l) rs))
        ≡ and_take (and_take R (λ r qs. and_take (by_name constant_named qs) (λ l rs. took (r, l) rs))) (λ (x : ℕ × ℕ) qs. took (beqz x.0 x.1) qs)
    go nothing = refl
    go (took r qs) = second r (by_name constant_named qs)

abbrev conditional_of : (ℕ × Expr) × Expr → Instr
conditional_of x = cassign x.0.0 x.0.1 x.1

conditional_reader : (ps : List Part) → conditional ps ≡ and_take (and_then assignment_reader whole_operand ps) (λ x qs. took (conditional_of x) qs)
unfolding conditional
conditional_reader ps = go (by_name register_named ps)
  where
    third : (r : ℕ) (c : Expr) (S : Taken Expr) → and_take S (λ e rs. took (cassign r c e) rs)
        ≡ and_take (and_take S (λ e rs. took ((r, c), e) rs)) (λ (x : (ℕ × Expr) × Expr) qs. took (conditional_of x) qs)
    third r c nothing = refl
    third r c (took e rs) = refl

    second : (r : ℕ) (S : Taken Expr) → and_take S (λ c rs. and_take (whole_operand rs) (λ e ss. took (cassign r c e) ss))
        ≡ and_take (and_take (and_take S (λ c rs. took (r, c) rs)) (λ (y : ℕ × Expr) rs. and_take (whole_operand rs) (λ e ss. took (y, e) ss)))
        (λ (x : (ℕ × Expr) × Expr) qs. took (conditional_of x) qs)
    second r nothing = refl
    second r (took c rs) = third r c (whole_operand rs)

    go : (R : Taken ℕ) → and_take R (λ r qs. and_take (whole_operand qs) (λ c rs. and_take (whole_operand rs) (λ e ss. took (cassign r c e) ss)))
        ≡ and_take (and_take (and_take R (λ r qs. and_take (whole_operand qs) (λ c rs. took (r, c) rs)))
        (λ (y : ℕ × Expr) rs. and_take (whole_operand rs) (λ e ss. took (y, e) ss))) (λ (x : (ℕ × Expr) × Expr) qs. took (conditional_of x) qs)
    go nothing = refl
    go (took r qs) = second r (whole_operand qs)

-- ---- by kind
module _ (t : List ℕ) (at n i : ℕ) where
  bare-told : (x : Instr) (a : List ℕ) (to : ℕ) → fields_of (kind x) (parts (drop at t)) ≡ took x (parts (drop at t)) → field_bytes x ≡ [] → passes n i x ≡ true
      → FieldsTold t at (kind x) n i a to a (Some (record { at = at; to = to }))
  bare-told x a to read bytes kept = record {
    fields = record { value = x; read = read; kept = kept; put = rw bytes (put-nothing a to); size = omega arith };
    kind = refl;
  }

  -- what is told of fields, by their kind
  pub kind-told : {k l : Kind} (a : List ℕ) (to : ℕ) (b : List ℕ) (x : Option Progress) → k ≡ l → FieldsTold t at (kind_number l) n i a to b x
      → FieldsTold t at (kind_number k) n i a to b x
  kind-told a to b x e h = subst (λ (k : Kind). FieldsTold t at (kind_number k) n i a to b x) (sym e) h

  pub skip-told : (a : List ℕ) (to : ℕ) → FieldsTold t at 0 n i a to a (Some (record { at = at; to = to }))
  unfolding fields
  skip-told a to = bare-told skip a to refl refl refl

  pub barrier_told : (a : List ℕ) (to : ℕ) → FieldsTold t at 7 n i a to a (Some (record { at = at; to = to }))
  unfolding fields
  barrier_told a to = bare-told spbarr a to refl refl refl

  module _ (a : List ℕ) (to : ℕ) (b : List ℕ) (x : Option Progress) where
    pub assign_told : AssignmentTold t at a to b x → FieldsTold t at 1 n i a to b x
    unfolding fields
    assign_told f =
        fields_told (both register expression) t at 1 n i (λ z. assign z.0 z.1) (assignment_reader (parts (drop at t)))
        (register_reader assign (parts (drop at t))) (λ z. refl) (λ z. refl) (λ z. and_true_right (sound z.1)) (omega arith) a to b x f

    pub load-told : AssignmentTold t at a to b x → FieldsTold t at 2 n i a to b x
    unfolding fields
    load-told f =
        fields_told (both register expression) t at 2 n i (λ z. load z.0 z.1) (assignment_reader (parts (drop at t)))
        (register_reader load (parts (drop at t))) (λ z. refl) (λ z. refl) (λ z. and_true_right (sound z.1)) (omega arith) a to b x f

    pub store-told : AssignmentTold t at a to b x → FieldsTold t at 3 n i a to b x
    unfolding fields
    store-told f =
        fields_told (both register expression) t at 3 n i (λ z. store z.0 z.1) (assignment_reader (parts (drop at t)))
        (register_reader store (parts (drop at t))) (λ z. refl) (λ z. refl) (λ z. and_true_right (sound z.1)) (omega arith) a to b x f

    pub jump-told : OperandTold t at a to b x → FieldsTold t at 4 n i a to b x
    unfolding fields jump
    jump-told f =
        fields_told expression t at 4 n i jmp (whole_operand (parts (drop at t))) refl (λ z. refl) (λ z. refl) (λ z. and_true_right (sound z))
        (omega arith) a to b x f

    pub branch-told : BranchTold t at n i a to b x → FieldsTold t at 5 n i a to b x
    unfolding fields
    branch-told f =
        fields_told (both register (label n i)) t at 5 n i (λ z. beqz z.0 z.1)
        (and_then (by_name register_named) (by_name constant_named) (parts (drop at t)))
        (branch_reader (parts (drop at t))) (λ z. refl) (λ z. refl) (λ z. refl) (omega arith) a to b x f

    pub conditional-told : ConditionalTold t at a to b x → FieldsTold t at 6 n i a to b x
    unfolding fields
    conditional-told f =
        fields_told (both (both register expression) expression) t at 6 n i conditional_of (and_then assignment_reader whole_operand (parts (drop at t)))
        (conditional_reader (parts (drop at t))) (λ z. refl) (λ z. refl) (λ z. and_true_right (sound z.0.1 && sound z.1)) (omega arith) a to b x f

-- ---- no instruction word
pub no_kind_unread : (n i k : ℕ) (ps : List Part) → k ≡ 8 → Unread (instruction n i) (fields_of k ps)
unfolding fields
no_kind_unread n i k ps e = unread-nothing (ap (λ (f : PartReader Instr). f ps) (get_or-eq_default fields (λ ps. nothing) {n = k} (omega arith)))
