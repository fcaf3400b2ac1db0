-- What the shapes with operands say, in the terms in which this crate reads operands: where they stand, and what they are.
-- Assumes nothing.
use Rattle.std.specs.Prelude.{◌≡◌, List, [], ◌∷◌, ℕ, ◌+◌, ◌<◌, ◌≤◌, min, length, get_or}
use Rattle.std.proofs.Common.{sym, ap₂, subst, ◌∙◌, arith}
use Rattle.std.proofs.Math.Path.{ap}
use Rattle.location.specs.Sets.{registers}
use Rattle.rules.specs.Rules.Expressions.{reg, const}
use Rattle.rules.specs.Rules.Instructions.{Instr, skip, jmp}
use Rattle.rules.specs.Rules.JobFile.{little, fields}
use Rattle.rules.specs.Theorems.Readers.{value_or}
use Rattle.instruction.specs.Fields.{instr-kind, instr-read, jump-parts}
use Rattle.descriptor.specs.declared.Descriptor.{Descriptor}
use Rattle.descriptor.specs.Descriptors.{shape_register, shape_constant, shape_register_constant, shape_register_register, shape_jump_constant}
use Rattle.descriptor.specs.Descriptors.{shape_branch, farthest, constant_place, operator_place, operator_of, instruction_in, first_tokens, ShapeMeans, Valid}
use Rattle.descriptor.specs.Reading.{branch-shaped, standing-shaped}

-- a register alone
pub record OneRegister (p : List ℕ) (d : Descriptor) : Type 0 where
  pub below : d.first < registers
  pub tokens : first_tokens (instruction_in p d) ≡ reg d.first ∷ []

-- a constant alone
pub record OneConstant (p : List ℕ) (d : Descriptor) : Type 0 where
  pub room : d.at + constant_place d.shape + 8 ≤ length p
  pub tokens : first_tokens (instruction_in p d) ≡ const (little p (d.at + constant_place d.shape) 8) ∷ []

-- A jump to a constant. Among the places of a program, which are not more than `farthest`, it goes to the one that the descriptor names.
pub record ConstantJump (p : List ℕ) (d : Descriptor) : Type 0 where
  pub jumps : instruction_in p d ≡ jmp (const (little p (d.at + 3) 8) ∷ [])
  pub place : (n : ℕ) → n ≤ farthest → min d.extra n ≡ min (little p (d.at + 3) 8) n

-- the operator of a shape with two operands stands before the end, and is one of two operands
pub record Operated (p : List ℕ) (d : Descriptor) : Type 0 where
  pub room : d.at + operator_place d.shape < length p
  pub known : 19 ≤ get_or p (d.at + operator_place d.shape) 0

-- a register and a constant under an operator
pub record RegisterConstant (p : List ℕ) (d : Descriptor) : Type 0 where
  pub below : d.first < registers
  pub room : d.at + constant_place d.shape + 8 ≤ length p
  pub operated : Operated p d
  pub tokens : first_tokens (instruction_in p d)
      ≡ reg d.first ∷ const (little p (d.at + constant_place d.shape) 8) ∷ operator_of (get_or p (d.at + operator_place d.shape) 0) ∷ []

-- two registers under an operator
pub record RegisterRegister (p : List ℕ) (d : Descriptor) : Type 0 where
  pub below : d.first < registers
  pub room : d.at + 4 < length p
  pub second : get_or p (d.at + 4) 0 < registers
  pub operated : Operated p d
  pub tokens : first_tokens (instruction_in p d)
      ≡ reg d.first ∷ reg (get_or p (d.at + 4) 0) ∷ operator_of (get_or p (d.at + operator_place d.shape) 0) ∷ []

-- what the shape s says, where it is t
known : {s t : ℕ} (p : List ℕ) (at r : ℕ) (x : Instr) → s ≡ t → ShapeMeans s p at r x → ShapeMeans t p at r x
known p at r x e m = rw e at m

module _ {p : List ℕ} {d : Descriptor} (v : Valid p d) where
  pub register-shaped : d.shape ≡ shape_register → OneRegister p d
  register-shaped e = let h = known p d.at d.first (instruction_in p d) e v.shaped in record { below = h.2; tokens = h.1 }

  pub constant-shaped : d.shape ≡ shape_constant → OneConstant p d
  constant-shaped e =
      let h = known p d.at d.first (instruction_in p d) e v.shaped in
      let l = h.2 in
      let c : constant_place d.shape ≡ 4 = ap constant_place e in
      record { room = omega arith; tokens = h.1 ∙ ap (λ (k : ℕ). const (little p (d.at + k) 8) ∷ []) (sym c) }

  pub jump-constant_shaped : d.shape ≡ shape_jump_constant → OneConstant p d
  jump-constant_shaped e =
      let h = known p d.at d.first (instruction_in p d) e v.shaped in
      let l = h.2 in
      let c : constant_place d.shape ≡ 3 = ap constant_place e in
      record { room = omega arith; tokens = h.1 ∙ ap (λ (k : ℕ). const (little p (d.at + k) 8) ∷ []) (sym c) }

  pub constant-jump : d.shape ≡ shape_jump_constant → ConstantJump p d
  unfolding fields
  constant-jump e =
      let h = known p d.at d.first (instruction_in p d) e v.shaped in
      let s = standing-shaped v (λ z. omega arith) (λ z. omega arith) in
      let i = instr-kind p d.at 4 (instr-read p d.at s.0.read) h.3 in
      let x = s.1 ∙ ap (value_or skip) i ∙ (jump-parts p (d.at + 1) (rw i at s.0.read)).1 in
      record {
        jumps = x ∙ ap jmp (sym (ap first_tokens x) ∙ h.1);
        place = λ n l. rw (v.target e) (omega arith);
      }

  pub jump-kind : d.shape ≡ shape_jump_constant → get_or p d.at 0 ≡ 4
  jump-kind e = (known p d.at d.first (instruction_in p d) e v.shaped).3

  pub register-constant_shaped : d.shape ≡ shape_register_constant → RegisterConstant p d
  register-constant_shaped e =
      let h = known p d.at d.first (instruction_in p d) e v.shaped in
      let l = h.3 in
      let c : constant_place d.shape ≡ 5 = ap constant_place e in
      let o : operator_place d.shape ≡ 13 = ap operator_place e in
      record {
        below = h.2;
        room = omega arith;
        operated = record { room = omega arith; known = subst (λ (k : ℕ). 19 ≤ get_or p (d.at + k) 0) (sym o) h.4 };
        tokens = h.1
            ∙ ap₂ (λ (j k : ℕ). reg d.first ∷ const (little p (d.at + j) 8) ∷ operator_of (get_or p (d.at + k) 0) ∷ []) (sym c) (sym o);
      }

  pub register-register_shaped : d.shape ≡ shape_register_register → RegisterRegister p d
  register-register_shaped e =
      let h = known p d.at d.first (instruction_in p d) e v.shaped in
      let l = h.4 in
      let o : operator_place d.shape ≡ 5 = ap operator_place e in
      record {
        below = h.2;
        room = omega arith;
        second = h.3;
        operated = record { room = omega arith; known = subst (λ (k : ℕ). 19 ≤ get_or p (d.at + k) 0) (sym o) h.5 };
        tokens = h.1 ∙ ap (λ (k : ℕ). reg d.first ∷ reg (get_or p (d.at + 4) 0) ∷ operator_of (get_or p (d.at + k) 0) ∷ []) (sym o);
      }

  -- the register that a branch tests
  pub tested-shaped : d.shape ≡ shape_branch → OneRegister p d
  tested-shaped e = let b = branch-shaped v e in record { below = rw b at v.below; tokens = ap first_tokens b }
