-- The set of an expression can be gathered ahead of its value. Document 02, F-5: "Whatever the registers hold, it is the set document 01
-- gives."
-- Assumes nothing.
use Rattle.std.specs.Prelude.{◌≡◌, true, ◌||◌, length}
use Rattle.std.proofs.Math.Path.{refl, sym, ap}
use Rattle.std.proofs.Common.{ap₂, ◌∙◌, arith, eqb-true}
use mathlib.Core.List.{List, [], ◌∷◌}
use Prim.Native.Nat.{ℕ, suc}
use Rattle.location.specs.declared.LocationSet.{LocationSet}
use Rattle.location.specs.Sets.{none, empty, union, member}
use Rattle.location.specs.SetLaws.{or_false, either-length, union_assoc, union-empty, empty-union, member_union, member-empty}
use Rattle.rules.specs.declared.Tagged.{Tagged}
use Rattle.rules.specs.Rules.Expressions.{reg, const, op1, op2, Expr, held, sound, tagged, result1, result2}
use Rattle.rules.specs.Rules.Expressions.{pushed, eval_on, top, eval, gathered, set_on, expr_set, SetFirst}
use Rattle.rules.proofs.Theorems.Postfix.{held-takes, held_after}

-- ---- the sets of a stack
-- all of them together
abbrev together : List Tagged → LocationSet
together [] = empty
together (a ∷ st) = union (together st) a.deps

-- Sets are compared by what `view` shows of them, among those that are `Proper`: as they are, where they have four words, or by one member,
-- for any number of words.
module _
    {A : Type 0} (view : LocationSet → A) (Proper : LocationSet → Type 0)
    (proper-empty : Proper empty)
    (proper-union : (s t : LocationSet) → Proper s → Proper t → Proper (union s t))
    (view-left : (s s' t : LocationSet) → view s ≡ view s' → view (union s t) ≡ view (union s' t))
    (view-empty : (s : LocationSet) → Proper s → view (union s empty) ≡ view s)
    (empty-view : (s : LocationSet) → Proper s → view (union empty s) ≡ view s)
    (f : ℕ → Tagged) (proper : (r : ℕ) → Proper (f r).deps)
  where
    abbrev ProperAll : List Tagged → Type 0
    ProperAll [] = Unit {0}
    ProperAll (a ∷ st) = Proper a.deps × ProperAll st

    proper_together : (st : List Tagged) → ProperAll st → Proper (together st)
    proper_together [] h = proper-empty
    proper_together (a ∷ st) h = proper-union (together st) a.deps (proper_together st h.1) h.0

    -- the rules' stack, of so many values, beside the set that was gathered
    record Beside (d : ℕ) (st : List Tagged) (s : LocationSet) : Type 0 where
      pub values : length st ≡ d
      pub all : ProperAll st
      pub same : view (together st) ≡ view s

    set_on_lem : (ts : Expr) (d : ℕ) (st : List Tagged) (s : LocationSet) → held d ts ≡ 1 → Beside d st s
        → Beside 1 (eval_on f ts st) (set_on (λ r. (f r).deps) ts s)
    unfolding held eval_on set_on pushed gathered
    set_on_lem [] d st s h b = rw h at b
    set_on_lem (reg r ∷ ts) d st s h b =
        set_on_lem ts (suc d) (f r ∷ st) (union s (f r).deps) (held_after d (suc d) (reg r) ts h (omega arith))
        (record { values = ap suc b.values; all = (proper r, b.all); same = view-left (together st) s (f r).deps b.same })
    set_on_lem (const c ∷ ts) d st s h b =
        set_on_lem ts (suc d) (tagged c empty ∷ st) s (held_after d (suc d) (const c) ts h (omega arith))
        (record {
          values = ap suc b.values;
          all = (proper-empty, b.all);
          same = view-empty (together st) (proper_together st b.all) ∙ b.same;
        })
    set_on_lem (op1 o ∷ ts) d [] s h b = let l = held-takes d (op1 o) ts h in let e = b.values in absurd (omega arith)
    set_on_lem (op1 o ∷ ts) d (a ∷ st) s h b =
        set_on_lem ts d (result1 o a ∷ st) s (held_after d d (op1 o) ts h refl) (record { values = b.values; all = b.all; same = b.same })
    set_on_lem (op2 o ∷ ts) d [] s h b = let l = held-takes d (op2 o) ts h in let e = b.values in absurd (omega arith)
    set_on_lem (op2 o ∷ ts) d (x ∷ []) s h b = let l = held-takes d (op2 o) ts h in let e = b.values in absurd (omega arith)
    set_on_lem (op2 o ∷ ts) d (x ∷ a ∷ st) s h b =
        let e = b.values in
        set_on_lem ts (suc (length st)) (result2 o a x ∷ st) s (held_after d (suc (length st)) (op2 o) ts h (omega arith))
        (record {
          values = refl;
          all = (proper-union a.deps x.deps b.all.1.0 b.all.0, b.all.1.1);
          same = ap view (sym (union_assoc (together st) a.deps x.deps)) ∙ b.same;
        })

    -- one value is held in the end, and its set is the one that was gathered
    gathered-last : (st : List Tagged) (s : LocationSet) → Beside 1 st s → view (top st).deps ≡ view s
    unfolding top
    gathered-last [] s b = let e = b.values in absurd (omega arith)
    gathered-last (a ∷ []) s b = sym (empty-view a.deps b.all.0) ∙ b.same
    gathered-last (a ∷ x ∷ st) s b = let e = b.values in absurd (omega arith)

    view_first : (e : Expr) → sound e ≡ true → view (eval f e).deps ≡ view (expr_set (λ r. (f r).deps) e)
    unfolding sound eval expr_set
    view_first e h =
        gathered-last (eval_on f e []) (set_on (λ r. (f r).deps) e empty)
        (set_on_lem e 0 [] empty (eqb-true (held 0 e) 1 h) (record { values = refl; all = tt; same = refl }))

-- ---- the theorem
-- "Whatever the registers hold, it is the set document 01 gives": for any values of the registers, beside any sets of four words, as a
-- location set has.
pub set_first : (values : ℕ → ℕ) (sets : ℕ → LocationSet) → ((r : ℕ) → length (sets r).words ≡ 4) → (e : Expr) → sound e ≡ true
    → (eval (λ r. tagged (values r) (sets r)) e).deps ≡ expr_set sets e
unfolding union empty none
set_first values sets four e h =
    view_first (λ s. s) (λ s. length s.words ≡ 4) refl (λ s t p q. either-length s.words t.words 4 p q)
    (λ s s' t p. ap (λ u. union u t) p) union-empty empty-union (λ r. tagged (values r) (sets r)) four e h

-- a set that is `expr_set` satisfies `SetFirst`
pub set-promise : (sets : ℕ → LocationSet) → ((r : ℕ) → length (sets r).words ≡ 4) → (e : Expr) {s : LocationSet} → s ≡ expr_set sets e
    → SetFirst sets e s
set-promise sets four e p = record { exact = p; whatever = λ h values. p ∙ sym (set_first values sets four e h) }

-- by its members, for sets of any number of words
pub set-first_members : (values : ℕ → ℕ) (sets : ℕ → LocationSet) (e : Expr) → sound e ≡ true
    → (l : ℕ) → member (eval (λ r. tagged (values r) (sets r)) e).deps l ≡ member (expr_set sets e) l
set-first_members values sets e h l =
    view_first (λ s. member s l) (λ s. Unit {0}) tt (λ s t p q. tt)
    (λ s s' t p. member_union s t l ∙ ap (λ b. b || member t l) p ∙ sym (member_union s' t l))
    (λ s p. member_union s empty l ∙ ap (λ b. member s l || b) (member-empty l) ∙ or_false (member s l))
    (λ s p. member_union empty s l ∙ ap (λ b. b || member s l) (member-empty l))
    (λ r. tagged (values r) (sets r)) (λ r. tt) e h

-- ---- a word of a value and a set that are those of a value with its set
pub tagged-equal : {n m : ℕ} {s t : LocationSet} → n ≡ m → s ≡ t → tagged n s ≡ tagged m t
tagged-equal p q = ap₂ {C = Tagged} (λ (x : ℕ) (u : LocationSet). tagged x u) p q
