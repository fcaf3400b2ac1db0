-- How the code's tests of the parts of a file meet the rules' parse.
-- Assumes nothing.
use mathlib.Core.Path.{◌≡◌, refl, sym, ap, ◌∙◌}
use mathlib.Core.Bool.{Bool, true, false, not, cond, true≢false}
use mathlib.Core.List.{List}
use Prim.Native.Nat.{ℕ, zero, suc, ◌+◌, ◌-◌, ◌<◌, ◌≤◌}
use native.Mathlib.Omega.{arith}
use Rattle.std.specs.Prelude.{◌⊎◌, Ok, Err, Option, Some, None}
use Rattle.std.specs.Option.{is_some}
use Rattle.std.proofs.lemmas.Bool.Decides.{nat_tests}
use borrow.Author.Tests.{le-leb}
use Rattle.location.specs.declared.LocationSet.{LocationSet}
use Rattle.location.specs.Sets.{limit, member}
use Rattle.location.specs.declared.Location.{Location}
use Rattle.location.specs.declared.Members.{Members}
use Rattle.location.specs.Members.{NoneFrom, IsFirst, GivesMember}
use Rattle.rules.specs.declared.Trailer.{Trailer}
use Rattle.rules.specs.declared.Refusal.{Refusal}
use Rattle.rules.specs.declared.Refusal.TheVariants as refusals
use Rattle.rules.specs.Rules.Instructions.{Instr}
use Rattle.rules.specs.Rules.Runs.{Job}
use Rattle.rules.specs.Rules.Limits.{max_bytes, trailer_size}
use Rattle.rules.specs.Rules.JobFile.{Read, got, refused, sized, public_of, none_from, listed, accepted, rejected, job_of, finish}
use Rattle.program.specs.Checks.{checked_of}
use Rattle.job.specs.Answers.{job_read_of}

-- a length that is allowed
pub sized_true : {len : ℕ} → trailer_size ≤ len → len ≤ max_bytes → sized len ≡ true
unfolding sized
sized_true {len} h g = rw (le-leb trailer_size len h, le-leb len max_bytes g)

-- one that is not
pub sized_false : {len : ℕ} → (len < trailer_size) ⊎ ((trailer_size ≤ len) × (max_bytes < len)) → sized len ≡ false
unfolding sized
sized_false {len} h = grind (arith, nat_tests, h)

-- ---- the locations from l on, up to the limit of the set
abbrev pub none_on : LocationSet → ℕ → Bool
none_on s l = none_from s l (limit - l)

-- k locations from l on that are not in the set are passed
passed : (s : LocationSet) (k l m n l' : ℕ) → n ≡ k + m → l' ≡ l + k → ((j : ℕ) → j < k → member s (l + j) ≡ false)
    → none_from s l n ≡ none_from s l' m
unfolding none_from
passed s zero l m n l' e f h = let e₁ : n ≡ m = omega arith in let f₁ : l ≡ l' = omega arith in rw (e₁, f₁)
passed s (suc k) l m n l' e f h =
    let e₁ : n ≡ suc (k + m) = omega arith in
    let z : l + 0 ≡ l = omega arith in
    let o = rw z at (h 0 (omega arith)) in
    rw (e₁, o)
    (passed s k (l + 1) m (k + m) l' refl (omega arith) (λ j w. let q : l + 1 + j ≡ l + suc j = omega arith in rw q (h (suc j) (omega arith))))

pub none_left : (s : LocationSet) (l : ℕ) → NoneFrom s l limit → none_on s l ≡ true
unfolding none_from
none_left s l h =
    let n : limit - l ≡ limit - l + 0 = omega arith in
    passed s (limit - l) l 0 _ _ n refl (λ j w. h.out (l + j) (omega arith) (omega arith))

pub one_left : (s : LocationSet) (l m : ℕ) → IsFirst s l m → none_on s l ≡ false
unfolding none_from
one_left s l m h =
    let n : limit - l ≡ m - l + (limit - m) = omega (arith, h.from, h.below) in
    let k : limit - m ≡ suc (limit - (m + 1)) = omega (arith, h.below) in
    passed s (m - l) l _ _ m n (omega (arith, h.from)) (λ j w. h.passed.out (l + j) (omega arith) (omega arith)) ∙ rw (k, h.is_member)

-- what a call of `next` gives tells whether one is left
pub next_none : (a b : Members) (r : Option Location) (e : Bool) → GivesMember a r b → is_some r ≡ not e → e ≡ none_on a.set a.next
next_none a b None true g k = sym (none_left a.set a.next g.1.0)
next_none a b None false g k = absurd (true≢false (sym k))
next_none a b (Some m) true g k = absurd (true≢false k)
next_none a b (Some m) false g k = sym (one_left a.set a.next m.0 g.1.0)

-- ---- the rest of the parse, where the program's tests are passed or not
choice : (b : Bool) (j : Job) (t : Trailer)
    → job_read_of t (cond b (accepted j) (rejected refusals.PublicList))
    ≡ cond b (Ok (record { trailer = t; public = j.public })) (Err refusals.PublicList)
choice true j t = refl
choice false j t = refl

pub finish-next : (bs : List ℕ) (t : Trailer) (R : Read (List Instr)) (q : ℕ) → Ok q ≡ checked_of R
    → job_read_of t (finish bs t R)
    ≡ cond (listed t bs) (Ok (record { trailer = t; public = public_of t bs })) (Err refusals.PublicList)
unfolding finish job_of
finish-next bs t (got xs q') q e = choice (listed t bs) (job_of bs t xs) t
finish-next bs t (refused r) q e = absurd (cc)

pub finish-refused : (bs : List ℕ) (t : Trailer) (R : Read (List Instr)) (r : Refusal) → Err r ≡ checked_of R
    → job_read_of t (finish bs t R) ≡ Err r
unfolding finish
finish-refused bs t (got xs q) r e = absurd (cc)
finish-refused bs t (refused r') r e = let e₁ : r' ≡ r = cc in ap (λ (n : Refusal). Err n) e₁
