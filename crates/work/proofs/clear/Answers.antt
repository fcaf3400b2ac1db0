-- `clear` meets its contract. Assumes nothing.
use mathlib.Core.Path.{◌≡◌, sym, ap, ◌∙◌}
use mathlib.Core.List.{List, ◌++◌}
use Prim.Native.Nat.{ℕ}
use native.Mathlib.Omega.{arith}
use lib.ListN.{length, drop, take, replicate, length-take, length-replicate}
use Rattle.rules.specs.Rules.Calls.{written, working_words}
use Rattle.work.proofs.clear.Goals as goal

pub returns : goal.returns
unfolding written
returns c =
    let w = c.args.work.now in
    let n : length (take working_words w) ≡ working_words = omega (arith, length-take working_words w) in
    let z = length-replicate {A = ℕ} working_words 0 in
    ap (λ (u : List ℕ). u ++ drop working_words w) (c.fill.ensures.after (λ y e. e) ∙ ap (λ (k : ℕ). replicate k 0) n)
    ∙ ap (λ (k : ℕ). replicate working_words 0 ++ drop k w) (sym z)
