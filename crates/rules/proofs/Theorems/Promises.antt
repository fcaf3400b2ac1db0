-- A call that is exact keeps its whole promise: the answer and the areas are the rules', of which the demands are proved.
-- Assumes nothing.
use Rattle.std.specs.Prelude.{◌≡◌, List, ℕ}
use Rattle.std.proofs.Common.{ap, subst, ◌∙◌}
use Rattle.rules.specs.declared.RunAnswer.{RunAnswer}
use Rattle.rules.specs.declared.PlainAnswer.{PlainAnswer}
use Rattle.rules.specs.Rules.Outcomes.{PairAnswer}
use Rattle.rules.specs.Rules.Answers.{run_refusal, plain_refusal, pair_refusal}
use Rattle.rules.specs.Rules.Calls.{Areas, Called, run_call, plain_call}
use Rattle.rules.specs.Rules.Pairs.{PairAreas, pair_call}
use Rattle.rules.specs.Rules.Demands.{Exact}
use Rattle.rules.specs.Rules.Promises.{RunPromise, PlainPromise, PairPromise}
use Rattle.rules.proofs.Theorems.CallLaws.{exact-unaltered, run-unaltered, ones_run, plain-unaltered}
use Rattle.rules.proofs.Theorems.FileBounds.{wrong_paths_bounded}
use Rattle.rules.proofs.Theorems.FilePlain.{demand2_call}
use Rattle.rules.proofs.Theorems.FileSecrecy.{demand3_call}
use Rattle.rules.proofs.Theorems.FileFirsts.{brought_call}
use Rattle.rules.proofs.Theorems.PairLaws.{pair-meaning, pair-unaltered, ones_pair}

-- what a call by the fixed table is, of a call that is exact
pub same-exact : {A B : Type 0} {called fixed : Called A B} {r : A} {after : B} → called ≡ fixed → Exact called r after → Exact fixed r after
same-exact {r = r} {after} e x = subst (λ (c : Called _ _). Exact c r after) e x

pub run-promise : (f costs : List ℕ) (a : Areas) {r : RunAnswer} {after : Areas} → Exact (run_call f costs a) r after
    → RunPromise f costs a r after
run-promise f costs a x = record {
  exact = x;
  unaltered = exact-unaltered run_refusal (run_call f costs a) a x (run-unaltered f costs a);
  plainly = rw (x.answer, x.areas) (demand2_call f costs a);
  secret = rw (x.answer, x.areas) (demand3_call f costs a);
  brought = rw (x.answer, x.areas) (brought_call f costs a);
  fixed = λ e. same-exact (ap (λ (cs : List ℕ). run_call f cs a) e ∙ ones_run f a) x;
  bounded = wrong_paths_bounded f costs;
}

pub plain-promise : (f : List ℕ) (a : Areas) {r : PlainAnswer} {after : Areas} → Exact (plain_call f a) r after → PlainPromise f a r after
plain-promise f a x = record {
  exact = x;
  unaltered = exact-unaltered plain_refusal (plain_call f a) a x (plain-unaltered f a);
}

pub pair-promise : (f second costs : List ℕ) (a : PairAreas) {r : PairAnswer} {after : PairAreas} → Exact (pair_call f second costs a) r after
    → PairPromise f second costs a r after
pair-promise f second costs a x = record {
  exact = x;
  unaltered = exact-unaltered pair_refusal (pair_call f second costs a) a x (pair-unaltered f second costs a);
  meaning = rw (x.answer, x.areas) (pair-meaning f second costs a);
  fixed = λ e. same-exact (ap (λ (cs : List ℕ). pair_call f second cs a) e ∙ ones_pair f second a) x;
  bounded = wrong_paths_bounded f costs;
}
