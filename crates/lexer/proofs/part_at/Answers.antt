-- `lexer::part_at` meets its contract, by the byte after the spaces. Assumes nothing.
use Rattle.std.proofs.Common.{arith, ◌≡◌, inl, inr}
use mathlib.Core.Logic.{◌⊎◌}
use borrow.Author.Rules.{rules}
use Rattle.lexer.proofs.Laws.{none_told, newline-told, remark-told, opening-told, closing_told, other-told, name-told}
use Rattle.lexer.proofs.part_at.Goals as goal

pub returns-in_default : goal.returns-in_default
returns-in_default c =
    let a = c.args in none_told a.text.now a.at _ c.blanks_end-start.ensures c.in_default.ensures.lookup.3

pub returns-in-10 : goal.returns-in-10
returns-in-10 c =
    let a = c.args in
    let found = c.in-Some.ensures.lookup.3 in
    let b = found.1 0 in
    elim c.in-10.is [
      | inl e ↦ newline-told a.text.now a.at _ c.blanks_end-start.ensures found.0 (cc)
      | inr e ↦ remark-told a.text.now a.at _ c.blanks_end-start.ensures found.0 (cc)
    ]

pub returns-in-40 : goal.returns-in-40
returns-in-40 c =
    let a = c.args in
    let found = c.in-Some.ensures.lookup.3 in
    let b = found.1 0 in opening-told a.text.now a.at _ c.blanks_end-start.ensures found.0 (cc)

pub returns-in-41 : goal.returns-in-41
returns-in-41 c =
    let a = c.args in
    let found = c.in-Some.ensures.lookup.3 in
    let b = found.1 0 in closing_told a.text.now a.at _ c.blanks_end-start.ensures found.0 (cc)

pub returns-then-in_name : goal.returns-then-in_name
returns-then-in_name c =
    let a = c.args in
    let found = c.in-Some.ensures.lookup.3 in
    let b = found.1 0 in name-told a.text.now a.at _ c.blanks_end-start.ensures found.0 _ (cc) c.name_end.ensures

pub returns-in_default-byte : goal.returns-in_default-byte
returns-in_default-byte c =
    let a = c.args in
    let found = c.in-Some.ensures.lookup.3 in
    let b = found.1 0 in
    let apart : c.in-Some.field-0.now ≡ 10 ⊎ c.in-Some.field-0.now ≡ 35 → ⊥ = search rules in
    other-told a.text.now a.at _ c.blanks_end-start.ensures found.0 (cc)
    (λ h. apart (inl (cc))) (λ h. apart (inr (cc))) (λ h. omega arith) (λ h. omega arith)
