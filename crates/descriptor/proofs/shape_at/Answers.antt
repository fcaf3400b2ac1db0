-- `descriptor::shape_at` meets its contract, by the kind byte. Assumes nothing.
use mathlib.Core.Path.{◌∙◌}
use Rattle.descriptor.specs.Descriptors.{kind_shapes, shape_at}
use Rattle.descriptor.proofs.Laws.{shape-nothing}
use Rattle.descriptor.proofs.shape_at.Goals as goal

pub returns-in-1 : goal.returns-in-1
unfolding kind_shapes shape_at
returns-in-1 c = rw (← c.byte_at.ensures, c.in-1.is) c.shape_of_expression.ensures

pub returns-in-2 : goal.returns-in-2
unfolding kind_shapes shape_at
returns-in-2 c = rw (← c.byte_at.ensures, c.in-2.is) c.shape_of_expression-in-2.ensures

pub returns-in-3 : goal.returns-in-3
unfolding kind_shapes shape_at
returns-in-3 c = rw (← c.byte_at.ensures, c.in-3.is) c.shape_of_expression-in-3.ensures

pub returns-in-4 : goal.returns-in-4
unfolding kind_shapes shape_at
returns-in-4 c = rw (← c.byte_at.ensures, c.in-4.is) c.shape_of_jump.ensures

pub returns-in-5 : goal.returns-in-5
unfolding kind_shapes shape_at
returns-in-5 c = rw (← c.byte_at.ensures, c.in-5.is)

pub returns-in-6 : goal.returns-in-6
unfolding kind_shapes shape_at
returns-in-6 c = rw (← c.byte_at.ensures, c.in-6.is) c.shape_of_expression-in-6.ensures

pub returns-in_default : goal.returns-in_default
returns-in_default c =
    let e = c.byte_at.ensures in
    let h = c.in_default.in_default-own.rest in
    shape-nothing _ _ (λ k. h.0.0.0.0.0.1 (e ∙ k)) (λ k. h.0.0.0.0.1 (e ∙ k)) (λ k. h.0.0.0.1 (e ∙ k))
    (λ k. h.0.0.1 (e ∙ k)) (λ k. h.0.1 (e ∙ k)) (λ k. h.1 (e ∙ k))
