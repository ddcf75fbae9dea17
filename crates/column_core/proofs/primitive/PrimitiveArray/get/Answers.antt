use Rattle.std.proofs.Common.{◌∙◌, sym}
use Rattle.column_base.specs.Validity.{form_of}
use Rattle.column_base.specs.ValidityForm.{nullability_in}
use Rattle.column_core.specs.Primitive.{primitive_of}
use Rattle.column_core.specs.ScalarView.{sees}
use Rattle.column_core.proofs.OptionalRows.{valid-row, null-row}
use Rattle.column_core.proofs.primitive.PrimitiveArray.get.Goals as goal

pub returns-then-is_valid-clause-row : goal.returns-then-is_valid-clause-row
returns-then-is_valid-clause-row g c =
    let form = primitive_of c.self.inside.values c.self.inside.validity in
    rw (← c.self.view_is)
    (valid-row form c.args.index (sees c.number_view.result) c.self.invariant (rw (← c.self.view_is) at c.requires)
    (sym c.is_valid.ensures ∙ c.if-is_valid.true) c.number_view.ensures.row)

pub returns-then-is_valid-clause-of_type : goal.returns-then-is_valid-clause-of_type
returns-then-is_valid-clause-of_type g c = rw (← c.self.view_is) (c.number_view.ensures.of_type (nullability_in (form_of c.self.inside.validity)))

pub returns-else-is_valid-clause-row : goal.returns-else-is_valid-clause-row
returns-else-is_valid-clause-row g c =
    let form = primitive_of c.self.inside.values c.self.inside.validity in
    rw (← c.self.view_is)
    (null-row form c.args.index c.self.invariant (rw (← c.self.view_is) at c.requires) (sym c.is_valid.ensures ∙ c.if-is_valid.false))
