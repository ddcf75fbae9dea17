use Rattle.std.proofs.Common.{◌∙◌, sym}
use Rattle.column_core.specs.Primitive.{primitive_of}
use Rattle.column_core.proofs.OptionalRows.{length-primitive_rows}
use Rattle.column_core.proofs.primitive.PrimitiveArray.len.Goals as goal

pub returns-clause-rows : goal.returns-clause-rows
returns-clause-rows g c =
    rw (← c.self.view_is) (c.len.ensures ∙ sym (length-primitive_rows (primitive_of c.self.inside.values c.self.inside.validity) c.self.invariant))
