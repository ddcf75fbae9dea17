use Rattle.column_core.proofs.OptionalRows.{single-of_range}
use Rattle.column_core.specs.PrimitiveForm.{primitive_rows}
use Rattle.runend_column.proofs.slices.values_between.Goals as goal

-- a part of integers has their rows
pub returns-in-Primitive-clause-part : goal.returns-in-Primitive-clause-part
returns-in-Primitive-clause-part g c =
    let part = c.in_ok-part.ensures in
    rw c.in-Primitive.is record {
      rows = single-of_range (primitive_rows c.in_ok-part.part) (primitive_rows c.in-Primitive.integers) c.args.start c.args.stop part.rows;
      dtype = part.dtype;
      flat = part.normal;
      some = part.empty;
    }
