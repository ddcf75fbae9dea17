use Rattle.std.proofs.Common.{◌∙◌, length, ap, arith}
use Rattle.column_core.specs.Kinds.{list_fault}
use Rattle.runend_array.specs.Array.{dtype_of, rows}
use Rattle.runend_builder.specs.Builder.{Built}
use Rattle.runend_script.proofs.RowsBehind.{own_refused}
use Rattle.runend_script.proofs.lengthened.builder_of.Goals as goal

pub returns-in-Err-clause-refused : goal.returns-in-Err-clause-refused
returns-in-Err-clause-refused g c =
    let dtype = dtype_of c.args.column.now in
    let count = length (rows c.args.column.now) in
    own_refused c.in_ok-builder.builder dtype count (list_fault dtype) c.in-Err.error (ap (λ (b : Built). b.dtype) c.in_ok-builder.ensures.empty ∙ c.dtype.ensures)
    (ap (λ (b : Built). b.rows) c.in_ok-builder.ensures.empty) (omega (arith, c.len.type_inv, c.len.ensures)) c.in-Err.ensures.refused
