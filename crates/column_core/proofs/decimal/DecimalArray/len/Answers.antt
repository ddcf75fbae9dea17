use Rattle.std.proofs.Common.{◌≡◌, length, arith}
use Rattle.column_base.specs.Validity.{form_of}
use Rattle.column_core.specs.DecimalForm.{decimal_with, decimal_rows}
use Rattle.column_core.proofs.OptionalRows.{length-decimal_rows}
use Rattle.column_core.proofs.decimal.DecimalArray.len.Goals as goal

pub returns-clause-rows : goal.returns-clause-rows
returns-clause-rows g c =
    let form = decimal_with c.self.inside.decimal c.self.inside.values.items (form_of c.self.inside.validity) in
    let rows : length (decimal_rows form) ≡ length c.self.inside.values.items = length-decimal_rows form c.self.invariant in
    rw (← c.self.view_is) (omega arith)
