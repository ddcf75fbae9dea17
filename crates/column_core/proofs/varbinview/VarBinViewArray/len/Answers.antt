use Rattle.std.proofs.Common.{◌≡◌, length, arith}
use Rattle.column_base.specs.Validity.{form_of}
use Rattle.column_core.specs.VarBinForm.{varbin_with, varbin_rows}
use Rattle.column_core.proofs.OptionalRows.{length-varbin_rows}
use Rattle.column_core.proofs.varbinview.VarBinViewArray.len.Goals as goal

pub returns-clause-rows : goal.returns-clause-rows
returns-clause-rows g c =
    let form = varbin_with c.self.inside.kind c.self.inside.views.items c.self.inside.buffers.items (form_of c.self.inside.validity) in
    let rows : length (varbin_rows form) ≡ length c.self.inside.views.items = length-varbin_rows form c.self.invariant.counted in
    rw (← c.self.view_is) (omega arith)
