use Rattle.std.proofs.Common.{◌∙◌, sym}
use Rattle.column_base.specs.Validity.{form_of}
use Rattle.column_core.specs.BoolForm.{bool_with}
use Rattle.column_core.proofs.OptionalRows.{length-bool_rows}
use Rattle.column_core.proofs.boolean.BoolArray.len.Goals as goal

pub returns-clause-rows : goal.returns-clause-rows
returns-clause-rows g c =
    rw (← c.self.view_is) (c.len.ensures ∙ sym (length-bool_rows (bool_with c.self.inside.bits (form_of c.self.inside.validity)) c.self.invariant))
