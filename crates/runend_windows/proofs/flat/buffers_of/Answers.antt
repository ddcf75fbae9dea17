use Rattle.std.proofs.Common.{sym, ap, ◌∙◌}
use Rattle.column_core.specs.VarBinForm.{VarBinForm}
use Rattle.runend_windows.proofs.flat.buffers_of.Goals as goal

pub returns-clause-shared : goal.returns-clause-shared
returns-clause-shared g c = sym (ap (λ (f : VarBinForm). f.buffers) c.into_parts-views.ensures.whole) ∙ c.in_ok-no_row.ensures.shared
