use Rattle.std.proofs.Common.{ℕ, ◌<◌}
use Rattle.column_base.specs.Validity.{form_of}
use Rattle.column_core.specs.declared.varbinview.VarBinKind.TheVariants.{Utf8}
use Rattle.column_core.specs.VarBinForm.{varbin_with, IsValidRow}
use Rattle.column_core.specs.VarBinFault.{IsWithinAt}
use Rattle.column_core.proofs.varbinview.first_outside.Given as goal

abbrev pub invariant-loop-row : goal.invariant-loop-row
invariant-loop-row g l = let form = varbin_with Utf8 l.views l.buffers (form_of l.validity) in (k : ℕ) → k < l.row → IsValidRow form k → IsWithinAt form k
