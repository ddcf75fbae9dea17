-- Rows whose nulls are filled, where the scalar fills.
use Rattle.std.proofs.Common.{◌≡◌, ◌∙◌, List, Option, Ok, Err, sym, ap}
use Rattle.std.specs.Prelude.{IfOk, IfSome, Result}
use Rattle.column_base.specs.declared.dtype.DType.{DType}
use Rattle.column_base.specs.declared.error.VortexError.{VortexError}
use Rattle.column_core.specs.Refusal.{IsRefusedBy}
use Rattle.column_core.specs.ScalarForm.{ScalarForm}
use Rattle.column_core.specs.Value.{Single, Value}
use Rattle.column_ops.specs.Fill.{fill_fault, fill_rows}
use Rattle.runend_array.specs.Array.{rows}
use Rattle.runend_array.specs.declared.array_ref.ArrayRef.{ArrayRef}
use Rattle.runend_column.proofs.FilledRows.{filling}
use Rattle.runend_commands.specs.Meaning.{rows_filled}

-- a scalar that is not refused has a value, which is the one that fills
pub filled_if_some : {A : Type 0} (dtype : DType) (scalar : ScalarForm) (before : List (Option Value)) (result : Result (ArrayRef A) VortexError)
    → IsRefusedBy (fill_fault dtype scalar) result → IfOk result (λ filled. IfSome scalar.value (λ flat. rows filled ≡ fill_rows before (Single flat)))
    → IfOk result (λ filled. rows filled ≡ rows_filled before scalar.value)
filled_if_some dtype scalar before (Ok filled) none made =
    let by = filling dtype scalar (λ flat. rows filled ≡ fill_rows before (Single flat)) none made in
    by.2 ∙ ap (rows_filled before) (sym by.1)
filled_if_some dtype scalar before (Err error) why made = tt
