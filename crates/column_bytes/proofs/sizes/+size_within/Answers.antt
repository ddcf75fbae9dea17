use Rattle.std.proofs.Common.{◌≡◌, ap, arith, length}
use Rattle.std.proofs.lemmas.Result.{err_from_is_err_and}
use Rattle.std.specs.Arc.{arc_value}
use Rattle.column_fields.proofs.Refusals.{same_error}
use Rattle.runend_array.specs.Array.{column_of}
use Rattle.runend_array.specs.Column.{Column, column_of_runs}
use Rattle.column_bytes.specs.Bytes.{column_bytes}
use Rattle.column_bytes.proofs.MessageSizes.{values_within}
use Rattle.column_bytes.proofs.sizes.+size_within.Goals as goal

pub returns-in_err-values-in-RunEnd-clause-past : goal.returns-in_err-values-in-RunEnd-clause-past
returns-in_err-values-in-RunEnd-clause-past g t c =
    let p = err_from_is_err_and c.from_residual.result c.from_residual.ensures.1 in
    let whole : length (column_bytes (column_of c.args.array.now)) ≡ length (column_bytes (column_of_runs (arc_value c.in-RunEnd.runs))) = ap (λ x. length (column_bytes (column_of x))) c.in-RunEnd.is in
    let same = ap (λ r. length (column_bytes (column_of_runs r))) c.deref.ensures in
    let values = ap (λ (x : Column). length (column_bytes x)) c.values.ensures.form in
    rw (p.1, p.2) (λ e. omega (arith, c.in_err-values-in-RunEnd.ensures.past (same_error _ _ e), values, values_within c.deref.result.now, same, whole))
