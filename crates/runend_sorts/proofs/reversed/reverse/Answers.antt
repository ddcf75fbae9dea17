use Rattle.std.proofs.Common.{◌≡◌, ◌∙◌, ap, refl, reverse, sym}
use Rattle.std.specs.Prelude.{IsErrOf}
use Rattle.std.proofs.lemmas.Result.{IfOk-weaker}
use Rattle.column_core.specs.Kinds.{list_fault}
use Rattle.runend_array.specs.Array.{column_of, dtype_of, rows}
use Rattle.runend_sorts.proofs.Answered.{dtype_made, order_made, rows_made}
use Rattle.runend_sorts.proofs.Arrays.{constant_array, first_none, no_error, no_lists, other_array, refused_none}
use Rattle.runend_sorts.proofs.NewOrders.{reversed_constant}
use Rattle.runend_sorts.proofs.reversed.reverse.Goals as goal

pub returns-in-Constant-clause-rows : goal.returns-in-Constant-clause-rows
returns-in-Constant-clause-rows g c =
    let array = c.args.array.now in
    IfOk-weaker c.try_clone.result (λ made. column_of made ≡ column_of array) (λ made. rows made ≡ reverse (rows array))
    (λ made same. reversed_constant (column_of array) (column_of made) (constant_array array c.in-Constant.field-0 c.in-Constant.is) same) c.try_clone.ensures.form

pub returns-in_default-array : goal.returns-in_default-array
returns-in_default-array g c =
    let array = c.args.array.now in
    let none = ap list_fault (sym c.dtype.ensures) ∙ sym c.fault_of_lists.ensures ∙ no_error c.fault_of_lists.result c.in_default.not-Some in
    let turned = reverse (rows array) in
    let made = c.reversed_runs.result in
    let encoded = c.reversed_runs.ensures.encoded in
    record {
      refused = refused_none (list_fault (dtype_of array)) made none c.reversed_runs.ensures.only;
      first = first_none (λ error. IsErrOf made error) (list_fault (dtype_of array)) none;
      rows = rows_made column_of made turned (dtype_of array) encoded;
      dtype = dtype_made column_of made turned (dtype_of array) encoded;
      form = order_made column_of made turned (dtype_of array) encoded (column_of array) (other_array array c.in_default-array.not-Constant) (no_lists (dtype_of array) none) refl;
      session = c.reversed_runs.ensures.session;
    }
