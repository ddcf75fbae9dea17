use Rattle.std.proofs.Common.{subst}
use Rattle.std.specs.Prelude.{IsSomeAnd, slice_get}
use Rattle.std.specs.Global.{Global}
use Rattle.runend_array.specs.Array.{dtype_of, rows}
use Rattle.typed_columns.specs.Typed.{typed_of}
use Rattle.typed_kernels.specs.Served.{served}
use Rattle.typed_kernels.specs.Views.{IsShownAs}
use Rattle.typed_kernels.specs.declared.views.TypedView.{TypedView}
use Rattle.c_kernels.proofs.TypedRowEndings.{stored_told}
use Rattle.c_kernels.proofs.typed_rows.row_of.Goals as goal

pub returns-in-Stored-clause-told : goal.returns-in-Stored-clause-told
returns-in-Stored-clause-told c =
    let column = c.args.column.now in
    let shows = subst (λ (seen : TypedView Global). IsSomeAnd (slice_get (rows column.array) c.args.row) (λ r. IsShownAs (served (typed_of column)) (dtype_of column.array) r seen)) c.in-Stored.is c.in_ok-view.ensures.row in
    stored_told column c.args.row c.row_value_of.new.text c.row_value_of.result c.in-Stored.view shows c.row_value_of.ensures.told
