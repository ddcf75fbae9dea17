use Rattle.std.proofs.Common.{refl}
use Rattle.column_fields.specs.ValidityViews.{form_in}
use Rattle.runend_array.specs.Lists.{ByRows}
use Rattle.column_bytes.proofs.FlatReads.{rows_found}
use Rattle.column_bytes.proofs.list_views.view_row_validity.Goals as goal

pub returns-clause-found : goal.returns-clause-found
returns-clause-found c =
    let v = c.in_ok-validity.ensures in
    let form = form_in c.args.rows c.in_ok-validity.validity in
    (ByRows form, rows_found c.args.rows c.args.bytes.now (ByRows form) form c.in_ok-validity.rest.now refl v.counted v.found, (v.held, refl))
