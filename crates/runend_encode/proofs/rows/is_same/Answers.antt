use Rattle.std.proofs.Common.{◌∙◌, length, refl, ap, arith}
use Rattle.column_base.specs.ValidityForm.{ValidityForm, flag_at}
use Rattle.column_base.proofs.ValidityRows.{has_row}
use Rattle.column_core.specs.ScalarView.{sees}
use Rattle.column_core.specs.VarBinForm.{varbin_rows}
use Rattle.column_core.proofs.OptionalRows.{rows_within_views}
use Rattle.runend_encode.proofs.RowTests.{same-by_view, same-by_views}
use Rattle.runend_encode.proofs.rows.is_same.Goals as goal

pub are_same_views-shared-requires-clause-left : goal.are_same_views-shared-requires-clause-left
are_same_views-shared-requires-clause-left g c = let few = rows_within_views c.args.column.now in rw c.views.ensures.stored (omega arith)

pub are_same_views-shared-requires-clause-right : goal.are_same_views-shared-requires-clause-right
are_same_views-shared-requires-clause-right g c = let few = rows_within_views c.args.column.now in rw c.views.ensures.stored (omega arith)

pub is_valid-requires : goal.is_valid-requires
is_valid-requires g c =
    let form = c.args.column.now in
    let few = rows_within_views form in
    rw c.validity-validity.ensures.form (has_row form.validity (length form.views) c.args.left c.validity-validity.ensures.counted (omega arith))

pub is_valid-requires-2 : goal.is_valid-requires-2
is_valid-requires-2 g c =
    let form = c.args.column.now in
    let few = rows_within_views form in
    rw c.validity-validity.ensures.form (has_row form.validity (length form.views) c.args.right c.validity-validity.ensures.counted (omega arith))

pub get-requires : goal.get-requires
get-requires g c = let few = rows_within_views c.args.column.now in omega arith

pub get-requires-2 : goal.get-requires-2
get-requires-2 g c = let few = rows_within_views c.args.column.now in omega arith

pub returns-then-are_all : goal.returns-then-are_all
returns-then-are_all g c =
    let form = c.args.column.now in
    let few = rows_within_views form in
    let all = c.if-are_all.true in
    let same = rw c.views.ensures.stored at (c.are_same_views-shared.ensures.0 (c.are_all.ensures.third all)) in
    let shown =
    same-by_view form c.args.left c.args.right c.is_valid.result c.is_valid-2.result c.validity-validity.ensures.counted (omega arith) (omega arith)
    (c.is_valid.ensures ∙ ap (λ (f : ValidityForm). flag_at f c.args.left) c.validity-validity.ensures.form) (c.is_valid-2.ensures ∙ ap (λ (f : ValidityForm). flag_at f c.args.right) c.validity-validity.ensures.form)
    (c.are_all.ensures.first all) (c.are_all.ensures.second all) same in (
      (λ told. shown),
      (λ is. refl),
    )

pub returns : goal.returns
returns g c =
    same-by_views (varbin_rows c.args.column.now) c.args.left c.args.right (sees c.get.result) (sees c.get-2.result) c.is_same_row.result
    c.get.ensures.row c.get-2.ensures.row c.is_same_row.ensures
