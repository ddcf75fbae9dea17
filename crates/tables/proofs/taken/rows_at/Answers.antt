use Rattle.std.proofs.Common.{◌≡◌, ◌∙◌, List, Option, ap, length, pos, refl, subst, sym}
use Rattle.column_base.specs.declared.dtype.DType.{DType}
use Rattle.column_base.specs.Types.{nullability_of, with_nullability as dtype_with}
use Rattle.column_base.specs.Validity.{form_of, validity_flags}
use Rattle.column_base.specs.ValidityForm.{nullability_in}
use Rattle.column_core.specs.Optionals.{optionals}
use Rattle.column_core.specs.Value.{Value}
use Rattle.column_ops.specs.Nullable.{either_nullable}
use Rattle.column_ops.specs.Take.{ArePositions, take_rows as rows_at_indices}
use Rattle.runend_array.specs.Array.{dtype_of, rows}
use Rattle.runend_array.specs.Column.{column_dtype, column_of_runs, column_rows}
use Rattle.runend_column.proofs.ComputedRows.{ok_then}
use Rattle.runend_select.specs.Indices.{optional_indices}
use Rattle.tables.proofs.Positions.{items_in_bounds, same_positions}
use Rattle.tables.proofs.taken.rows_at.Goals as goal

pub take_indices_unchecked-requires-clause-in_bounds : goal.take_indices_unchecked-requires-clause-in_bounds
take_indices_unchecked-requires-clause-in_bounds g c =
    let positions = c.args.positions.now in
    let marks = validity_flags c.args.places.now (length positions) in
    let own : rows c.args.column.now ≡ column_rows (column_of_runs c.deref.result.now) = rw (c.in-RunEnd.is, c.deref.ensures) refl in
    items_in_bounds positions marks _ (subst (λ (all : List (Option Value)). ArePositions (optionals positions marks) (length all)) own c.requires.within)

pub returns-in-RunEnd-clause-rows : goal.returns-in-RunEnd-clause-rows
returns-in-RunEnd-clause-rows g c =
    let positions = c.args.positions.now in
    let marks = validity_flags c.args.places.now (length positions) in
    let own : rows c.args.column.now ≡ column_rows (column_of_runs c.deref.result.now) = rw (c.in-RunEnd.is, c.deref.ensures) refl in
    ok_then c.take_indices_unchecked.result _ _ (λ taken is.
    is ∙ ap (λ (all : List (Option Value)). rows_at_indices all (optional_indices (λ n. pos n) positions marks)) (sym own)
    ∙ ap (rows_at_indices (rows c.args.column.now)) (same_positions positions marks)) c.take_indices_unchecked.ensures.rows

pub returns-in-RunEnd-clause-dtype : goal.returns-in-RunEnd-clause-dtype
returns-in-RunEnd-clause-dtype g c =
    let own : dtype_of c.args.column.now ≡ column_dtype (column_of_runs c.deref.result.now) = rw (c.in-RunEnd.is, c.deref.ensures) refl in
    ok_then c.take_indices_unchecked.result _ _ (λ taken is.
    is ∙ ap (λ (t : DType). dtype_with t (either_nullable (nullability_of t) (nullability_in (form_of c.args.places.now)))) (sym own)) c.take_indices_unchecked.ensures.dtype
