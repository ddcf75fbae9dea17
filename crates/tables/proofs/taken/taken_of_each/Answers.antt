use Rattle.std.proofs.Common.{◌∙◌, ℕ, ℤ, List, Option, ap, length, map, subst, sym}
use Rattle.column_base.specs.declared.dtype.Nullability.{Nullability}
use Rattle.column_base.specs.Types.{nullability_of, with_nullability as dtype_with}
use Rattle.column_base.specs.ValidityForm.{HasLength, flags}
use Rattle.column_base.specs.Validity.{form_of}
use Rattle.column_core.specs.Optionals.{optionals}
use Rattle.column_core.specs.PrimitiveForm.{optional_numbers}
use Rattle.column_ops.specs.Nullable.{either_nullable}
use Rattle.column_ops.specs.Take.{ArePositions, position_numbers, take_fault, take_rows as rows_at_indices}
use Rattle.runend_array.specs.Array.{dtype_of, rows}
use Rattle.runend_column.proofs.ComputedRows.{ok_then}
use Rattle.tables.proofs.TableRows.{short_passed_on}
use Rattle.tables.proofs.taken.taken_of_each.Goals as goal

pub each_at-taken-requires-clause-counted : goal.each_at-taken-requires-clause-counted
each_at-taken-requires-clause-counted g c =
    subst (λ (items : List ℕ). HasLength (form_of c.in_ok-positions.places) (length items)) (sym c.as_slice.ensures.value) c.in_ok-positions.ensures.positions.fits

pub each_at-taken-requires-clause-within : goal.each_at-taken-requires-clause-within
each_at-taken-requires-clause-within g c =
    let form = form_of c.in_ok-positions.places in
    subst (λ (xs : List ℕ). ArePositions (optionals xs (flags form (length xs))) c.args.count) (sym c.as_slice.ensures.value) c.in_ok-positions.ensures.positions.within

pub returns-clause-rows : goal.returns-clause-rows
returns-clause-rows g c =
    let form = form_of c.in_ok-positions.places in
    let shown = ap (λ (xs : List ℕ). position_numbers (optionals xs (flags form (length xs)))) c.as_slice.ensures.value ∙ c.in_ok-positions.ensures.positions.shown in
    ok_then c.each_at-taken.result _ _ (λ taken is. is ∙ ap (λ (indices : List (Option ℤ)). map (λ column. rows_at_indices (rows column.array) indices) c.args.columns.now) shown) c.each_at-taken.ensures.rows

pub returns-clause-dtypes : goal.returns-clause-dtypes
returns-clause-dtypes g c =
    let nullable = ap (λ (n : Nullability). map (λ column. dtype_with (dtype_of column.array) (either_nullable (nullability_of (dtype_of column.array)) n)) c.args.columns.now) c.in_ok-positions.ensures.positions.nullability in
    ok_then c.each_at-taken.result _ _ (λ taken is. is ∙ nullable) c.each_at-taken.ensures.dtypes

pub returns-in_err-positions-clause-only : goal.returns-in_err-positions-clause-only
returns-in_err-positions-clause-only g c =
    short_passed_on (take_fault (optional_numbers c.args.indices.now) c.args.count) c.in_err-positions.field-0.0 c.from_residual.result c.requires.within c.from_residual.ensures.1 c.in_err-positions.ensures.refused
