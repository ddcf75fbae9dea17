use Rattle.std.proofs.Common.{◌≡◌, ◌∙◌, ◌≤◌, length, min, replicate, ap, sym, subst, arith}
use Rattle.std.specs.Prelude.{IfOk, option_map, slice_range}
use Rattle.std.proofs.lemmas.List.{length-replicate}
use Rattle.column_base.specs.Types.{nullability_of, with_nullability as dtype_with}
use Rattle.column_base.specs.ValidityForm.{nullability_in}
use Rattle.column_base.specs.Validity.{form_of, validity_flags}
use Rattle.column_core.specs.Optionals.{optionals}
use Rattle.column_core.specs.Value.{Single}
use Rattle.column_ops.specs.Nullable.{either_nullable}
use Rattle.column_ops.specs.Take.{ArePositions, position_numbers, take_rows}
use Rattle.runend_array.specs.Array.{dtype_of, rows}
use Rattle.runend_array.specs.Column.{column_rows}
use Rattle.runend_array.specs.Canonical.{canonical_column}
use Rattle.runend_column.specs.Computed.{IsComputedAs}
use Rattle.runend_column.proofs.ConstantRows.{slice_range-constant, taken-constant, within-first}
use Rattle.runend_column.proofs.PassedOn.{no_value, only_error}
use Rattle.runend_column.proofs.constant_rows.take_constant.Goals as goal

pub returns-in_err-one-clause-only : goal.returns-in_err-one-clause-only
returns-in_err-one-clause-only g c = only_error c.from_residual.result c.in_err-one.field-0.0 _ c.from_residual.ensures.1 c.in_err-one.ensures.only

pub returns-in_err-one-clause-made : goal.returns-in_err-one-clause-made
returns-in_err-one-clause-made g c = no_value _ c.from_residual.result c.from_residual.ensures.0

pub rows_between-requires-clause-within : goal.rows_between-requires-clause-within
rows_between-requires-clause-within g c =
    let n = c.args.constant.now.count in
    let v = option_map Single c.args.constant.now.value in
    let long : length (rows c.args.values.now) ≡ n = ap (λ column. length (column_rows column)) c.requires.constant ∙ length-replicate n v in
    omega (arith, long, c.min.ensures, c.len.ensures)

pub take_first-taken-requires-clause-within : goal.take_first-taken-requires-clause-within
take_first-taken-requires-clause-within g c =
    let n = c.args.constant.now.count in
    let v = option_map Single c.args.constant.now.value in
    let values = c.args.values.now in
    let one = canonical_column c.in_ok-one.one in
    let positions = c.args.positions.now in
    let marks = validity_flags c.args.places.now (length positions) in
    let long : length (rows values) ≡ n = ap (λ column. length (column_rows column)) c.requires.constant ∙ length-replicate n v in
    let rows_are : rows values ≡ replicate n v = ap column_rows c.requires.constant in
    let least : c.min.result ≡ min n 1 = omega (arith, c.min.ensures, c.len.ensures) in
    let shown : column_rows one ≡ replicate (min n 1) v = c.in_ok-one.ensures.part.rows ∙ ap (λ rs. slice_range rs 0 c.min.result) rows_are
    ∙ slice_range-constant v n c.min.result (omega (arith, least)) ∙ ap (λ m. replicate m v) least in
    let within : ArePositions (optionals positions marks) n = subst (λ m. ArePositions (optionals positions marks) m) long c.requires.within in
    subst (λ m. ArePositions (optionals (replicate (length positions) 0) marks) m) (sym (ap length shown ∙ length-replicate (min n 1) v)) (within-first n positions marks within)

pub returns-clause-only : goal.returns-clause-only
returns-clause-only g c = c.take_first-taken.ensures.only

pub returns-clause-made : goal.returns-clause-made
returns-clause-made g c =
    let n = c.args.constant.now.count in
    let v = option_map Single c.args.constant.now.value in
    let values = c.args.values.now in
    let one = canonical_column c.in_ok-one.one in
    let positions = c.args.positions.now in
    let marks = validity_flags c.args.places.now (length positions) in
    let long : length (rows values) ≡ n = ap (λ column. length (column_rows column)) c.requires.constant ∙ length-replicate n v in
    let rows_are : rows values ≡ replicate n v = ap column_rows c.requires.constant in
    let least : c.min.result ≡ min n 1 = omega (arith, c.min.ensures, c.len.ensures) in
    let shown : column_rows one ≡ replicate (min n 1) v = c.in_ok-one.ensures.part.rows ∙ ap (λ rs. slice_range rs 0 c.min.result) rows_are
    ∙ slice_range-constant v n c.min.result (omega (arith, least)) ∙ ap (λ m. replicate m v) least in
    let within : ArePositions (optionals positions marks) n = subst (λ m. ArePositions (optionals positions marks) m) long c.requires.within in
    let null = nullability_in (form_of c.args.places.now) in
    let zeros = position_numbers (optionals (replicate (length positions) 0) marks) in
    let same : take_rows (column_rows one) zeros ≡ take_rows (rows values) (position_numbers (optionals positions marks)) =
    ap (λ rs. take_rows rs zeros) shown ∙ taken-constant v n positions marks within ∙ sym (ap (λ rs. take_rows rs (position_numbers (optionals positions marks))) rows_are) in
    let of_type = subst (λ d. IfOk c.take_first-taken.result (λ taken. IsComputedAs (take_rows (column_rows one) zeros) (dtype_with d (either_nullable (nullability_of d) null)) (canonical_column taken)))
    c.in_ok-one.ensures.part.dtype c.take_first-taken.ensures.made in
    subst (λ rs. IfOk c.take_first-taken.result (λ taken. IsComputedAs rs (dtype_with (dtype_of values) (either_nullable (nullability_of (dtype_of values)) null)) (canonical_column taken))) same of_type
