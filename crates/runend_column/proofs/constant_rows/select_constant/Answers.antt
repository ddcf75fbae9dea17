use Rattle.std.proofs.Common.{◌≡◌, ◌∙◌, ◌≤◌, true, length, min, replicate, ap, sym, subst, arith}
use Rattle.std.specs.Prelude.{IfOk, option_map, slice_range}
use Rattle.std.proofs.lemmas.List.{length-replicate}
use Rattle.column_base.specs.Mask.{mask_bits}
use Rattle.column_core.specs.Value.{Single}
use Rattle.column_ops.specs.Filter.{filter_rows}
use Rattle.column_ops.proofs.SelectedRows.{filter_rows-all}
use Rattle.runend_array.specs.Array.{dtype_of, rows}
use Rattle.runend_array.specs.Column.{column_rows}
use Rattle.runend_array.specs.Canonical.{canonical_column}
use Rattle.runend_column.specs.Computed.{IsComputedAs}
use Rattle.runend_column.proofs.ConstantRows.{few_true, selected-constant, slice_range-constant}
use Rattle.runend_column.proofs.PassedOn.{no_value, only_error}
use Rattle.runend_column.proofs.constant_rows.select_constant.Goals as goal

pub returns-in_err-flat-clause-only : goal.returns-in_err-flat-clause-only
returns-in_err-flat-clause-only g c = only_error c.from_residual.result c.in_err-flat.field-0.0 _ c.from_residual.ensures.1 c.in_err-flat.ensures.only

pub returns-in_err-flat-clause-made : goal.returns-in_err-flat-clause-made
returns-in_err-flat-clause-made g c = no_value _ c.from_residual.result c.from_residual.ensures.0

pub rows_between-requires-clause-within : goal.rows_between-requires-clause-within
rows_between-requires-clause-within g c = omega (arith, c.requires.masked, c.true_count-count.ensures, few_true (mask_bits c.args.mask.now))

pub select_flat-kept-requires : goal.select_flat-kept-requires
select_flat-kept-requires g c =
    let n = c.args.constant.now.count in
    let v = option_map Single c.args.constant.now.value in
    let values = c.args.values.now in
    let bits = mask_bits c.args.mask.now in
    let count = c.true_count-count.result in
    let flat = canonical_column c.in_ok-flat.flat in
    let long : length (rows values) ≡ n = ap (λ column. length (column_rows column)) c.requires.constant ∙ length-replicate n v in
    let rows_are : rows values ≡ replicate n v = ap column_rows c.requires.constant in
    let few : count ≤ n = omega (arith, long, c.requires.masked, c.true_count-count.ensures, few_true bits) in
    let shown : column_rows flat ≡ replicate count v = c.in_ok-flat.ensures.part.rows ∙ ap (λ rs. slice_range rs 0 count) rows_are ∙ slice_range-constant v n count few in
    let counted : length (column_rows flat) ≡ count = ap length shown ∙ length-replicate count v in
    record { masked = length-replicate count true ∙ sym counted }

pub returns-clause-only : goal.returns-clause-only
returns-clause-only g c = c.select_flat-kept.ensures.only

pub returns-clause-made : goal.returns-clause-made
returns-clause-made g c =
    let n = c.args.constant.now.count in
    let v = option_map Single c.args.constant.now.value in
    let values = c.args.values.now in
    let bits = mask_bits c.args.mask.now in
    let count = c.true_count-count.result in
    let flat = canonical_column c.in_ok-flat.flat in
    let long : length (rows values) ≡ n = ap (λ column. length (column_rows column)) c.requires.constant ∙ length-replicate n v in
    let rows_are : rows values ≡ replicate n v = ap column_rows c.requires.constant in
    let few : count ≤ n = omega (arith, long, c.requires.masked, c.true_count-count.ensures, few_true bits) in
    let shown : column_rows flat ≡ replicate count v = c.in_ok-flat.ensures.part.rows ∙ ap (λ rs. slice_range rs 0 count) rows_are ∙ slice_range-constant v n count few in
    let counted : length (column_rows flat) ≡ count = ap length shown ∙ length-replicate count v in
    let same : filter_rows (replicate count true) (column_rows flat) ≡ filter_rows bits (rows values) =
    filter_rows-all count (column_rows flat) (sym counted) ∙ shown ∙ ap (λ k. replicate k v) c.true_count-count.ensures
    ∙ sym (ap (filter_rows bits) rows_are ∙ selected-constant v n bits (c.requires.masked ∙ long)) in
    let of_type = subst (λ d. IfOk c.select_flat-kept.result (λ kept. IsComputedAs (filter_rows (replicate count true) (column_rows flat)) d (canonical_column kept)))
    c.in_ok-flat.ensures.part.dtype c.select_flat-kept.ensures.made in
    subst (λ rs. IfOk c.select_flat-kept.result (λ kept. IsComputedAs rs (dtype_of values) (canonical_column kept))) same of_type
