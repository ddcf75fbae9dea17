use Rattle.std.proofs.Common.{◌≡◌, ◌∙◌, ℕ, ap, length, replicate, sym}
use Rattle.std.specs.Prelude.{option_map}
use Rattle.std.proofs.lemmas.List.{length-replicate}
use Rattle.column_base.specs.Mask.{mask_bits}
use Rattle.column_core.specs.Value.{Single}
use Rattle.column_ops.specs.Filter.{filter_rows}
use Rattle.runend_array.specs.Array.{rows}
use Rattle.runend_array.specs.Column.{Constant, OfConstant, column_rows}
use Rattle.runend_array.specs.declared.array_ref.ArrayRef.{ArrayRef}
use Rattle.runend_column.proofs.ConstantRows.{selected-constant}
use Rattle.tables.proofs.columns.selected.Goals as goal

pub returns-in_ok-kept-in-Constant-clause-rows : goal.returns-in_ok-kept-in-Constant-clause-rows
returns-in_ok-kept-in-Constant-clause-rows g c =
    let n = c.in-Constant.constant.count in
    let v = option_map Single c.in-Constant.constant.value in
    let masked : length (mask_bits c.args.mask.now) ≡ n = c.requires.fits ∙ ap (λ (array : ArrayRef g.row.A.Denot). length (rows array)) c.in-Constant.is ∙ length-replicate n v in
    ap (λ (k : Constant). column_rows (OfConstant k)) c.in_ok-kept-in-Constant.ensures.form ∙ ap (λ (k : ℕ). replicate k v) c.true_count.ensures
    ∙ sym (selected-constant v n (mask_bits c.args.mask.now) masked) ∙ ap (λ (array : ArrayRef g.row.A.Denot). filter_rows (mask_bits c.args.mask.now) (rows array)) (sym c.in-Constant.is)
