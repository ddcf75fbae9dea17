use Rattle.std.proofs.Common.{◌≡◌, ◌∙◌, ap, length, Option}
use Rattle.std.specs.Prelude.{option_map}
use Rattle.std.proofs.lemmas.List.{length-replicate}
use Rattle.column_core.specs.ScalarForm.{ScalarForm}
use Rattle.column_core.specs.Value.{FlatValue, Single}
use Rattle.column_ops.specs.CompareFault.{compare_scalar_fault}
use Rattle.column_ops.specs.Comparing.{compare_dtype, compare_with}
use Rattle.runend_array.specs.Array.{dtype_of, rows}
use Rattle.runend_array.specs.Column.{OfConstant, column_rows}
use Rattle.runend_map.proofs.ComparedRows.{constant_rows}
use Rattle.runend_map.proofs.KeptRows.{if_ok}
use Rattle.runend_map.proofs.OneKind.{no_column_fault}
use Rattle.runend_commands.proofs.ComparedColumns.{only_short}
use Rattle.runend_commands.proofs.compute.comparisons.truths_beside.Goals as goal

pub returns-clause-only : goal.returns-clause-only
returns-clause-only g c =
    let right = c.args.right.now in
    let kinds = (no_column_fault (dtype_of c.args.column.now) right.dtype (length (rows c.args.column.now)) (length (column_rows (OfConstant right))) c.requires.comparable).0 in
    only_short _ c.compare_scalar.result (ap (λ (s : ScalarForm). compare_scalar_fault (dtype_of c.args.column.now) s.dtype) c.scalar.ensures ∙ kinds) c.compare_scalar.ensures.refused

pub returns-clause-rows : goal.returns-clause-rows
returns-clause-rows g c =
    let right = c.args.right.now in
    let left = rows c.args.column.now in
    let as_many = (no_column_fault (dtype_of c.args.column.now) right.dtype (length left) (length (column_rows (OfConstant right))) c.requires.comparable).1 in
    let counted : length left ≡ right.count = as_many ∙ length-replicate right.count (option_map (λ (v : FlatValue). Single v) right.value) in
    if_ok c.compare_scalar.result (λ truths same.
    same ∙ ap (λ (s : ScalarForm). compare_with c.args.operator left (option_map (λ (v : FlatValue). Single v) s.value)) c.scalar.ensures ∙ constant_rows c.args.operator left right counted) c.compare_scalar.ensures.rows

pub returns-clause-dtype : goal.returns-clause-dtype
returns-clause-dtype g c =
    if_ok c.compare_scalar.result (λ truths same. same ∙ ap (λ (s : ScalarForm). compare_dtype (dtype_of c.args.column.now) s.dtype) c.scalar.ensures) c.compare_scalar.ensures.dtype
