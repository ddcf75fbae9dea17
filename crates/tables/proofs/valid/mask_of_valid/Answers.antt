use Rattle.std.proofs.Common.{◌∙◌, List, ap, arith, map, refl, sym, take}
use Rattle.std.proofs.lemmas.List.{take_all}
use Rattle.row_stretches.specs.Masks.{truths_of}
use Rattle.runend_array.specs.Array.{rows}
use Rattle.runend_array.specs.Column.{Column, column_dtype, column_rows}
use Rattle.typed_columns.specs.declared.typed_column.TypedColumn.{TypedColumn}
use Rattle.tables.specs.WithoutNull.{valid_places}
use Rattle.tables.proofs.ValidMasks.{all_true_places, mask_long, masked_more}
use Rattle.tables.proofs.Worked.{count_of}
use Rattle.tables.proofs.valid.mask_of_valid.Goals as goal

pub loop-column-init : goal.loop-column-init
loop-column-init g c = record {
  truths = ap (λ (form : Column). truths_of (column_rows form)) c.all_true-mask.ensures ∙ all_true_places c.args.count;
  dtype = ap column_dtype c.all_true-mask.ensures;
  session = refl;
}

pub valid_too-requires-clause-even : goal.valid_too-requires-clause-even
valid_too-requires-clause-even g c =
    let l = c.loop-column in
    let columns = c.args.columns.now in
    let counted = count_of columns c.args.count l.column-index c.column-item.result c.requires.even (omega arith) c.column-item.is in
    mask_long (rows l.mask) (map (λ (column : TypedColumn _). rows column.array) (take l.column-index columns)) c.args.count l.invariant.truths ∙ sym counted

pub loop-column-preserved : goal.loop-column-preserved
loop-column-preserved g c =
    let l = c.loop-column in
    let columns = c.args.columns.now in
    let column = c.column-item.result in
    let counted = count_of columns c.args.count l.column-index column c.requires.even (omega arith) c.column-item.is in
    record {
      truths = masked_more columns c.args.count l.column-index column (truths_of (rows l.mask)) (truths_of (rows c.in_ok-both.both)) counted (omega arith) c.column-item.is l.invariant.truths c.in_ok-both.ensures.truths;
      dtype = c.in_ok-both.ensures.dtype;
      session = c.in_ok-both.ensures.session ∙ l.invariant.session;
    }

pub returns-clause-truths : goal.returns-clause-truths
returns-clause-truths g c =
    c.loop-column.invariant.truths
    ∙ ap (λ (all : List (TypedColumn _)). valid_places (map (λ (column : TypedColumn _). rows column.array) all) c.args.count) (take_all c.loop-column.column-index c.args.columns.now (omega arith))
