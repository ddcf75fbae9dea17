use Rattle.std.proofs.Common.{◌≡◌, ◌∙◌, Bool, List, None, ap, length, map, sym, true}
use Rattle.std.specs.Prelude.{is_some}
use Rattle.std.proofs.lemmas.List.{length-map}
use Rattle.column_base.specs.declared.dtype.DType.{DType}
use Rattle.column_ops.specs.Comparing.{compare_dtype}
use Rattle.row_stretches.specs.Masks.{is_true, truths_of}
use Rattle.runend_array.specs.Array.{dtype_of, rows}
use Rattle.runend_column.proofs.ComputedRows.{ok_then}
use Rattle.runend_pairs.specs.Faults.{boolean_fault}
use Rattle.runend_pairs.specs.Zipped.{zip_rows}
use Rattle.tables.proofs.SelectedRows.{only_short, same_counts}
use Rattle.tables.proofs.ValidMasks.{both_bits, both_truths}
use Rattle.tables.proofs.valid.and_valid.Goals as goal

pub returns-clause-only : goal.returns-clause-only
returns-clause-only g c =
    let mask = c.args.mask.now in
    let valid = c.in_ok-valid.valid in
    let long = sym (length-map (rows valid) is_true) ∙ ap length c.in_ok-valid.ensures.truths ∙ length-map (rows c.args.column.now) is_some ∙ sym c.requires.even in
    let none : boolean_fault (dtype_of mask) (dtype_of valid) (length (rows mask)) (length (rows valid)) ≡ None =
    (λ i. boolean_fault (c.requires.truths i) (c.in_ok-valid.ensures.dtype i) (length (rows mask)) (long i)) ∙ same_counts (length (rows mask)) in
    only_short _ c.boolean-both.result none c.boolean-both.ensures.refused

pub returns-clause-truths : goal.returns-clause-truths
returns-clause-truths g c =
    let mask = c.args.mask.now in
    let valid = c.in_ok-valid.valid in
    ok_then c.boolean-both.result _ _ (λ both answers.
    ap truths_of answers.shows ∙ both_truths (rows mask) (rows valid) ∙ ap (zip_rows both_bits (truths_of (rows mask))) c.in_ok-valid.ensures.truths) c.boolean-both.ensures.answers

pub returns-clause-dtype : goal.returns-clause-dtype
returns-clause-dtype g c =
    ok_then c.boolean-both.result _ _ (λ both answers. answers.typed ∙ (λ i. compare_dtype (c.requires.truths i) (c.in_ok-valid.ensures.dtype i))) c.boolean-both.ensures.answers
