use Rattle.std.proofs.Common.{◌∙◌, List, Bool, ap, arith, map}
use Rattle.std.specs.Prelude.{is_some}
use Rattle.std.proofs.lemmas.List.{take_all}
use Rattle.column_base.specs.ValidityForm.{NeverNull}
use Rattle.column_core.specs.BoolForm.{BoolForm, bool_with}
use Rattle.column_core.specs.Leaf.{OfTruths, single_rows}
use Rattle.row_stretches.specs.Masks.{truths_of}
use Rattle.runend_array.specs.Array.{rows}
use Rattle.tables.proofs.ValidMasks.{bits_shown, looked_more}
use Rattle.tables.proofs.valid.valid_lists.Goals as goal

pub loop-row-preserved : goal.loop-row-preserved
loop-row-preserved g c =
    looked_more (rows c.args.column.now) c.loop-row.bits c.append.new.self c.loop-row.row c.is_there.result (omega (arith, c.loop-row-test.true, c.len-count.ensures)) c.is_there.ensures c.loop-row.invariant c.in_ok-append.ensures.ok

pub returns-clause-truths : goal.returns-clause-truths
returns-clause-truths g c =
    let all = rows c.args.column.now in
    let bits = c.loop-row.bits in
    ap (λ (form : BoolForm). truths_of (single_rows (OfTruths form))) c.new_unchecked-truths.ensures
    ∙ ap (λ (bits : List Bool). truths_of (single_rows (OfTruths (bool_with bits NeverNull)))) c.freeze.ensures
    ∙ bits_shown bits ∙ c.loop-row.invariant ∙ ap (map is_some) (take_all c.loop-row.row all (omega (arith, c.loop-row-test.false, c.len-count.ensures)))
