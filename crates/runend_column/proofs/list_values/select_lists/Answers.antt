use Rattle.std.proofs.Common.{◌∙◌, ap}
use Rattle.column_base.specs.Mask.{mask_bits}
use Rattle.runend_array.specs.Lists.{list_rows}
use Rattle.runend_column.proofs.FilterFaults.{first-all_selected, first-none_selected}
use Rattle.runend_column.proofs.ComputedRows.{ok_then2}
use Rattle.runend_column.proofs.list_values.select_lists.Goals as goal

pub returns-in-AllTrue-clause-only : goal.returns-in-AllTrue-clause-only
returns-in-AllTrue-clause-only g c = c.first_lists.ensures.only

pub returns-in-AllTrue-clause-made : goal.returns-in-AllTrue-clause-made
returns-in-AllTrue-clause-made g c =
    let all = first-all_selected (mask_bits c.args.mask.now) c.in-AllTrue.field-0 c.len.result (list_rows c.args.lists.now) (ap mask_bits c.in-AllTrue.is) c.requires.masked c.len.ensures.rows in
    ok_then2 c.first_lists.result _ _ _ (λ kept rows dtype. record { rows = rows ∙ all; dtype = dtype; form = tt }) c.first_lists.ensures.rows c.first_lists.ensures.dtype

pub returns-in-AllFalse-clause-only : goal.returns-in-AllFalse-clause-only
returns-in-AllFalse-clause-only g c = c.first_lists-in-AllFalse.ensures.only

pub returns-in-AllFalse-clause-made : goal.returns-in-AllFalse-clause-made
returns-in-AllFalse-clause-made g c =
    let none = first-none_selected (mask_bits c.args.mask.now) c.in-AllFalse.field-0 (list_rows c.args.lists.now) (ap mask_bits c.in-AllFalse.is) in
    ok_then2 c.first_lists-in-AllFalse.result _ _ _ (λ kept rows dtype. record { rows = rows ∙ none; dtype = dtype; form = tt }) c.first_lists-in-AllFalse.ensures.rows c.first_lists-in-AllFalse.ensures.dtype

pub returns-in-Values-clause-only : goal.returns-in-Values-clause-only
returns-in-Values-clause-only g c = c.lists_at_bits.ensures.only

pub returns-in-Values-clause-made : goal.returns-in-Values-clause-made
returns-in-Values-clause-made g c = rw c.in-Values.is c.lists_at_bits.ensures.made
