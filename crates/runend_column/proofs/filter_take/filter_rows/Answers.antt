use Rattle.std.proofs.Common.{◌∙◌, length, subst, sym, ap}
use Rattle.column_base.specs.Mask.{mask_bits}
use Rattle.runend_array.specs.Array.{rows}
use Rattle.runend_array.specs.Column.{column_dtype, column_rows}
use Rattle.runend_array.specs.Encoding.{IsComputedFlat}
use Rattle.runend_column.proofs.FilterFaults.{fault_here, no_fault}
use Rattle.runend_column.proofs.ComputedRows.{ok_then}
use Rattle.runend_column.proofs.PassedOn.{no_value, refused_by_none}
use Rattle.runend_column.proofs.filter_take.filter_rows.Goals as goal

pub returns-then-len-clause-refused : goal.returns-then-len-clause-refused
returns-then-len-clause-refused g c =
    fault_here (length (mask_bits c.args.mask.now)) (length (rows c.args.array.now)) c.len-then-len.result c.len-then-len-2.result
    (λ same. c.if-len.true (c.len.ensures ∙ same ∙ sym c.len-2.ensures)) c.len-then-len.ensures c.len-then-len-2.ensures

pub returns-in_err-kept-clause-rows : goal.returns-in_err-kept-clause-rows
returns-in_err-kept-clause-rows g c = no_value _ c.from_residual.result c.from_residual.ensures.0

pub returns-in_err-kept-clause-dtype : goal.returns-in_err-kept-clause-dtype
returns-in_err-kept-clause-dtype g c = no_value _ c.from_residual.result c.from_residual.ensures.0

pub returns-in_err-kept-clause-flat : goal.returns-in_err-kept-clause-flat
returns-in_err-kept-clause-flat g c = no_value _ c.from_residual.result c.from_residual.ensures.0

pub returns-clause-refused : goal.returns-clause-refused
returns-clause-refused g c =
    let none = no_fault (length (mask_bits c.args.mask.now)) (length (rows c.args.array.now)) (sym c.len.ensures ∙ c.if-len.false ∙ c.len-2.ensures) in
    refused_by_none _ c.into_array.result none c.into_array.ensures.only

pub returns-clause-rows : goal.returns-clause-rows
returns-clause-rows g c = ok_then c.into_array.result _ _ (λ array same. ap column_rows same ∙ c.in_ok-kept.ensures.made.rows) c.into_array.ensures.form

pub returns-clause-dtype : goal.returns-clause-dtype
returns-clause-dtype g c = ok_then c.into_array.result _ _ (λ array same. ap column_dtype same ∙ c.in_ok-kept.ensures.made.dtype) c.into_array.ensures.form

pub returns-clause-flat : goal.returns-clause-flat
returns-clause-flat g c = ok_then c.into_array.result _ _ (λ array same. subst IsComputedFlat (sym same) c.in_ok-kept.ensures.made.form) c.into_array.ensures.form
