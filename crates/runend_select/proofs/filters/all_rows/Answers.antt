use Rattle.std.proofs.Common.{◌≡◌, ◌∙◌, Bool, true, false, ap, sym, subst}
use Rattle.column_core.specs.Kinds.{is_numbers}
use Rattle.runend_array.specs.Array.{column_of}
use Rattle.runend_array.specs.Column.{column_dtype, column_rows}
use Rattle.runend_select.specs.FilterForm.{IsWholeForm}
use Rattle.runend_column.proofs.ComputedRows.{ok_then}
use Rattle.runend_select.proofs.filters.all_rows.Goals as goal

pub minimal_column-requires : goal.minimal_column-requires
minimal_column-requires g c =
    let numbers : is_numbers (column_dtype c.args.array.now.values) ≡ true = ap is_numbers (sym c.dtype.ensures) ∙ sym c.is_number_type.ensures ∙ c.if-is_number_type.true in
    record { numbers = numbers }

pub returns-then-is_number_type-clause-only : goal.returns-then-is_number_type-clause-only
returns-then-is_number_type-clause-only g c =
    c.minimal_column.ensures.only

pub returns-then-is_number_type-clause-rows : goal.returns-then-is_number_type-clause-rows
returns-then-is_number_type-clause-rows g c =
    c.minimal_column.ensures.rows

pub returns-then-is_number_type-clause-dtype : goal.returns-then-is_number_type-clause-dtype
returns-then-is_number_type-clause-dtype g c =
    c.minimal_column.ensures.dtype

pub returns-then-is_number_type-clause-form : goal.returns-then-is_number_type-clause-form
returns-then-is_number_type-clause-form g c =
    let numbers : is_numbers (column_dtype c.args.array.now.values) ≡ true = ap is_numbers (sym c.dtype.ensures) ∙ sym c.is_number_type.ensures ∙ c.if-is_number_type.true in
    ok_then c.minimal_column.result _ _ (λ least form. subst (λ (b : Bool). IsWholeForm b c.args.array.now (column_of least)) (sym numbers) form) c.minimal_column.ensures.form

pub returns-clause-only : goal.returns-clause-only
returns-clause-only g c =
    c.unchanged.ensures.only

pub returns-clause-rows : goal.returns-clause-rows
returns-clause-rows g c =
    ok_then c.unchanged.result _ _ (λ copy same. ap column_rows same) c.unchanged.ensures.form

pub returns-clause-dtype : goal.returns-clause-dtype
returns-clause-dtype g c =
    ok_then c.unchanged.result _ _ (λ copy same. ap column_dtype same) c.unchanged.ensures.form

pub returns-clause-form : goal.returns-clause-form
returns-clause-form g c =
    let numbers : is_numbers (column_dtype c.args.array.now.values) ≡ false = ap is_numbers (sym c.dtype.ensures) ∙ sym c.is_number_type.ensures ∙ c.if-is_number_type.false in
    ok_then c.unchanged.result _ _ (λ copy same. subst (λ (b : Bool). IsWholeForm b c.args.array.now (column_of copy)) (sym numbers) same) c.unchanged.ensures.form
