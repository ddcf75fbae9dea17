use Rattle.std.proofs.Common.{◌≡◌, ◌∙◌, ℕ, List, Option, None, length, replicate, ap, sym, subst}
use Rattle.std.specs.Prelude.{option_map}
use Rattle.column_base.specs.declared.error.VortexError.{VortexError}
use Rattle.column_core.specs.Refusal.{IsErrorFor}
use Rattle.column_core.specs.Value.{IsLists, Single}
use Rattle.column_ops.proofs.IndexPositions.{refused-passed_on}
use Rattle.column_ops.specs.Cast.{cast_fault}
use Rattle.runend_array.specs.Array.{column_of, rows}
use Rattle.runend_array.specs.Column.{Column, OfConstant, column_rows, plain_of, repeated}
use Rattle.runend_column.proofs.PassedOn.{refused_by_none}
use Rattle.runend_map.proofs.KeptRows.{if_ok}
use Rattle.runend_commands.proofs.Constants.{cast_of_one, cast_single}
use Rattle.runend_commands.proofs.compute.casts.cast_constant.Goals as goal

pub repeated_row-made-requires-clause-single : goal.repeated_row-made-requires-clause-single
repeated_row-made-requires-clause-single g c = λ lists.
    cast_single (plain_of (column_of c.in_ok-one.one)) c.args.dtype c.in_ok-cast.ensures.refused (subst IsLists c.in_ok-cast.ensures.dtype lists)

pub repeated_row-made-requires-clause-one : goal.repeated_row-made-requires-clause-one
repeated_row-made-requires-clause-one g c = ap length (c.in_ok-cast.ensures.rows ∙ ap column_rows c.in_ok-one.ensures.form)

pub returns-clause-refused : goal.returns-clause-refused
returns-clause-refused g c =
    let none = sym (cast_of_one c.args.constant.now c.args.dtype c.requires) ∙ ap (λ (k : Column). cast_fault (plain_of k) c.args.dtype) (sym c.in_ok-one.ensures.form) ∙ c.in_ok-cast.ensures.refused in
    refused_by_none (cast_fault (plain_of (OfConstant c.args.constant.now)) c.args.dtype) c.repeated_row-made.result none c.repeated_row-made.ensures.only

pub returns-clause-rows : goal.returns-clause-rows
returns-clause-rows g c =
    let row = option_map Single c.args.constant.now.value in
    if_ok c.repeated_row-made.result (λ made each.
    each row (c.in_ok-cast.ensures.rows ∙ ap column_rows c.in_ok-one.ensures.form) ∙ ap (λ (n : ℕ). replicate n row) c.len.ensures) c.repeated_row-made.ensures.rows

pub returns-clause-dtype : goal.returns-clause-dtype
returns-clause-dtype g c = if_ok c.repeated_row-made.result (λ made same. same ∙ c.in_ok-cast.ensures.dtype) c.repeated_row-made.ensures.dtype

pub returns-in_err-cast-clause-refused : goal.returns-in_err-cast-clause-refused
returns-in_err-cast-clause-refused g c =
    let same = ap (λ (k : Column). cast_fault (plain_of k) c.args.dtype) c.in_ok-one.ensures.form ∙ cast_of_one c.args.constant.now c.args.dtype c.requires in
    refused-passed_on (cast_fault (plain_of (OfConstant c.args.constant.now)) c.args.dtype) c.in_err-cast.field-0.0 c.from_residual-in_err-cast.result c.from_residual-in_err-cast.ensures.1
    (subst (λ (o : Option VortexError). IsErrorFor o c.in_err-cast.field-0.0) same c.in_err-cast.ensures.refused)
