use Rattle.std.proofs.Common.{◌≡◌, ◌∙◌, List, Option, ap, subst, sym, inl, inr}
use Rattle.std.specs.Prelude.{IfSome}
use Rattle.column_core.specs.FlatColumn.{leaf_of}
use Rattle.column_core.specs.Value.{Single, Value, IsLists}
use Rattle.column_ops.specs.Fill.{fill_rows, fill_fault}
use Rattle.runend_array.specs.Array.{dtype_of, rows}
use Rattle.runend_array.specs.Column.{column_dtype, column_rows}
use Rattle.runend_column.proofs.FilledRows.{flat_computed, flat_dtype, flat_filled, lists_refused}
use Rattle.column_base.specs.declared.dtype.DType.{DType}
use Rattle.column_base.specs.declared.error.VortexError.{VortexError}
use Rattle.column_core.specs.Refusal.{IsErrorFor}
use Rattle.column_ops.proofs.IndexPositions.{refused-passed_on}
use Rattle.runend_column.proofs.PassedOn.{no_value}
use Rattle.runend_column.proofs.fill_and_cast.fill_rows.Goals as goal

pub returns-clause-rows : goal.returns-clause-rows
returns-clause-rows g c =
    subst (λ (xs : List (Option Value)). IfSome c.args.value.now.value (λ flat. xs ≡ fill_rows (rows c.args.array.now) (Single flat))) (sym (ap column_rows c.array_of.ensures))
    (flat_filled (leaf_of c.in_ok-flat.flat) (leaf_of c.in_ok-filled.filled) c.args.value.now c.in_ok-filled.ensures.refused c.in_ok-filled.ensures.made (rows c.args.array.now) c.in_ok-flat.ensures.rows)

pub returns-clause-dtype : goal.returns-clause-dtype
returns-clause-dtype g c =
    ap column_dtype c.array_of.ensures
    ∙ flat_dtype (leaf_of c.in_ok-flat.flat) (leaf_of c.in_ok-filled.filled) c.args.value.now c.in_ok-filled.ensures.refused c.in_ok-filled.ensures.made (dtype_of c.args.array.now) c.in_ok-flat.ensures.dtype

pub returns-then-is_list_type : goal.returns-then-is_list_type
returns-then-is_list_type g c =
    let lists = subst IsLists c.dtype.ensures (c.is_list_type.ensures.lists.0 c.if-is_list_type.true) in
    record {
      refused = inr (lists_refused (dtype_of c.args.array.now) c.args.value.now lists);
      rows = tt;
      dtype = tt;
      form = tt;
      session = λ i. c.args.ctx.now;
    }

pub returns-in_err-filled-clause-refused : goal.returns-in_err-filled-clause-refused
returns-in_err-filled-clause-refused g c =
    let same = ap (λ (d : DType). fill_fault d c.args.value.now) c.in_ok-flat.ensures.dtype in
    refused-passed_on (fill_fault (dtype_of c.args.array.now) c.args.value.now) c.in_err-filled.field-0.0 c.from_residual-in_err-filled.result c.from_residual-in_err-filled.ensures.1
    (subst (λ (o : Option VortexError). IsErrorFor o c.in_err-filled.field-0.0) same c.in_err-filled.ensures.refused)

pub returns-clause-refused : goal.returns-clause-refused
returns-clause-refused g c = sym (ap (λ (d : DType). fill_fault d c.args.value.now) c.in_ok-flat.ensures.dtype) ∙ c.in_ok-filled.ensures.refused

pub returns-clause-form : goal.returns-clause-form
returns-clause-form g c =
    rw c.array_of.ensures (flat_computed (leaf_of c.in_ok-flat.flat) (leaf_of c.in_ok-filled.filled) c.args.value.now c.in_ok-filled.ensures.refused c.in_ok-filled.ensures.made)

pub returns-in_err-filled-clause-dtype : goal.returns-in_err-filled-clause-dtype
returns-in_err-filled-clause-dtype g c = no_value _ c.from_residual-in_err-filled.result c.from_residual-in_err-filled.ensures.0

pub returns-in_err-filled-clause-form : goal.returns-in_err-filled-clause-form
returns-in_err-filled-clause-form g c = no_value _ c.from_residual-in_err-filled.result c.from_residual-in_err-filled.ensures.0

pub returns-in_err-filled-clause-rows : goal.returns-in_err-filled-clause-rows
returns-in_err-filled-clause-rows g c = no_value _ c.from_residual-in_err-filled.result c.from_residual-in_err-filled.ensures.0

pub returns-in_err-flat-clause-dtype : goal.returns-in_err-flat-clause-dtype
returns-in_err-flat-clause-dtype g c = no_value _ c.from_residual.result c.from_residual.ensures.0

pub returns-in_err-flat-clause-form : goal.returns-in_err-flat-clause-form
returns-in_err-flat-clause-form g c = no_value _ c.from_residual.result c.from_residual.ensures.0

pub returns-in_err-flat-clause-refused : goal.returns-in_err-flat-clause-refused
returns-in_err-flat-clause-refused g c =
    refused-passed_on (fill_fault (dtype_of c.args.array.now) c.args.value.now) c.in_err-flat.field-0.0 c.from_residual.result c.from_residual.ensures.1 (inl (c.in_err-flat.ensures.only (λ lists. let yes = c.is_list_type.ensures.lists.1 (subst IsLists (sym c.dtype.ensures) lists) in let no = c.if-is_list_type.false in cc)))

pub returns-in_err-flat-clause-rows : goal.returns-in_err-flat-clause-rows
returns-in_err-flat-clause-rows g c = no_value _ c.from_residual.result c.from_residual.ensures.0
