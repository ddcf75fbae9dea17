use Rattle.std.proofs.Common.{◌∙◌, Option, ap, map, subst, sym, inr, inl}
use Rattle.std.specs.Prelude.{option_map}
use Rattle.column_base.specs.declared.error.VortexError.{VortexError}
use Rattle.column_core.specs.FlatColumn.{leaf_of}
use Rattle.column_core.specs.Refusal.{IsErrorFor}
use Rattle.column_core.specs.Value.{FlatValue, Single, IsLists}
use Rattle.column_ops.specs.Cast.{cast_fault}
use Rattle.column_ops.proofs.IndexPositions.{refused-passed_on}
use Rattle.runend_array.specs.Array.{column_of, dtype_of, rows}
use Rattle.runend_array.specs.Column.{column_rows, plain_of, column_dtype}
use Rattle.runend_column.proofs.CastRows.{plain_fault, lists_fault}
use Rattle.runend_column.proofs.PassedOn.{no_value}
use Rattle.runend_column.proofs.fill_and_cast.cast_rows.Goals as goal

pub returns-in_err-cast-clause-refused : goal.returns-in_err-cast-clause-refused
returns-in_err-cast-clause-refused g c =
    refused-passed_on (cast_fault (plain_of (column_of c.args.array.now)) c.args.dtype) c.in_err-cast.field-0.0 c.from_residual-in_err-cast.result c.from_residual-in_err-cast.ensures.1
    (subst (λ (o : Option VortexError). IsErrorFor o c.in_err-cast.field-0.0)
    (plain_fault (leaf_of c.in_ok-flat.flat) (column_of c.args.array.now) c.args.dtype c.in_ok-flat.ensures.rows c.in_ok-flat.ensures.dtype) c.in_err-cast.ensures.refused)

pub returns-clause-refused : goal.returns-clause-refused
returns-clause-refused g c =
    sym (plain_fault (leaf_of c.in_ok-flat.flat) (column_of c.args.array.now) c.args.dtype c.in_ok-flat.ensures.rows c.in_ok-flat.ensures.dtype) ∙ c.in_ok-cast.ensures.refused

pub returns-clause-rows : goal.returns-clause-rows
returns-clause-rows g c =
    ap column_rows c.array_of.ensures ∙ ap (map (option_map (λ (v : FlatValue). Single v))) c.in_ok-cast.ensures.made.rows ∙ c.in_ok-flat.ensures.rows

pub returns-then-is_list_type : goal.returns-then-is_list_type
returns-then-is_list_type g c =
    let lists = subst IsLists c.dtype.ensures (c.is_list_type.ensures.lists.0 c.if-is_list_type.true) in
    record {
      refused = inr (lists_fault (dtype_of c.args.array.now) c.args.dtype (rows c.args.array.now) lists);
      rows = tt;
      dtype = tt;
      form = tt;
      session = λ i. c.args.ctx.now;
    }

pub returns-clause-dtype : goal.returns-clause-dtype
returns-clause-dtype g c = ap column_dtype c.array_of.ensures ∙ c.in_ok-cast.ensures.made.dtype

pub returns-clause-form : goal.returns-clause-form
returns-clause-form g c = rw c.array_of.ensures c.in_ok-cast.ensures.made.computed

pub returns-in_err-cast-clause-dtype : goal.returns-in_err-cast-clause-dtype
returns-in_err-cast-clause-dtype g c = no_value _ c.from_residual-in_err-cast.result c.from_residual-in_err-cast.ensures.0

pub returns-in_err-cast-clause-form : goal.returns-in_err-cast-clause-form
returns-in_err-cast-clause-form g c = no_value _ c.from_residual-in_err-cast.result c.from_residual-in_err-cast.ensures.0

pub returns-in_err-cast-clause-rows : goal.returns-in_err-cast-clause-rows
returns-in_err-cast-clause-rows g c = no_value _ c.from_residual-in_err-cast.result c.from_residual-in_err-cast.ensures.0

pub returns-in_err-flat-clause-dtype : goal.returns-in_err-flat-clause-dtype
returns-in_err-flat-clause-dtype g c = no_value _ c.from_residual.result c.from_residual.ensures.0

pub returns-in_err-flat-clause-form : goal.returns-in_err-flat-clause-form
returns-in_err-flat-clause-form g c = no_value _ c.from_residual.result c.from_residual.ensures.0

pub returns-in_err-flat-clause-refused : goal.returns-in_err-flat-clause-refused
returns-in_err-flat-clause-refused g c =
    refused-passed_on (cast_fault (plain_of (column_of c.args.array.now)) c.args.dtype) c.in_err-flat.field-0.0 c.from_residual.result c.from_residual.ensures.1 (inl (c.in_err-flat.ensures.only (λ lists. let yes = c.is_list_type.ensures.lists.1 (subst IsLists (sym c.dtype.ensures) lists) in let no = c.if-is_list_type.false in cc)))

pub returns-in_err-flat-clause-rows : goal.returns-in_err-flat-clause-rows
returns-in_err-flat-clause-rows g c = no_value _ c.from_residual.result c.from_residual.ensures.0
