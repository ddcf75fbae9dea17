use Rattle.std.proofs.Common.{◌∙◌, Option, sym, subst}
use Rattle.column_base.specs.declared.dtype.DType.{DType}
use Rattle.column_base.specs.declared.error.VortexError.{VortexError}
use Rattle.column_core.specs.Refusal.{IsErrorFor}
use Rattle.column_ops.specs.Cast.{cast_fault}
use Rattle.column_ops.proofs.IndexPositions.{refused-passed_on}
use Rattle.column_core.specs.Leaf.{OfNumbers}
use Rattle.runend_array.specs.Array.{column_of, rows}
use Rattle.std.specs.Prelude.{IfOk}
use Rattle.runend_column.specs.MinimalForm.{IsRunForm}
use Rattle.runend_array.specs.Column.{column_of_runs, plain_of}
use Rattle.runend_map.proofs.CastRows.{cast_count, cast_rows, same_fault}
use Rattle.runend_map.proofs.KeptRows.{if_ok}
use Rattle.runend_map.proofs.OneKind.{no_fault}
use Rattle.runend_column.proofs.PassedOn.{no_value}
use Rattle.runend_map.proofs.casts.cast_lent.Goals as goal

pub over_runs-requires : goal.over_runs-requires
over_runs-requires g c = record {
  paired = cast_count c.args.array.now (OfNumbers c.args.numbers.now) c.requires.valid c.requires.rows (OfNumbers c.in_ok-cast.cast) c.in_ok-cast.ensures.made.rows;
  computed = c.in_ok-cast.ensures.made.computed;
}

pub returns-clause-rows : goal.returns-clause-rows
returns-clause-rows g c =
    if_ok c.over_runs.result (λ cast rows_are.
    cast_rows c.args.array.now (OfNumbers c.args.numbers.now) c.requires.valid c.requires.rows (OfNumbers c.in_ok-cast.cast) (rows cast) c.in_ok-cast.ensures.made.rows
    rows_are) c.over_runs.ensures.rows

pub returns-clause-refused : goal.returns-clause-refused
returns-clause-refused g c =
    no_fault _ c.over_runs.result
    (sym (same_fault c.args.array.now (OfNumbers c.args.numbers.now) c.requires.valid c.requires.rows c.args.dtype c.requires.of_type) ∙ c.in_ok-cast.ensures.refused)
    c.over_runs.ensures.only

pub returns-in_err-cast-clause-refused : goal.returns-in_err-cast-clause-refused
returns-in_err-cast-clause-refused g c =
    refused-passed_on (cast_fault (plain_of (column_of_runs c.args.array.now)) c.args.dtype) c.in_err-cast.field-0.0 c.from_residual.result c.from_residual.ensures.1
    (subst (λ (o : Option VortexError). IsErrorFor o c.in_err-cast.field-0.0)
    (same_fault c.args.array.now (OfNumbers c.args.numbers.now) c.requires.valid c.requires.rows c.args.dtype c.requires.of_type) c.in_err-cast.ensures.refused)

pub returns-clause-dtype : goal.returns-clause-dtype
returns-clause-dtype g c = if_ok c.over_runs.result (λ cast same. same ∙ c.in_ok-cast.ensures.made.dtype) c.over_runs.ensures.dtype

pub returns-clause-form : goal.returns-clause-form
returns-clause-form g c =
    subst (λ (d : DType). IfOk c.over_runs.result (λ cast. IsRunForm d c.args.array.now (column_of cast))) c.in_ok-cast.ensures.made.dtype c.over_runs.ensures.form

pub returns-in_err-cast-clause-rows : goal.returns-in_err-cast-clause-rows
returns-in_err-cast-clause-rows g c = no_value _ c.from_residual.result c.from_residual.ensures.0

pub returns-in_err-cast-clause-dtype : goal.returns-in_err-cast-clause-dtype
returns-in_err-cast-clause-dtype g c = no_value _ c.from_residual.result c.from_residual.ensures.0

pub returns-in_err-cast-clause-form : goal.returns-in_err-cast-clause-form
returns-in_err-cast-clause-form g c = no_value _ c.from_residual.result c.from_residual.ensures.0
