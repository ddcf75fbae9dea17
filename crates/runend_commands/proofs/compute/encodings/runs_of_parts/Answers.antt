use Rattle.std.proofs.Common.{◌∙◌, ◌∷◌, ◌<◌, ◌^◌, [], ap, sym, subst, arith}
use Rattle.column_base.specs.Types.{nullability_of}
use Rattle.column_base.specs.declared.dtype.DType.{DType}
use Rattle.column_base.specs.declared.dtype.PType.TheVariants.{U64}
use Rattle.column_core.specs.FlatColumn.{leaf_of}
use Rattle.column_core.specs.Value.{MayBeNull}
use Rattle.runend_array.specs.Array.{column_of, dtype_of, rows}
use Rattle.runend_array.specs.Column.{OfConstant, Runs, column_dtype, column_of_runs, runs_with}
use Rattle.runend_builder.proofs.Parts.{parts_of_rows}
use Rattle.runend_map.proofs.KeptRows.{if_ok}
use Rattle.runend_windows.proofs.NullRows.{may_be_null-of_nulls}
use Rattle.runend_commands.specs.Meaning.{IsTightColumn}
use Rattle.runend_commands.proofs.VisibleEncodings.{one_null, some_row, tight_of_nulls, tight_of_rows}
use Rattle.runend_commands.proofs.compute.encodings.runs_of_parts.Goals as goal

pub run_of_nulls-requires-clause-null : goal.run_of_nulls-requires-clause-null
run_of_nulls-requires-clause-null g c =
    let nulls = c.has_nulls_alone.ensures.nulls.0 c.if-has_nulls_alone.true in
    subst (λ (t : DType). MayBeNull (nullability_of t)) (c.requires.typed ∙ sym c.dtype.ensures) (may_be_null-of_nulls (leaf_of c.args.values) c.has_nulls_alone.ensures.fits nulls)

pub run_of_nulls-requires-clause-some : goal.run_of_nulls-requires-clause-some
run_of_nulls-requires-clause-some g c =
    let nulls = c.has_nulls_alone.ensures.nulls.0 c.if-has_nulls_alone.true in
    some_row (rows c.args.column.now) (dtype_of c.args.column.now) c.args.ends (leaf_of c.args.values) c.len-count.result c.requires c.len-count.ensures nulls

pub returns-then-has_nulls_alone-clause-form : goal.returns-then-has_nulls_alone-clause-form
returns-then-has_nulls_alone-clause-form g c =
    let nulls = c.has_nulls_alone.ensures.nulls.0 c.if-has_nulls_alone.true in
    let small : c.len-count.result < 2 ^ 64 = omega arith in
    if_ok c.run_of_nulls.result (λ runs made. subst (λ (r : Runs). IsTightColumn (rows c.args.column.now) (column_of_runs r)) (sym made)
    (subst (λ (t : DType). IsTightColumn (rows c.args.column.now) (column_of_runs (runs_with U64 (c.len-count.result ∷ []) (OfConstant (one_null t)) 0 c.len-count.result))) (sym c.dtype.ensures)
    (tight_of_nulls (rows c.args.column.now) (dtype_of c.args.column.now) c.args.ends (leaf_of c.args.values) c.len-count.result c.requires c.len-count.ensures nulls small))) c.run_of_nulls.ensures.made

pub returns-then-has_nulls_alone-clause-dtype : goal.returns-then-has_nulls_alone-clause-dtype
returns-then-has_nulls_alone-clause-dtype g c = if_ok c.run_of_nulls.result (λ runs made. ap (λ (r : Runs). column_dtype r.values) made ∙ c.dtype.ensures) c.run_of_nulls.ensures.made

pub new_unchecked-requires : goal.new_unchecked-requires
new_unchecked-requires g c =
    parts_of_rows (rows c.args.column.now) (dtype_of c.args.column.now) c.args.ends (leaf_of c.args.values) c.len-count.result (column_of c.array_of.result) c.requires c.len-count.ensures c.array_of.ensures

pub returns-clause-form : goal.returns-clause-form
returns-clause-form g c =
    subst (λ (r : Runs). IsTightColumn (rows c.args.column.now) (column_of_runs r)) (sym c.new_unchecked.ensures)
    (tight_of_rows (rows c.args.column.now) (dtype_of c.args.column.now) c.args.ends (leaf_of c.args.values) c.len-count.result (column_of c.array_of.result) c.requires c.len-count.ensures c.array_of.ensures)

pub returns-clause-dtype : goal.returns-clause-dtype
returns-clause-dtype g c = ap (λ (r : Runs). column_dtype r.values) c.new_unchecked.ensures ∙ ap column_dtype c.array_of.ensures ∙ c.requires.typed
