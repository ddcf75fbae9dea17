use Rattle.std.proofs.Common.{◌≡◌, List, Option, None, subst}
use Rattle.std.specs.Prelude.{slice_range, All, MatchOption}
use Rattle.column_base.specs.ValidityForm.{nullability_in}
use Rattle.column_base.specs.Validity.{form_of}
use Rattle.column_core.specs.DecimalForm.{decimal_dtype_of}
use Rattle.column_core.specs.Value.{Value}
use Rattle.column_ops.specs.OrderFacts.{IsEnd}
use Rattle.column_ops.proofs.ItemColumns.{decimal-rows, within-decimals}
use Rattle.column_ops.proofs.extremes.end_of_decimals.Goals as goal

pub end_of-requires-clause-in_bounds : goal.end_of-requires-clause-in_bounds
end_of-requires-clause-in_bounds g c = within-decimals c.values.result.now c.args.array.now c.args.range.end c.values.ensures c.requires.in_bounds

pub returns : goal.returns
returns g c =
    let own = c.args.array.now in
    let start = c.args.range.start in
    let stop = c.args.range.end in
    subst (λ (rows : List (Option Value)). MatchOption c.end_of.result (All (λ row. row ≡ None) (slice_range rows start stop))
    (λ row. IsEnd c.args.side (decimal_dtype_of own) (slice_range rows start stop) row))
    (decimal-rows c.values.result.now (form_of c.validity.result.now) own c.values.ensures c.validity.ensures.form)
    (c.end_of.ensures own.decimal (nullability_in own.validity))
