use Rattle.std.proofs.Common.{◌≡◌, List, Option, None, subst}
use Rattle.std.specs.Prelude.{slice_range, All, MatchOption}
use Rattle.column_base.specs.ValidityForm.{nullability_in}
use Rattle.column_base.specs.Validity.{form_of}
use Rattle.column_core.specs.DecimalForm.{decimal_dtype_of}
use Rattle.column_core.specs.Value.{Value}
use Rattle.column_ops.specs.OrderFacts.{AreEnds}
use Rattle.column_ops.proofs.ItemColumns.{decimal-rows, within-decimals}
use Rattle.column_ops.proofs.extremes.ends_of_decimals.Goals as goal

pub min_max_of-requires-clause-in_bounds : goal.min_max_of-requires-clause-in_bounds
min_max_of-requires-clause-in_bounds g c = within-decimals c.values.result.now c.args.array.now c.args.range.end c.values.ensures c.requires.in_bounds

pub returns : goal.returns
returns g c =
    let own = c.args.array.now in
    let start = c.args.range.start in
    let stop = c.args.range.end in
    subst (λ (rows : List (Option Value)). MatchOption c.min_max_of.result (All (λ row. row ≡ None) (slice_range rows start stop))
    (λ ends. AreEnds (decimal_dtype_of own) (slice_range rows start stop) ends.0 ends.1))
    (decimal-rows c.values.result.now (form_of c.validity.result.now) own c.values.ensures c.validity.ensures.form)
    (c.min_max_of.ensures own.decimal (nullability_in own.validity))
