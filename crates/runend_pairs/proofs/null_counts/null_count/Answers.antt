use Rattle.std.proofs.Common.{◌∙◌, ap, sym}
use Rattle.std.specs.Prelude.{option_map}
use Rattle.column_core.specs.Value.{Single}
use Rattle.runend_array.specs.Column.{Column, column_rows}
use Rattle.runend_array.specs.Array.{rows}
use Rattle.runend_pairs.specs.NullCounts.{null_rows}
use Rattle.runend_pairs.proofs.NullCounted.{null_rows-copies}
use Rattle.runend_pairs.proofs.null_counts.null_count.Goals as goal

pub returns-in-Constant : goal.returns-in-Constant
returns-in-Constant g c =
    let constant = c.in-Constant.constant in
    c.nulls_of_constant.ensures ∙ sym (null_rows-copies constant.count (option_map Single constant.value)) ∙ ap (λ array. null_rows (rows array)) (sym c.in-Constant.is)

pub returns-in-Some : goal.returns-in-Some
returns-in-Some g c = c.nulls_of_flat.ensures.nulls ∙ ap (λ (column : Column). null_rows (column_rows column)) (sym c.in-Some.ensures.flat)
