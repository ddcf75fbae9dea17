use Rattle.std.proofs.Common.{◌≡◌, List, Option, ℤ, map, subst}
use Rattle.std.specs.Prelude.{IfOk}
use Rattle.column_core.specs.Leaf.{OfDecimals}
use Rattle.runend_array.specs.Array.{dtype_of, rows}
use Rattle.runend_floats.proofs.CoveredRows.{whole_runs}
use Rattle.runend_decimals.specs.Rows.{decimal_in, decimals_fault}
use Rattle.runend_decimals.specs.Totals.{StaysWithin, sum_of}
use Rattle.runend_decimals.proofs.DecimalRuns.{decimals_paired, decimals_shown, refused_by_run, served}
use Rattle.runend_decimals.proofs.sums.sum_decimals.Goals as goal

pub sum_runs-sum-requires-clause-runs : goal.sum_runs-sum-requires-clause-runs
sum_runs-sum-requires-clause-runs g c =
    let column = c.args.column.now in
    whole_runs (rows column) (dtype_of column) c.in_ok-ends.ends (OfDecimals c.in_ok-ends.values) c.in_ok-ends.ensures.encoding

pub sum_runs-sum-requires-clause-paired : goal.sum_runs-sum-requires-clause-paired
sum_runs-sum-requires-clause-paired g c =
    let column = c.args.column.now in
    decimals_paired (rows column) (dtype_of column) c.in_ok-ends.ends c.in_ok-ends.values c.in_ok-ends.ensures.encoding

pub returns-clause-sum : goal.returns-clause-sum
returns-clause-sum g c =
    let column = c.args.column.now in
    subst (λ (shown : List (Option ℤ)). IfOk c.sum_runs-sum.result (λ sum. sum ≡ sum_of shown))
    (decimals_shown (rows column) (dtype_of column) c.in_ok-ends.ends c.in_ok-ends.values c.in_ok-ends.ensures.encoding) c.sum_runs-sum.ensures.sum

pub returns-clause-within : goal.returns-clause-within
returns-clause-within g c =
    let column = c.args.column.now in
    subst (λ (shown : List (Option ℤ)). IfOk c.sum_runs-sum.result (λ sum. StaysWithin shown))
    (decimals_shown (rows column) (dtype_of column) c.in_ok-ends.ends c.in_ok-ends.values c.in_ok-ends.ensures.encoding) c.sum_runs-sum.ensures.within

pub returns-clause-refused : goal.returns-clause-refused
returns-clause-refused g c =
    let column = c.args.column.now in
    refused_by_run (decimals_fault (dtype_of column)) (map decimal_in (rows column)) _ c.sum_runs-sum.result
    (served (rows column) (dtype_of column) c.in_ok-ends.ends c.in_ok-ends.values c.in_ok-ends.ensures.encoding)
    (decimals_shown (rows column) (dtype_of column) c.in_ok-ends.ends c.in_ok-ends.values c.in_ok-ends.ensures.encoding) c.sum_runs-sum.ensures.refused
