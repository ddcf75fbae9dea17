use Rattle.std.proofs.Common.{ℕ, List, sym, subst}
use Rattle.std.specs.List.Sorted.{IsStrictlyIncreasing}
use Rattle.column_core.specs.Leaf.{leaf_dtype, single_rows}
use Rattle.runend_encode.specs.Encoding.{AreLeastEnds}
use Rattle.runend_encode.proofs.Encodings.{IsRowEncoding-of_runs, runs-increasing}
use Rattle.runend_encode.proofs.encode.encode_rows.Goals as goal

pub least_ends-requires : goal.least_ends-requires
least_ends-requires g c =
    let leaf = g.R.ColumnOps.leaf c.args.column.now in
    subst IsStrictlyIncreasing (sym c.ends.ensures)
    (runs-increasing (single_rows leaf) (leaf_dtype leaf) c.in_ok-bounds.bounds (g.R.ColumnOps.leaf c.in_ok-bounds.values) c.in_ok-bounds.ensures.runs)

pub returns-clause-encoding : goal.returns-clause-encoding
returns-clause-encoding g c =
    let leaf = g.R.ColumnOps.leaf c.args.column.now in
    IsRowEncoding-of_runs (single_rows leaf) (leaf_dtype leaf) c.in_ok-bounds.bounds c.in_ok-ends.ends (g.R.ColumnOps.leaf c.in_ok-bounds.values) c.in_ok-bounds.ensures.runs
    (subst (λ (es : List ℕ). AreLeastEnds es c.in_ok-ends.ends) c.ends.ensures c.in_ok-ends.ensures.least)
