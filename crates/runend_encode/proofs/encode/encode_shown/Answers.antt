use Rattle.std.proofs.Common.{◌≤◌, ◌∙◌, ℕ, List, length, map, ap, sym, subst}
use Rattle.std.specs.Prelude.{All}
use Rattle.std.specs.List.Sorted.{IsStrictlyIncreasing}
use Rattle.column_core.specs.Leaf.{leaf_dtype, single_rows}
use Rattle.runend_windows.specs.Ends.{ends_of}
use Rattle.runend_windows.specs.Window.{run_rows}
use Rattle.runend_encode.specs.Encoding.{AreLeastEnds, AreRunValues}
use Rattle.runend_encode.specs.Windows.{start_in}
use Rattle.runend_encode.proofs.Encodings.{AreRunValues-shown, IsRowEncoding-of_runs, runs-increasing, runs-within}
use Rattle.runend_encode.proofs.Starts.{length-single}
use Rattle.runend_encode.proofs.encode.encode_shown.Goals as goal

pub row_ends-requires-clause-within : goal.row_ends-requires-clause-within
row_ends-requires-clause-within g c =
    let leaf = g.R.ColumnOps.leaf c.args.values.now in
    let count = length (ends_of c.args.ends.now) in
    subst (All (λ run. run ≤ count)) (sym c.ends.ensures)
    (runs-within (single_rows leaf) (leaf_dtype leaf) c.in_ok-joined.joined (g.R.ColumnOps.leaf c.in_ok-joined.values) count (length-single leaf ∙ c.requires.paired) c.in_ok-joined.ensures.runs)

pub least_ends-requires : goal.least_ends-requires
least_ends-requires g c =
    let leaf = g.R.ColumnOps.leaf c.args.values.now in
    let ends = ends_of c.args.ends.now in
    let joined = c.in_ok-joined.joined in
    let rows = run_rows ends (single_rows leaf) c.args.offset c.args.count in
    let made = g.R.ColumnOps.leaf c.in_ok-joined.values in
    let runs = AreRunValues-shown leaf ends c.args.offset c.args.count joined made c.requires.window c.requires.paired c.requires.shown c.in_ok-joined.ensures.runs in
    let are = c.in_ok-joined_ends.ensures.rows ∙ ap (map (start_in ends c.args.offset c.args.count)) c.ends.ensures in
    subst IsStrictlyIncreasing (sym c.as_slice.ensures.value)
    (runs-increasing rows (leaf_dtype leaf) c.in_ok-joined_ends.joined_ends.items made (subst (λ (es : List ℕ). AreRunValues rows (leaf_dtype leaf) es made) (sym are) runs))

pub returns-clause-encoding : goal.returns-clause-encoding
returns-clause-encoding g c =
    let leaf = g.R.ColumnOps.leaf c.args.values.now in
    let ends = ends_of c.args.ends.now in
    let joined = c.in_ok-joined.joined in
    let rows = run_rows ends (single_rows leaf) c.args.offset c.args.count in
    let made = g.R.ColumnOps.leaf c.in_ok-joined.values in
    let runs = AreRunValues-shown leaf ends c.args.offset c.args.count joined made c.requires.window c.requires.paired c.requires.shown c.in_ok-joined.ensures.runs in
    let are = c.in_ok-joined_ends.ensures.rows ∙ ap (map (start_in ends c.args.offset c.args.count)) c.ends.ensures in
    IsRowEncoding-of_runs rows (leaf_dtype leaf) c.in_ok-joined_ends.joined_ends.items c.in_ok-joined_ends-2.joined_ends made
    (subst (λ (es : List ℕ). AreRunValues rows (leaf_dtype leaf) es made) (sym are) runs)
    (subst (λ (es : List ℕ). AreLeastEnds es c.in_ok-joined_ends-2.joined_ends) c.as_slice.ensures.value c.in_ok-joined_ends-2.ensures.least)
