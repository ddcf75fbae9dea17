use Rattle.std.proofs.Common.{◌≡◌, ◌∙◌, length, map, sym, None}
use Rattle.column_core.specs.FlatColumn.{leaf_of}
use Rattle.column_core.specs.Leaf.{single_rows}
use Rattle.column_sums.specs.SumAnswer.{number_in}
use Rattle.runend_array.specs.Array.{dtype_of, rows}
use Rattle.runend_windows.specs.Ends.{ends_of}
use Rattle.runend_pairs.specs.GroupFaults.{groups_fault}
use Rattle.runend_pairs.proofs.Encoded.{whole_runs}
use Rattle.runend_pairs.proofs.Refusals.{refused_groups}
use Rattle.runend_pairs.proofs.grouped.fold_by.Goals as goal

pub fold_in-requires-clause-groups : goal.fold_in-requires-clause-groups
fold_in-requires-clause-groups g c = whole_runs (rows c.args.keys.now) (dtype_of c.args.keys.now) c.in_ok-ends.ends (leaf_of c.in_ok-ends.group_keys) c.in_ok-ends.ensures.encoding

pub returns-in-Err-clause-refused : goal.returns-in-Err-clause-refused
returns-in-Err-clause-refused g c =
    let keys = c.args.keys.now in
    let values = c.args.values.now in
    let numbers = map number_in (rows values) in
    let fault = groups_fault (dtype_of keys) (dtype_of values) (length (rows keys)) (length (rows values)) in
    let none : fault ≡ None = rw (c.dtype.ensures, c.dtype-2.ensures, c.len.ensures, c.len-2.ensures) at (sym c.fault_of_groups.ensures ∙ c.in_default.is) in
    refused_groups c.args.fold (dtype_of values) (rows keys) numbers (ends_of c.in_ok-ends.ends) (single_rows (leaf_of c.in_ok-ends.group_keys)) fault c.in-Err.error
    c.in_ok-ends.ensures.encoding.cover none c.in-Err.ensures.refused
