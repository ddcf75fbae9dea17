use Rattle.column_core.specs.FlatColumn.{leaf_of}
use Rattle.runend_array.specs.Array.{validity_of}
use Rattle.runend_array.proofs.FlatLists.{first_outside-flat}
use Rattle.runend_array.proofs.lists.within.first_outside.Goals as goal

pub returns-in-Some-plain_numbers : goal.returns-in-Some-plain_numbers
returns-in-Some-plain_numbers g c =
    let starts = c.in-Some.starts.now in
    let counts = c.in-Some-plain_numbers.counts.now in
    let sized = rw (c.in-Some.ensures, c.in-Some-plain_numbers.ensures) at c.requires.sized in
    let flagged = rw c.in-Some.ensures at c.requires.flagged in
    let valid = c.is_all_valid.ensures.0 c.if-is_all_valid.true in
    let first = rw c.len.ensures at c.first_past.ensures in
    rw (c.in-Some.ensures, c.in-Some-plain_numbers.ensures)
    (first_outside-flat (leaf_of c.args.elements.now) starts counts (validity_of c.args.validity.now) c.first_past.result sized flagged valid first)
