-- The groups of the columns so far.
use Rattle.std.proofs.Common.{map, take}
use Rattle.runend_array.specs.Array.{rows}
use Rattle.row_groups.specs.Groups.{AreEndsOf, AreGroupEnds}
use Rattle.tables.proofs.keys.group_ends.Given as goal

abbrev pub invariant-loop-column : goal.invariant-loop-column
invariant-loop-column g l = record {
  whole : AreEndsOf l.fn.count l.ends.items;
  groups : AreGroupEnds (map (λ column. rows column.array) (take l.column-index l.fn.columns)) l.fn.count l.ends.items;
}
