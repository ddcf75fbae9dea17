use Rattle.std.proofs.Common.{length, slice_index}
use Rattle.column_core.specs.Refusal.{range_fault}
use Rattle.runend_array.specs.Array.{rows}
use Rattle.typed_groups.proofs.Parts.{group_within, only_memory}
use Rattle.typed_groups.proofs.group.rows_of_group.Goals as goal

pub returns-clause-only : goal.returns-clause-only
returns-clause-only g c =
    let count = length (rows c.args.array.now) in
    let stop = slice_index c.args.ends.now c.args.group in
    only_memory (range_fault c.start_of-start.result stop count) c.slice.result (group_within count c.args.ends.now c.args.group c.start_of-start.result c.requires.ends c.requires.within c.start_of-start.ensures) c.slice.ensures.refused
