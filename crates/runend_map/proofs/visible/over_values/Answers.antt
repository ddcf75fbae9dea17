use Rattle.runend_array.specs.Array.{column_of}
use Rattle.runend_map.proofs.ShownValues.{values_dtype, values_parts, values_rows}
use Rattle.runend_map.proofs.visible.over_values.Goals as goal

pub new_unchecked-requires : goal.new_unchecked-requires
new_unchecked-requires g c =
    values_parts c.args.array.now c.in-Ok.ends (column_of c.args.values) c.visible_offset-offset.result c.len.result c.in-Ok.ensures.ends c.visible_offset-offset.ensures c.len.ensures
    c.in-Ok.ensures.plain c.ends_of_visible.ensures.window c.ends_of_visible.ensures.paired c.requires.paired

pub returns-clause-rows : goal.returns-clause-rows
returns-clause-rows g c =
    values_rows c.args.array.now c.in-Ok.ends (column_of c.args.values) c.visible_offset-offset.result c.len.result c.in-Ok.ensures.ends c.visible_offset-offset.ensures c.len.ensures
    c.new_unchecked.result c.new_unchecked.ensures

pub returns-clause-dtype : goal.returns-clause-dtype
returns-clause-dtype g c =
    values_dtype c.args.array.now c.in-Ok.ends (column_of c.args.values) c.visible_offset-offset.result c.len.result c.in-Ok.ensures.ends c.visible_offset-offset.ensures c.len.ensures
    c.new_unchecked.result c.new_unchecked.ensures
