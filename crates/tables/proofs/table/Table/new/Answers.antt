use Rattle.std.proofs.Common.{arith}
use Rattle.tables.proofs.NameLists.{empty_table}
use Rattle.tables.proofs.table.Table.new.Goals as goal

pub invariant_of-result : goal.invariant_of-result
invariant_of-result g c = empty_table c.new.result.items c.new-2.result.items c.args.rows c.new.ensures.items c.new-2.ensures.items (omega arith)
