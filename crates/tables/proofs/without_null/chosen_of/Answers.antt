use Rattle.std.proofs.Common.{◌∙◌, map, sym}
use Rattle.std.specs.String.{string_bytes}
use Rattle.tables.proofs.ValidTables.{chosen_none, chosen_some}
use Rattle.tables.proofs.without_null.chosen_of.Goals as goal

pub returns-then-is_empty : goal.returns-then-is_empty
returns-then-is_empty g c = chosen_none (map string_bytes c.args.own.now) c.args.names.now (sym c.is_empty.ensures ∙ c.if-is_empty.true)

pub returns-else-is_empty : goal.returns-else-is_empty
returns-else-is_empty g c = chosen_some (map string_bytes c.args.own.now) c.args.names.now (sym c.is_empty.ensures ∙ c.if-is_empty.false)
