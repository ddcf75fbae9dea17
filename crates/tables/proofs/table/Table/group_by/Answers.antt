use Rattle.std.proofs.Common.{map}
use Rattle.std.specs.String.{string_bytes}
use Rattle.tables.specs.Grouping.{asked_of}
use Rattle.tables.proofs.AnswerColumns.{groups_table}
use Rattle.tables.proofs.GroupRefusals.{by_groups_fault, short_of_groups}
use Rattle.tables.proofs.table.Table.group_by.Goals as goal

pub returns-in-Some-clause-refused : goal.returns-in-Some-clause-refused
returns-in-Some-clause-refused g c = by_groups_fault c.args.self.now (map string_bytes c.args.keys.now) (map asked_of c.args.asked.now) c.in-Some.error c.in-Some.ensures

pub returns-in_err-names-clause-refused : goal.returns-in_err-names-clause-refused
returns-in_err-names-clause-refused g c =
    short_of_groups c.from_residual.result c.args.self.now (map string_bytes c.args.keys.now) (map asked_of c.args.asked.now) c.in_err-names.field-0.0 c.from_residual.ensures.1 c.in_err-names.ensures.only c.in_default.ensures

pub invariant_of-result : goal.invariant_of-result
invariant_of-result g c =
    groups_table c.args.self.now (map string_bytes c.args.keys.now) (map asked_of c.args.asked.now) c.in_ok-names.names.items c.in-Ok.columns.items c.in-Ok.rows c.in_default.ensures c.in_ok-names.ensures.names c.in-Ok.ensures.small c.in-Ok.ensures.groups

pub returns-in-Ok-clause-groups : goal.returns-in-Ok-clause-groups
returns-in-Ok-clause-groups g c = record { groups = c.in-Ok.ensures.groups; names = c.in_ok-names.ensures.names }
