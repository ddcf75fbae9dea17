use Rattle.column_bytes.proofs.ConstantChecks.{list_found}
use Rattle.column_bytes.proofs.NullLists.{no_lists}
use Rattle.column_bytes.proofs.constant_checks.is_null_list.Goals as goal

pub returns-in-Some-clause-yes : goal.returns-in-Some-clause-yes
returns-in-Some-clause-yes c = list_found c.args.bytes.now c.in-Some._element c.in-Some.ensures.found

pub returns-in-None-clause-no : goal.returns-in-None-clause-no
returns-in-None-clause-no c = no_lists c.args.bytes.now c.in-None.ensures.none
