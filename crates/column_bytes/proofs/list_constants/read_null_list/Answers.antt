use Rattle.column_bytes.proofs.NullLists.{no_lists, is_null_list}
use Rattle.column_bytes.proofs.list_constants.read_null_list.Goals as goal

pub returns-in_default-clause-bad : goal.returns-in_default-clause-bad
returns-in_default-clause-bad g c = λ _. no_lists c.args.bytes.now c.in_default.ensures.none

pub returns-clause-found : goal.returns-clause-found
returns-clause-found g c = is_null_list c.args.bytes.now c.in-Some.element c.unwrap.result (rw c.unwrap.ensures at c.try_new.ensures.ok) c.in-Some.ensures.found
