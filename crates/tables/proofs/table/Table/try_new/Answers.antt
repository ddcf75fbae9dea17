use Rattle.tables.proofs.table.Table.try_new.Goals as goal

pub returns-in-Some-clause-refused : goal.returns-in-Some-clause-refused
returns-in-Some-clause-refused g c = rw (c.deref.ensures.value, c.deref-2.ensures.value) at c.in-Some.ensures
