use Rattle.c_tables.proofs.IndexRows.{flat_refused, flat_taken}
use Rattle.c_tables.proofs.rows.taken.Goals as goal

pub returns-in-Primitive-clause-taken : goal.returns-in-Primitive-clause-taken
returns-in-Primitive-clause-taken c =
    flat_taken c.args.table.now c.args.indices.now c.in-Primitive.numbers c.in-Primitive.is c.taken_at.result (λ made. made.value) c.taken_at.ensures.taken c.taken_at.ensures.accepted

pub returns-in-Primitive-clause-refused : goal.returns-in-Primitive-clause-refused
returns-in-Primitive-clause-refused c = flat_refused c.args.table.now c.args.indices.now c.in-Primitive.numbers c.in-Primitive.is c.taken_at.result c.taken_at.ensures.refused
