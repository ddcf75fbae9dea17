use Rattle.c_tables.proofs.IndexRows.{numbers_shown}
use Rattle.c_tables.proofs.indices.numbers_of.Goals as goal

pub returns-in-Flat-Primitive-clause-numbers : goal.returns-in-Flat-Primitive-clause-numbers
returns-in-Flat-Primitive-clause-numbers c =
    numbers_shown c.in_ok-other.other c.in-Flat-Primitive.field-0 c.in-Flat-Primitive.numbers _ c.in-Flat-Primitive.is c.in-Flat-Primitive.field-0-is c.in_ok-other.ensures.rows
