use Rattle.std.proofs.Common.{Err, refl}
use Rattle.runend_array.specs.Array.{column_of}
use Rattle.runend_column.proofs.Faults.{no_want_of_memory}
use Rattle.runend_column.proofs.record.deserialize.Goals as goal

pub returns-in-Err-clause-read : goal.returns-in-Err-clause-read
returns-in-Err-clause-read g c = c.in-Err.ensures

pub returns-in-Err-clause-memory : goal.returns-in-Err-clause-memory
returns-in-Err-clause-memory g c =
    no_want_of_memory c.args.bytes.now c.args.dtype c.args.length (column_of c.args.ends) (column_of c.args.values) (Err c.in-Err.error) c.in-Err.error
    refl c.in-Err.ensures

pub new_unchecked-requires : goal.new_unchecked-requires
new_unchecked-requires g c = c.in-Ok.ensures.parts

pub returns-in-Ok-clause-read : goal.returns-in-Ok-clause-read
returns-in-Ok-clause-read g c = (c.in-Ok.metadata, c.in-Ok.ensures, c.new_unchecked.ensures)
