use Rattle.std.proofs.Common.{length, rules}
use Rattle.runend_array.specs.Array.{column_of}
use Rattle.c_columns.specs.RunParts.{IsRecordAtFront}
use Rattle.c_columns.proofs.RunsServed.{written_served}
use Rattle.c_columns.proofs.runs.put_record.Goals as goal

pub returns-clause-served : goal.returns-clause-served
returns-clause-served c =
    let front : IsRecordAtFront (column_of c.args.array.now) c.in_ok-size.size c.put_bytes.new.room = search rules in
    written_served c.args.array.now c.in_ok-size.size (length c.args.room.now) c.put_bytes.new.room front c.put_bytes.ensures.len
