use Rattle.std.proofs.Common.{arith, length}
use Rattle.typed_columns.specs.Typed.{typed_of}
use Rattle.c_columns.proofs.MessageEndings.{put_served}
use Rattle.c_columns.proofs.messages.put_message.Goals as goal

pub returns-clause-served : goal.returns-clause-served
returns-clause-served c = put_served (typed_of c.args.column.now) (length c.args.room.now) c.in_ok-size.size (omega arith) c.in_ok-size.ensures.told (omega arith)
