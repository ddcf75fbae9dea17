use Rattle.std.proofs.Common.{◌*◌, arith, refl}
use Rattle.column_fields.proofs.RecordWriting.{room_for_key, room_for_value}
use Rattle.column_fields.proofs.metadata.push_field.Goals as goal

pub push_varint-requires : goal.push_varint-requires
push_varint-requires g c = record {
  room = room_for_key c.args.number (c.args.number * 8) c.args.value _ _ (omega arith) (omega arith) refl c.requires.room;
}

pub push_varint-requires-then-value-ne0 : goal.push_varint-requires-then-value-ne0
push_varint-requires-then-value-ne0 g c = record {
  room = rw c.push_varint.ensures.capacity (room_for_value c.args.number (c.args.number * 8) c.args.value _ _ _ c.args.out.now.items _ (omega arith) refl c.requires.room (omega arith) (omega arith) c.push_varint.ensures.written);
}
