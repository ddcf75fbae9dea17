use Rattle.std.proofs.Common.{length, ap, arith}
use Rattle.c_columns.specs.Reads.{text_rows}
use Rattle.c_columns.proofs.TextRows.{has_room}
use Rattle.c_columns.proofs.text_rows.put_rows.Goals as goal

pub put_at-requires : goal.put_at-requires
put_at-requires c =
    let rows = text_rows c.args.texts.now in
    let room = has_room rows c.args.start c.loop-row.row c.args.stop c.loop-row.auto.row c.loop-row-test.true (omega (arith, c.requires.within, c.requires.counted)) in
    let long = ap length c.bytes_at-more.ensures in
    omega (arith, room, long, c.loop-row.invariant.written, c.loop-row.invariant.len, c.requires.room)
