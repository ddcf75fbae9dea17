use Rattle.std.proofs.Common.{◌≤◌, ◌^◌, length, ap, arith}
use Rattle.c_columns.specs.Reads.{size_between, text_rows}
use Rattle.c_columns.proofs.TextRows.{has_room}
use Rattle.c_columns.proofs.text_rows.size_of_rows.Goals as goal

pub returns-in_err-size : goal.returns-in_err-size
returns-in_err-size c =
    let room = has_room (text_rows c.args.texts.now) c.args.start c.loop-row.row c.args.stop c.loop-row.auto.row c.loop-row-test.true (omega (arith, c.requires.within, c.requires.counted)) in
    let long = ap length c.bytes_at.ensures in
    let huge : 2 ^ 64 ≤ size_between c.args.texts.now c.args.start c.args.stop = omega (arith, room, long, c.loop-row.invariant, c.in_err-size.ensures) in
    rw c.from_residual.ensures huge
