use Rattle.std.proofs.Common.{◌++◌, ap, length, refl, arith}
use Rattle.column_bytes.specs.Texts.{sizes_bytes, text_sizes}
use Rattle.column_bytes.proofs.TextPacking.{count-shown}
use Rattle.column_bytes.proofs.TextWritten.{one_size, all_sizes, left_size}
use Rattle.column_fields.proofs.KeptLaws.{kept_on}
use Rattle.column_fields.proofs.RoomLaws.{refused}
use Rattle.column_bytes.proofs.text_writing.put_sizes.Goals as goal

pub loop-row-preserved : goal.loop-row-preserved
loop-row-preserved g c =
    let count = count-shown c.args.array.now c.views-row-end.ensures.accepted.counted in
    record {
      shows = one_size c.args.array.now c.loop-row.row _ c.shown.result.now (g.W.BufMut.written c.loop-row.out) _ _ (omega (arith, count, ap length c.views-row-end.ensures.stored)) c.shown.ensures refl c.loop-row.invariant.shows c.in_ok-put_varint.ensures.ok;
      kept = kept_on _ _ _ c.loop-row.invariant.kept c.in_ok-put_varint.ensures.kept;
      room = omega (arith, left_size c.args.array.now c.loop-row.row _ c.shown.result.now (omega (arith, count, ap length c.views-row-end.ensures.stored)) c.shown.ensures refl, c.loop-row.invariant.room, c.in_ok-put_varint.ensures.room);
    }

pub returns-clause-ok : goal.returns-clause-ok
returns-clause-ok g c =
    let count = count-shown c.args.array.now c.views-row-end.ensures.accepted.counted in
    all_sizes c.args.array.now c.loop-row.row (g.W.BufMut.written c.loop-row.out) (g.W.BufMut.written c.args.out.now ++ sizes_bytes (text_sizes c.args.array.now)) (omega (arith, count, ap length c.views-row-end.ensures.stored)) c.loop-row.invariant.shows

pub returns-in_err-put_varint-clause-room : goal.returns-in_err-put_varint-clause-room
returns-in_err-put_varint-clause-room g c =
    let count = count-shown c.args.array.now c.views-row-end.ensures.accepted.counted in
    refused _ _ _ _ c.from_residual.ensures.0 (omega (arith, left_size c.args.array.now c.loop-row.row _ c.shown.result.now (omega (arith, count, ap length c.views-row-end.ensures.stored)) c.shown.ensures refl, c.loop-row.invariant.room, c.in_err-put_varint.ensures.room))

pub returns-clause-room : goal.returns-clause-room
returns-clause-room g c = omega (arith, c.loop-row.invariant.room)
