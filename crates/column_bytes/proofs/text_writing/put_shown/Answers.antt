use Rattle.std.proofs.Common.{◌<◌, arith, length}
use Rattle.column_fields.proofs.RoomLaws.{refused}
use Rattle.column_bytes.specs.Texts.{shown_rows}
use Rattle.column_bytes.proofs.TextWritten.{one_row, shown-count, shown_left}
use Rattle.column_fields.proofs.KeptLaws.{kept_behind, kept_on}
use Rattle.column_bytes.proofs.text_writing.put_shown.Goals as goal

pub loop-row-preserved : goal.loop-row-preserved
loop-row-preserved g c =
    let lt : c.loop-row.row < length (shown_rows c.args.array.now) = omega (arith, shown-count c.args.array.now, c.len-row-end.ensures.rows) in
    record {
      shows = one_row c.args.array.now c.loop-row.row c.shown.result.now (g.W.BufMut.written c.loop-row.out) _ _ lt c.shown.ensures c.loop-row.invariant.shows c.in_ok-put_slice.ensures.ok;
      kept = kept_on _ _ _ c.loop-row.invariant.kept (kept_behind _ _ _ c.in_ok-put_slice.ensures.ok);
      room = omega (arith, shown_left c.args.array.now c.loop-row.row c.shown.result.now lt c.shown.ensures, c.loop-row.invariant.room, c.in_ok-put_slice.ensures.spare);
    }

pub returns-in_err-put_slice-clause-room : goal.returns-in_err-put_slice-clause-room
returns-in_err-put_slice-clause-room g c =
    let lt : c.loop-row.row < length (shown_rows c.args.array.now) = omega (arith, shown-count c.args.array.now, c.len-row-end.ensures.rows) in
    refused _ _ _ _ c.from_residual.ensures.0 (omega (arith, shown_left c.args.array.now c.loop-row.row c.shown.result.now lt c.shown.ensures, c.loop-row.invariant.room, c.in_err-put_slice.ensures.spare.0))

pub returns-clause-room : goal.returns-clause-room
returns-clause-room g c = omega (arith, c.loop-row.invariant.room)
