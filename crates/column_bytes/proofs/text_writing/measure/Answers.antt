use Rattle.std.proofs.Common.{ap, length, refl, arith}
use Rattle.column_bytes.proofs.TextPacking.{count-shown}
use Rattle.column_bytes.proofs.TextWritten.{one_long, one_summed, all_long, all_summed}
use Rattle.column_bytes.proofs.text_writing.measure.Goals as goal

pub loop-row-preserved : goal.loop-row-preserved
loop-row-preserved g c =
    let count = count-shown c.args.array.now c.views-row-end.ensures.accepted.counted in
    let h = c.loop-row.invariant in
    record {
      sized = one_long c.args.array.now c.loop-row.row _ c.loop-row.sizes _ c.shown-size.result.now (omega (arith, count, ap length c.views-row-end.ensures.stored)) c.shown-size.ensures refl h.sized c.varint_size.ensures.size;
      summed = one_summed c.args.array.now c.loop-row.row _ c.loop-row.content _ c.shown-size.result.now (omega (arith, count, ap length c.views-row-end.ensures.stored)) c.shown-size.ensures refl h.summed refl;
      few = omega (arith, h.few, c.varint_size.ensures.most);
      less = omega (arith, h.less);
    }

pub returns-clause-sizes : goal.returns-clause-sizes
returns-clause-sizes g c =
    let count = count-shown c.args.array.now c.views-row-end.ensures.accepted.counted in
    all_long c.args.array.now c.loop-row.row c.loop-row.sizes (omega (arith, count, ap length c.views-row-end.ensures.stored)) c.loop-row.invariant.sized

pub returns-clause-content : goal.returns-clause-content
returns-clause-content g c =
    let count = count-shown c.args.array.now c.views-row-end.ensures.accepted.counted in
    all_summed c.args.array.now c.loop-row.row c.loop-row.content (omega (arith, count, ap length c.views-row-end.ensures.stored)) c.loop-row.invariant.summed
