use Rattle.std.proofs.Common.{◌++◌, drop, arith}
use Rattle.runend_builder.proofs.Lists.{rest_all, rest_next}
use Rattle.runend_builder.proofs.bits.push_bits.Goals as goal

pub loop-row-preserved : goal.loop-row-preserved
loop-row-preserved g c = record {
  rest = rest_next c.args.bits.now c.loop-row.grown.items c.push_reserved.new.self.items (c.args.grown.now.items ++ drop c.args.start c.args.bits.now) c.loop-row.row c.value.result c.value.ensures
      c.loop-row.invariant.rest c.push_reserved.ensures.items;
  within = omega arith;
  room = omega (arith, c.push_reserved.ensures.len, c.push_reserved.ensures.capacity, c.loop-row.invariant.room);
}

pub returns : goal.returns
returns g c = rest_all c.args.bits.now c.loop-row.grown.items (c.args.grown.now.items ++ drop c.args.start c.args.bits.now) c.loop-row.row (omega arith) c.loop-row.invariant.rest
