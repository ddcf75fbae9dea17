use Rattle.std.proofs.Common.{◌∙◌, ◌+◌, ◌++◌, ℕ, List, map, ap, arith}
use Rattle.std.proofs.lemmas.List.{length-map, take_all}
use Rattle.runend_builder.specs.Encodings.{behind}
use Rattle.runend_builder.proofs.Pushed.{mapped_at, pushed_next}
use Rattle.runend_builder.proofs.ends.push_stored.Goals as goal

pub overflow_add-count : goal.overflow_add-count
overflow_add-count g c =
    let natural = g.E.UnsignedPType.natural in
    let part = c.args.part.now in
    let k = c.loop-end.end-index in
    let long = length-map part natural in
    let small = c.requires.small k 0 (omega arith) in
    let here = mapped_at natural part k c.end-item.result c.loop-end-test.true c.end-item.is in
    let same = c.to_u64.ensures in
    omega arith

pub loop-end-preserved : goal.loop-end-preserved
loop-end-preserved g c = record {
  pushed = pushed_next g.E.UnsignedPType.natural c.args.ends.now.items c.loop-end.ends.items c.push_reserved.new.self.items c.args.count c.loop-end.end-index c.to_u64.result c.args.part.now c.end-item.result
      c.loop-end-test.true c.end-item.is c.to_u64.ensures c.loop-end.invariant.pushed c.push_reserved.ensures.items;
  len = omega (arith, c.push_reserved.ensures.len, c.loop-end.invariant.len);
  room = c.push_reserved.ensures.capacity ∙ c.loop-end.invariant.room;
}

pub returns : goal.returns
returns g c =
    c.loop-end.invariant.pushed ∙ ap (λ stored. c.args.ends.now.items ++ behind c.args.count (map g.E.UnsignedPType.natural stored)) (take_all c.loop-end.end-index c.args.part.now (omega arith))
