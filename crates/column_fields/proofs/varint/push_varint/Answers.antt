use Rattle.std.proofs.Common.{arith}
use Rattle.column_fields.proofs.ShortestVarints.{one_more, appended, room_ahead}
use Rattle.column_fields.proofs.varint.push_varint.Goals as goal

pub push_reserved-requires : goal.push_reserved-requires
push_reserved-requires g c =
    let h = c.loop-rest.invariant in
    omega (arith, room_ahead c.args.out.now.items c.loop-rest.out.items _ c.loop-rest.rest _ _ (omega arith) (omega arith) c.requires.room (omega arith) h.completed)

pub loop-rest-preserved : goal.loop-rest-preserved
loop-rest-preserved g c =
    let h = c.loop-rest.invariant in
    record {
      completed = one_more _ _ _ _ _ (omega arith) c.push_reserved.ensures.items h.completed;
      capacity_is = omega arith;
    }

pub push_reserved-requires-2 : goal.push_reserved-requires-2
push_reserved-requires-2 g c =
    let h = c.loop-rest.invariant in
    omega (arith, room_ahead c.args.out.now.items c.loop-rest.out.items _ c.loop-rest.rest _ _ (omega arith) (omega arith) c.requires.room (omega arith) h.completed)

pub returns-clause-written : goal.returns-clause-written
returns-clause-written g c = appended _ _ _ _ _ (omega arith) (omega arith) c.push_reserved-2.ensures.items c.loop-rest.invariant.completed
