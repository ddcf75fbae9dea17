use Rattle.std.proofs.Common.{arith}
use Rattle.column_fields.proofs.ShortestVarints.{count_more, all_counted, count_at_most}
use Rattle.column_fields.proofs.varint.varint_len.Goals as goal

pub loop-rest-preserved : goal.loop-rest-preserved
loop-rest-preserved c =
    let h = c.loop-rest.invariant in
    record { counted = λ bytes k. count_more _ _ _ bytes (omega arith) (h.counted bytes k); small = omega arith }

pub returns-clause-exact : goal.returns-clause-exact
returns-clause-exact c = all_counted _ _ _ (omega arith) c.loop-rest.invariant.counted

pub returns-clause-most : goal.returns-clause-most
returns-clause-most c = count_at_most _ _ _ (omega arith) (omega arith) c.loop-rest.invariant.counted
