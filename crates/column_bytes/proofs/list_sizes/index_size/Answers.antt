use Rattle.std.proofs.Common.{subst}
use Rattle.std.specs.Arc.{arc_value}
use Rattle.column_core.specs.Leaf.{OfNumbers}
use Rattle.runend_array.specs.Array.{column_of}
use Rattle.runend_array.specs.Column.{IsIndex, OfLeaf, column_of_runs}
use Rattle.column_bytes.specs.Stored.{IsStored}
use Rattle.column_bytes.proofs.ListColumns.{index_same, runs_same}
use Rattle.column_bytes.proofs.list_sizes.index_size.Goals as goal

pub returns-in-Primitive-clause-same : goal.returns-in-Primitive-clause-same
returns-in-Primitive-clause-same g c =
    let h : IsIndex (OfLeaf (OfNumbers c.in-Primitive.numbers)) = subst (λ x. IsIndex (column_of x)) c.in-Primitive.is c.requires in
    rw c.in-Primitive.is (index_same (OfLeaf (OfNumbers c.in-Primitive.numbers)) h c.numbers_size.ensures.stored)

pub returns-in-RunEnd-clause-same : goal.returns-in-RunEnd-clause-same
returns-in-RunEnd-clause-same g c =
    let r = arc_value c.in-RunEnd.runs in
    let values : IsStored r.values = subst (λ x. IsStored x.values) c.deref.ensures c.flat_runs_size.ensures.values in
    let h : IsIndex (column_of_runs r) = subst (λ x. IsIndex (column_of x)) c.in-RunEnd.is c.requires in
    rw c.in-RunEnd.is (runs_same r h values)
