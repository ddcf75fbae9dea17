use Rattle.std.proofs.Common.{sym, subst}
use Rattle.column_core.specs.FlatColumn.{leaf_of}
use Rattle.column_core.specs.Leaf.{leaf_dtype}
use Rattle.runend_pairs.proofs.pairs.zip_runs.Goals as goal

pub walk_runs-requires-clause-taken : goal.walk_runs-requires-clause-taken
walk_runs-requires-clause-taken g c =
    subst (λ op. g.O.Pairwise.takes op (leaf_dtype (leaf_of c.args.left.now.values)) (leaf_dtype (leaf_of c.args.right.now.values))) (sym c.new-asked.ensures.operation) c.requires.taken

pub returns-clause-cover : goal.returns-clause-cover
returns-clause-cover g c = rw c.new-asked.ensures.operation at c.walk_runs.ensures.cover

pub returns-clause-filled : goal.returns-clause-filled
returns-clause-filled g c = rw c.new-asked.ensures.operation at c.walk_runs.ensures.filled

pub returns-clause-had : goal.returns-clause-had
returns-clause-had g c = rw c.new-asked.ensures.operation at c.walk_runs.ensures.had

pub returns-clause-refused : goal.returns-clause-refused
returns-clause-refused g c = rw c.new-asked.ensures.operation at c.walk_runs.ensures.refused
