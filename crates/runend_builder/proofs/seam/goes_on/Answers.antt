use Rattle.column_core.specs.FlatView.{leaf_in}
use Rattle.column_core.specs.Leaf.{leaf_dtype, single_rows}
use Rattle.runend_builder.proofs.Seams.{seam_of}
use Rattle.runend_builder.proofs.seam.goes_on.Goals as goal

pub returns-clause-seam : goal.returns-clause-seam
returns-clause-seam g c = λ own ended.
    let leaf = leaf_in c.args.values in
    seam_of (leaf_dtype leaf) own (single_rows leaf) c.args.last.now c.in_ok-first.first c.is_same_value-one.result ended c.in_ok-first.ensures.dtype c.in_ok-first.ensures.row c.is_same_value-one.ensures
