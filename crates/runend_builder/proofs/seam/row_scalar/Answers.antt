use Rattle.std.proofs.Common.{◌≡◌, subst}
use Rattle.std.specs.Prelude.{IfOk}
use Rattle.column_base.specs.declared.dtype.DType.{DType}
use Rattle.column_core.specs.FlatView.{leaf_in}
use Rattle.column_core.specs.Leaf.{single_rows}
use Rattle.column_core.specs.ScalarView.{sees}
use Rattle.runend_builder.proofs.Seams.{row_seen}
use Rattle.runend_builder.proofs.seam.row_scalar.Goals as goal

pub returns-clause-dtype : goal.returns-clause-dtype
returns-clause-dtype g c = subst (λ (t : DType). IfOk c.of_view.result (λ scalar. scalar.dtype ≡ t)) c.dtype.ensures c.of_view.ensures.dtype

pub returns-clause-row : goal.returns-clause-row
returns-clause-row g c = row_seen (single_rows (leaf_in c.args.values)) c.args.row (sees c.get.result) c.of_view.result c.get.ensures.row c.of_view.ensures.value
