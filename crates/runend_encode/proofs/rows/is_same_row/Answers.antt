use Rattle.column_core.specs.ScalarView.{sees}
use Rattle.runend_encode.proofs.RowTests.{is_same-decides}
use Rattle.runend_encode.proofs.rows.is_same_row.Goals as goal

pub returns : goal.returns
returns g c = is_same-decides c.compare_views.result c.is_eq.result (sees c.args.left.now) (sees c.args.right.now) c.compare_views.ensures c.is_eq.ensures
