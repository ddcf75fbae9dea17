use Rattle.runend_pairs.proofs.Picked.{view_in}
use Rattle.runend_pairs.proofs.choices.PickingPairwise.answer.Goals as goal

pub of_view-requires-else-is_lesser : goal.of_view-requires-else-is_lesser
of_view-requires-else-is_lesser g c = view_in (g.K.Stored.dtype_in c.args.self.now.stored.now) c.requires.right_type c.args.right.now c.requires.taken.1 c.requires.right_is

pub of_view-requires-else-is_greater : goal.of_view-requires-else-is_greater
of_view-requires-else-is_greater g c = view_in (g.K.Stored.dtype_in c.args.self.now.stored.now) c.requires.right_type c.args.right.now c.requires.taken.1 c.requires.right_is
