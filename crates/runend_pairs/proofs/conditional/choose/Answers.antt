use Rattle.std.proofs.Common.{length}
use Rattle.runend_array.specs.Array.{column_of, dtype_of, rows}
use Rattle.runend_pairs.proofs.Chosen.{chosen_column, kept_of_both, kept_counts, mask_of_left, mask_of_right}
use Rattle.runend_pairs.proofs.conditional.choose.Goals as goal

pub pick-requires-clause-picked : goal.pick-requires-clause-picked
pick-requires-clause-picked g c =
    let mask = c.args.mask.now in
    let left = c.args.left.now in
    let right = c.args.right.now in
    mask_of_left (dtype_of mask) (dtype_of left) (dtype_of right) (length (rows mask)) (length (rows left)) (length (rows right)) c.requires

pub pick-requires-2-clause-picked : goal.pick-requires-2-clause-picked
pick-requires-2-clause-picked g c =
    let mask = c.args.mask.now in
    let left = c.args.left.now in
    let right = c.args.right.now in
    mask_of_right (dtype_of mask) (dtype_of left) (dtype_of right) (length (rows mask)) (length (rows left)) (length (rows right)) c.requires

pub pick-chosen-requires-clause-picked : goal.pick-chosen-requires-clause-picked
pick-chosen-requires-clause-picked g c =
    let mask = c.args.mask.now in
    let left = c.args.left.now in
    let right = c.args.right.now in
    let kept = c.in_ok-kept.ensures.answers in
    let others = c.in-Ok.ensures.answers in
    kept_of_both (dtype_of mask) (dtype_of left) (dtype_of right) (length (rows mask)) (length (rows left)) (length (rows right)) c.requires (dtype_of c.in_ok-kept.kept) (dtype_of c.in-Ok.others)
    (length (rows c.in_ok-kept.kept)) (length (rows c.in-Ok.others)) kept.typed others.typed
    (kept_counts (dtype_of mask) (dtype_of left) (dtype_of right) (rows mask) (rows left) (rows right) c.requires (rows c.in_ok-kept.kept) (rows c.in-Ok.others) kept.shows others.shows)

pub returns-clause-answers : goal.returns-clause-answers
returns-clause-answers g c =
    let mask = c.args.mask.now in
    let left = c.args.left.now in
    let right = c.args.right.now in
    chosen_column (column_of mask) (column_of left) (column_of right) c.requires (column_of c.in_ok-kept.kept) (column_of c.in-Ok.others) (column_of c.in_ok-chosen.chosen)
    c.in_ok-kept.ensures.answers c.in-Ok.ensures.answers c.in_ok-chosen.ensures.answers
