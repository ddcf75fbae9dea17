use Rattle.std.proofs.Common.{◌∙◌, w64}
use Rattle.std.proofs.lemmas.Int.{to_z-of_z}
use Rattle.column_sums.proofs.Within.{widened}
use Rattle.column_sums.proofs.signed.sum_with.Goals as goal

pub returns : goal.returns
returns c =
    widened c.args.sum c.args.value c.from.result c.from-2.result c.args.len c.ranges.sum c.ranges.value c.ranges.len.fits
    (c.from.ensures ∙ to_z-of_z w64 c.args.sum c.ranges.sum) (c.from-2.ensures ∙ to_z-of_z w64 c.args.value c.ranges.value)
