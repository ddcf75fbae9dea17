use Rattle.std.proofs.Common.{◌+ℤ◌, w64}
use Rattle.std.proofs.lemmas.Int.{to_z-of_z}
use Rattle.column_sums.proofs.Within.{signed-is_within, sum-of}
use Rattle.column_sums.proofs.signed.sum_of.Goals as goal

pub overflow_add-result : goal.overflow_add-result
overflow_add-result c =
    rw (to_z-of_z w64 c.args.sum c.ranges.sum, to_z-of_z w64 c.args.more c.ranges.more) (signed-is_within (c.args.sum +ℤ c.args.more) c.requires)

pub returns-clause-sum : goal.returns-clause-sum
returns-clause-sum c = sum-of c.args.sum c.args.more c.ranges.sum c.ranges.more (signed-is_within (c.args.sum +ℤ c.args.more) c.requires)
