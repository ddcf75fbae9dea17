use Rattle.column_fields.proofs.ShortLaws.{sums_shown}
use Rattle.column_fields.proofs.ends.running_sums.Goals as goal

pub returns : goal.returns
returns c =
    sums_shown c.args.lengths.now _ _ _ _ _ _ _ _ c.told-lengths c.from-first.ensures c.from.ensures c.from-2.ensures c.from-3.ensures c.from-4.ensures c.from-5.ensures c.from-6.ensures c.from-7.ensures
