use Rattle.std.proofs.Common.{arith}
use Rattle.column_fields.proofs.OneByteLaws.{eight_are, end_at}
use Rattle.column_fields.proofs.lengths.eight_lengths.Goals as goal

pub returns-clause-lengths : goal.returns-clause-lengths
returns-clause-lengths g c =
    let natural = g.E.UnsignedPType.natural in
    let ends = c.args.ends.now in
    let d = c.index-ends-0.result in
    eight_are natural d c.args.start ends _ _ _ _ _ _ _ _ _ _ _ _ _ _ _ _ c.requires
    (end_at natural ends 0 c.index-ends-0.result d c.end-first.result c.requires (omega arith) c.end-first.ensures.value c.index-ends-0.is)
    (end_at natural ends 1 c.index-ends-1.result d c.end-second.result c.requires (omega arith) c.end-second.ensures.value c.index-ends-1.is)
    (end_at natural ends 2 c.index-ends-2.result d c.end-third.result c.requires (omega arith) c.end-third.ensures.value c.index-ends-2.is)
    (end_at natural ends 3 c.index-ends-3.result d c.end-fourth.result c.requires (omega arith) c.end-fourth.ensures.value c.index-ends-3.is)
    (end_at natural ends 4 c.index-ends-4.result d c.end-fifth.result c.requires (omega arith) c.end-fifth.ensures.value c.index-ends-4.is)
    (end_at natural ends 5 c.index-ends-5.result d c.end-sixth.result c.requires (omega arith) c.end-sixth.ensures.value c.index-ends-5.is)
    (end_at natural ends 6 c.index-ends-6.result d c.end-seventh.result c.requires (omega arith) c.end-seventh.ensures.value c.index-ends-6.is)
    (end_at natural ends 7 c.index-ends-7.result d c.end-eighth.result c.requires (omega arith) c.end-eighth.ensures.value c.index-ends-7.is)
    c.saturating_sub.ensures c.saturating_sub-2.ensures c.saturating_sub-3.ensures c.saturating_sub-4.ensures c.saturating_sub-5.ensures c.saturating_sub-6.ensures c.saturating_sub-7.ensures c.saturating_sub-8.ensures
