use Rattle.std.proofs.Common.{◌<◌, arith, map}
use Rattle.column_fields.specs.Lengths.{greatest, lengths_from}
use Rattle.column_fields.proofs.BlockLaws.{block_of_short, block_of_two}
use Rattle.column_fields.proofs.length_sizes.measure_block.Goals as goal

pub returns-then-longest-lt128-clause-size : goal.returns-then-longest-lt128-clause-size
returns-then-longest-lt128-clause-size g c =
    let natural = g.E.UnsignedPType.natural in
    let short : greatest (lengths_from (natural c.args.start) (map natural c.args.ends.now)) < 128 = omega (arith, c.if-longest-lt128.true, c.end-longest.ensures.value, c.longest_run.ensures.longest) in
    omega (arith, block_of_short natural (natural c.args.start) c.args.ends.now short)

pub returns-then-longest-lt16384-clause-size : goal.returns-then-longest-lt16384-clause-size
returns-then-longest-lt16384-clause-size g c =
    let natural = g.E.UnsignedPType.natural in
    let short : greatest (lengths_from (natural c.args.start) (map natural c.args.ends.now)) < 16384 = omega (arith, c.if-longest-lt16384.true, c.end-longest.ensures.value, c.longest_run.ensures.longest) in
    omega (arith, block_of_two natural (natural c.args.start) c.args.ends.now short, c.long_runs.ensures.count)
