use Rattle.std.proofs.Common.{length, arith}
use Rattle.column_base.specs.Mask.{mask_bits}
use Rattle.runend_select.specs.Indices.{optional_indices, valid_count}
use Rattle.runend_select.proofs.Places.{searches_within}
use Rattle.runend_select.proofs.strategy_laws.counts.search_of_four_indices.Goals as goal

pub returns-clause-cost : goal.returns-clause-cost
returns-clause-cost g c =
    let count = valid_count (optional_indices g.T.NativePType.number c.args.indices.now (mask_bits c.args.mask.now)) in
    let four = c.requires.four in
    let most = searches_within count 4 (length c.args.four_runs.now.ends) 3 c.requires.four_valid (omega arith) in
    let cost = c.physical_indices_binary.ensures.cost in
    omega arith
