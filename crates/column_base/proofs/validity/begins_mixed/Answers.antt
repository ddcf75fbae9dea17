use Rattle.std.proofs.Common.{arith}
use Rattle.std.proofs.lemmas.Bool.Decides.{Decides-ltb}
use Rattle.column_base.proofs.BitLists.{both_from_front}
use Rattle.column_base.proofs.validity.begins_mixed.Goals as goal

pub returns-then-valid-gt0-clause-not_all : goal.returns-then-valid-gt0-clause-not_all
returns-then-valid-gt0-clause-not_all g c = λ less.
    let fewer = (Decides-ltb c.count_range-valid.result c.min-count.result).0 less in
    both_from_front c.args.bits.now c.min-count.result (omega (arith, c.len.ensures, c.min-count.ensures)) (omega (arith, fewer, c.count_range-valid.ensures))
