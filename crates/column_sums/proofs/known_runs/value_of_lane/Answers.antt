use Rattle.std.proofs.Common.{◌≡◌, ◌+◌, arith}
use Rattle.std.proofs.lemmas.Nat.Bits.{bit_at-lt, shr_and_one}
use Rattle.column_base.specs.Words.{one_if}
use Rattle.column_sums.specs.Reach.{has_number}
use Rattle.column_sums.specs.Summed.{run_value}
use Rattle.column_sums.proofs.Reaches.{flag-null}
use Rattle.column_sums.proofs.known_runs.value_of_lane.Goals as goal

pub returns-else-flags-lane-eq1 : goal.returns-else-flags-lane-eq1
returns-else-flags-lane-eq1 g c =
    let runs = g.R.Runs.runs c.args.runs.now in
    let run = c.args.from + c.args.lane in
    let none : one_if (has_number (run_value runs run)) ≡ 0 =
    omega (arith, shr_and_one c.args.flags c.args.lane, c.requires.flags c.args.lane c.requires.lane, bit_at-lt c.args.flags c.args.lane, c.if-flags-lane-eq1.false) in
    flag-null runs run (omega (arith, c.requires.lane, c.requires.within)) none
