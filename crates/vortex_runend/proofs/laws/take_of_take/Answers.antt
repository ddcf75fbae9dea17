use Rattle.std.specs.Prelude.{length}
use Rattle.vortex_runend.proofs.Rows.{take_fault-twice, take_rows-twice}
use Rattle.vortex_runend.proofs.laws.take_of_take.Goals as goal

pub returns : goal.returns
returns c = λ rows first second. (take_rows-twice rows first second, take_fault-twice first second (length rows))
