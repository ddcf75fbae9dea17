use Rattle.std.proofs.Common.{rules}
use Rattle.runend_windows.proofs.RunRows.{length-run_rows}
use Rattle.runend_array.proofs.array_ref.ArrayRef.len.Goals as goal

pub returns-in-RunEnd : goal.returns-in-RunEnd
returns-in-RunEnd g c = rw c.in-RunEnd.is (rw length-run_rows (search rules))
