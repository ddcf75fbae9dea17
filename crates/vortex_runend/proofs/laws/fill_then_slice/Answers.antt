use Rattle.std.proofs.Common.{Option, Some, ap}
use Rattle.std.proofs.lemmas.List.{length-map}
use Rattle.std.specs.Prelude.{unwrap_or}
use Rattle.column_base.proofs.Ranges.{slice_range_of_map}
use Rattle.column_core.specs.Refusal.{range_fault}
use Rattle.column_core.specs.Value.{Value}
use Rattle.vortex_runend.proofs.laws.fill_then_slice.Goals as goal

pub returns : goal.returns
returns c = λ rows value start stop.
    let filled = λ (row : Option Value). Some (unwrap_or row value) in
    (slice_range_of_map filled rows start stop, ap (range_fault start stop) (length-map rows filled))
