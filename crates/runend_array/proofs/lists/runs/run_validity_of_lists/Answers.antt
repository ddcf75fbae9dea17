use Rattle.std.proofs.Common.{◌-◌, ◌∙◌, ap, arith, length}
use Rattle.std.proofs.lemmas.List.FromFn.{length-map-range_with_len}
use Rattle.runend_array.specs.Array.{validity_of}
use Rattle.runend_array.specs.Lists.{row_flag_at}
use Rattle.runend_array.proofs.lists.runs.run_validity_of_lists.Goals as goal

pub flags_in_runs-requires-clause-paired : goal.flags_in_runs-requires-clause-paired
flags_in_runs-requires-clause-paired g c =
    ap length c.in_ok-flags-in_default.ensures.flags ∙ length-map-range_with_len (row_flag_at (validity_of c.args.validity.now)) 0 (c.len-runs.result - 0) ∙ omega (arith, c.len-runs.ensures.numbers)
