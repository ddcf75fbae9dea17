use Rattle.std.proofs.Common.{◌≤◌, length, replicate, sym}
use Rattle.std.specs.Prelude.{option_map}
use Rattle.std.proofs.lemmas.List.{length-replicate}
use Rattle.column_base.proofs.Ranges.{slice_range-replicate}
use Rattle.column_core.specs.Value.{FlatValue, Single}
use Rattle.runend_column.proofs.sliced_rows.part_within.Goals as goal

pub returns-in_ok-part-in-Constant-clause-rows : goal.returns-in_ok-part-in-Constant-clause-rows
returns-in_ok-part-in-Constant-clause-rows g c =
    let constant = c.in-Constant.constant in
    let range = c.args.range in
    let row = option_map (λ (v : FlatValue). Single v) constant.value in
    let counted : range.end ≤ length (replicate constant.count row) = rw c.in-Constant.is at c.requires.in_bounds in
    let in_bounds : range.end ≤ constant.count = rw (length-replicate constant.count row) at counted in
    rw (c.in-Constant.is, c.in_ok-part-in-Constant.ensures.form)
    (sym (slice_range-replicate constant.count range.start range.end row c.requires.ordered in_bounds))
