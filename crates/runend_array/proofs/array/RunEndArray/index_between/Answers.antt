use Rattle.std.proofs.Common.{◌≤◌, length, ap, subst, arith, ◌∙◌}
use Rattle.std.specs.Prelude.{slice_range}
use Rattle.column_base.proofs.Ranges.{length-slice_range}
use Rattle.runend_array.specs.Array.{column_of}
use Rattle.runend_array.specs.Column.{AreRuns, IsPlainIndex, Runs, end_numbers}
use Rattle.runend_array.proofs.ListItems.{rows_within_index}
use Rattle.runend_array.proofs.RunParts.{IsIndexInRange-between, rows-of_numbers}
use Rattle.runend_array.proofs.array.RunEndArray.index_between.Goals as goal

pub plain_numbers_between-requires-clause-in_bounds : goal.plain_numbers_between-requires-clause-in_bounds
plain_numbers_between-requires-clause-in_bounds g c =
    let plain : IsPlainIndex (column_of c.self.inside.values) = rw (← c.self.view_is) at c.requires.plain in
    let in_bounds = rw (← c.self.view_is) at c.runs_showing-runs.ensures.in_bounds in
    omega (arith, in_bounds, c.self.invariant.runs.paired, rows_within_index (column_of c.self.inside.values) plain)

pub runs_over-requires-clause-paired : goal.runs_over-requires-clause-paired
runs_over-requires-clause-paired g c =
    let plain : IsPlainIndex (column_of c.self.inside.values) = rw (← c.self.view_is) at c.requires.plain in
    let in_bounds = rw (← c.self.view_is) at c.runs_showing-runs.ensures.in_bounds in
    let within : c.runs_showing-runs.result.end ≤ length (end_numbers (column_of c.self.inside.values)) =
    omega (arith, in_bounds, c.self.invariant.runs.paired, rows_within_index (column_of c.self.inside.values) plain) in
    rows-of_numbers c.new_unchecked-values.result c.in_ok-numbers.numbers.items c.new_unchecked-values.ensures ∙ ap length c.in_ok-numbers.ensures.numbers
    ∙ length-slice_range (end_numbers (column_of c.self.inside.values)) c.runs_showing-runs.result.start c.runs_showing-runs.result.end c.runs_showing-runs.ensures.ordered within

pub returns-clause-form : goal.returns-clause-form
returns-clause-form g c =
    let runs = c.runs_showing-runs in
    IsIndexInRange-between c.args.self.now runs.result.start runs.result.end c.args.start c.args.stop runs.ensures.first runs.ensures.stop
    c.new_unchecked-values.result c.in_ok-numbers.numbers.items c.in_ok-part.part (subst AreRuns c.self.view_is c.self.invariant.runs) c.requires.in_bounds c.new_unchecked-values.ensures
    (c.in_ok-numbers.ensures.numbers ∙ ap (λ (r : Runs). slice_range (end_numbers r.values) c.runs_showing-runs.result.start c.runs_showing-runs.result.end) c.self.view_is)
    c.in_ok-part.ensures.form
