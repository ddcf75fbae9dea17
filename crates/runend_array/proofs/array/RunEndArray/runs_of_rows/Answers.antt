use Rattle.std.proofs.Common.{◌≡◌, ℕ, ◌+◌, ◌-◌, ◌<◌, List, length, ◌∙◌, arith}
use Rattle.std.specs.Prelude.{count_by, min, nat_le}
use Rattle.runend_array.specs.Array.{column_of}
use Rattle.runend_array.specs.Column.{runs_of}
use Rattle.runend_windows.specs.Window.{IsWindow, run_at}
use Rattle.runend_windows.proofs.RunAt.{run_at-count_by, run_of_row_within, runs_of_rows as some_runs}
use Rattle.runend_windows.proofs.SlicedRuns.{IsWindow-narrowed, first_le_last, slice_end}
use Rattle.runend_array.proofs.array.RunEndArray.runs_of_rows.Goals as goal

-- the run of a row, as the search finds it
first_of : (ends : List ℕ) (offset count start first : ℕ) → IsWindow ends offset count → start < count
    → first ≡ min (count_by (λ e. nat_le e (offset + start)) ends) (length ends - 1) → first ≡ run_at ends (offset + start)
first_of ends offset count start first window h place =
    let within = run_of_row_within ends offset count start window h in
    let counted = run_at-count_by ends (offset + start) window.increasing in
    omega arith

pub run_from_first-first-requires-clause-some : goal.run_from_first-first-requires-clause-some
run_from_first-first-requires-clause-some g c =
    let within = rw (← c.self.view_is) at c.requires.within in
    some_runs _ c.self.inside.offset c.self.inside.length c.self.invariant.runs.window (omega (arith, c.requires.some, within))

pub returns-clause-first : goal.returns-clause-first
returns-clause-first g c =
    let runs = runs_of (column_of c.self.inside.ends) (column_of c.self.inside.values) c.self.inside.offset c.self.inside.length in
    let within = rw (← c.self.view_is) at c.requires.within in
    rw (← c.self.view_is)
    (first_of runs.ends runs.offset runs.count c.args.start c.run_from_first-first.result c.self.invariant.runs.window (omega (arith, c.requires.some, within)) c.run_from_first-first.ensures)

pub returns-clause-last : goal.returns-clause-last
returns-clause-last g c =
    let runs = runs_of (column_of c.self.inside.ends) (column_of c.self.inside.values) c.self.inside.offset c.self.inside.length in
    let within = rw (← c.self.view_is) at c.requires.within in
    rw (← c.self.view_is)
    (c.slice_end_from_last-stop.ensures ∙ slice_end runs.ends runs.offset runs.count c.args.start c.args.stop c.self.invariant.runs.window c.requires.some within)

pub returns-clause-ordered : goal.returns-clause-ordered
returns-clause-ordered g c =
    let runs = runs_of (column_of c.self.inside.ends) (column_of c.self.inside.values) c.self.inside.offset c.self.inside.length in
    let within = rw (← c.self.view_is) at c.requires.within in
    let window = c.self.invariant.runs.window in
    let order = first_le_last runs.ends runs.offset runs.count c.args.start c.args.stop window c.requires.some within in
    let first = first_of runs.ends runs.offset runs.count c.args.start c.run_from_first-first.result window (omega (arith, c.requires.some, within)) c.run_from_first-first.ensures in
    let last = c.slice_end_from_last-stop.ensures ∙ slice_end runs.ends runs.offset runs.count c.args.start c.args.stop window c.requires.some within in
    omega (arith, order, first, last)

pub returns-clause-window : goal.returns-clause-window
returns-clause-window g c =
    let runs = runs_of (column_of c.self.inside.ends) (column_of c.self.inside.values) c.self.inside.offset c.self.inside.length in
    let within = rw (← c.self.view_is) at c.requires.within in
    let window = c.self.invariant.runs.window in
    let first = first_of runs.ends runs.offset runs.count c.args.start c.run_from_first-first.result window (omega (arith, c.requires.some, within)) c.run_from_first-first.ensures in
    let last = c.slice_end_from_last-stop.ensures ∙ slice_end runs.ends runs.offset runs.count c.args.start c.args.stop window c.requires.some within in
    rw (← c.self.view_is) (rw (first, last) (IsWindow-narrowed runs.ends runs.offset runs.count c.args.start c.args.stop window c.requires.some within))
