use Rattle.std.proofs.Common.{◌<◌, arith}
use Rattle.runend_array.specs.Array.{column_of}
use Rattle.runend_array.specs.Column.{IsPlainIndex, end_numbers, runs_of}
use Rattle.runend_windows.proofs.RunAt.{run_of_row_within}
use Rattle.runend_array.proofs.ListItems.{rows_within_index}
use Rattle.runend_array.proofs.ListWalks.{run_stop-past, run_stop-reached}
use Rattle.runend_array.proofs.array.RunEndArray.number_from.Goals as goal

pub plain_number_at-requires-clause-within : goal.plain_number_at-requires-clause-within
plain_number_at-requires-clause-within g c =
    let within : c.args.index < c.self.inside.length = rw (← c.self.view_is) at c.requires.within in
    let plain : IsPlainIndex (column_of c.self.inside.values) = rw (← c.self.view_is) at c.requires.plain in
    let place = rw (← c.self.view_is) at c.run_from.ensures in
    let run = run_of_row_within (end_numbers (column_of c.self.inside.ends)) c.self.inside.offset c.self.inside.length c.args.index c.self.invariant.runs.window within in
    omega (arith, run, place, c.self.invariant.runs.paired, rows_within_index (column_of c.self.inside.values) plain)

pub reach_of-requires-clause-within : goal.reach_of-requires-clause-within
reach_of-requires-clause-within g c =
    let runs = runs_of (column_of c.self.inside.ends) (column_of c.self.inside.values) c.self.inside.offset c.self.inside.length in
    let within : c.args.index < runs.count = rw (← c.self.view_is) at c.requires.within in
    let place = rw (← c.self.view_is) at c.run_from.ensures in
    let run = run_of_row_within runs.ends runs.offset runs.count c.args.index c.self.invariant.runs.window within in
    rw (← c.self.view_is) (omega (arith, run, place))

pub returns-clause-stop : goal.returns-clause-stop
returns-clause-stop g c =
    let runs = runs_of (column_of c.self.inside.ends) (column_of c.self.inside.values) c.self.inside.offset c.self.inside.length in
    let place = rw (← c.self.view_is) at c.run_from.ensures in
    let reached = rw (← c.self.view_is) at c.reach_of.ensures in
    rw (← c.self.view_is) (run_stop-reached runs.ends runs.offset runs.count c.args.index c.run_from.result c.reach_of.result place reached)

pub returns-clause-within : goal.returns-clause-within
returns-clause-within g c =
    let runs = runs_of (column_of c.self.inside.ends) (column_of c.self.inside.values) c.self.inside.offset c.self.inside.length in
    let within : c.args.index < runs.count = rw (← c.self.view_is) at c.requires.within in
    let place = rw (← c.self.view_is) at c.run_from.ensures in
    let reached = rw (← c.self.view_is) at c.reach_of.ensures in
    let stop = run_stop-reached runs.ends runs.offset runs.count c.args.index c.run_from.result c.reach_of.result place reached in
    let past = run_stop-past runs.ends runs.offset runs.count c.args.index c.self.invariant.runs.window within in
    omega (arith, stop, past)
