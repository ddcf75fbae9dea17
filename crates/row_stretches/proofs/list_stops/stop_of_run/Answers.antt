use Rattle.std.proofs.Common.{◌≡◌, ◌+◌, ◌-◌, ℕ, List, ap, arith, length, min, slice_index}
use Rattle.runend_windows.specs.Ends.{ends_of}
use Rattle.runend_windows.specs.Window.{run_at}
use Rattle.runend_windows.proofs.RunAt.{run_of_row_within, runs_of_rows}
use Rattle.row_stretches.proofs.Copies.{row_stays, run_stays}
use Rattle.row_stretches.proofs.list_stops.stop_of_run.Goals as goal

pub find_physical_index-requires : goal.find_physical_index-requires
find_physical_index-requires g c =
    let r = c.args.runs.now in
    record { some = runs_of_rows r.ends r.offset r.count c.ends.ensures.valid.window (omega (arith, c.requires)); within = omega (arith, c.requires) }

pub end_of-end-requires-clause-there : goal.end_of-end-requires-clause-there
end_of-end-requires-clause-there g c =
    let r = c.args.runs.now in
    let own : ends_of c.in-Primitive.ends ≡ r.ends = rw c.in-Primitive.is at c.ends.ensures.numbers in
    let found = c.find_physical_index.ensures.run c.requires in
    let within = run_of_row_within r.ends r.offset r.count c.args.row c.ends.ensures.valid.window c.requires in
    let long = ap (λ (es : List ℕ). length es) own in
    omega (arith, found, within, long)

pub returns-in-Primitive : goal.returns-in-Primitive
returns-in-Primitive g c =
    let r = c.args.runs.now in
    let run = c.find_physical_index.result in
    let own : ends_of c.in-Primitive.ends ≡ r.ends = rw c.in-Primitive.is at c.ends.ensures.numbers in
    let here = ap (λ (es : List ℕ). slice_index es run) own in
    let reached : c.min.result ≡ min (slice_index r.ends run - r.offset) r.count = omega (arith, c.min.ensures, c.saturating_sub.ensures, c.end_of-end.ensures, here, c.offset.ensures, c.len.ensures) in
    run_stays r.ends r.offset r.count c.args.row run c.min.result c.ends.ensures.valid.window c.requires (c.find_physical_index.ensures.run c.requires) reached

pub returns-in_default : goal.returns-in_default
returns-in_default g c =
    let r = c.args.runs.now in
    row_stays (λ (k : ℕ). run_at r.ends (r.offset + k)) c.args.row r.count c.requires

pub overflow_add-result : goal.overflow_add-result
overflow_add-result g c = omega (arith, c.requires, c.ends.ensures.valid.window.small)
