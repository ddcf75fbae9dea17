use Rattle.std.proofs.Common.{◌≡◌, ◌<◌, arith, length, map}
use Rattle.std.specs.Prelude.{if◌then◌else◌, None, slice_index_or, unsigned_abs, ◌-◌}
use Rattle.column_core.specs.FlatColumn.{leaf_of}
use Rattle.column_core.specs.Leaf.{single_rows}
use Rattle.runend_windows.proofs.StoredNumbers.{length-naturals}
use Rattle.runend_select.specs.MaskRuns.{is_true}
use Rattle.runend_select.proofs.MaskRuns.{all_written, one_written, read_value}
use Rattle.runend_select.proofs.mask_runs.runs_in.Goals as goal

pub loop-run-preserved : goal.loop-run-preserved
loop-run-preserved g c =
    let number = g.E.NativePType.number in
    let ends = map unsigned_abs (map number c.args.ends.now) in
    let values = single_rows (leaf_of c.args.truths.now) in
    let run = c.loop-run.run in
    let row = c.loop-run.row in
    let rank = c.loop-run.rank in
    let stop = c.reach_of-stop.result in
    let added = c.true_rows-rank.result in
    let inv = c.loop-run.invariant in
    let within : run < length ends = omega (arith, length-naturals number c.args.ends.now, c.loop-run-test.true) in
    let there : run < length values = omega (arith, c.requires.paired, c.loop-run-test.true) in
    let value = read_value values run _ there c.get.ensures.row in
    let added_is : added ≡ (if is_true (slice_index_or values run None) then stop - row else 0) = rw value c.true_rows-rank.ensures in
    record {
      written = rw (c.push_reserved.ensures.items, c.push_reserved-in-loop-run.ensures.items)
          (one_written ends values c.args.offset c.args.count run row rank stop added c.loop-run.stops.items c.loop-run.ranks.items c.requires.window within inv.written c.reach_of-stop.ensures added_is);
      few = omega (arith, inv.few, c.push_reserved.ensures.len);
      room = omega (arith, inv.room, c.push_reserved.ensures.capacity);
      few_ranks = omega (arith, inv.few_ranks, c.push_reserved-in-loop-run.ensures.len);
      room_ranks = omega (arith, inv.room_ranks, c.push_reserved-in-loop-run.ensures.capacity);
    }

pub returns-clause-runs : goal.returns-clause-runs
returns-clause-runs g c =
    let number = g.E.NativePType.number in
    let ends = map unsigned_abs (map number c.args.ends.now) in
    let all : c.loop-run.run ≡ length ends = omega (arith, length-naturals number c.args.ends.now, c.loop-run.auto.run-end, c.loop-run-test.false) in
    all_written ends (single_rows (leaf_of c.args.truths.now)) c.args.offset c.args.count c.loop-run.run c.loop-run.row c.loop-run.rank c.loop-run.stops.items c.loop-run.ranks.items c.requires.window all c.loop-run.invariant.written
