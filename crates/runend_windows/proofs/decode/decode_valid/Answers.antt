use Rattle.std.proofs.Common.{◌≡◌, ◌-◌, ◌<◌, Some, length, map, min, refl, ◌∙◌, arith}
use Rattle.std.specs.Prelude.{slice_get, slice_index, unsigned_abs}
use Rattle.std.proofs.lemmas.Option.{slice_get_read}
use Rattle.runend_windows.proofs.Decoded.{Decoded-all, Decoded-next}
use Rattle.runend_windows.proofs.StoredNumbers.{length-naturals}
use Rattle.runend_windows.proofs.decode.decode_valid.Goals as goal

pub loop-run-preserved : goal.loop-run-preserved
loop-run-preserved g c =
    let end_number = g.E.NativePType.number in
    let ends = map unsigned_abs (map end_number c.args.ends.now) in
    let values = c.args.values.now in
    let run = c.loop-run.run in
    let rows = c.loop-run.rows.rows in
    let item = c.index-values-run.result in
    let within : run < length ends = omega (arith, length-naturals end_number c.args.ends.now) in
    let stored : run < length values = omega (arith, length-naturals end_number c.args.ends.now) in
    let here : slice_get values run ≡ Some item = slice_get_read values (length values) run item refl stored c.index-values-run.is in
    let copies : c.reach_of.result - length rows ≡ min (slice_index ends run - c.args.offset) c.args.count - length rows = omega (arith, c.reach_of.ensures) in
    record {
      rows = rw c.repeat_to.ensures.rows
          (Decoded-next ends values c.args.offset c.args.count run rows item (c.reach_of.result - length rows) c.requires.window within here copies c.loop-run.invariant.rows);
      limit = c.repeat_to.ensures.limit ∙ c.loop-run.invariant.limit;
    }

pub returns-clause-cover : goal.returns-clause-cover
returns-clause-cover g c =
    let end_number = g.E.NativePType.number in
    let ends = map unsigned_abs (map end_number c.args.ends.now) in
    let long = length-naturals end_number c.args.ends.now in
    let all : c.loop-run.run ≡ length ends = omega arith in
    rw c.finish.ensures
    (Decoded-all ends c.args.values.now c.args.offset c.args.count c.loop-run.run c.loop-run.rows.rows c.requires.window (omega arith) all c.loop-run.invariant.rows)
