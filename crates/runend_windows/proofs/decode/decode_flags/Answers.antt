use Rattle.std.proofs.Common.{◌≡◌, ◌-◌, ◌<◌, length, map, min, sym, ◌∙◌, arith}
use Rattle.std.specs.Prelude.{slice_index, unsigned_abs}
use Rattle.column_base.specs.ValidityForm.{flags}
use Rattle.column_base.specs.Validity.{form_of}
use Rattle.column_base.proofs.ValidityRows.{length-flags}
use Rattle.runend_windows.proofs.Decoded.{Decoded-next, Decoded-all}
use Rattle.runend_windows.proofs.StoredNumbers.{flags-read, length-naturals}
use Rattle.runend_windows.proofs.decode.decode_flags.Goals as goal

pub loop-run-preserved : goal.loop-run-preserved
loop-run-preserved g c =
    let number = g.E.NativePType.number in
    let ends = map unsigned_abs (map number c.args.ends.now) in
    let n = length c.args.ends.now in
    let form = form_of c.args.validity.now in
    let run = c.loop-run.run in
    let value = flags-read form n run c.is_valid.result c.requires.fits c.loop-run-test.true c.is_valid.ensures in
    let missing = c.saturating_sub-missing.result in
    let copies : missing ≡ min (slice_index ends run - c.args.offset) c.args.count - length c.loop-run.rows = omega (arith, c.reach_of.ensures) in
    let within : run < length ends = omega (arith, length-naturals number c.args.ends.now) in
    rw c.in_ok-append_n.ensures.ok
    (Decoded-next ends (flags form n) c.args.offset c.args.count run c.loop-run.rows c.is_valid.result missing c.requires.window within value copies c.loop-run.invariant)

pub returns-clause-cover : goal.returns-clause-cover
returns-clause-cover g c =
    let number = g.E.NativePType.number in
    let ends = map unsigned_abs (map number c.args.ends.now) in
    let n = length c.args.ends.now in
    let form = form_of c.args.validity.now in
    let long = length-naturals number c.args.ends.now in
    let paired = length-flags form n c.requires.fits in
    let all : c.loop-run.run ≡ length ends = omega arith in
    Decoded-all ends (flags form n) c.args.offset c.args.count c.loop-run.run c.loop-run.rows c.requires.window (paired ∙ sym long) all c.loop-run.invariant
