use Rattle.std.proofs.Common.{length, map, true, sym}
use Rattle.std.specs.Prelude.{unsigned_abs}
use Rattle.runend_windows.proofs.FlatColumns.{Covers-copies}
use Rattle.runend_windows.proofs.StoredNumbers.{length-naturals}
use Rattle.runend_windows.proofs.decode.decode_validity.Goals as goal

pub returns-in-NonNullable-clause-cover : goal.returns-in-NonNullable-clause-cover
returns-in-NonNullable-clause-cover g c =
    let number = g.E.NativePType.number in
    rw c.in-NonNullable.is
    (Covers-copies true (map unsigned_abs (map number c.args.ends.now)) c.args.offset c.args.count (length c.args.ends.now) c.requires.window (sym (length-naturals number c.args.ends.now)))

pub returns-in-AllValid-clause-cover : goal.returns-in-AllValid-clause-cover
returns-in-AllValid-clause-cover g c =
    let number = g.E.NativePType.number in
    rw c.in-AllValid.is
    (Covers-copies true (map unsigned_abs (map number c.args.ends.now)) c.args.offset c.args.count (length c.args.ends.now) c.requires.window (sym (length-naturals number c.args.ends.now)))
