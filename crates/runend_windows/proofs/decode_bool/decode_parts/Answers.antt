use Rattle.std.proofs.Common.{false, length, map, sym, ◌∙◌}
use Rattle.std.specs.Prelude.{unsigned_abs}
use Rattle.column_base.specs.Validity.{form_of}
use Rattle.runend_windows.proofs.Blanked.{blanked-all_null}
use Rattle.runend_windows.proofs.FlatColumns.{Covers-copies}
use Rattle.runend_windows.proofs.NullRows.{nullable-of_bits}
use Rattle.runend_windows.proofs.StoredNumbers.{length-naturals}
use Rattle.runend_windows.proofs.ValidRuns.{AreDecoded-never, AreDecoded-none_null, AreDecoded-marked}
use Rattle.runend_windows.proofs.decode_bool.decode_parts.Goals as goal

pub returns-in_ok-bits-in-NonNullable-clause-decoded : goal.returns-in_ok-bits-in-NonNullable-clause-decoded
returns-in_ok-bits-in-NonNullable-clause-decoded g c =
    let ends = map unsigned_abs (map g.E.NativePType.number c.args.ends.now) in
    rw c.in-NonNullable.is (AreDecoded-never false ends c.args.values.now c.args.offset c.args.count c.in_ok-bits-in-NonNullable.bits c.requires.window c.in_ok-bits-in-NonNullable.ensures.cover)

pub returns-in_ok-bits-in-AllValid-clause-decoded : goal.returns-in_ok-bits-in-AllValid-clause-decoded
returns-in_ok-bits-in-AllValid-clause-decoded g c =
    let ends = map unsigned_abs (map g.E.NativePType.number c.args.ends.now) in
    rw c.in-AllValid.is (AreDecoded-none_null false ends c.args.values.now c.args.offset c.args.count c.in_ok-bits-in-AllValid.bits c.requires.window c.in_ok-bits-in-AllValid.ensures.cover)

pub returns-in_ok-bits-in-AllInvalid-clause-decoded : goal.returns-in_ok-bits-in-AllInvalid-clause-decoded
returns-in_ok-bits-in-AllInvalid-clause-decoded g c =
    let ends = map unsigned_abs (map g.E.NativePType.number c.args.ends.now) in
    let long = length-naturals g.E.NativePType.number c.args.ends.now in
    let values = c.args.values.now in
    record {
      covered = rw (c.in-AllInvalid.is, c.freeze.ensures, c.in_ok-bits-in-AllInvalid.ensures.bits, blanked-all_null false values)
          (Covers-copies false ends c.args.offset c.args.count (length values) c.requires.window (c.requires.paired ∙ sym long));
      flagged = rw (← long) at c.in_ok-rows-in-AllInvalid.ensures.cover;
      fits = c.in_ok-rows-in-AllInvalid.ensures.fits;
      normal = c.in_ok-rows-in-AllInvalid.ensures.normal;
      nullability = c.in_ok-rows-in-AllInvalid.ensures.nullability;
      some = c.in_ok-rows-in-AllInvalid.ensures.some;
    }

pub returns-in_ok-bits-in-Bits-clause-decoded : goal.returns-in_ok-bits-in-Bits-clause-decoded
returns-in_ok-bits-in-Bits-clause-decoded g c =
    let ends = map unsigned_abs (map g.E.NativePType.number c.args.ends.now) in
    let form = form_of c.from_bits.result in
    let known = c.from_bits.ensures in
    rw c.in-Bits.is
    (AreDecoded-marked false ends c.args.values.now _ c.args.offset c.args.count c.in_ok-bits-in-Bits.bits c.in_ok-bits-in-Bits.flags form
    c.in_ok-bits-in-Bits.ensures.bits c.in_ok-bits-in-Bits.ensures.flags known.flags known.fits known.normal
    (nullable-of_bits form c.in_ok-bits-in-Bits.flags known.flags known.all_valid) (λ e. (known.all_null.0 e).0))
