use Rattle.std.proofs.Common.{length, map, sym, ◌∙◌}
use Rattle.std.specs.Prelude.{unsigned_abs}
use Rattle.column_base.specs.Validity.{form_of}
use Rattle.runend_windows.proofs.Blanked.{blanked-all_null}
use Rattle.runend_windows.proofs.FlatColumns.{Covers-copies}
use Rattle.runend_windows.proofs.NullRows.{nullable-of_bits}
use Rattle.runend_windows.proofs.StoredNumbers.{length-naturals}
use Rattle.runend_windows.proofs.ValidRuns.{AreDecoded-never, AreDecoded-none_null, AreDecoded-marked}
use Rattle.runend_windows.proofs.decode.decode_under.Goals as goal

pub returns-in_ok-items-in-NonNullable-clause-decoded : goal.returns-in_ok-items-in-NonNullable-clause-decoded
returns-in_ok-items-in-NonNullable-clause-decoded g c =
    let ends = map unsigned_abs (map g.E.NativePType.number c.args.ends.now) in
    rw c.in-NonNullable.is (AreDecoded-never c.args.blank ends c.args.values.now c.args.offset c.args.count c.in_ok-items-in-NonNullable.items.items c.requires.window c.in_ok-items-in-NonNullable.ensures.cover)

pub returns-in_ok-items-in-AllValid-clause-decoded : goal.returns-in_ok-items-in-AllValid-clause-decoded
returns-in_ok-items-in-AllValid-clause-decoded g c =
    let ends = map unsigned_abs (map g.E.NativePType.number c.args.ends.now) in
    rw c.in-AllValid.is (AreDecoded-none_null c.args.blank ends c.args.values.now c.args.offset c.args.count c.in_ok-items-in-AllValid.items.items c.requires.window c.in_ok-items-in-AllValid.ensures.cover)

pub returns-in_ok-rows-in-AllInvalid-clause-decoded : goal.returns-in_ok-rows-in-AllInvalid-clause-decoded
returns-in_ok-rows-in-AllInvalid-clause-decoded g c =
    let ends = map unsigned_abs (map g.E.NativePType.number c.args.ends.now) in
    let long = length-naturals g.E.NativePType.number c.args.ends.now in
    let values = c.args.values.now in
    record {
      covered = rw (c.in-AllInvalid.is, c.in_ok-items-in-AllInvalid.ensures.items, blanked-all_null c.args.blank values)
          (Covers-copies c.args.blank ends c.args.offset c.args.count (length values) c.requires.window (c.requires.paired ∙ sym long));
      flagged = rw (← long) at c.in_ok-rows-in-AllInvalid.ensures.cover;
      fits = c.in_ok-rows-in-AllInvalid.ensures.fits;
      normal = c.in_ok-rows-in-AllInvalid.ensures.normal;
      nullability = c.in_ok-rows-in-AllInvalid.ensures.nullability;
      some = c.in_ok-rows-in-AllInvalid.ensures.some;
    }

pub returns-in_ok-items-in-Bits-clause-decoded : goal.returns-in_ok-items-in-Bits-clause-decoded
returns-in_ok-items-in-Bits-clause-decoded g c =
    let ends = map unsigned_abs (map g.E.NativePType.number c.args.ends.now) in
    let form = form_of c.from_bits.result in
    let known = c.from_bits.ensures in
    rw c.in-Bits.is
    (AreDecoded-marked c.args.blank ends c.args.values.now _ c.args.offset c.args.count c.in_ok-items-in-Bits.items.items c.freeze.result form
    c.in_ok-items-in-Bits.ensures.items (rw c.freeze.ensures c.in_ok-items-in-Bits.ensures.bits) known.flags known.fits known.normal
    (nullable-of_bits form c.freeze.result known.flags known.all_valid) (λ e. (known.all_null.0 e).0))
