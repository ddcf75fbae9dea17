use Rattle.std.proofs.Common.{◌≡◌, ℕ, length, true, false, sym, ap, subst, ◌∙◌}
use Rattle.std.specs.Prelude.{replicate}
use Rattle.std.proofs.lemmas.List.{length-replicate}
use Rattle.column_base.specs.Mask.{mask_bits}
use Rattle.column_base.specs.Validity.{form_of}
use Rattle.runend_windows.proofs.NullRows.{nullable-of_bits}
use Rattle.runend_windows.proofs.TypedRows.{Shows-of_valid, Shows-of_nulls, Shows-of_marks, nullable-under_nulls, nullable-under_values, rows_masked}
use Rattle.column_base.specs.ValidityForm.{HasLength}
use Rattle.runend_windows.proofs.WrittenConstants.{fits-without_nulls, normal-without_nulls, nullability-without_nulls, some-of_bits, some-without_nulls}
use Rattle.runend_windows.proofs.typed_bool.decode_typed_bits.Goals as goal

pub returns-in_ok-bits-in-AllTrue-clause-rows : goal.returns-in_ok-bits-in-AllTrue-clause-rows
returns-in_ok-bits-in-AllTrue-clause-rows g c ends given =
    let values = c.args.values.now in
    let n = c.in-AllTrue.field-0 in
    let bits : mask_bits c.args.mask.now ≡ replicate n true = ap (λ mask. mask_bits mask) c.in-AllTrue.is in
    let all = rows_masked true (mask_bits c.args.mask.now) n (length values) bits c.requires.masked in
    let shows = Shows-of_valid false c.in_ok-bits-in-AllTrue.bits c.args.nullability ends values n c.args.count all given.paired given.last (c.in_ok-bits-in-AllTrue.ensures.fills ends given) in
    rw (bits, c.no_null.ensures) shows.rows

pub returns-in_ok-bits-in-AllTrue-clause-blanks : goal.returns-in_ok-bits-in-AllTrue-clause-blanks
returns-in_ok-bits-in-AllTrue-clause-blanks g c =
    let values = c.args.values.now in
    let n = c.in-AllTrue.field-0 in
    let ends = c.requires.ends.0 in
    let given = c.requires.ends.1 in
    let bits : mask_bits c.args.mask.now ≡ replicate n true = ap (λ mask. mask_bits mask) c.in-AllTrue.is in
    let all = rows_masked true (mask_bits c.args.mask.now) n (length values) bits c.requires.masked in
    let shows = Shows-of_valid false c.in_ok-bits-in-AllTrue.bits c.args.nullability ends values n c.args.count all given.paired given.last (c.in_ok-bits-in-AllTrue.ensures.fills ends given) in
    rw c.no_null.ensures shows.blanks

pub returns-in_ok-bits-in-AllFalse-clause-rows : goal.returns-in_ok-bits-in-AllFalse-clause-rows
returns-in_ok-bits-in-AllFalse-clause-rows g c ends given =
    let values = c.args.values.now in
    let n = c.in-AllFalse.field-0 in
    let bits : mask_bits c.args.mask.now ≡ replicate n false = ap (λ mask. mask_bits mask) c.in-AllFalse.is in
    let all = rows_masked false (mask_bits c.args.mask.now) n (length values) bits c.requires.masked in
    let shows = Shows-of_nulls false (form_of c.no_value.result) ends values n c.args.count c.no_value.ensures.flags all given.paired given.last in
    rw (bits, c.freeze.ensures, c.in_ok-bits-in-AllFalse.ensures.bits) shows.rows

pub returns-in_ok-bits-in-AllFalse-clause-blanks : goal.returns-in_ok-bits-in-AllFalse-clause-blanks
returns-in_ok-bits-in-AllFalse-clause-blanks g c =
    let values = c.args.values.now in
    let n = c.in-AllFalse.field-0 in
    let given = c.requires.ends.1 in
    let bits : mask_bits c.args.mask.now ≡ replicate n false = ap (λ mask. mask_bits mask) c.in-AllFalse.is in
    let all = rows_masked false (mask_bits c.args.mask.now) n (length values) bits c.requires.masked in
    let shows = Shows-of_nulls false (form_of c.no_value.result) c.requires.ends.0 values n c.args.count c.no_value.ensures.flags all given.paired given.last in
    rw (c.freeze.ensures, c.in_ok-bits-in-AllFalse.ensures.bits) shows.blanks

pub returns-in_ok-bits-in-Values-clause-rows : goal.returns-in_ok-bits-in-Values-clause-rows
returns-in_ok-bits-in-Values-clause-rows g c ends given =
    let found = c.in_ok-bits-in-Values in
    let shows = Shows-of_marks false found.bits (form_of c.from_bits.result) found.flags ends c.args.values.now (mask_bits c.args.mask.now) c.args.count
    c.requires.masked c.from_bits.ensures.flags (found.ensures.bits ends given) (found.ensures.flags ends given) in
    shows.rows

pub returns-in_ok-bits-in-Values-clause-blanks : goal.returns-in_ok-bits-in-Values-clause-blanks
returns-in_ok-bits-in-Values-clause-blanks g c =
    let found = c.in_ok-bits-in-Values in
    let ends = c.requires.ends.0 in
    let given = c.requires.ends.1 in
    let shows = Shows-of_marks false found.bits (form_of c.from_bits.result) found.flags ends c.args.values.now (mask_bits c.args.mask.now) c.args.count
    c.requires.masked c.from_bits.ensures.flags (found.ensures.bits ends given) (found.ensures.flags ends given) in
    shows.blanks

pub returns-in_ok-bits-in-Values-clause-nullability : goal.returns-in_ok-bits-in-Values-clause-nullability
returns-in_ok-bits-in-Values-clause-nullability g c =
    nullable-of_bits (form_of c.from_bits.result) c.in_ok-bits-in-Values.flags c.from_bits.ensures.flags c.from_bits.ensures.all_valid
    ∙ sym (nullable-under_values c.args.nullability c.args.mask.now c.in-Values.field-0 c.in-Values.is c.requires.nullable)

pub returns-in_ok-bits-in-AllTrue-clause-counted : goal.returns-in_ok-bits-in-AllTrue-clause-counted
returns-in_ok-bits-in-AllTrue-clause-counted g c = (c.in_ok-bits-in-AllTrue.ensures.fills c.requires.ends.0 c.requires.ends.1).counted

pub returns-in_ok-bits-in-AllTrue-clause-fits : goal.returns-in_ok-bits-in-AllTrue-clause-fits
returns-in_ok-bits-in-AllTrue-clause-fits g c = rw c.no_null.ensures (fits-without_nulls c.args.nullability c.args.count)

pub returns-in_ok-bits-in-AllTrue-clause-normal : goal.returns-in_ok-bits-in-AllTrue-clause-normal
returns-in_ok-bits-in-AllTrue-clause-normal g c = rw c.no_null.ensures (normal-without_nulls c.args.nullability)

pub returns-in_ok-bits-in-AllTrue-clause-nullability : goal.returns-in_ok-bits-in-AllTrue-clause-nullability
returns-in_ok-bits-in-AllTrue-clause-nullability g c = rw c.no_null.ensures (nullability-without_nulls c.args.nullability)

pub returns-in_ok-bits-in-AllTrue-clause-some : goal.returns-in_ok-bits-in-AllTrue-clause-some
returns-in_ok-bits-in-AllTrue-clause-some g c = rw c.no_null.ensures (some-without_nulls c.args.nullability c.args.count)

pub returns-in_ok-bits-in-AllFalse-clause-counted : goal.returns-in_ok-bits-in-AllFalse-clause-counted
returns-in_ok-bits-in-AllFalse-clause-counted g c = rw (c.freeze.ensures, c.in_ok-bits-in-AllFalse.ensures.bits) (length-replicate c.args.count false)

pub returns-in_ok-bits-in-AllFalse-clause-fits : goal.returns-in_ok-bits-in-AllFalse-clause-fits
returns-in_ok-bits-in-AllFalse-clause-fits g c = c.no_value.ensures.fits

pub returns-in_ok-bits-in-AllFalse-clause-normal : goal.returns-in_ok-bits-in-AllFalse-clause-normal
returns-in_ok-bits-in-AllFalse-clause-normal g c = c.no_value.ensures.normal

pub returns-in_ok-bits-in-AllFalse-clause-nullability : goal.returns-in_ok-bits-in-AllFalse-clause-nullability
returns-in_ok-bits-in-AllFalse-clause-nullability g c =
    c.no_value.ensures.nullable ∙ sym (nullable-under_nulls c.args.nullability c.args.mask.now c.in-AllFalse.field-0 c.in-AllFalse.is c.requires.nullable)

pub returns-in_ok-bits-in-AllFalse-clause-some : goal.returns-in_ok-bits-in-AllFalse-clause-some
returns-in_ok-bits-in-AllFalse-clause-some g c = c.no_value.ensures.some

pub returns-in_ok-bits-in-Values-clause-counted : goal.returns-in_ok-bits-in-Values-clause-counted
returns-in_ok-bits-in-Values-clause-counted g c = (c.in_ok-bits-in-Values.ensures.bits c.requires.ends.0 c.requires.ends.1).counted

pub returns-in_ok-bits-in-Values-clause-fits : goal.returns-in_ok-bits-in-Values-clause-fits
returns-in_ok-bits-in-Values-clause-fits g c = subst (λ (n : ℕ). HasLength (form_of c.from_bits.result) n) (c.in_ok-bits-in-Values.ensures.flags c.requires.ends.0 c.requires.ends.1).counted c.from_bits.ensures.fits

pub returns-in_ok-bits-in-Values-clause-normal : goal.returns-in_ok-bits-in-Values-clause-normal
returns-in_ok-bits-in-Values-clause-normal g c = c.from_bits.ensures.normal

pub returns-in_ok-bits-in-Values-clause-some : goal.returns-in_ok-bits-in-Values-clause-some
returns-in_ok-bits-in-Values-clause-some g c = some-of_bits (form_of c.from_bits.result) c.in_ok-bits-in-Values.flags c.args.count (c.in_ok-bits-in-Values.ensures.flags c.requires.ends.0 c.requires.ends.1).counted c.from_bits.ensures.all_null
