use Rattle.std.proofs.Common.{◌≡◌, ℕ, length, map, pos, true, false, sym, ap, subst, ◌∙◌}
use Rattle.std.specs.Prelude.{replicate}
use Rattle.std.proofs.lemmas.List.{length-map, length-replicate}
use Rattle.column_base.specs.Mask.{mask_bits}
use Rattle.column_base.specs.Validity.{form_of}
use Rattle.column_base.specs.declared.dtype.DType.TheVariants as column
use Rattle.runend_windows.proofs.NullRows.{nullable-of_bits}
use Rattle.runend_windows.proofs.StoredNumbers.{map-replicate}
use Rattle.runend_windows.proofs.WrittenConstants.{fits-without_nulls, normal-without_nulls, nullability-without_nulls, some-of_bits, some-without_nulls}
use Rattle.runend_windows.proofs.TypedRows.{Shows-of_valid, Shows-of_nulls, Shows-of_marks, number_rows-of_Shows, IsComputed-of_Shows, nullable-under_nulls, nullable-under_values, rows_masked}
use Rattle.column_base.specs.ValidityForm.{HasLength}
use Rattle.runend_windows.proofs.typed.decode_typed_numbers.Goals as goal

pub returns-in_ok-items-in-AllTrue-clause-rows : goal.returns-in_ok-items-in-AllTrue-clause-rows
returns-in_ok-items-in-AllTrue-clause-rows g c ends given =
    let number = g.T.NativePType.number in
    let values = c.args.values.now in
    let n = c.in-AllTrue.field-0 in
    let long = length-map values number in
    let bits : mask_bits c.args.mask.now ≡ replicate n true = ap (λ mask. mask_bits mask) c.in-AllTrue.is in
    let all = rows_masked true (mask_bits c.args.mask.now) n (length values) bits c.requires.masked in
    let shows = Shows-of_valid (pos 0) (map number c.in_ok-items-in-AllTrue.items.items) c.args.nullability ends (map number values) n c.args.count
    (all ∙ sym long) (given.paired ∙ sym long) given.last (c.in_ok-items-in-AllTrue.ensures.fills ends given) in
    rw bits (number_rows-of_Shows c.new_unchecked.result ends (map number values) (replicate n true) c.args.count
    (rw (c.new_unchecked.ensures, c.wrap.ensures.shows, c.no_null-validity.ensures) shows))

pub returns-in_ok-items-in-AllTrue-clause-form : goal.returns-in_ok-items-in-AllTrue-clause-form
returns-in_ok-items-in-AllTrue-clause-form g c =
    let number = g.T.NativePType.number in
    let values = c.args.values.now in
    let n = c.in-AllTrue.field-0 in
    let long = length-map values number in
    let ends = c.requires.ends.0 in
    let given = c.requires.ends.1 in
    let bits : mask_bits c.args.mask.now ≡ replicate n true = ap (λ mask. mask_bits mask) c.in-AllTrue.is in
    let all = rows_masked true (mask_bits c.args.mask.now) n (length values) bits c.requires.masked in
    let shows = Shows-of_valid (pos 0) (map number c.in_ok-items-in-AllTrue.items.items) c.args.nullability ends (map number values) n c.args.count
    (all ∙ sym long) (given.paired ∙ sym long) given.last (c.in_ok-items-in-AllTrue.ensures.fills ends given) in
    IsComputed-of_Shows c.new_unchecked.result ends (map number values) (replicate n true) c.args.count
    (rw (c.new_unchecked.ensures, c.wrap.ensures.shows, c.no_null-validity.ensures) shows)
    (rw (c.new_unchecked.ensures, c.no_null-validity.ensures) (normal-without_nulls c.args.nullability))
    (rw (c.new_unchecked.ensures, c.no_null-validity.ensures) (some-without_nulls c.args.nullability c.args.count))

pub returns-in_ok-zeros-in-AllFalse-clause-rows : goal.returns-in_ok-zeros-in-AllFalse-clause-rows
returns-in_ok-zeros-in-AllFalse-clause-rows g c ends given =
    let number = g.T.NativePType.number in
    let values = c.args.values.now in
    let n = c.in-AllFalse.field-0 in
    let long = length-map values number in
    let bits : mask_bits c.args.mask.now ≡ replicate n false = ap (λ mask. mask_bits mask) c.in-AllFalse.is in
    let all = rows_masked false (mask_bits c.args.mask.now) n (length values) bits c.requires.masked in
    let shows = Shows-of_nulls (pos 0) (form_of c.no_value.result) ends (map number values) n c.args.count c.no_value.ensures.flags
    (all ∙ sym long) (given.paired ∙ sym long) given.last in
    rw bits (number_rows-of_Shows c.new_unchecked-in-AllFalse.result ends (map number values) (replicate n false) c.args.count
    (rw (
      c.new_unchecked-in-AllFalse.ensures,
      c.wrap-in-AllFalse.ensures.shows,
      c.in_ok-zeros-in-AllFalse.ensures.items,
      map-replicate number c.args.count c.default.result,
      g.met.T.NativePType.law.zeroth c.default.result c.default.ensures,
    ) shows))

pub returns-in_ok-zeros-in-AllFalse-clause-form : goal.returns-in_ok-zeros-in-AllFalse-clause-form
returns-in_ok-zeros-in-AllFalse-clause-form g c =
    let number = g.T.NativePType.number in
    let values = c.args.values.now in
    let n = c.in-AllFalse.field-0 in
    let long = length-map values number in
    let ends = c.requires.ends.0 in
    let given = c.requires.ends.1 in
    let bits : mask_bits c.args.mask.now ≡ replicate n false = ap (λ mask. mask_bits mask) c.in-AllFalse.is in
    let all = rows_masked false (mask_bits c.args.mask.now) n (length values) bits c.requires.masked in
    let shows = Shows-of_nulls (pos 0) (form_of c.no_value.result) ends (map number values) n c.args.count c.no_value.ensures.flags
    (all ∙ sym long) (given.paired ∙ sym long) given.last in
    IsComputed-of_Shows c.new_unchecked-in-AllFalse.result ends (map number values) (replicate n false) c.args.count
    (rw (
      c.new_unchecked-in-AllFalse.ensures,
      c.wrap-in-AllFalse.ensures.shows,
      c.in_ok-zeros-in-AllFalse.ensures.items,
      map-replicate number c.args.count c.default.result,
      g.met.T.NativePType.law.zeroth c.default.result c.default.ensures,
    ) shows)
    (rw c.new_unchecked-in-AllFalse.ensures c.no_value.ensures.normal)
    (rw c.new_unchecked-in-AllFalse.ensures c.no_value.ensures.some)

pub returns-in_ok-items-in-Values-clause-rows : goal.returns-in_ok-items-in-Values-clause-rows
returns-in_ok-items-in-Values-clause-rows g c ends given =
    let number = g.T.NativePType.number in
    let values = c.args.values.now in
    let bits = mask_bits c.args.mask.now in
    let found = c.in_ok-items-in-Values in
    let shows = Shows-of_marks (pos 0) (map number found.items.items) (form_of c.from_bits-validity.result) found.bits ends (map number values) bits c.args.count
    (c.requires.masked ∙ sym (length-map values number)) c.from_bits-validity.ensures.flags (found.ensures.numbers ends given) (found.ensures.flags ends given) in
    number_rows-of_Shows c.new_unchecked-in-Values.result ends (map number values) bits c.args.count
    (rw (c.new_unchecked-in-Values.ensures, c.wrap-in-Values.ensures.shows) shows)

pub returns-in_ok-items-in-Values-clause-dtype : goal.returns-in_ok-items-in-Values-clause-dtype
returns-in_ok-items-in-Values-clause-dtype g c =
    let nullable = nullable-of_bits (form_of c.from_bits-validity.result) c.in_ok-items-in-Values.bits c.from_bits-validity.ensures.flags c.from_bits-validity.ensures.all_valid
    ∙ sym (nullable-under_values c.args.nullability c.args.mask.now c.in-Values.field-0 c.in-Values.is c.requires.nullable) in
    rw (c.new_unchecked-in-Values.ensures, c.wrap-in-Values.ensures.typed) (ap (column.Primitive g.T.NativePType.PTYPE) nullable)

pub returns-in_ok-items-in-Values-clause-form : goal.returns-in_ok-items-in-Values-clause-form
returns-in_ok-items-in-Values-clause-form g c =
    let number = g.T.NativePType.number in
    let values = c.args.values.now in
    let bits = mask_bits c.args.mask.now in
    let found = c.in_ok-items-in-Values in
    let ends = c.requires.ends.0 in
    let given = c.requires.ends.1 in
    let shows = Shows-of_marks (pos 0) (map number found.items.items) (form_of c.from_bits-validity.result) found.bits ends (map number values) bits c.args.count
    (c.requires.masked ∙ sym (length-map values number)) c.from_bits-validity.ensures.flags (found.ensures.numbers ends given) (found.ensures.flags ends given) in
    IsComputed-of_Shows c.new_unchecked-in-Values.result ends (map number values) bits c.args.count
    (rw (c.new_unchecked-in-Values.ensures, c.wrap-in-Values.ensures.shows) shows)
    (rw c.new_unchecked-in-Values.ensures c.from_bits-validity.ensures.normal)
    (rw c.new_unchecked-in-Values.ensures (some-of_bits (form_of c.from_bits-validity.result) found.bits c.args.count (found.ensures.flags ends given).counted c.from_bits-validity.ensures.all_null))

pub new_unchecked-requires : goal.new_unchecked-requires
new_unchecked-requires g c = rw c.no_null-validity.ensures (fits-without_nulls c.args.nullability _)

pub new_unchecked-requires-in-AllFalse : goal.new_unchecked-requires-in-AllFalse
new_unchecked-requires-in-AllFalse g c =
    let long = length-map c.in_ok-zeros-in-AllFalse.zeros.items g.T.NativePType.number ∙ ap length c.in_ok-zeros-in-AllFalse.ensures.items ∙ length-replicate c.args.count c.default.result in
    subst (λ (n : ℕ). HasLength (form_of c.no_value.result) n) (sym (ap length c.wrap-in-AllFalse.ensures.shows ∙ long)) c.no_value.ensures.fits

pub new_unchecked-requires-in-Values : goal.new_unchecked-requires-in-Values
new_unchecked-requires-in-Values g c =
    let found = c.in_ok-items-in-Values in
    let long = (found.ensures.flags c.requires.ends.0 c.requires.ends.1).counted ∙ sym (ap length c.wrap-in-Values.ensures.shows ∙ (found.ensures.numbers c.requires.ends.0 c.requires.ends.1).counted) in
    subst (λ (n : ℕ). HasLength (form_of c.from_bits-validity.result) n) long c.from_bits-validity.ensures.fits

pub returns-in_ok-items-in-AllTrue-clause-dtype : goal.returns-in_ok-items-in-AllTrue-clause-dtype
returns-in_ok-items-in-AllTrue-clause-dtype g c =
    rw (c.new_unchecked.ensures, c.wrap.ensures.typed, c.no_null-validity.ensures) (ap (column.Primitive g.T.NativePType.PTYPE) (nullability-without_nulls c.args.nullability))

pub returns-in_ok-items-in-AllTrue-clause-some : goal.returns-in_ok-items-in-AllTrue-clause-some
returns-in_ok-items-in-AllTrue-clause-some g c = rw (c.new_unchecked.ensures, c.no_null-validity.ensures) (some-without_nulls c.args.nullability c.args.count)

pub returns-in_ok-zeros-in-AllFalse-clause-dtype : goal.returns-in_ok-zeros-in-AllFalse-clause-dtype
returns-in_ok-zeros-in-AllFalse-clause-dtype g c =
    let nullable = c.no_value.ensures.nullable ∙ sym (nullable-under_nulls c.args.nullability c.args.mask.now c.in-AllFalse.field-0 c.in-AllFalse.is c.requires.nullable) in
    rw (c.new_unchecked-in-AllFalse.ensures, c.wrap-in-AllFalse.ensures.typed) (ap (column.Primitive g.T.NativePType.PTYPE) nullable)

pub returns-in_ok-zeros-in-AllFalse-clause-some : goal.returns-in_ok-zeros-in-AllFalse-clause-some
returns-in_ok-zeros-in-AllFalse-clause-some g c = rw c.new_unchecked-in-AllFalse.ensures c.no_value.ensures.some

pub returns-in_ok-items-in-Values-clause-some : goal.returns-in_ok-items-in-Values-clause-some
returns-in_ok-items-in-Values-clause-some g c =
    let found = c.in_ok-items-in-Values in
    rw c.new_unchecked-in-Values.ensures
    (some-of_bits (form_of c.from_bits-validity.result) found.bits c.args.count (found.ensures.flags c.requires.ends.0 c.requires.ends.1).counted c.from_bits-validity.ensures.all_null)
