use Rattle.std.proofs.Common.{ℤ, pos, length, map, sym, ap, subst, ◌∙◌}
use Rattle.std.specs.Prelude.{IfOk}
use Rattle.std.proofs.lemmas.List.{map-id}
use Rattle.column_base.specs.declared.dtype.DType.TheVariants as column
use Rattle.column_base.specs.declared.dtype.PType.TheVariants.{U8, U16, U32, U64, I8, I16, I32, I64}
use Rattle.column_base.specs.Numbers.{numbers, ptype_of}
use Rattle.column_base.specs.ValidityForm.{nullability_in}
use Rattle.column_base.specs.Validity.{form_of, validity_flags}
use Rattle.column_core.specs.Leaf.{OfNumbers}
use Rattle.column_core.specs.Optionals.{optionals}
use Rattle.column_core.specs.PrimitiveForm.{PrimitiveForm, primitive_rows}
use Rattle.column_ops.specs.Computed.{IsMade}
use Rattle.column_ops.specs.Nullable.{either_nullable}
use Rattle.column_core.specs.Value.{Number}
use Rattle.column_ops.specs.Take.{ArePositions, position_numbers, take_rows}
use Rattle.column_ops.proofs.Arms.{same-primitive, length-arm, length-rows, HasLength-arm}
use Rattle.column_ops.proofs.numbers.PrimitiveArrayColumnOps.take_at.Goals as goal

pub take_numbers-requires-clause-fits : goal.take_numbers-requires-clause-fits
take_numbers-requires-clause-fits g c =
    let shown = ap (map pos) c.as_slice.ensures.value ∙ sym (ap numbers c.in-U8-match_each_native.is) ∙ c.values.ensures.shows in
    HasLength-arm _ _ _ _ c.validity-own.ensures.form (length-arm pos c.as_slice.result.now c.args.self.now.numbers shown) c.validity-own.ensures.counted

pub take_numbers-requires-clause-counted : goal.take_numbers-requires-clause-counted
take_numbers-requires-clause-counted g c = c.requires.counted

pub take_numbers-requires-clause-within : goal.take_numbers-requires-clause-within
take_numbers-requires-clause-within g c =
    let shown = ap (map pos) c.as_slice.ensures.value ∙ sym (ap numbers c.in-U8-match_each_native.is) ∙ c.values.ensures.shows in
    subst (ArePositions (optionals c.args.positions.now (validity_flags c.args.validity.now (length c.args.positions.now))))
    (length-rows (λ (n : ℤ). Number n) c.args.self.now.numbers c.args.self.now.validity c.validity-own.ensures.counted ∙ sym (length-arm pos c.as_slice.result.now c.args.self.now.numbers shown)) c.requires.within

pub returns-in-U8-match_each_native-clause-only : goal.returns-in-U8-match_each_native-clause-only
returns-in-U8-match_each_native-clause-only g c = c.take_numbers.ensures.only

pub returns-in-U8-match_each_native-clause-made : goal.returns-in-U8-match_each_native-clause-made
returns-in-U8-match_each_native-clause-made g c =
    let shown = ap (map pos) c.as_slice.ensures.value ∙ sym (ap numbers c.in-U8-match_each_native.is) ∙ c.values.ensures.shows in
    let typed = sym (ap ptype_of c.in-U8-match_each_native.is) ∙ c.values.ensures.typed in
    let same = same-primitive U8 (map pos c.as_slice.result.now) (form_of c.validity-own.result.now) c.args.self.now typed shown c.validity-own.ensures.form in
    subst (λ (own : PrimitiveForm). IfOk c.take_numbers.result (λ taken. IsMade
    (take_rows (primitive_rows own) (position_numbers (optionals c.args.positions.now (validity_flags c.args.validity.now (length c.args.positions.now)))))
    (column.Primitive own.ptype (either_nullable (nullability_in own.validity) (nullability_in (form_of c.args.validity.now)))) (OfNumbers taken))) same c.take_numbers.ensures.made

pub take_numbers-requires-2-clause-fits : goal.take_numbers-requires-2-clause-fits
take_numbers-requires-2-clause-fits g c =
    let shown = ap (map pos) c.as_slice-2.ensures.value ∙ sym (ap numbers c.in-U16-match_each_native.is) ∙ c.values.ensures.shows in
    HasLength-arm _ _ _ _ c.validity-own.ensures.form (length-arm pos c.as_slice-2.result.now c.args.self.now.numbers shown) c.validity-own.ensures.counted

pub take_numbers-requires-2-clause-counted : goal.take_numbers-requires-2-clause-counted
take_numbers-requires-2-clause-counted g c = c.requires.counted

pub take_numbers-requires-2-clause-within : goal.take_numbers-requires-2-clause-within
take_numbers-requires-2-clause-within g c =
    let shown = ap (map pos) c.as_slice-2.ensures.value ∙ sym (ap numbers c.in-U16-match_each_native.is) ∙ c.values.ensures.shows in
    subst (ArePositions (optionals c.args.positions.now (validity_flags c.args.validity.now (length c.args.positions.now))))
    (length-rows (λ (n : ℤ). Number n) c.args.self.now.numbers c.args.self.now.validity c.validity-own.ensures.counted ∙ sym (length-arm pos c.as_slice-2.result.now c.args.self.now.numbers shown)) c.requires.within

pub returns-in-U16-match_each_native-clause-only : goal.returns-in-U16-match_each_native-clause-only
returns-in-U16-match_each_native-clause-only g c = c.take_numbers-2.ensures.only

pub returns-in-U16-match_each_native-clause-made : goal.returns-in-U16-match_each_native-clause-made
returns-in-U16-match_each_native-clause-made g c =
    let shown = ap (map pos) c.as_slice-2.ensures.value ∙ sym (ap numbers c.in-U16-match_each_native.is) ∙ c.values.ensures.shows in
    let typed = sym (ap ptype_of c.in-U16-match_each_native.is) ∙ c.values.ensures.typed in
    let same = same-primitive U16 (map pos c.as_slice-2.result.now) (form_of c.validity-own.result.now) c.args.self.now typed shown c.validity-own.ensures.form in
    subst (λ (own : PrimitiveForm). IfOk c.take_numbers-2.result (λ taken. IsMade
    (take_rows (primitive_rows own) (position_numbers (optionals c.args.positions.now (validity_flags c.args.validity.now (length c.args.positions.now)))))
    (column.Primitive own.ptype (either_nullable (nullability_in own.validity) (nullability_in (form_of c.args.validity.now)))) (OfNumbers taken))) same c.take_numbers-2.ensures.made

pub take_numbers-requires-3-clause-fits : goal.take_numbers-requires-3-clause-fits
take_numbers-requires-3-clause-fits g c =
    let shown = ap (map pos) c.as_slice-3.ensures.value ∙ sym (ap numbers c.in-U32-match_each_native.is) ∙ c.values.ensures.shows in
    HasLength-arm _ _ _ _ c.validity-own.ensures.form (length-arm pos c.as_slice-3.result.now c.args.self.now.numbers shown) c.validity-own.ensures.counted

pub take_numbers-requires-3-clause-counted : goal.take_numbers-requires-3-clause-counted
take_numbers-requires-3-clause-counted g c = c.requires.counted

pub take_numbers-requires-3-clause-within : goal.take_numbers-requires-3-clause-within
take_numbers-requires-3-clause-within g c =
    let shown = ap (map pos) c.as_slice-3.ensures.value ∙ sym (ap numbers c.in-U32-match_each_native.is) ∙ c.values.ensures.shows in
    subst (ArePositions (optionals c.args.positions.now (validity_flags c.args.validity.now (length c.args.positions.now))))
    (length-rows (λ (n : ℤ). Number n) c.args.self.now.numbers c.args.self.now.validity c.validity-own.ensures.counted ∙ sym (length-arm pos c.as_slice-3.result.now c.args.self.now.numbers shown)) c.requires.within

pub returns-in-U32-match_each_native-clause-only : goal.returns-in-U32-match_each_native-clause-only
returns-in-U32-match_each_native-clause-only g c = c.take_numbers-3.ensures.only

pub returns-in-U32-match_each_native-clause-made : goal.returns-in-U32-match_each_native-clause-made
returns-in-U32-match_each_native-clause-made g c =
    let shown = ap (map pos) c.as_slice-3.ensures.value ∙ sym (ap numbers c.in-U32-match_each_native.is) ∙ c.values.ensures.shows in
    let typed = sym (ap ptype_of c.in-U32-match_each_native.is) ∙ c.values.ensures.typed in
    let same = same-primitive U32 (map pos c.as_slice-3.result.now) (form_of c.validity-own.result.now) c.args.self.now typed shown c.validity-own.ensures.form in
    subst (λ (own : PrimitiveForm). IfOk c.take_numbers-3.result (λ taken. IsMade
    (take_rows (primitive_rows own) (position_numbers (optionals c.args.positions.now (validity_flags c.args.validity.now (length c.args.positions.now)))))
    (column.Primitive own.ptype (either_nullable (nullability_in own.validity) (nullability_in (form_of c.args.validity.now)))) (OfNumbers taken))) same c.take_numbers-3.ensures.made

pub take_numbers-requires-4-clause-fits : goal.take_numbers-requires-4-clause-fits
take_numbers-requires-4-clause-fits g c =
    let shown = ap (map pos) c.as_slice-4.ensures.value ∙ sym (ap numbers c.in-U64-match_each_native.is) ∙ c.values.ensures.shows in
    HasLength-arm _ _ _ _ c.validity-own.ensures.form (length-arm pos c.as_slice-4.result.now c.args.self.now.numbers shown) c.validity-own.ensures.counted

pub take_numbers-requires-4-clause-counted : goal.take_numbers-requires-4-clause-counted
take_numbers-requires-4-clause-counted g c = c.requires.counted

pub take_numbers-requires-4-clause-within : goal.take_numbers-requires-4-clause-within
take_numbers-requires-4-clause-within g c =
    let shown = ap (map pos) c.as_slice-4.ensures.value ∙ sym (ap numbers c.in-U64-match_each_native.is) ∙ c.values.ensures.shows in
    subst (ArePositions (optionals c.args.positions.now (validity_flags c.args.validity.now (length c.args.positions.now))))
    (length-rows (λ (n : ℤ). Number n) c.args.self.now.numbers c.args.self.now.validity c.validity-own.ensures.counted ∙ sym (length-arm pos c.as_slice-4.result.now c.args.self.now.numbers shown)) c.requires.within

pub returns-in-U64-match_each_native-clause-only : goal.returns-in-U64-match_each_native-clause-only
returns-in-U64-match_each_native-clause-only g c = c.take_numbers-4.ensures.only

pub returns-in-U64-match_each_native-clause-made : goal.returns-in-U64-match_each_native-clause-made
returns-in-U64-match_each_native-clause-made g c =
    let shown = ap (map pos) c.as_slice-4.ensures.value ∙ sym (ap numbers c.in-U64-match_each_native.is) ∙ c.values.ensures.shows in
    let typed = sym (ap ptype_of c.in-U64-match_each_native.is) ∙ c.values.ensures.typed in
    let same = same-primitive U64 (map pos c.as_slice-4.result.now) (form_of c.validity-own.result.now) c.args.self.now typed shown c.validity-own.ensures.form in
    subst (λ (own : PrimitiveForm). IfOk c.take_numbers-4.result (λ taken. IsMade
    (take_rows (primitive_rows own) (position_numbers (optionals c.args.positions.now (validity_flags c.args.validity.now (length c.args.positions.now)))))
    (column.Primitive own.ptype (either_nullable (nullability_in own.validity) (nullability_in (form_of c.args.validity.now)))) (OfNumbers taken))) same c.take_numbers-4.ensures.made

pub take_numbers-requires-5-clause-fits : goal.take_numbers-requires-5-clause-fits
take_numbers-requires-5-clause-fits g c =
    let shown = map-id c.as_slice-5.result.now ∙ c.as_slice-5.ensures.value ∙ sym (ap numbers c.in-I8-match_each_native.is) ∙ c.values.ensures.shows in
    HasLength-arm _ _ _ _ c.validity-own.ensures.form (length-arm (λ (n : ℤ). n) c.as_slice-5.result.now c.args.self.now.numbers shown) c.validity-own.ensures.counted

pub take_numbers-requires-5-clause-counted : goal.take_numbers-requires-5-clause-counted
take_numbers-requires-5-clause-counted g c = c.requires.counted

pub take_numbers-requires-5-clause-within : goal.take_numbers-requires-5-clause-within
take_numbers-requires-5-clause-within g c =
    let shown = map-id c.as_slice-5.result.now ∙ c.as_slice-5.ensures.value ∙ sym (ap numbers c.in-I8-match_each_native.is) ∙ c.values.ensures.shows in
    subst (ArePositions (optionals c.args.positions.now (validity_flags c.args.validity.now (length c.args.positions.now))))
    (length-rows (λ (n : ℤ). Number n) c.args.self.now.numbers c.args.self.now.validity c.validity-own.ensures.counted ∙ sym (length-arm (λ (n : ℤ). n) c.as_slice-5.result.now c.args.self.now.numbers shown)) c.requires.within

pub returns-in-I8-match_each_native-clause-only : goal.returns-in-I8-match_each_native-clause-only
returns-in-I8-match_each_native-clause-only g c = c.take_numbers-5.ensures.only

pub returns-in-I8-match_each_native-clause-made : goal.returns-in-I8-match_each_native-clause-made
returns-in-I8-match_each_native-clause-made g c =
    let shown = map-id c.as_slice-5.result.now ∙ c.as_slice-5.ensures.value ∙ sym (ap numbers c.in-I8-match_each_native.is) ∙ c.values.ensures.shows in
    let typed = sym (ap ptype_of c.in-I8-match_each_native.is) ∙ c.values.ensures.typed in
    let same = same-primitive I8 (map (λ (n : ℤ). n) c.as_slice-5.result.now) (form_of c.validity-own.result.now) c.args.self.now typed shown c.validity-own.ensures.form in
    subst (λ (own : PrimitiveForm). IfOk c.take_numbers-5.result (λ taken. IsMade
    (take_rows (primitive_rows own) (position_numbers (optionals c.args.positions.now (validity_flags c.args.validity.now (length c.args.positions.now)))))
    (column.Primitive own.ptype (either_nullable (nullability_in own.validity) (nullability_in (form_of c.args.validity.now)))) (OfNumbers taken))) same c.take_numbers-5.ensures.made

pub take_numbers-requires-6-clause-fits : goal.take_numbers-requires-6-clause-fits
take_numbers-requires-6-clause-fits g c =
    let shown = map-id c.as_slice-6.result.now ∙ c.as_slice-6.ensures.value ∙ sym (ap numbers c.in-I16-match_each_native.is) ∙ c.values.ensures.shows in
    HasLength-arm _ _ _ _ c.validity-own.ensures.form (length-arm (λ (n : ℤ). n) c.as_slice-6.result.now c.args.self.now.numbers shown) c.validity-own.ensures.counted

pub take_numbers-requires-6-clause-counted : goal.take_numbers-requires-6-clause-counted
take_numbers-requires-6-clause-counted g c = c.requires.counted

pub take_numbers-requires-6-clause-within : goal.take_numbers-requires-6-clause-within
take_numbers-requires-6-clause-within g c =
    let shown = map-id c.as_slice-6.result.now ∙ c.as_slice-6.ensures.value ∙ sym (ap numbers c.in-I16-match_each_native.is) ∙ c.values.ensures.shows in
    subst (ArePositions (optionals c.args.positions.now (validity_flags c.args.validity.now (length c.args.positions.now))))
    (length-rows (λ (n : ℤ). Number n) c.args.self.now.numbers c.args.self.now.validity c.validity-own.ensures.counted ∙ sym (length-arm (λ (n : ℤ). n) c.as_slice-6.result.now c.args.self.now.numbers shown)) c.requires.within

pub returns-in-I16-match_each_native-clause-only : goal.returns-in-I16-match_each_native-clause-only
returns-in-I16-match_each_native-clause-only g c = c.take_numbers-6.ensures.only

pub returns-in-I16-match_each_native-clause-made : goal.returns-in-I16-match_each_native-clause-made
returns-in-I16-match_each_native-clause-made g c =
    let shown = map-id c.as_slice-6.result.now ∙ c.as_slice-6.ensures.value ∙ sym (ap numbers c.in-I16-match_each_native.is) ∙ c.values.ensures.shows in
    let typed = sym (ap ptype_of c.in-I16-match_each_native.is) ∙ c.values.ensures.typed in
    let same = same-primitive I16 (map (λ (n : ℤ). n) c.as_slice-6.result.now) (form_of c.validity-own.result.now) c.args.self.now typed shown c.validity-own.ensures.form in
    subst (λ (own : PrimitiveForm). IfOk c.take_numbers-6.result (λ taken. IsMade
    (take_rows (primitive_rows own) (position_numbers (optionals c.args.positions.now (validity_flags c.args.validity.now (length c.args.positions.now)))))
    (column.Primitive own.ptype (either_nullable (nullability_in own.validity) (nullability_in (form_of c.args.validity.now)))) (OfNumbers taken))) same c.take_numbers-6.ensures.made

pub take_numbers-requires-7-clause-fits : goal.take_numbers-requires-7-clause-fits
take_numbers-requires-7-clause-fits g c =
    let shown = map-id c.as_slice-7.result.now ∙ c.as_slice-7.ensures.value ∙ sym (ap numbers c.in-I32-match_each_native.is) ∙ c.values.ensures.shows in
    HasLength-arm _ _ _ _ c.validity-own.ensures.form (length-arm (λ (n : ℤ). n) c.as_slice-7.result.now c.args.self.now.numbers shown) c.validity-own.ensures.counted

pub take_numbers-requires-7-clause-counted : goal.take_numbers-requires-7-clause-counted
take_numbers-requires-7-clause-counted g c = c.requires.counted

pub take_numbers-requires-7-clause-within : goal.take_numbers-requires-7-clause-within
take_numbers-requires-7-clause-within g c =
    let shown = map-id c.as_slice-7.result.now ∙ c.as_slice-7.ensures.value ∙ sym (ap numbers c.in-I32-match_each_native.is) ∙ c.values.ensures.shows in
    subst (ArePositions (optionals c.args.positions.now (validity_flags c.args.validity.now (length c.args.positions.now))))
    (length-rows (λ (n : ℤ). Number n) c.args.self.now.numbers c.args.self.now.validity c.validity-own.ensures.counted ∙ sym (length-arm (λ (n : ℤ). n) c.as_slice-7.result.now c.args.self.now.numbers shown)) c.requires.within

pub returns-in-I32-match_each_native-clause-only : goal.returns-in-I32-match_each_native-clause-only
returns-in-I32-match_each_native-clause-only g c = c.take_numbers-7.ensures.only

pub returns-in-I32-match_each_native-clause-made : goal.returns-in-I32-match_each_native-clause-made
returns-in-I32-match_each_native-clause-made g c =
    let shown = map-id c.as_slice-7.result.now ∙ c.as_slice-7.ensures.value ∙ sym (ap numbers c.in-I32-match_each_native.is) ∙ c.values.ensures.shows in
    let typed = sym (ap ptype_of c.in-I32-match_each_native.is) ∙ c.values.ensures.typed in
    let same = same-primitive I32 (map (λ (n : ℤ). n) c.as_slice-7.result.now) (form_of c.validity-own.result.now) c.args.self.now typed shown c.validity-own.ensures.form in
    subst (λ (own : PrimitiveForm). IfOk c.take_numbers-7.result (λ taken. IsMade
    (take_rows (primitive_rows own) (position_numbers (optionals c.args.positions.now (validity_flags c.args.validity.now (length c.args.positions.now)))))
    (column.Primitive own.ptype (either_nullable (nullability_in own.validity) (nullability_in (form_of c.args.validity.now)))) (OfNumbers taken))) same c.take_numbers-7.ensures.made

pub take_numbers-requires-8-clause-fits : goal.take_numbers-requires-8-clause-fits
take_numbers-requires-8-clause-fits g c =
    let shown = map-id c.as_slice-8.result.now ∙ c.as_slice-8.ensures.value ∙ sym (ap numbers c.in-I64-match_each_native.is) ∙ c.values.ensures.shows in
    HasLength-arm _ _ _ _ c.validity-own.ensures.form (length-arm (λ (n : ℤ). n) c.as_slice-8.result.now c.args.self.now.numbers shown) c.validity-own.ensures.counted

pub take_numbers-requires-8-clause-counted : goal.take_numbers-requires-8-clause-counted
take_numbers-requires-8-clause-counted g c = c.requires.counted

pub take_numbers-requires-8-clause-within : goal.take_numbers-requires-8-clause-within
take_numbers-requires-8-clause-within g c =
    let shown = map-id c.as_slice-8.result.now ∙ c.as_slice-8.ensures.value ∙ sym (ap numbers c.in-I64-match_each_native.is) ∙ c.values.ensures.shows in
    subst (ArePositions (optionals c.args.positions.now (validity_flags c.args.validity.now (length c.args.positions.now))))
    (length-rows (λ (n : ℤ). Number n) c.args.self.now.numbers c.args.self.now.validity c.validity-own.ensures.counted ∙ sym (length-arm (λ (n : ℤ). n) c.as_slice-8.result.now c.args.self.now.numbers shown)) c.requires.within

pub returns-in-I64-match_each_native-clause-only : goal.returns-in-I64-match_each_native-clause-only
returns-in-I64-match_each_native-clause-only g c = c.take_numbers-8.ensures.only

pub returns-in-I64-match_each_native-clause-made : goal.returns-in-I64-match_each_native-clause-made
returns-in-I64-match_each_native-clause-made g c =
    let shown = map-id c.as_slice-8.result.now ∙ c.as_slice-8.ensures.value ∙ sym (ap numbers c.in-I64-match_each_native.is) ∙ c.values.ensures.shows in
    let typed = sym (ap ptype_of c.in-I64-match_each_native.is) ∙ c.values.ensures.typed in
    let same = same-primitive I64 (map (λ (n : ℤ). n) c.as_slice-8.result.now) (form_of c.validity-own.result.now) c.args.self.now typed shown c.validity-own.ensures.form in
    subst (λ (own : PrimitiveForm). IfOk c.take_numbers-8.result (λ taken. IsMade
    (take_rows (primitive_rows own) (position_numbers (optionals c.args.positions.now (validity_flags c.args.validity.now (length c.args.positions.now)))))
    (column.Primitive own.ptype (either_nullable (nullability_in own.validity) (nullability_in (form_of c.args.validity.now)))) (OfNumbers taken))) same c.take_numbers-8.ensures.made
