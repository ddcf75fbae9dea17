use Rattle.std.proofs.Common.{◌≡◌, ◌∙◌, None, pos, map, sym, ap, ℤ}
use Rattle.std.specs.Prelude.{slice_range, All, MatchOption}
use Rattle.column_base.specs.ValidityForm.{nullability_in}
use Rattle.column_base.specs.declared.dtype.PType.TheVariants.{U8, U16, U32, U64, I8, I16, I32, I64}
use Rattle.column_ops.specs.OrderFacts.{IsEnd}
use Rattle.std.proofs.lemmas.List.{map-id}
use Rattle.column_base.specs.Numbers.{numbers, ptype_of}
use Rattle.column_base.specs.Validity.{form_of}
use Rattle.column_ops.proofs.ItemColumns.{any_decimal, fits-items, number-column, within-items}
use Rattle.column_ops.proofs.extremes.end_of_numbers.Goals as goal

pub end_of-requires-clause-fits : goal.end_of-requires-clause-fits
end_of-requires-clause-fits g c =
    fits-items pos c.as_slice.result.now (form_of c.validity-validity.result.now) c.args.array.now (ap (map pos) c.as_slice.ensures.value ∙ sym (ap numbers c.in-U8-match_each_native.is) ∙ c.values.ensures.shows)
    c.validity-validity.ensures.form c.validity-validity.ensures.counted

pub end_of-requires-clause-in_bounds : goal.end_of-requires-clause-in_bounds
end_of-requires-clause-in_bounds g c =
    within-items pos c.as_slice.result.now c.args.array.now c.args.range.end (ap (map pos) c.as_slice.ensures.value ∙ sym (ap numbers c.in-U8-match_each_native.is) ∙ c.values.ensures.shows) c.requires.in_bounds

pub returns-in-U8-match_each_native : goal.returns-in-U8-match_each_native
returns-in-U8-match_each_native g c =
    let own = c.args.array.now in
    let shown = ap (map pos) c.as_slice.ensures.value ∙ sym (ap numbers c.in-U8-match_each_native.is) ∙ c.values.ensures.shows in
    let typed = sym (ap ptype_of c.in-U8-match_each_native.is) ∙ c.values.ensures.typed in
    number-column (λ dtype rows. MatchOption c.end_of.result (All (λ row. row ≡ None) (slice_range rows c.args.range.start c.args.range.end))
    (λ row. IsEnd c.args.side dtype (slice_range rows c.args.range.start c.args.range.end) row))
    U8 pos c.as_slice.result.now (form_of c.validity-validity.result.now) own typed shown c.validity-validity.ensures.form
    (c.end_of.ensures any_decimal (nullability_in own.validity))

pub end_of-requires-2-clause-fits : goal.end_of-requires-2-clause-fits
end_of-requires-2-clause-fits g c =
    fits-items pos c.as_slice-2.result.now (form_of c.validity-validity.result.now) c.args.array.now (ap (map pos) c.as_slice-2.ensures.value ∙ sym (ap numbers c.in-U16-match_each_native.is) ∙ c.values.ensures.shows)
    c.validity-validity.ensures.form c.validity-validity.ensures.counted

pub end_of-requires-2-clause-in_bounds : goal.end_of-requires-2-clause-in_bounds
end_of-requires-2-clause-in_bounds g c =
    within-items pos c.as_slice-2.result.now c.args.array.now c.args.range.end (ap (map pos) c.as_slice-2.ensures.value ∙ sym (ap numbers c.in-U16-match_each_native.is) ∙ c.values.ensures.shows) c.requires.in_bounds

pub returns-in-U16-match_each_native : goal.returns-in-U16-match_each_native
returns-in-U16-match_each_native g c =
    let own = c.args.array.now in
    let shown = ap (map pos) c.as_slice-2.ensures.value ∙ sym (ap numbers c.in-U16-match_each_native.is) ∙ c.values.ensures.shows in
    let typed = sym (ap ptype_of c.in-U16-match_each_native.is) ∙ c.values.ensures.typed in
    number-column (λ dtype rows. MatchOption c.end_of-2.result (All (λ row. row ≡ None) (slice_range rows c.args.range.start c.args.range.end))
    (λ row. IsEnd c.args.side dtype (slice_range rows c.args.range.start c.args.range.end) row))
    U16 pos c.as_slice-2.result.now (form_of c.validity-validity.result.now) own typed shown c.validity-validity.ensures.form
    (c.end_of-2.ensures any_decimal (nullability_in own.validity))

pub end_of-requires-3-clause-fits : goal.end_of-requires-3-clause-fits
end_of-requires-3-clause-fits g c =
    fits-items pos c.as_slice-3.result.now (form_of c.validity-validity.result.now) c.args.array.now (ap (map pos) c.as_slice-3.ensures.value ∙ sym (ap numbers c.in-U32-match_each_native.is) ∙ c.values.ensures.shows)
    c.validity-validity.ensures.form c.validity-validity.ensures.counted

pub end_of-requires-3-clause-in_bounds : goal.end_of-requires-3-clause-in_bounds
end_of-requires-3-clause-in_bounds g c =
    within-items pos c.as_slice-3.result.now c.args.array.now c.args.range.end (ap (map pos) c.as_slice-3.ensures.value ∙ sym (ap numbers c.in-U32-match_each_native.is) ∙ c.values.ensures.shows) c.requires.in_bounds

pub returns-in-U32-match_each_native : goal.returns-in-U32-match_each_native
returns-in-U32-match_each_native g c =
    let own = c.args.array.now in
    let shown = ap (map pos) c.as_slice-3.ensures.value ∙ sym (ap numbers c.in-U32-match_each_native.is) ∙ c.values.ensures.shows in
    let typed = sym (ap ptype_of c.in-U32-match_each_native.is) ∙ c.values.ensures.typed in
    number-column (λ dtype rows. MatchOption c.end_of-3.result (All (λ row. row ≡ None) (slice_range rows c.args.range.start c.args.range.end))
    (λ row. IsEnd c.args.side dtype (slice_range rows c.args.range.start c.args.range.end) row))
    U32 pos c.as_slice-3.result.now (form_of c.validity-validity.result.now) own typed shown c.validity-validity.ensures.form
    (c.end_of-3.ensures any_decimal (nullability_in own.validity))

pub end_of-requires-4-clause-fits : goal.end_of-requires-4-clause-fits
end_of-requires-4-clause-fits g c =
    fits-items pos c.as_slice-4.result.now (form_of c.validity-validity.result.now) c.args.array.now (ap (map pos) c.as_slice-4.ensures.value ∙ sym (ap numbers c.in-U64-match_each_native.is) ∙ c.values.ensures.shows)
    c.validity-validity.ensures.form c.validity-validity.ensures.counted

pub end_of-requires-4-clause-in_bounds : goal.end_of-requires-4-clause-in_bounds
end_of-requires-4-clause-in_bounds g c =
    within-items pos c.as_slice-4.result.now c.args.array.now c.args.range.end (ap (map pos) c.as_slice-4.ensures.value ∙ sym (ap numbers c.in-U64-match_each_native.is) ∙ c.values.ensures.shows) c.requires.in_bounds

pub returns-in-U64-match_each_native : goal.returns-in-U64-match_each_native
returns-in-U64-match_each_native g c =
    let own = c.args.array.now in
    let shown = ap (map pos) c.as_slice-4.ensures.value ∙ sym (ap numbers c.in-U64-match_each_native.is) ∙ c.values.ensures.shows in
    let typed = sym (ap ptype_of c.in-U64-match_each_native.is) ∙ c.values.ensures.typed in
    number-column (λ dtype rows. MatchOption c.end_of-4.result (All (λ row. row ≡ None) (slice_range rows c.args.range.start c.args.range.end))
    (λ row. IsEnd c.args.side dtype (slice_range rows c.args.range.start c.args.range.end) row))
    U64 pos c.as_slice-4.result.now (form_of c.validity-validity.result.now) own typed shown c.validity-validity.ensures.form
    (c.end_of-4.ensures any_decimal (nullability_in own.validity))

pub end_of-requires-5-clause-fits : goal.end_of-requires-5-clause-fits
end_of-requires-5-clause-fits g c =
    fits-items (λ (z : ℤ). z) c.as_slice-5.result.now (form_of c.validity-validity.result.now) c.args.array.now (map-id c.as_slice-5.result.now ∙ c.as_slice-5.ensures.value ∙ sym (ap numbers c.in-I8-match_each_native.is) ∙ c.values.ensures.shows)
    c.validity-validity.ensures.form c.validity-validity.ensures.counted

pub end_of-requires-5-clause-in_bounds : goal.end_of-requires-5-clause-in_bounds
end_of-requires-5-clause-in_bounds g c =
    within-items (λ (z : ℤ). z) c.as_slice-5.result.now c.args.array.now c.args.range.end (map-id c.as_slice-5.result.now ∙ c.as_slice-5.ensures.value ∙ sym (ap numbers c.in-I8-match_each_native.is) ∙ c.values.ensures.shows) c.requires.in_bounds

pub returns-in-I8-match_each_native : goal.returns-in-I8-match_each_native
returns-in-I8-match_each_native g c =
    let own = c.args.array.now in
    let shown = map-id c.as_slice-5.result.now ∙ c.as_slice-5.ensures.value ∙ sym (ap numbers c.in-I8-match_each_native.is) ∙ c.values.ensures.shows in
    let typed = sym (ap ptype_of c.in-I8-match_each_native.is) ∙ c.values.ensures.typed in
    number-column (λ dtype rows. MatchOption c.end_of-5.result (All (λ row. row ≡ None) (slice_range rows c.args.range.start c.args.range.end))
    (λ row. IsEnd c.args.side dtype (slice_range rows c.args.range.start c.args.range.end) row))
    I8 (λ (z : ℤ). z) c.as_slice-5.result.now (form_of c.validity-validity.result.now) own typed shown c.validity-validity.ensures.form
    (c.end_of-5.ensures any_decimal (nullability_in own.validity))

pub end_of-requires-6-clause-fits : goal.end_of-requires-6-clause-fits
end_of-requires-6-clause-fits g c =
    fits-items (λ (z : ℤ). z) c.as_slice-6.result.now (form_of c.validity-validity.result.now) c.args.array.now (map-id c.as_slice-6.result.now ∙ c.as_slice-6.ensures.value ∙ sym (ap numbers c.in-I16-match_each_native.is) ∙ c.values.ensures.shows)
    c.validity-validity.ensures.form c.validity-validity.ensures.counted

pub end_of-requires-6-clause-in_bounds : goal.end_of-requires-6-clause-in_bounds
end_of-requires-6-clause-in_bounds g c =
    within-items (λ (z : ℤ). z) c.as_slice-6.result.now c.args.array.now c.args.range.end (map-id c.as_slice-6.result.now ∙ c.as_slice-6.ensures.value ∙ sym (ap numbers c.in-I16-match_each_native.is) ∙ c.values.ensures.shows) c.requires.in_bounds

pub returns-in-I16-match_each_native : goal.returns-in-I16-match_each_native
returns-in-I16-match_each_native g c =
    let own = c.args.array.now in
    let shown = map-id c.as_slice-6.result.now ∙ c.as_slice-6.ensures.value ∙ sym (ap numbers c.in-I16-match_each_native.is) ∙ c.values.ensures.shows in
    let typed = sym (ap ptype_of c.in-I16-match_each_native.is) ∙ c.values.ensures.typed in
    number-column (λ dtype rows. MatchOption c.end_of-6.result (All (λ row. row ≡ None) (slice_range rows c.args.range.start c.args.range.end))
    (λ row. IsEnd c.args.side dtype (slice_range rows c.args.range.start c.args.range.end) row))
    I16 (λ (z : ℤ). z) c.as_slice-6.result.now (form_of c.validity-validity.result.now) own typed shown c.validity-validity.ensures.form
    (c.end_of-6.ensures any_decimal (nullability_in own.validity))

pub end_of-requires-7-clause-fits : goal.end_of-requires-7-clause-fits
end_of-requires-7-clause-fits g c =
    fits-items (λ (z : ℤ). z) c.as_slice-7.result.now (form_of c.validity-validity.result.now) c.args.array.now (map-id c.as_slice-7.result.now ∙ c.as_slice-7.ensures.value ∙ sym (ap numbers c.in-I32-match_each_native.is) ∙ c.values.ensures.shows)
    c.validity-validity.ensures.form c.validity-validity.ensures.counted

pub end_of-requires-7-clause-in_bounds : goal.end_of-requires-7-clause-in_bounds
end_of-requires-7-clause-in_bounds g c =
    within-items (λ (z : ℤ). z) c.as_slice-7.result.now c.args.array.now c.args.range.end (map-id c.as_slice-7.result.now ∙ c.as_slice-7.ensures.value ∙ sym (ap numbers c.in-I32-match_each_native.is) ∙ c.values.ensures.shows) c.requires.in_bounds

pub returns-in-I32-match_each_native : goal.returns-in-I32-match_each_native
returns-in-I32-match_each_native g c =
    let own = c.args.array.now in
    let shown = map-id c.as_slice-7.result.now ∙ c.as_slice-7.ensures.value ∙ sym (ap numbers c.in-I32-match_each_native.is) ∙ c.values.ensures.shows in
    let typed = sym (ap ptype_of c.in-I32-match_each_native.is) ∙ c.values.ensures.typed in
    number-column (λ dtype rows. MatchOption c.end_of-7.result (All (λ row. row ≡ None) (slice_range rows c.args.range.start c.args.range.end))
    (λ row. IsEnd c.args.side dtype (slice_range rows c.args.range.start c.args.range.end) row))
    I32 (λ (z : ℤ). z) c.as_slice-7.result.now (form_of c.validity-validity.result.now) own typed shown c.validity-validity.ensures.form
    (c.end_of-7.ensures any_decimal (nullability_in own.validity))

pub end_of-requires-8-clause-fits : goal.end_of-requires-8-clause-fits
end_of-requires-8-clause-fits g c =
    fits-items (λ (z : ℤ). z) c.as_slice-8.result.now (form_of c.validity-validity.result.now) c.args.array.now (map-id c.as_slice-8.result.now ∙ c.as_slice-8.ensures.value ∙ sym (ap numbers c.in-I64-match_each_native.is) ∙ c.values.ensures.shows)
    c.validity-validity.ensures.form c.validity-validity.ensures.counted

pub end_of-requires-8-clause-in_bounds : goal.end_of-requires-8-clause-in_bounds
end_of-requires-8-clause-in_bounds g c =
    within-items (λ (z : ℤ). z) c.as_slice-8.result.now c.args.array.now c.args.range.end (map-id c.as_slice-8.result.now ∙ c.as_slice-8.ensures.value ∙ sym (ap numbers c.in-I64-match_each_native.is) ∙ c.values.ensures.shows) c.requires.in_bounds

pub returns-in-I64-match_each_native : goal.returns-in-I64-match_each_native
returns-in-I64-match_each_native g c =
    let own = c.args.array.now in
    let shown = map-id c.as_slice-8.result.now ∙ c.as_slice-8.ensures.value ∙ sym (ap numbers c.in-I64-match_each_native.is) ∙ c.values.ensures.shows in
    let typed = sym (ap ptype_of c.in-I64-match_each_native.is) ∙ c.values.ensures.typed in
    number-column (λ dtype rows. MatchOption c.end_of-8.result (All (λ row. row ≡ None) (slice_range rows c.args.range.start c.args.range.end))
    (λ row. IsEnd c.args.side dtype (slice_range rows c.args.range.start c.args.range.end) row))
    I64 (λ (z : ℤ). z) c.as_slice-8.result.now (form_of c.validity-validity.result.now) own typed shown c.validity-validity.ensures.form
    (c.end_of-8.ensures any_decimal (nullability_in own.validity))
