use Rattle.std.proofs.Common.{◌∙◌, List, Option, pos, map, sym, ap, subst, ℤ}
use Rattle.std.specs.Prelude.{◌↔◌, slice_range, IsTrue}
use Rattle.column_ops.specs.OrderFacts.{IsConstant}
use Rattle.std.proofs.lemmas.List.{map-id}
use Rattle.column_base.specs.Numbers.{numbers}
use Rattle.column_base.specs.Validity.{form_of}
use Rattle.column_core.specs.Value.{Value}
use Rattle.column_ops.proofs.ItemColumns.{fits-items, number-rows, within-items}
use Rattle.column_ops.proofs.sorted.are_constant_numbers.Goals as goal

pub is_constant_of-requires-clause-fits : goal.is_constant_of-requires-clause-fits
is_constant_of-requires-clause-fits g c =
    fits-items pos c.as_slice.result.now (form_of c.validity-validity.result.now) c.args.array.now (ap (map pos) c.as_slice.ensures.value ∙ sym (ap numbers c.in-U8-match_each_native.is) ∙ c.values.ensures.shows)
    c.validity-validity.ensures.form c.validity-validity.ensures.counted

pub is_constant_of-requires-clause-in_bounds : goal.is_constant_of-requires-clause-in_bounds
is_constant_of-requires-clause-in_bounds g c =
    within-items pos c.as_slice.result.now c.args.array.now c.args.range.end (ap (map pos) c.as_slice.ensures.value ∙ sym (ap numbers c.in-U8-match_each_native.is) ∙ c.values.ensures.shows) c.requires.in_bounds

pub returns-in-U8-match_each_native : goal.returns-in-U8-match_each_native
returns-in-U8-match_each_native g c =
    let shown = ap (map pos) c.as_slice.ensures.value ∙ sym (ap numbers c.in-U8-match_each_native.is) ∙ c.values.ensures.shows in
    let same = number-rows pos c.as_slice.result.now (form_of c.validity-validity.result.now) c.args.array.now shown c.validity-validity.ensures.form in
    subst (λ (rows : List (Option Value)). IsTrue c.is_constant_of.result ↔ IsConstant (slice_range rows c.args.range.start c.args.range.end)) same c.is_constant_of.ensures

pub is_constant_of-requires-2-clause-fits : goal.is_constant_of-requires-2-clause-fits
is_constant_of-requires-2-clause-fits g c =
    fits-items pos c.as_slice-2.result.now (form_of c.validity-validity.result.now) c.args.array.now (ap (map pos) c.as_slice-2.ensures.value ∙ sym (ap numbers c.in-U16-match_each_native.is) ∙ c.values.ensures.shows)
    c.validity-validity.ensures.form c.validity-validity.ensures.counted

pub is_constant_of-requires-2-clause-in_bounds : goal.is_constant_of-requires-2-clause-in_bounds
is_constant_of-requires-2-clause-in_bounds g c =
    within-items pos c.as_slice-2.result.now c.args.array.now c.args.range.end (ap (map pos) c.as_slice-2.ensures.value ∙ sym (ap numbers c.in-U16-match_each_native.is) ∙ c.values.ensures.shows) c.requires.in_bounds

pub returns-in-U16-match_each_native : goal.returns-in-U16-match_each_native
returns-in-U16-match_each_native g c =
    let shown = ap (map pos) c.as_slice-2.ensures.value ∙ sym (ap numbers c.in-U16-match_each_native.is) ∙ c.values.ensures.shows in
    let same = number-rows pos c.as_slice-2.result.now (form_of c.validity-validity.result.now) c.args.array.now shown c.validity-validity.ensures.form in
    subst (λ (rows : List (Option Value)). IsTrue c.is_constant_of-2.result ↔ IsConstant (slice_range rows c.args.range.start c.args.range.end)) same c.is_constant_of-2.ensures

pub is_constant_of-requires-3-clause-fits : goal.is_constant_of-requires-3-clause-fits
is_constant_of-requires-3-clause-fits g c =
    fits-items pos c.as_slice-3.result.now (form_of c.validity-validity.result.now) c.args.array.now (ap (map pos) c.as_slice-3.ensures.value ∙ sym (ap numbers c.in-U32-match_each_native.is) ∙ c.values.ensures.shows)
    c.validity-validity.ensures.form c.validity-validity.ensures.counted

pub is_constant_of-requires-3-clause-in_bounds : goal.is_constant_of-requires-3-clause-in_bounds
is_constant_of-requires-3-clause-in_bounds g c =
    within-items pos c.as_slice-3.result.now c.args.array.now c.args.range.end (ap (map pos) c.as_slice-3.ensures.value ∙ sym (ap numbers c.in-U32-match_each_native.is) ∙ c.values.ensures.shows) c.requires.in_bounds

pub returns-in-U32-match_each_native : goal.returns-in-U32-match_each_native
returns-in-U32-match_each_native g c =
    let shown = ap (map pos) c.as_slice-3.ensures.value ∙ sym (ap numbers c.in-U32-match_each_native.is) ∙ c.values.ensures.shows in
    let same = number-rows pos c.as_slice-3.result.now (form_of c.validity-validity.result.now) c.args.array.now shown c.validity-validity.ensures.form in
    subst (λ (rows : List (Option Value)). IsTrue c.is_constant_of-3.result ↔ IsConstant (slice_range rows c.args.range.start c.args.range.end)) same c.is_constant_of-3.ensures

pub is_constant_of-requires-4-clause-fits : goal.is_constant_of-requires-4-clause-fits
is_constant_of-requires-4-clause-fits g c =
    fits-items pos c.as_slice-4.result.now (form_of c.validity-validity.result.now) c.args.array.now (ap (map pos) c.as_slice-4.ensures.value ∙ sym (ap numbers c.in-U64-match_each_native.is) ∙ c.values.ensures.shows)
    c.validity-validity.ensures.form c.validity-validity.ensures.counted

pub is_constant_of-requires-4-clause-in_bounds : goal.is_constant_of-requires-4-clause-in_bounds
is_constant_of-requires-4-clause-in_bounds g c =
    within-items pos c.as_slice-4.result.now c.args.array.now c.args.range.end (ap (map pos) c.as_slice-4.ensures.value ∙ sym (ap numbers c.in-U64-match_each_native.is) ∙ c.values.ensures.shows) c.requires.in_bounds

pub returns-in-U64-match_each_native : goal.returns-in-U64-match_each_native
returns-in-U64-match_each_native g c =
    let shown = ap (map pos) c.as_slice-4.ensures.value ∙ sym (ap numbers c.in-U64-match_each_native.is) ∙ c.values.ensures.shows in
    let same = number-rows pos c.as_slice-4.result.now (form_of c.validity-validity.result.now) c.args.array.now shown c.validity-validity.ensures.form in
    subst (λ (rows : List (Option Value)). IsTrue c.is_constant_of-4.result ↔ IsConstant (slice_range rows c.args.range.start c.args.range.end)) same c.is_constant_of-4.ensures

pub is_constant_of-requires-5-clause-fits : goal.is_constant_of-requires-5-clause-fits
is_constant_of-requires-5-clause-fits g c =
    fits-items (λ (z : ℤ). z) c.as_slice-5.result.now (form_of c.validity-validity.result.now) c.args.array.now (map-id c.as_slice-5.result.now ∙ c.as_slice-5.ensures.value ∙ sym (ap numbers c.in-I8-match_each_native.is) ∙ c.values.ensures.shows)
    c.validity-validity.ensures.form c.validity-validity.ensures.counted

pub is_constant_of-requires-5-clause-in_bounds : goal.is_constant_of-requires-5-clause-in_bounds
is_constant_of-requires-5-clause-in_bounds g c =
    within-items (λ (z : ℤ). z) c.as_slice-5.result.now c.args.array.now c.args.range.end (map-id c.as_slice-5.result.now ∙ c.as_slice-5.ensures.value ∙ sym (ap numbers c.in-I8-match_each_native.is) ∙ c.values.ensures.shows) c.requires.in_bounds

pub returns-in-I8-match_each_native : goal.returns-in-I8-match_each_native
returns-in-I8-match_each_native g c =
    let shown = map-id c.as_slice-5.result.now ∙ c.as_slice-5.ensures.value ∙ sym (ap numbers c.in-I8-match_each_native.is) ∙ c.values.ensures.shows in
    let same = number-rows (λ (z : ℤ). z) c.as_slice-5.result.now (form_of c.validity-validity.result.now) c.args.array.now shown c.validity-validity.ensures.form in
    subst (λ (rows : List (Option Value)). IsTrue c.is_constant_of-5.result ↔ IsConstant (slice_range rows c.args.range.start c.args.range.end)) same c.is_constant_of-5.ensures

pub is_constant_of-requires-6-clause-fits : goal.is_constant_of-requires-6-clause-fits
is_constant_of-requires-6-clause-fits g c =
    fits-items (λ (z : ℤ). z) c.as_slice-6.result.now (form_of c.validity-validity.result.now) c.args.array.now (map-id c.as_slice-6.result.now ∙ c.as_slice-6.ensures.value ∙ sym (ap numbers c.in-I16-match_each_native.is) ∙ c.values.ensures.shows)
    c.validity-validity.ensures.form c.validity-validity.ensures.counted

pub is_constant_of-requires-6-clause-in_bounds : goal.is_constant_of-requires-6-clause-in_bounds
is_constant_of-requires-6-clause-in_bounds g c =
    within-items (λ (z : ℤ). z) c.as_slice-6.result.now c.args.array.now c.args.range.end (map-id c.as_slice-6.result.now ∙ c.as_slice-6.ensures.value ∙ sym (ap numbers c.in-I16-match_each_native.is) ∙ c.values.ensures.shows) c.requires.in_bounds

pub returns-in-I16-match_each_native : goal.returns-in-I16-match_each_native
returns-in-I16-match_each_native g c =
    let shown = map-id c.as_slice-6.result.now ∙ c.as_slice-6.ensures.value ∙ sym (ap numbers c.in-I16-match_each_native.is) ∙ c.values.ensures.shows in
    let same = number-rows (λ (z : ℤ). z) c.as_slice-6.result.now (form_of c.validity-validity.result.now) c.args.array.now shown c.validity-validity.ensures.form in
    subst (λ (rows : List (Option Value)). IsTrue c.is_constant_of-6.result ↔ IsConstant (slice_range rows c.args.range.start c.args.range.end)) same c.is_constant_of-6.ensures

pub is_constant_of-requires-7-clause-fits : goal.is_constant_of-requires-7-clause-fits
is_constant_of-requires-7-clause-fits g c =
    fits-items (λ (z : ℤ). z) c.as_slice-7.result.now (form_of c.validity-validity.result.now) c.args.array.now (map-id c.as_slice-7.result.now ∙ c.as_slice-7.ensures.value ∙ sym (ap numbers c.in-I32-match_each_native.is) ∙ c.values.ensures.shows)
    c.validity-validity.ensures.form c.validity-validity.ensures.counted

pub is_constant_of-requires-7-clause-in_bounds : goal.is_constant_of-requires-7-clause-in_bounds
is_constant_of-requires-7-clause-in_bounds g c =
    within-items (λ (z : ℤ). z) c.as_slice-7.result.now c.args.array.now c.args.range.end (map-id c.as_slice-7.result.now ∙ c.as_slice-7.ensures.value ∙ sym (ap numbers c.in-I32-match_each_native.is) ∙ c.values.ensures.shows) c.requires.in_bounds

pub returns-in-I32-match_each_native : goal.returns-in-I32-match_each_native
returns-in-I32-match_each_native g c =
    let shown = map-id c.as_slice-7.result.now ∙ c.as_slice-7.ensures.value ∙ sym (ap numbers c.in-I32-match_each_native.is) ∙ c.values.ensures.shows in
    let same = number-rows (λ (z : ℤ). z) c.as_slice-7.result.now (form_of c.validity-validity.result.now) c.args.array.now shown c.validity-validity.ensures.form in
    subst (λ (rows : List (Option Value)). IsTrue c.is_constant_of-7.result ↔ IsConstant (slice_range rows c.args.range.start c.args.range.end)) same c.is_constant_of-7.ensures

pub is_constant_of-requires-8-clause-fits : goal.is_constant_of-requires-8-clause-fits
is_constant_of-requires-8-clause-fits g c =
    fits-items (λ (z : ℤ). z) c.as_slice-8.result.now (form_of c.validity-validity.result.now) c.args.array.now (map-id c.as_slice-8.result.now ∙ c.as_slice-8.ensures.value ∙ sym (ap numbers c.in-I64-match_each_native.is) ∙ c.values.ensures.shows)
    c.validity-validity.ensures.form c.validity-validity.ensures.counted

pub is_constant_of-requires-8-clause-in_bounds : goal.is_constant_of-requires-8-clause-in_bounds
is_constant_of-requires-8-clause-in_bounds g c =
    within-items (λ (z : ℤ). z) c.as_slice-8.result.now c.args.array.now c.args.range.end (map-id c.as_slice-8.result.now ∙ c.as_slice-8.ensures.value ∙ sym (ap numbers c.in-I64-match_each_native.is) ∙ c.values.ensures.shows) c.requires.in_bounds

pub returns-in-I64-match_each_native : goal.returns-in-I64-match_each_native
returns-in-I64-match_each_native g c =
    let shown = map-id c.as_slice-8.result.now ∙ c.as_slice-8.ensures.value ∙ sym (ap numbers c.in-I64-match_each_native.is) ∙ c.values.ensures.shows in
    let same = number-rows (λ (z : ℤ). z) c.as_slice-8.result.now (form_of c.validity-validity.result.now) c.args.array.now shown c.validity-validity.ensures.form in
    subst (λ (rows : List (Option Value)). IsTrue c.is_constant_of-8.result ↔ IsConstant (slice_range rows c.args.range.start c.args.range.end)) same c.is_constant_of-8.ensures
