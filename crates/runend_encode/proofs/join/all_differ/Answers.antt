use Rattle.std.proofs.Common.{ℤ, pos, map, map-id, sym, ap, ◌∙◌}
use Rattle.column_base.specs.Numbers.{numbers}
use Rattle.runend_windows.proofs.Arms.{HasLength-arm, length-arm}
use Rattle.runend_encode.proofs.RunReads.{differ-arm, zeroed-arm}
use Rattle.runend_encode.proofs.join.all_differ.Goals as goal

pub differ_in-requires-clause-counted : goal.differ_in-requires-clause-counted
differ_in-requires-clause-counted g c =
    let shown = ap (map pos) c.as_slice.ensures.value ∙ sym (ap numbers c.in-U8-match_each_native.is) ∙ c.values.ensures.shows in
    HasLength-arm _ _ _ _ c.validity-validity.ensures.form (length-arm pos c.as_slice.result.now c.args.values.now.numbers shown) c.validity-validity.ensures.counted

pub differ_in-requires-clause-zeroed : goal.differ_in-requires-clause-zeroed
differ_in-requires-clause-zeroed g c =
    let shown = ap (map pos) c.as_slice.ensures.value ∙ sym (ap numbers c.in-U8-match_each_native.is) ∙ c.values.ensures.shows in
    zeroed-arm pos c.as_slice.result.now c.args.values.now.numbers _ _ shown c.validity-validity.ensures.form c.requires.blanked

pub returns-in-U8-match_each_native-clause-counted : goal.returns-in-U8-match_each_native-clause-counted
returns-in-U8-match_each_native-clause-counted g c = c.validity-validity.ensures.counted

pub returns-in-U8-match_each_native-clause-differ : goal.returns-in-U8-match_each_native-clause-differ
returns-in-U8-match_each_native-clause-differ g c =
    let shown = ap (map pos) c.as_slice.ensures.value ∙ sym (ap numbers c.in-U8-match_each_native.is) ∙ c.values.ensures.shows in
    λ differ. differ-arm pos c.as_slice.result.now c.args.values.now.numbers _ _ shown c.validity-validity.ensures.form (c.differ_in.ensures differ)

pub differ_in-requires-2-clause-counted : goal.differ_in-requires-2-clause-counted
differ_in-requires-2-clause-counted g c =
    let shown = ap (map pos) c.as_slice-2.ensures.value ∙ sym (ap numbers c.in-U16-match_each_native.is) ∙ c.values.ensures.shows in
    HasLength-arm _ _ _ _ c.validity-validity.ensures.form (length-arm pos c.as_slice-2.result.now c.args.values.now.numbers shown) c.validity-validity.ensures.counted

pub differ_in-requires-2-clause-zeroed : goal.differ_in-requires-2-clause-zeroed
differ_in-requires-2-clause-zeroed g c =
    let shown = ap (map pos) c.as_slice-2.ensures.value ∙ sym (ap numbers c.in-U16-match_each_native.is) ∙ c.values.ensures.shows in
    zeroed-arm pos c.as_slice-2.result.now c.args.values.now.numbers _ _ shown c.validity-validity.ensures.form c.requires.blanked

pub returns-in-U16-match_each_native-clause-counted : goal.returns-in-U16-match_each_native-clause-counted
returns-in-U16-match_each_native-clause-counted g c = c.validity-validity.ensures.counted

pub returns-in-U16-match_each_native-clause-differ : goal.returns-in-U16-match_each_native-clause-differ
returns-in-U16-match_each_native-clause-differ g c =
    let shown = ap (map pos) c.as_slice-2.ensures.value ∙ sym (ap numbers c.in-U16-match_each_native.is) ∙ c.values.ensures.shows in
    λ differ. differ-arm pos c.as_slice-2.result.now c.args.values.now.numbers _ _ shown c.validity-validity.ensures.form (c.differ_in-2.ensures differ)

pub differ_in-requires-3-clause-counted : goal.differ_in-requires-3-clause-counted
differ_in-requires-3-clause-counted g c =
    let shown = ap (map pos) c.as_slice-3.ensures.value ∙ sym (ap numbers c.in-U32-match_each_native.is) ∙ c.values.ensures.shows in
    HasLength-arm _ _ _ _ c.validity-validity.ensures.form (length-arm pos c.as_slice-3.result.now c.args.values.now.numbers shown) c.validity-validity.ensures.counted

pub differ_in-requires-3-clause-zeroed : goal.differ_in-requires-3-clause-zeroed
differ_in-requires-3-clause-zeroed g c =
    let shown = ap (map pos) c.as_slice-3.ensures.value ∙ sym (ap numbers c.in-U32-match_each_native.is) ∙ c.values.ensures.shows in
    zeroed-arm pos c.as_slice-3.result.now c.args.values.now.numbers _ _ shown c.validity-validity.ensures.form c.requires.blanked

pub returns-in-U32-match_each_native-clause-counted : goal.returns-in-U32-match_each_native-clause-counted
returns-in-U32-match_each_native-clause-counted g c = c.validity-validity.ensures.counted

pub returns-in-U32-match_each_native-clause-differ : goal.returns-in-U32-match_each_native-clause-differ
returns-in-U32-match_each_native-clause-differ g c =
    let shown = ap (map pos) c.as_slice-3.ensures.value ∙ sym (ap numbers c.in-U32-match_each_native.is) ∙ c.values.ensures.shows in
    λ differ. differ-arm pos c.as_slice-3.result.now c.args.values.now.numbers _ _ shown c.validity-validity.ensures.form (c.differ_in-3.ensures differ)

pub differ_in-requires-4-clause-counted : goal.differ_in-requires-4-clause-counted
differ_in-requires-4-clause-counted g c =
    let shown = ap (map pos) c.as_slice-4.ensures.value ∙ sym (ap numbers c.in-U64-match_each_native.is) ∙ c.values.ensures.shows in
    HasLength-arm _ _ _ _ c.validity-validity.ensures.form (length-arm pos c.as_slice-4.result.now c.args.values.now.numbers shown) c.validity-validity.ensures.counted

pub differ_in-requires-4-clause-zeroed : goal.differ_in-requires-4-clause-zeroed
differ_in-requires-4-clause-zeroed g c =
    let shown = ap (map pos) c.as_slice-4.ensures.value ∙ sym (ap numbers c.in-U64-match_each_native.is) ∙ c.values.ensures.shows in
    zeroed-arm pos c.as_slice-4.result.now c.args.values.now.numbers _ _ shown c.validity-validity.ensures.form c.requires.blanked

pub returns-in-U64-match_each_native-clause-counted : goal.returns-in-U64-match_each_native-clause-counted
returns-in-U64-match_each_native-clause-counted g c = c.validity-validity.ensures.counted

pub returns-in-U64-match_each_native-clause-differ : goal.returns-in-U64-match_each_native-clause-differ
returns-in-U64-match_each_native-clause-differ g c =
    let shown = ap (map pos) c.as_slice-4.ensures.value ∙ sym (ap numbers c.in-U64-match_each_native.is) ∙ c.values.ensures.shows in
    λ differ. differ-arm pos c.as_slice-4.result.now c.args.values.now.numbers _ _ shown c.validity-validity.ensures.form (c.differ_in-4.ensures differ)

pub differ_in-requires-5-clause-counted : goal.differ_in-requires-5-clause-counted
differ_in-requires-5-clause-counted g c =
    let shown = map-id c.as_slice-5.result.now ∙ c.as_slice-5.ensures.value ∙ sym (ap numbers c.in-I8-match_each_native.is) ∙ c.values.ensures.shows in
    HasLength-arm _ _ _ _ c.validity-validity.ensures.form (length-arm (λ (n : ℤ). n) c.as_slice-5.result.now c.args.values.now.numbers shown) c.validity-validity.ensures.counted

pub differ_in-requires-5-clause-zeroed : goal.differ_in-requires-5-clause-zeroed
differ_in-requires-5-clause-zeroed g c =
    let shown = map-id c.as_slice-5.result.now ∙ c.as_slice-5.ensures.value ∙ sym (ap numbers c.in-I8-match_each_native.is) ∙ c.values.ensures.shows in
    zeroed-arm (λ (n : ℤ). n) c.as_slice-5.result.now c.args.values.now.numbers _ _ shown c.validity-validity.ensures.form c.requires.blanked

pub returns-in-I8-match_each_native-clause-counted : goal.returns-in-I8-match_each_native-clause-counted
returns-in-I8-match_each_native-clause-counted g c = c.validity-validity.ensures.counted

pub returns-in-I8-match_each_native-clause-differ : goal.returns-in-I8-match_each_native-clause-differ
returns-in-I8-match_each_native-clause-differ g c =
    let shown = map-id c.as_slice-5.result.now ∙ c.as_slice-5.ensures.value ∙ sym (ap numbers c.in-I8-match_each_native.is) ∙ c.values.ensures.shows in
    λ differ. differ-arm (λ (n : ℤ). n) c.as_slice-5.result.now c.args.values.now.numbers _ _ shown c.validity-validity.ensures.form (c.differ_in-5.ensures differ)

pub differ_in-requires-6-clause-counted : goal.differ_in-requires-6-clause-counted
differ_in-requires-6-clause-counted g c =
    let shown = map-id c.as_slice-6.result.now ∙ c.as_slice-6.ensures.value ∙ sym (ap numbers c.in-I16-match_each_native.is) ∙ c.values.ensures.shows in
    HasLength-arm _ _ _ _ c.validity-validity.ensures.form (length-arm (λ (n : ℤ). n) c.as_slice-6.result.now c.args.values.now.numbers shown) c.validity-validity.ensures.counted

pub differ_in-requires-6-clause-zeroed : goal.differ_in-requires-6-clause-zeroed
differ_in-requires-6-clause-zeroed g c =
    let shown = map-id c.as_slice-6.result.now ∙ c.as_slice-6.ensures.value ∙ sym (ap numbers c.in-I16-match_each_native.is) ∙ c.values.ensures.shows in
    zeroed-arm (λ (n : ℤ). n) c.as_slice-6.result.now c.args.values.now.numbers _ _ shown c.validity-validity.ensures.form c.requires.blanked

pub returns-in-I16-match_each_native-clause-counted : goal.returns-in-I16-match_each_native-clause-counted
returns-in-I16-match_each_native-clause-counted g c = c.validity-validity.ensures.counted

pub returns-in-I16-match_each_native-clause-differ : goal.returns-in-I16-match_each_native-clause-differ
returns-in-I16-match_each_native-clause-differ g c =
    let shown = map-id c.as_slice-6.result.now ∙ c.as_slice-6.ensures.value ∙ sym (ap numbers c.in-I16-match_each_native.is) ∙ c.values.ensures.shows in
    λ differ. differ-arm (λ (n : ℤ). n) c.as_slice-6.result.now c.args.values.now.numbers _ _ shown c.validity-validity.ensures.form (c.differ_in-6.ensures differ)

pub differ_in-requires-7-clause-counted : goal.differ_in-requires-7-clause-counted
differ_in-requires-7-clause-counted g c =
    let shown = map-id c.as_slice-7.result.now ∙ c.as_slice-7.ensures.value ∙ sym (ap numbers c.in-I32-match_each_native.is) ∙ c.values.ensures.shows in
    HasLength-arm _ _ _ _ c.validity-validity.ensures.form (length-arm (λ (n : ℤ). n) c.as_slice-7.result.now c.args.values.now.numbers shown) c.validity-validity.ensures.counted

pub differ_in-requires-7-clause-zeroed : goal.differ_in-requires-7-clause-zeroed
differ_in-requires-7-clause-zeroed g c =
    let shown = map-id c.as_slice-7.result.now ∙ c.as_slice-7.ensures.value ∙ sym (ap numbers c.in-I32-match_each_native.is) ∙ c.values.ensures.shows in
    zeroed-arm (λ (n : ℤ). n) c.as_slice-7.result.now c.args.values.now.numbers _ _ shown c.validity-validity.ensures.form c.requires.blanked

pub returns-in-I32-match_each_native-clause-counted : goal.returns-in-I32-match_each_native-clause-counted
returns-in-I32-match_each_native-clause-counted g c = c.validity-validity.ensures.counted

pub returns-in-I32-match_each_native-clause-differ : goal.returns-in-I32-match_each_native-clause-differ
returns-in-I32-match_each_native-clause-differ g c =
    let shown = map-id c.as_slice-7.result.now ∙ c.as_slice-7.ensures.value ∙ sym (ap numbers c.in-I32-match_each_native.is) ∙ c.values.ensures.shows in
    λ differ. differ-arm (λ (n : ℤ). n) c.as_slice-7.result.now c.args.values.now.numbers _ _ shown c.validity-validity.ensures.form (c.differ_in-7.ensures differ)

pub differ_in-requires-8-clause-counted : goal.differ_in-requires-8-clause-counted
differ_in-requires-8-clause-counted g c =
    let shown = map-id c.as_slice-8.result.now ∙ c.as_slice-8.ensures.value ∙ sym (ap numbers c.in-I64-match_each_native.is) ∙ c.values.ensures.shows in
    HasLength-arm _ _ _ _ c.validity-validity.ensures.form (length-arm (λ (n : ℤ). n) c.as_slice-8.result.now c.args.values.now.numbers shown) c.validity-validity.ensures.counted

pub differ_in-requires-8-clause-zeroed : goal.differ_in-requires-8-clause-zeroed
differ_in-requires-8-clause-zeroed g c =
    let shown = map-id c.as_slice-8.result.now ∙ c.as_slice-8.ensures.value ∙ sym (ap numbers c.in-I64-match_each_native.is) ∙ c.values.ensures.shows in
    zeroed-arm (λ (n : ℤ). n) c.as_slice-8.result.now c.args.values.now.numbers _ _ shown c.validity-validity.ensures.form c.requires.blanked

pub returns-in-I64-match_each_native-clause-counted : goal.returns-in-I64-match_each_native-clause-counted
returns-in-I64-match_each_native-clause-counted g c = c.validity-validity.ensures.counted

pub returns-in-I64-match_each_native-clause-differ : goal.returns-in-I64-match_each_native-clause-differ
returns-in-I64-match_each_native-clause-differ g c =
    let shown = map-id c.as_slice-8.result.now ∙ c.as_slice-8.ensures.value ∙ sym (ap numbers c.in-I64-match_each_native.is) ∙ c.values.ensures.shows in
    λ differ. differ-arm (λ (n : ℤ). n) c.as_slice-8.result.now c.args.values.now.numbers _ _ shown c.validity-validity.ensures.form (c.differ_in-8.ensures differ)
