use Rattle.std.proofs.Common.{ℤ, pos, map, sym, ap, subst, ◌∙◌}
use Rattle.std.specs.Prelude.{IfOk}
use Rattle.std.proofs.lemmas.List.{map-id}
use Rattle.column_base.specs.declared.dtype.PType.TheVariants.{U8, U16, U32, U64, I8, I16, I32, I64}
use Rattle.column_base.specs.Numbers.{numbers, ptype_of}
use Rattle.column_base.specs.Validity.{form_of}
use Rattle.column_core.specs.PrimitiveForm.{PrimitiveForm}
use Rattle.runend_windows.specs.Ends.{ends_of}
use Rattle.runend_windows.specs.Encoding.{IsDecodedFlat}
use Rattle.runend_windows.proofs.Arms.{same-primitive, length-arm, HasLength-arm}
use Rattle.runend_windows.proofs.decode.decode_numbers.Goals as goal

pub decode_as-requires-clause-plain : goal.decode_as-requires-clause-plain
decode_as-requires-clause-plain g c = c.requires.plain

pub decode_as-requires-clause-window : goal.decode_as-requires-clause-window
decode_as-requires-clause-window g c = c.requires.window

pub decode_as-requires-clause-paired : goal.decode_as-requires-clause-paired
decode_as-requires-clause-paired g c =
    let shown = ap (map pos) c.as_slice.ensures.value ∙ sym (ap numbers c.in-U8-match_each_native.is) ∙ c.values.ensures.shows in
    (length-arm pos c.as_slice.result.now c.args.values.now.numbers shown) ∙ c.requires.paired

pub decode_as-requires-clause-fits : goal.decode_as-requires-clause-fits
decode_as-requires-clause-fits g c =
    let shown = ap (map pos) c.as_slice.ensures.value ∙ sym (ap numbers c.in-U8-match_each_native.is) ∙ c.values.ensures.shows in
    HasLength-arm _ _ _ _ c.validity-validity.ensures.form (length-arm pos c.as_slice.result.now c.args.values.now.numbers shown) c.validity-validity.ensures.counted

pub returns-in-U8-match_each_native-clause-only : goal.returns-in-U8-match_each_native-clause-only
returns-in-U8-match_each_native-clause-only g c = c.decode_as.ensures.only

pub returns-in-U8-match_each_native-clause-flat : goal.returns-in-U8-match_each_native-clause-flat
returns-in-U8-match_each_native-clause-flat g c =
    let shown = ap (map pos) c.as_slice.ensures.value ∙ sym (ap numbers c.in-U8-match_each_native.is) ∙ c.values.ensures.shows in
    let typed = sym (ap ptype_of c.in-U8-match_each_native.is) ∙ c.values.ensures.typed in
    let same = same-primitive U8 (map pos c.as_slice.result.now) (form_of c.validity-validity.result.now) c.args.values.now typed shown c.validity-validity.ensures.form in
    subst (λ (form : PrimitiveForm). IfOk c.decode_as.result (λ array. IsDecodedFlat (ends_of c.args.ends.now) form c.args.offset c.args.count array)) same c.decode_as.ensures.flat

pub decode_as-requires-2-clause-plain : goal.decode_as-requires-2-clause-plain
decode_as-requires-2-clause-plain g c = c.requires.plain

pub decode_as-requires-2-clause-window : goal.decode_as-requires-2-clause-window
decode_as-requires-2-clause-window g c = c.requires.window

pub decode_as-requires-2-clause-paired : goal.decode_as-requires-2-clause-paired
decode_as-requires-2-clause-paired g c =
    let shown = ap (map pos) c.as_slice-2.ensures.value ∙ sym (ap numbers c.in-U16-match_each_native.is) ∙ c.values.ensures.shows in
    (length-arm pos c.as_slice-2.result.now c.args.values.now.numbers shown) ∙ c.requires.paired

pub decode_as-requires-2-clause-fits : goal.decode_as-requires-2-clause-fits
decode_as-requires-2-clause-fits g c =
    let shown = ap (map pos) c.as_slice-2.ensures.value ∙ sym (ap numbers c.in-U16-match_each_native.is) ∙ c.values.ensures.shows in
    HasLength-arm _ _ _ _ c.validity-validity.ensures.form (length-arm pos c.as_slice-2.result.now c.args.values.now.numbers shown) c.validity-validity.ensures.counted

pub returns-in-U16-match_each_native-clause-only : goal.returns-in-U16-match_each_native-clause-only
returns-in-U16-match_each_native-clause-only g c = c.decode_as-2.ensures.only

pub returns-in-U16-match_each_native-clause-flat : goal.returns-in-U16-match_each_native-clause-flat
returns-in-U16-match_each_native-clause-flat g c =
    let shown = ap (map pos) c.as_slice-2.ensures.value ∙ sym (ap numbers c.in-U16-match_each_native.is) ∙ c.values.ensures.shows in
    let typed = sym (ap ptype_of c.in-U16-match_each_native.is) ∙ c.values.ensures.typed in
    let same = same-primitive U16 (map pos c.as_slice-2.result.now) (form_of c.validity-validity.result.now) c.args.values.now typed shown c.validity-validity.ensures.form in
    subst (λ (form : PrimitiveForm). IfOk c.decode_as-2.result (λ array. IsDecodedFlat (ends_of c.args.ends.now) form c.args.offset c.args.count array)) same c.decode_as-2.ensures.flat

pub decode_as-requires-3-clause-plain : goal.decode_as-requires-3-clause-plain
decode_as-requires-3-clause-plain g c = c.requires.plain

pub decode_as-requires-3-clause-window : goal.decode_as-requires-3-clause-window
decode_as-requires-3-clause-window g c = c.requires.window

pub decode_as-requires-3-clause-paired : goal.decode_as-requires-3-clause-paired
decode_as-requires-3-clause-paired g c =
    let shown = ap (map pos) c.as_slice-3.ensures.value ∙ sym (ap numbers c.in-U32-match_each_native.is) ∙ c.values.ensures.shows in
    (length-arm pos c.as_slice-3.result.now c.args.values.now.numbers shown) ∙ c.requires.paired

pub decode_as-requires-3-clause-fits : goal.decode_as-requires-3-clause-fits
decode_as-requires-3-clause-fits g c =
    let shown = ap (map pos) c.as_slice-3.ensures.value ∙ sym (ap numbers c.in-U32-match_each_native.is) ∙ c.values.ensures.shows in
    HasLength-arm _ _ _ _ c.validity-validity.ensures.form (length-arm pos c.as_slice-3.result.now c.args.values.now.numbers shown) c.validity-validity.ensures.counted

pub returns-in-U32-match_each_native-clause-only : goal.returns-in-U32-match_each_native-clause-only
returns-in-U32-match_each_native-clause-only g c = c.decode_as-3.ensures.only

pub returns-in-U32-match_each_native-clause-flat : goal.returns-in-U32-match_each_native-clause-flat
returns-in-U32-match_each_native-clause-flat g c =
    let shown = ap (map pos) c.as_slice-3.ensures.value ∙ sym (ap numbers c.in-U32-match_each_native.is) ∙ c.values.ensures.shows in
    let typed = sym (ap ptype_of c.in-U32-match_each_native.is) ∙ c.values.ensures.typed in
    let same = same-primitive U32 (map pos c.as_slice-3.result.now) (form_of c.validity-validity.result.now) c.args.values.now typed shown c.validity-validity.ensures.form in
    subst (λ (form : PrimitiveForm). IfOk c.decode_as-3.result (λ array. IsDecodedFlat (ends_of c.args.ends.now) form c.args.offset c.args.count array)) same c.decode_as-3.ensures.flat

pub decode_as-requires-4-clause-plain : goal.decode_as-requires-4-clause-plain
decode_as-requires-4-clause-plain g c = c.requires.plain

pub decode_as-requires-4-clause-window : goal.decode_as-requires-4-clause-window
decode_as-requires-4-clause-window g c = c.requires.window

pub decode_as-requires-4-clause-paired : goal.decode_as-requires-4-clause-paired
decode_as-requires-4-clause-paired g c =
    let shown = ap (map pos) c.as_slice-4.ensures.value ∙ sym (ap numbers c.in-U64-match_each_native.is) ∙ c.values.ensures.shows in
    (length-arm pos c.as_slice-4.result.now c.args.values.now.numbers shown) ∙ c.requires.paired

pub decode_as-requires-4-clause-fits : goal.decode_as-requires-4-clause-fits
decode_as-requires-4-clause-fits g c =
    let shown = ap (map pos) c.as_slice-4.ensures.value ∙ sym (ap numbers c.in-U64-match_each_native.is) ∙ c.values.ensures.shows in
    HasLength-arm _ _ _ _ c.validity-validity.ensures.form (length-arm pos c.as_slice-4.result.now c.args.values.now.numbers shown) c.validity-validity.ensures.counted

pub returns-in-U64-match_each_native-clause-only : goal.returns-in-U64-match_each_native-clause-only
returns-in-U64-match_each_native-clause-only g c = c.decode_as-4.ensures.only

pub returns-in-U64-match_each_native-clause-flat : goal.returns-in-U64-match_each_native-clause-flat
returns-in-U64-match_each_native-clause-flat g c =
    let shown = ap (map pos) c.as_slice-4.ensures.value ∙ sym (ap numbers c.in-U64-match_each_native.is) ∙ c.values.ensures.shows in
    let typed = sym (ap ptype_of c.in-U64-match_each_native.is) ∙ c.values.ensures.typed in
    let same = same-primitive U64 (map pos c.as_slice-4.result.now) (form_of c.validity-validity.result.now) c.args.values.now typed shown c.validity-validity.ensures.form in
    subst (λ (form : PrimitiveForm). IfOk c.decode_as-4.result (λ array. IsDecodedFlat (ends_of c.args.ends.now) form c.args.offset c.args.count array)) same c.decode_as-4.ensures.flat

pub decode_as-requires-5-clause-plain : goal.decode_as-requires-5-clause-plain
decode_as-requires-5-clause-plain g c = c.requires.plain

pub decode_as-requires-5-clause-window : goal.decode_as-requires-5-clause-window
decode_as-requires-5-clause-window g c = c.requires.window

pub decode_as-requires-5-clause-paired : goal.decode_as-requires-5-clause-paired
decode_as-requires-5-clause-paired g c =
    let shown = map-id c.as_slice-5.result.now ∙ c.as_slice-5.ensures.value ∙ sym (ap numbers c.in-I8-match_each_native.is) ∙ c.values.ensures.shows in
    (length-arm (λ (n : ℤ). n) c.as_slice-5.result.now c.args.values.now.numbers shown) ∙ c.requires.paired

pub decode_as-requires-5-clause-fits : goal.decode_as-requires-5-clause-fits
decode_as-requires-5-clause-fits g c =
    let shown = map-id c.as_slice-5.result.now ∙ c.as_slice-5.ensures.value ∙ sym (ap numbers c.in-I8-match_each_native.is) ∙ c.values.ensures.shows in
    HasLength-arm _ _ _ _ c.validity-validity.ensures.form (length-arm (λ (n : ℤ). n) c.as_slice-5.result.now c.args.values.now.numbers shown) c.validity-validity.ensures.counted

pub returns-in-I8-match_each_native-clause-only : goal.returns-in-I8-match_each_native-clause-only
returns-in-I8-match_each_native-clause-only g c = c.decode_as-5.ensures.only

pub returns-in-I8-match_each_native-clause-flat : goal.returns-in-I8-match_each_native-clause-flat
returns-in-I8-match_each_native-clause-flat g c =
    let shown = map-id c.as_slice-5.result.now ∙ c.as_slice-5.ensures.value ∙ sym (ap numbers c.in-I8-match_each_native.is) ∙ c.values.ensures.shows in
    let typed = sym (ap ptype_of c.in-I8-match_each_native.is) ∙ c.values.ensures.typed in
    let same = same-primitive I8 (map (λ (n : ℤ). n) c.as_slice-5.result.now) (form_of c.validity-validity.result.now) c.args.values.now typed shown c.validity-validity.ensures.form in
    subst (λ (form : PrimitiveForm). IfOk c.decode_as-5.result (λ array. IsDecodedFlat (ends_of c.args.ends.now) form c.args.offset c.args.count array)) same c.decode_as-5.ensures.flat

pub decode_as-requires-6-clause-plain : goal.decode_as-requires-6-clause-plain
decode_as-requires-6-clause-plain g c = c.requires.plain

pub decode_as-requires-6-clause-window : goal.decode_as-requires-6-clause-window
decode_as-requires-6-clause-window g c = c.requires.window

pub decode_as-requires-6-clause-paired : goal.decode_as-requires-6-clause-paired
decode_as-requires-6-clause-paired g c =
    let shown = map-id c.as_slice-6.result.now ∙ c.as_slice-6.ensures.value ∙ sym (ap numbers c.in-I16-match_each_native.is) ∙ c.values.ensures.shows in
    (length-arm (λ (n : ℤ). n) c.as_slice-6.result.now c.args.values.now.numbers shown) ∙ c.requires.paired

pub decode_as-requires-6-clause-fits : goal.decode_as-requires-6-clause-fits
decode_as-requires-6-clause-fits g c =
    let shown = map-id c.as_slice-6.result.now ∙ c.as_slice-6.ensures.value ∙ sym (ap numbers c.in-I16-match_each_native.is) ∙ c.values.ensures.shows in
    HasLength-arm _ _ _ _ c.validity-validity.ensures.form (length-arm (λ (n : ℤ). n) c.as_slice-6.result.now c.args.values.now.numbers shown) c.validity-validity.ensures.counted

pub returns-in-I16-match_each_native-clause-only : goal.returns-in-I16-match_each_native-clause-only
returns-in-I16-match_each_native-clause-only g c = c.decode_as-6.ensures.only

pub returns-in-I16-match_each_native-clause-flat : goal.returns-in-I16-match_each_native-clause-flat
returns-in-I16-match_each_native-clause-flat g c =
    let shown = map-id c.as_slice-6.result.now ∙ c.as_slice-6.ensures.value ∙ sym (ap numbers c.in-I16-match_each_native.is) ∙ c.values.ensures.shows in
    let typed = sym (ap ptype_of c.in-I16-match_each_native.is) ∙ c.values.ensures.typed in
    let same = same-primitive I16 (map (λ (n : ℤ). n) c.as_slice-6.result.now) (form_of c.validity-validity.result.now) c.args.values.now typed shown c.validity-validity.ensures.form in
    subst (λ (form : PrimitiveForm). IfOk c.decode_as-6.result (λ array. IsDecodedFlat (ends_of c.args.ends.now) form c.args.offset c.args.count array)) same c.decode_as-6.ensures.flat

pub decode_as-requires-7-clause-plain : goal.decode_as-requires-7-clause-plain
decode_as-requires-7-clause-plain g c = c.requires.plain

pub decode_as-requires-7-clause-window : goal.decode_as-requires-7-clause-window
decode_as-requires-7-clause-window g c = c.requires.window

pub decode_as-requires-7-clause-paired : goal.decode_as-requires-7-clause-paired
decode_as-requires-7-clause-paired g c =
    let shown = map-id c.as_slice-7.result.now ∙ c.as_slice-7.ensures.value ∙ sym (ap numbers c.in-I32-match_each_native.is) ∙ c.values.ensures.shows in
    (length-arm (λ (n : ℤ). n) c.as_slice-7.result.now c.args.values.now.numbers shown) ∙ c.requires.paired

pub decode_as-requires-7-clause-fits : goal.decode_as-requires-7-clause-fits
decode_as-requires-7-clause-fits g c =
    let shown = map-id c.as_slice-7.result.now ∙ c.as_slice-7.ensures.value ∙ sym (ap numbers c.in-I32-match_each_native.is) ∙ c.values.ensures.shows in
    HasLength-arm _ _ _ _ c.validity-validity.ensures.form (length-arm (λ (n : ℤ). n) c.as_slice-7.result.now c.args.values.now.numbers shown) c.validity-validity.ensures.counted

pub returns-in-I32-match_each_native-clause-only : goal.returns-in-I32-match_each_native-clause-only
returns-in-I32-match_each_native-clause-only g c = c.decode_as-7.ensures.only

pub returns-in-I32-match_each_native-clause-flat : goal.returns-in-I32-match_each_native-clause-flat
returns-in-I32-match_each_native-clause-flat g c =
    let shown = map-id c.as_slice-7.result.now ∙ c.as_slice-7.ensures.value ∙ sym (ap numbers c.in-I32-match_each_native.is) ∙ c.values.ensures.shows in
    let typed = sym (ap ptype_of c.in-I32-match_each_native.is) ∙ c.values.ensures.typed in
    let same = same-primitive I32 (map (λ (n : ℤ). n) c.as_slice-7.result.now) (form_of c.validity-validity.result.now) c.args.values.now typed shown c.validity-validity.ensures.form in
    subst (λ (form : PrimitiveForm). IfOk c.decode_as-7.result (λ array. IsDecodedFlat (ends_of c.args.ends.now) form c.args.offset c.args.count array)) same c.decode_as-7.ensures.flat

pub decode_as-requires-8-clause-plain : goal.decode_as-requires-8-clause-plain
decode_as-requires-8-clause-plain g c = c.requires.plain

pub decode_as-requires-8-clause-window : goal.decode_as-requires-8-clause-window
decode_as-requires-8-clause-window g c = c.requires.window

pub decode_as-requires-8-clause-paired : goal.decode_as-requires-8-clause-paired
decode_as-requires-8-clause-paired g c =
    let shown = map-id c.as_slice-8.result.now ∙ c.as_slice-8.ensures.value ∙ sym (ap numbers c.in-I64-match_each_native.is) ∙ c.values.ensures.shows in
    (length-arm (λ (n : ℤ). n) c.as_slice-8.result.now c.args.values.now.numbers shown) ∙ c.requires.paired

pub decode_as-requires-8-clause-fits : goal.decode_as-requires-8-clause-fits
decode_as-requires-8-clause-fits g c =
    let shown = map-id c.as_slice-8.result.now ∙ c.as_slice-8.ensures.value ∙ sym (ap numbers c.in-I64-match_each_native.is) ∙ c.values.ensures.shows in
    HasLength-arm _ _ _ _ c.validity-validity.ensures.form (length-arm (λ (n : ℤ). n) c.as_slice-8.result.now c.args.values.now.numbers shown) c.validity-validity.ensures.counted

pub returns-in-I64-match_each_native-clause-only : goal.returns-in-I64-match_each_native-clause-only
returns-in-I64-match_each_native-clause-only g c = c.decode_as-8.ensures.only

pub returns-in-I64-match_each_native-clause-flat : goal.returns-in-I64-match_each_native-clause-flat
returns-in-I64-match_each_native-clause-flat g c =
    let shown = map-id c.as_slice-8.result.now ∙ c.as_slice-8.ensures.value ∙ sym (ap numbers c.in-I64-match_each_native.is) ∙ c.values.ensures.shows in
    let typed = sym (ap ptype_of c.in-I64-match_each_native.is) ∙ c.values.ensures.typed in
    let same = same-primitive I64 (map (λ (n : ℤ). n) c.as_slice-8.result.now) (form_of c.validity-validity.result.now) c.args.values.now typed shown c.validity-validity.ensures.form in
    subst (λ (form : PrimitiveForm). IfOk c.decode_as-8.result (λ array. IsDecodedFlat (ends_of c.args.ends.now) form c.args.offset c.args.count array)) same c.decode_as-8.ensures.flat
