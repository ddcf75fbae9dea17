use Rattle.std.proofs.Common.{ℤ, pos, map, sym, ap, subst, ◌∙◌}
use Rattle.std.specs.Prelude.{IfOk}
use Rattle.std.proofs.lemmas.List.{map-id}
use Rattle.column_base.specs.declared.dtype.PType.TheVariants.{U8, U16, U32, U64, I8, I16, I32, I64}
use Rattle.column_base.specs.Numbers.{numbers, ptype_of}
use Rattle.column_base.specs.Validity.{form_of}
use Rattle.column_core.specs.PrimitiveForm.{PrimitiveForm}
use Rattle.runend_windows.specs.Encoding.{IsFlatEncoding}
use Rattle.runend_windows.proofs.Arms.{same-primitive, length-arm, HasLength-arm}
use Rattle.runend_windows.proofs.encode.encode_plain.Goals as goal

pub encode_as-requires : goal.encode_as-requires
encode_as-requires g c =
    let shown = ap (map pos) c.as_slice.ensures.value ∙ sym (ap numbers c.in-U8-match_each_native.is) ∙ c.values.ensures.shows in
    HasLength-arm _ _ _ _ c.validity-validity.ensures.form (length-arm pos c.as_slice.result.now c.args.array.now.numbers shown) c.validity-validity.ensures.counted

pub returns-in-U8-match_each_native-clause-only : goal.returns-in-U8-match_each_native-clause-only
returns-in-U8-match_each_native-clause-only g c = c.encode_as.ensures.only

pub returns-in-U8-match_each_native-clause-encoding : goal.returns-in-U8-match_each_native-clause-encoding
returns-in-U8-match_each_native-clause-encoding g c =
    let shown = ap (map pos) c.as_slice.ensures.value ∙ sym (ap numbers c.in-U8-match_each_native.is) ∙ c.values.ensures.shows in
    let typed = sym (ap ptype_of c.in-U8-match_each_native.is) ∙ c.values.ensures.typed in
    let same = same-primitive U8 (map pos c.as_slice.result.now) (form_of c.validity-validity.result.now) c.args.array.now typed shown c.validity-validity.ensures.form in
    subst (λ (form : PrimitiveForm). IfOk c.encode_as.result (λ parts. IsFlatEncoding form parts.0 parts.1)) same c.encode_as.ensures.encoding

pub encode_as-requires-2 : goal.encode_as-requires-2
encode_as-requires-2 g c =
    let shown = ap (map pos) c.as_slice-2.ensures.value ∙ sym (ap numbers c.in-U16-match_each_native.is) ∙ c.values.ensures.shows in
    HasLength-arm _ _ _ _ c.validity-validity.ensures.form (length-arm pos c.as_slice-2.result.now c.args.array.now.numbers shown) c.validity-validity.ensures.counted

pub returns-in-U16-match_each_native-clause-only : goal.returns-in-U16-match_each_native-clause-only
returns-in-U16-match_each_native-clause-only g c = c.encode_as-2.ensures.only

pub returns-in-U16-match_each_native-clause-encoding : goal.returns-in-U16-match_each_native-clause-encoding
returns-in-U16-match_each_native-clause-encoding g c =
    let shown = ap (map pos) c.as_slice-2.ensures.value ∙ sym (ap numbers c.in-U16-match_each_native.is) ∙ c.values.ensures.shows in
    let typed = sym (ap ptype_of c.in-U16-match_each_native.is) ∙ c.values.ensures.typed in
    let same = same-primitive U16 (map pos c.as_slice-2.result.now) (form_of c.validity-validity.result.now) c.args.array.now typed shown c.validity-validity.ensures.form in
    subst (λ (form : PrimitiveForm). IfOk c.encode_as-2.result (λ parts. IsFlatEncoding form parts.0 parts.1)) same c.encode_as-2.ensures.encoding

pub encode_as-requires-3 : goal.encode_as-requires-3
encode_as-requires-3 g c =
    let shown = ap (map pos) c.as_slice-3.ensures.value ∙ sym (ap numbers c.in-U32-match_each_native.is) ∙ c.values.ensures.shows in
    HasLength-arm _ _ _ _ c.validity-validity.ensures.form (length-arm pos c.as_slice-3.result.now c.args.array.now.numbers shown) c.validity-validity.ensures.counted

pub returns-in-U32-match_each_native-clause-only : goal.returns-in-U32-match_each_native-clause-only
returns-in-U32-match_each_native-clause-only g c = c.encode_as-3.ensures.only

pub returns-in-U32-match_each_native-clause-encoding : goal.returns-in-U32-match_each_native-clause-encoding
returns-in-U32-match_each_native-clause-encoding g c =
    let shown = ap (map pos) c.as_slice-3.ensures.value ∙ sym (ap numbers c.in-U32-match_each_native.is) ∙ c.values.ensures.shows in
    let typed = sym (ap ptype_of c.in-U32-match_each_native.is) ∙ c.values.ensures.typed in
    let same = same-primitive U32 (map pos c.as_slice-3.result.now) (form_of c.validity-validity.result.now) c.args.array.now typed shown c.validity-validity.ensures.form in
    subst (λ (form : PrimitiveForm). IfOk c.encode_as-3.result (λ parts. IsFlatEncoding form parts.0 parts.1)) same c.encode_as-3.ensures.encoding

pub encode_as-requires-4 : goal.encode_as-requires-4
encode_as-requires-4 g c =
    let shown = ap (map pos) c.as_slice-4.ensures.value ∙ sym (ap numbers c.in-U64-match_each_native.is) ∙ c.values.ensures.shows in
    HasLength-arm _ _ _ _ c.validity-validity.ensures.form (length-arm pos c.as_slice-4.result.now c.args.array.now.numbers shown) c.validity-validity.ensures.counted

pub returns-in-U64-match_each_native-clause-only : goal.returns-in-U64-match_each_native-clause-only
returns-in-U64-match_each_native-clause-only g c = c.encode_as-4.ensures.only

pub returns-in-U64-match_each_native-clause-encoding : goal.returns-in-U64-match_each_native-clause-encoding
returns-in-U64-match_each_native-clause-encoding g c =
    let shown = ap (map pos) c.as_slice-4.ensures.value ∙ sym (ap numbers c.in-U64-match_each_native.is) ∙ c.values.ensures.shows in
    let typed = sym (ap ptype_of c.in-U64-match_each_native.is) ∙ c.values.ensures.typed in
    let same = same-primitive U64 (map pos c.as_slice-4.result.now) (form_of c.validity-validity.result.now) c.args.array.now typed shown c.validity-validity.ensures.form in
    subst (λ (form : PrimitiveForm). IfOk c.encode_as-4.result (λ parts. IsFlatEncoding form parts.0 parts.1)) same c.encode_as-4.ensures.encoding

pub encode_as-requires-5 : goal.encode_as-requires-5
encode_as-requires-5 g c =
    let shown = map-id c.as_slice-5.result.now ∙ c.as_slice-5.ensures.value ∙ sym (ap numbers c.in-I8-match_each_native.is) ∙ c.values.ensures.shows in
    HasLength-arm _ _ _ _ c.validity-validity.ensures.form (length-arm (λ (n : ℤ). n) c.as_slice-5.result.now c.args.array.now.numbers shown) c.validity-validity.ensures.counted

pub returns-in-I8-match_each_native-clause-only : goal.returns-in-I8-match_each_native-clause-only
returns-in-I8-match_each_native-clause-only g c = c.encode_as-5.ensures.only

pub returns-in-I8-match_each_native-clause-encoding : goal.returns-in-I8-match_each_native-clause-encoding
returns-in-I8-match_each_native-clause-encoding g c =
    let shown = map-id c.as_slice-5.result.now ∙ c.as_slice-5.ensures.value ∙ sym (ap numbers c.in-I8-match_each_native.is) ∙ c.values.ensures.shows in
    let typed = sym (ap ptype_of c.in-I8-match_each_native.is) ∙ c.values.ensures.typed in
    let same = same-primitive I8 (map (λ (n : ℤ). n) c.as_slice-5.result.now) (form_of c.validity-validity.result.now) c.args.array.now typed shown c.validity-validity.ensures.form in
    subst (λ (form : PrimitiveForm). IfOk c.encode_as-5.result (λ parts. IsFlatEncoding form parts.0 parts.1)) same c.encode_as-5.ensures.encoding

pub encode_as-requires-6 : goal.encode_as-requires-6
encode_as-requires-6 g c =
    let shown = map-id c.as_slice-6.result.now ∙ c.as_slice-6.ensures.value ∙ sym (ap numbers c.in-I16-match_each_native.is) ∙ c.values.ensures.shows in
    HasLength-arm _ _ _ _ c.validity-validity.ensures.form (length-arm (λ (n : ℤ). n) c.as_slice-6.result.now c.args.array.now.numbers shown) c.validity-validity.ensures.counted

pub returns-in-I16-match_each_native-clause-only : goal.returns-in-I16-match_each_native-clause-only
returns-in-I16-match_each_native-clause-only g c = c.encode_as-6.ensures.only

pub returns-in-I16-match_each_native-clause-encoding : goal.returns-in-I16-match_each_native-clause-encoding
returns-in-I16-match_each_native-clause-encoding g c =
    let shown = map-id c.as_slice-6.result.now ∙ c.as_slice-6.ensures.value ∙ sym (ap numbers c.in-I16-match_each_native.is) ∙ c.values.ensures.shows in
    let typed = sym (ap ptype_of c.in-I16-match_each_native.is) ∙ c.values.ensures.typed in
    let same = same-primitive I16 (map (λ (n : ℤ). n) c.as_slice-6.result.now) (form_of c.validity-validity.result.now) c.args.array.now typed shown c.validity-validity.ensures.form in
    subst (λ (form : PrimitiveForm). IfOk c.encode_as-6.result (λ parts. IsFlatEncoding form parts.0 parts.1)) same c.encode_as-6.ensures.encoding

pub encode_as-requires-7 : goal.encode_as-requires-7
encode_as-requires-7 g c =
    let shown = map-id c.as_slice-7.result.now ∙ c.as_slice-7.ensures.value ∙ sym (ap numbers c.in-I32-match_each_native.is) ∙ c.values.ensures.shows in
    HasLength-arm _ _ _ _ c.validity-validity.ensures.form (length-arm (λ (n : ℤ). n) c.as_slice-7.result.now c.args.array.now.numbers shown) c.validity-validity.ensures.counted

pub returns-in-I32-match_each_native-clause-only : goal.returns-in-I32-match_each_native-clause-only
returns-in-I32-match_each_native-clause-only g c = c.encode_as-7.ensures.only

pub returns-in-I32-match_each_native-clause-encoding : goal.returns-in-I32-match_each_native-clause-encoding
returns-in-I32-match_each_native-clause-encoding g c =
    let shown = map-id c.as_slice-7.result.now ∙ c.as_slice-7.ensures.value ∙ sym (ap numbers c.in-I32-match_each_native.is) ∙ c.values.ensures.shows in
    let typed = sym (ap ptype_of c.in-I32-match_each_native.is) ∙ c.values.ensures.typed in
    let same = same-primitive I32 (map (λ (n : ℤ). n) c.as_slice-7.result.now) (form_of c.validity-validity.result.now) c.args.array.now typed shown c.validity-validity.ensures.form in
    subst (λ (form : PrimitiveForm). IfOk c.encode_as-7.result (λ parts. IsFlatEncoding form parts.0 parts.1)) same c.encode_as-7.ensures.encoding

pub encode_as-requires-8 : goal.encode_as-requires-8
encode_as-requires-8 g c =
    let shown = map-id c.as_slice-8.result.now ∙ c.as_slice-8.ensures.value ∙ sym (ap numbers c.in-I64-match_each_native.is) ∙ c.values.ensures.shows in
    HasLength-arm _ _ _ _ c.validity-validity.ensures.form (length-arm (λ (n : ℤ). n) c.as_slice-8.result.now c.args.array.now.numbers shown) c.validity-validity.ensures.counted

pub returns-in-I64-match_each_native-clause-only : goal.returns-in-I64-match_each_native-clause-only
returns-in-I64-match_each_native-clause-only g c = c.encode_as-8.ensures.only

pub returns-in-I64-match_each_native-clause-encoding : goal.returns-in-I64-match_each_native-clause-encoding
returns-in-I64-match_each_native-clause-encoding g c =
    let shown = map-id c.as_slice-8.result.now ∙ c.as_slice-8.ensures.value ∙ sym (ap numbers c.in-I64-match_each_native.is) ∙ c.values.ensures.shows in
    let typed = sym (ap ptype_of c.in-I64-match_each_native.is) ∙ c.values.ensures.typed in
    let same = same-primitive I64 (map (λ (n : ℤ). n) c.as_slice-8.result.now) (form_of c.validity-validity.result.now) c.args.array.now typed shown c.validity-validity.ensures.form in
    subst (λ (form : PrimitiveForm). IfOk c.encode_as-8.result (λ parts. IsFlatEncoding form parts.0 parts.1)) same c.encode_as-8.ensures.encoding
