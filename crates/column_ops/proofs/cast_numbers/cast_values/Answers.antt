use Rattle.std.proofs.Common.{ℤ, pos, map, sym, ap, subst, ◌∙◌}
use Rattle.std.specs.Prelude.{IfOk}
use Rattle.std.proofs.lemmas.List.{map-id}
use Rattle.column_base.specs.declared.dtype.PType.TheVariants.{U8, U16, U32, U64, I8, I16, I32, I64}
use Rattle.column_base.specs.declared.dtype.DType.TheVariants as column
use Rattle.column_base.specs.Numbers.{numbers, ptype_of}
use Rattle.column_base.specs.Validity.{form_of}
use Rattle.column_core.specs.Leaf.{OfNumbers, single_rows}
use Rattle.column_core.specs.PrimitiveForm.{PrimitiveForm, primitive_rows}
use Rattle.column_core.specs.Refusal.{IsRefusedBy}
use Rattle.column_ops.specs.Cast.{cast_row_fault}
use Rattle.column_ops.specs.Computed.{IsMade}
use Rattle.column_ops.specs.Fault.{first_fault}
use Rattle.column_ops.proofs.Arms.{same-primitive, length-arm, HasLength-arm}
use Rattle.column_ops.proofs.cast_numbers.cast_values.Goals as goal

pub cast_native-requires : goal.cast_native-requires
cast_native-requires g c =
    let shown = ap (map pos) c.as_slice.ensures.value ∙ sym (ap numbers c.in-U8-match_each_native.is) ∙ c.values.ensures.shows in
    HasLength-arm _ _ _ _ c.validity-validity.ensures.form (length-arm pos c.as_slice.result.now c.args.array.now.numbers shown) c.validity-validity.ensures.counted

pub returns-in-U8-match_each_native-clause-refused : goal.returns-in-U8-match_each_native-clause-refused
returns-in-U8-match_each_native-clause-refused g c =
    let shown = ap (map pos) c.as_slice.ensures.value ∙ sym (ap numbers c.in-U8-match_each_native.is) ∙ c.values.ensures.shows in
    let typed = sym (ap ptype_of c.in-U8-match_each_native.is) ∙ c.values.ensures.typed in
    let same = same-primitive U8 (map pos c.as_slice.result.now) (form_of c.validity-validity.result.now) c.args.array.now typed shown c.validity-validity.ensures.form in
    subst (λ (own : PrimitiveForm). IsRefusedBy (first_fault (cast_row_fault (column.Primitive c.args.ptype c.args.nullability)) (single_rows (OfNumbers own))) c.cast_native.result) same c.cast_native.ensures.refused

pub returns-in-U8-match_each_native-clause-made : goal.returns-in-U8-match_each_native-clause-made
returns-in-U8-match_each_native-clause-made g c =
    let shown = ap (map pos) c.as_slice.ensures.value ∙ sym (ap numbers c.in-U8-match_each_native.is) ∙ c.values.ensures.shows in
    let typed = sym (ap ptype_of c.in-U8-match_each_native.is) ∙ c.values.ensures.typed in
    let same = same-primitive U8 (map pos c.as_slice.result.now) (form_of c.validity-validity.result.now) c.args.array.now typed shown c.validity-validity.ensures.form in
    subst (λ (own : PrimitiveForm). IfOk c.cast_native.result (λ cast. IsMade (primitive_rows own) (column.Primitive c.args.ptype c.args.nullability) (OfNumbers cast))) same c.cast_native.ensures.made

pub cast_native-requires-2 : goal.cast_native-requires-2
cast_native-requires-2 g c =
    let shown = ap (map pos) c.as_slice-2.ensures.value ∙ sym (ap numbers c.in-U16-match_each_native.is) ∙ c.values.ensures.shows in
    HasLength-arm _ _ _ _ c.validity-validity.ensures.form (length-arm pos c.as_slice-2.result.now c.args.array.now.numbers shown) c.validity-validity.ensures.counted

pub returns-in-U16-match_each_native-clause-refused : goal.returns-in-U16-match_each_native-clause-refused
returns-in-U16-match_each_native-clause-refused g c =
    let shown = ap (map pos) c.as_slice-2.ensures.value ∙ sym (ap numbers c.in-U16-match_each_native.is) ∙ c.values.ensures.shows in
    let typed = sym (ap ptype_of c.in-U16-match_each_native.is) ∙ c.values.ensures.typed in
    let same = same-primitive U16 (map pos c.as_slice-2.result.now) (form_of c.validity-validity.result.now) c.args.array.now typed shown c.validity-validity.ensures.form in
    subst (λ (own : PrimitiveForm). IsRefusedBy (first_fault (cast_row_fault (column.Primitive c.args.ptype c.args.nullability)) (single_rows (OfNumbers own))) c.cast_native-2.result) same c.cast_native-2.ensures.refused

pub returns-in-U16-match_each_native-clause-made : goal.returns-in-U16-match_each_native-clause-made
returns-in-U16-match_each_native-clause-made g c =
    let shown = ap (map pos) c.as_slice-2.ensures.value ∙ sym (ap numbers c.in-U16-match_each_native.is) ∙ c.values.ensures.shows in
    let typed = sym (ap ptype_of c.in-U16-match_each_native.is) ∙ c.values.ensures.typed in
    let same = same-primitive U16 (map pos c.as_slice-2.result.now) (form_of c.validity-validity.result.now) c.args.array.now typed shown c.validity-validity.ensures.form in
    subst (λ (own : PrimitiveForm). IfOk c.cast_native-2.result (λ cast. IsMade (primitive_rows own) (column.Primitive c.args.ptype c.args.nullability) (OfNumbers cast))) same c.cast_native-2.ensures.made

pub cast_native-requires-3 : goal.cast_native-requires-3
cast_native-requires-3 g c =
    let shown = ap (map pos) c.as_slice-3.ensures.value ∙ sym (ap numbers c.in-U32-match_each_native.is) ∙ c.values.ensures.shows in
    HasLength-arm _ _ _ _ c.validity-validity.ensures.form (length-arm pos c.as_slice-3.result.now c.args.array.now.numbers shown) c.validity-validity.ensures.counted

pub returns-in-U32-match_each_native-clause-refused : goal.returns-in-U32-match_each_native-clause-refused
returns-in-U32-match_each_native-clause-refused g c =
    let shown = ap (map pos) c.as_slice-3.ensures.value ∙ sym (ap numbers c.in-U32-match_each_native.is) ∙ c.values.ensures.shows in
    let typed = sym (ap ptype_of c.in-U32-match_each_native.is) ∙ c.values.ensures.typed in
    let same = same-primitive U32 (map pos c.as_slice-3.result.now) (form_of c.validity-validity.result.now) c.args.array.now typed shown c.validity-validity.ensures.form in
    subst (λ (own : PrimitiveForm). IsRefusedBy (first_fault (cast_row_fault (column.Primitive c.args.ptype c.args.nullability)) (single_rows (OfNumbers own))) c.cast_native-3.result) same c.cast_native-3.ensures.refused

pub returns-in-U32-match_each_native-clause-made : goal.returns-in-U32-match_each_native-clause-made
returns-in-U32-match_each_native-clause-made g c =
    let shown = ap (map pos) c.as_slice-3.ensures.value ∙ sym (ap numbers c.in-U32-match_each_native.is) ∙ c.values.ensures.shows in
    let typed = sym (ap ptype_of c.in-U32-match_each_native.is) ∙ c.values.ensures.typed in
    let same = same-primitive U32 (map pos c.as_slice-3.result.now) (form_of c.validity-validity.result.now) c.args.array.now typed shown c.validity-validity.ensures.form in
    subst (λ (own : PrimitiveForm). IfOk c.cast_native-3.result (λ cast. IsMade (primitive_rows own) (column.Primitive c.args.ptype c.args.nullability) (OfNumbers cast))) same c.cast_native-3.ensures.made

pub cast_native-requires-4 : goal.cast_native-requires-4
cast_native-requires-4 g c =
    let shown = ap (map pos) c.as_slice-4.ensures.value ∙ sym (ap numbers c.in-U64-match_each_native.is) ∙ c.values.ensures.shows in
    HasLength-arm _ _ _ _ c.validity-validity.ensures.form (length-arm pos c.as_slice-4.result.now c.args.array.now.numbers shown) c.validity-validity.ensures.counted

pub returns-in-U64-match_each_native-clause-refused : goal.returns-in-U64-match_each_native-clause-refused
returns-in-U64-match_each_native-clause-refused g c =
    let shown = ap (map pos) c.as_slice-4.ensures.value ∙ sym (ap numbers c.in-U64-match_each_native.is) ∙ c.values.ensures.shows in
    let typed = sym (ap ptype_of c.in-U64-match_each_native.is) ∙ c.values.ensures.typed in
    let same = same-primitive U64 (map pos c.as_slice-4.result.now) (form_of c.validity-validity.result.now) c.args.array.now typed shown c.validity-validity.ensures.form in
    subst (λ (own : PrimitiveForm). IsRefusedBy (first_fault (cast_row_fault (column.Primitive c.args.ptype c.args.nullability)) (single_rows (OfNumbers own))) c.cast_native-4.result) same c.cast_native-4.ensures.refused

pub returns-in-U64-match_each_native-clause-made : goal.returns-in-U64-match_each_native-clause-made
returns-in-U64-match_each_native-clause-made g c =
    let shown = ap (map pos) c.as_slice-4.ensures.value ∙ sym (ap numbers c.in-U64-match_each_native.is) ∙ c.values.ensures.shows in
    let typed = sym (ap ptype_of c.in-U64-match_each_native.is) ∙ c.values.ensures.typed in
    let same = same-primitive U64 (map pos c.as_slice-4.result.now) (form_of c.validity-validity.result.now) c.args.array.now typed shown c.validity-validity.ensures.form in
    subst (λ (own : PrimitiveForm). IfOk c.cast_native-4.result (λ cast. IsMade (primitive_rows own) (column.Primitive c.args.ptype c.args.nullability) (OfNumbers cast))) same c.cast_native-4.ensures.made

pub cast_native-requires-5 : goal.cast_native-requires-5
cast_native-requires-5 g c =
    let shown = map-id c.as_slice-5.result.now ∙ c.as_slice-5.ensures.value ∙ sym (ap numbers c.in-I8-match_each_native.is) ∙ c.values.ensures.shows in
    HasLength-arm _ _ _ _ c.validity-validity.ensures.form (length-arm (λ (n : ℤ). n) c.as_slice-5.result.now c.args.array.now.numbers shown) c.validity-validity.ensures.counted

pub returns-in-I8-match_each_native-clause-refused : goal.returns-in-I8-match_each_native-clause-refused
returns-in-I8-match_each_native-clause-refused g c =
    let shown = map-id c.as_slice-5.result.now ∙ c.as_slice-5.ensures.value ∙ sym (ap numbers c.in-I8-match_each_native.is) ∙ c.values.ensures.shows in
    let typed = sym (ap ptype_of c.in-I8-match_each_native.is) ∙ c.values.ensures.typed in
    let same = same-primitive I8 (map (λ (n : ℤ). n) c.as_slice-5.result.now) (form_of c.validity-validity.result.now) c.args.array.now typed shown c.validity-validity.ensures.form in
    subst (λ (own : PrimitiveForm). IsRefusedBy (first_fault (cast_row_fault (column.Primitive c.args.ptype c.args.nullability)) (single_rows (OfNumbers own))) c.cast_native-5.result) same c.cast_native-5.ensures.refused

pub returns-in-I8-match_each_native-clause-made : goal.returns-in-I8-match_each_native-clause-made
returns-in-I8-match_each_native-clause-made g c =
    let shown = map-id c.as_slice-5.result.now ∙ c.as_slice-5.ensures.value ∙ sym (ap numbers c.in-I8-match_each_native.is) ∙ c.values.ensures.shows in
    let typed = sym (ap ptype_of c.in-I8-match_each_native.is) ∙ c.values.ensures.typed in
    let same = same-primitive I8 (map (λ (n : ℤ). n) c.as_slice-5.result.now) (form_of c.validity-validity.result.now) c.args.array.now typed shown c.validity-validity.ensures.form in
    subst (λ (own : PrimitiveForm). IfOk c.cast_native-5.result (λ cast. IsMade (primitive_rows own) (column.Primitive c.args.ptype c.args.nullability) (OfNumbers cast))) same c.cast_native-5.ensures.made

pub cast_native-requires-6 : goal.cast_native-requires-6
cast_native-requires-6 g c =
    let shown = map-id c.as_slice-6.result.now ∙ c.as_slice-6.ensures.value ∙ sym (ap numbers c.in-I16-match_each_native.is) ∙ c.values.ensures.shows in
    HasLength-arm _ _ _ _ c.validity-validity.ensures.form (length-arm (λ (n : ℤ). n) c.as_slice-6.result.now c.args.array.now.numbers shown) c.validity-validity.ensures.counted

pub returns-in-I16-match_each_native-clause-refused : goal.returns-in-I16-match_each_native-clause-refused
returns-in-I16-match_each_native-clause-refused g c =
    let shown = map-id c.as_slice-6.result.now ∙ c.as_slice-6.ensures.value ∙ sym (ap numbers c.in-I16-match_each_native.is) ∙ c.values.ensures.shows in
    let typed = sym (ap ptype_of c.in-I16-match_each_native.is) ∙ c.values.ensures.typed in
    let same = same-primitive I16 (map (λ (n : ℤ). n) c.as_slice-6.result.now) (form_of c.validity-validity.result.now) c.args.array.now typed shown c.validity-validity.ensures.form in
    subst (λ (own : PrimitiveForm). IsRefusedBy (first_fault (cast_row_fault (column.Primitive c.args.ptype c.args.nullability)) (single_rows (OfNumbers own))) c.cast_native-6.result) same c.cast_native-6.ensures.refused

pub returns-in-I16-match_each_native-clause-made : goal.returns-in-I16-match_each_native-clause-made
returns-in-I16-match_each_native-clause-made g c =
    let shown = map-id c.as_slice-6.result.now ∙ c.as_slice-6.ensures.value ∙ sym (ap numbers c.in-I16-match_each_native.is) ∙ c.values.ensures.shows in
    let typed = sym (ap ptype_of c.in-I16-match_each_native.is) ∙ c.values.ensures.typed in
    let same = same-primitive I16 (map (λ (n : ℤ). n) c.as_slice-6.result.now) (form_of c.validity-validity.result.now) c.args.array.now typed shown c.validity-validity.ensures.form in
    subst (λ (own : PrimitiveForm). IfOk c.cast_native-6.result (λ cast. IsMade (primitive_rows own) (column.Primitive c.args.ptype c.args.nullability) (OfNumbers cast))) same c.cast_native-6.ensures.made

pub cast_native-requires-7 : goal.cast_native-requires-7
cast_native-requires-7 g c =
    let shown = map-id c.as_slice-7.result.now ∙ c.as_slice-7.ensures.value ∙ sym (ap numbers c.in-I32-match_each_native.is) ∙ c.values.ensures.shows in
    HasLength-arm _ _ _ _ c.validity-validity.ensures.form (length-arm (λ (n : ℤ). n) c.as_slice-7.result.now c.args.array.now.numbers shown) c.validity-validity.ensures.counted

pub returns-in-I32-match_each_native-clause-refused : goal.returns-in-I32-match_each_native-clause-refused
returns-in-I32-match_each_native-clause-refused g c =
    let shown = map-id c.as_slice-7.result.now ∙ c.as_slice-7.ensures.value ∙ sym (ap numbers c.in-I32-match_each_native.is) ∙ c.values.ensures.shows in
    let typed = sym (ap ptype_of c.in-I32-match_each_native.is) ∙ c.values.ensures.typed in
    let same = same-primitive I32 (map (λ (n : ℤ). n) c.as_slice-7.result.now) (form_of c.validity-validity.result.now) c.args.array.now typed shown c.validity-validity.ensures.form in
    subst (λ (own : PrimitiveForm). IsRefusedBy (first_fault (cast_row_fault (column.Primitive c.args.ptype c.args.nullability)) (single_rows (OfNumbers own))) c.cast_native-7.result) same c.cast_native-7.ensures.refused

pub returns-in-I32-match_each_native-clause-made : goal.returns-in-I32-match_each_native-clause-made
returns-in-I32-match_each_native-clause-made g c =
    let shown = map-id c.as_slice-7.result.now ∙ c.as_slice-7.ensures.value ∙ sym (ap numbers c.in-I32-match_each_native.is) ∙ c.values.ensures.shows in
    let typed = sym (ap ptype_of c.in-I32-match_each_native.is) ∙ c.values.ensures.typed in
    let same = same-primitive I32 (map (λ (n : ℤ). n) c.as_slice-7.result.now) (form_of c.validity-validity.result.now) c.args.array.now typed shown c.validity-validity.ensures.form in
    subst (λ (own : PrimitiveForm). IfOk c.cast_native-7.result (λ cast. IsMade (primitive_rows own) (column.Primitive c.args.ptype c.args.nullability) (OfNumbers cast))) same c.cast_native-7.ensures.made

pub cast_native-requires-8 : goal.cast_native-requires-8
cast_native-requires-8 g c =
    let shown = map-id c.as_slice-8.result.now ∙ c.as_slice-8.ensures.value ∙ sym (ap numbers c.in-I64-match_each_native.is) ∙ c.values.ensures.shows in
    HasLength-arm _ _ _ _ c.validity-validity.ensures.form (length-arm (λ (n : ℤ). n) c.as_slice-8.result.now c.args.array.now.numbers shown) c.validity-validity.ensures.counted

pub returns-in-I64-match_each_native-clause-refused : goal.returns-in-I64-match_each_native-clause-refused
returns-in-I64-match_each_native-clause-refused g c =
    let shown = map-id c.as_slice-8.result.now ∙ c.as_slice-8.ensures.value ∙ sym (ap numbers c.in-I64-match_each_native.is) ∙ c.values.ensures.shows in
    let typed = sym (ap ptype_of c.in-I64-match_each_native.is) ∙ c.values.ensures.typed in
    let same = same-primitive I64 (map (λ (n : ℤ). n) c.as_slice-8.result.now) (form_of c.validity-validity.result.now) c.args.array.now typed shown c.validity-validity.ensures.form in
    subst (λ (own : PrimitiveForm). IsRefusedBy (first_fault (cast_row_fault (column.Primitive c.args.ptype c.args.nullability)) (single_rows (OfNumbers own))) c.cast_native-8.result) same c.cast_native-8.ensures.refused

pub returns-in-I64-match_each_native-clause-made : goal.returns-in-I64-match_each_native-clause-made
returns-in-I64-match_each_native-clause-made g c =
    let shown = map-id c.as_slice-8.result.now ∙ c.as_slice-8.ensures.value ∙ sym (ap numbers c.in-I64-match_each_native.is) ∙ c.values.ensures.shows in
    let typed = sym (ap ptype_of c.in-I64-match_each_native.is) ∙ c.values.ensures.typed in
    let same = same-primitive I64 (map (λ (n : ℤ). n) c.as_slice-8.result.now) (form_of c.validity-validity.result.now) c.args.array.now typed shown c.validity-validity.ensures.form in
    subst (λ (own : PrimitiveForm). IfOk c.cast_native-8.result (λ cast. IsMade (primitive_rows own) (column.Primitive c.args.ptype c.args.nullability) (OfNumbers cast))) same c.cast_native-8.ensures.made
