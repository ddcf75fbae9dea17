use Rattle.std.proofs.Common.{◌≡◌, ◌∙◌, ℤ, pos, map, refl, sym, ap, subst}
use Rattle.std.specs.Prelude.{IfOk}
use Rattle.std.proofs.lemmas.List.{map-id}
use Rattle.column_base.specs.declared.dtype.DType.TheVariants as column
use Rattle.column_base.specs.declared.dtype.PType.TheVariants.{U8, U16, U32, U64, I8, I16, I32, I64}
use Rattle.column_base.specs.Numbers.{numbers, ptype_of}
use Rattle.column_base.specs.Mask.{mask_bits}
use Rattle.column_base.specs.ValidityForm.{nullability_in}
use Rattle.column_base.specs.Validity.{form_of}
use Rattle.column_core.specs.Leaf.{OfNumbers}
use Rattle.column_core.specs.PrimitiveForm.{PrimitiveForm, primitive_rows}
use Rattle.column_ops.specs.Computed.{IsMade}
use Rattle.column_ops.specs.Filter.{filter_rows}
use Rattle.column_ops.proofs.FirstFaults.{first-none, first-told}
use Rattle.column_ops.proofs.Arms.{no_fault, other_count, same_count}
use Rattle.column_ops.proofs.Arms.{same-primitive, length-arm, HasLength-arm}
use Rattle.column_ops.proofs.numbers.PrimitiveArrayColumnOps.filter.Goals as goal

pub filter_numbers-requires-clause-fits : goal.filter_numbers-requires-clause-fits
filter_numbers-requires-clause-fits g c =
    let shown = ap (map pos) c.as_slice.ensures.value ∙ sym (ap numbers c.in-U8-match_each_native.is) ∙ c.values.ensures.shows in
    HasLength-arm _ _ _ _ c.validity-own.ensures.form (length-arm pos c.as_slice.result.now c.args.self.now.numbers shown) c.validity-own.ensures.counted

pub filter_numbers-requires-clause-masked : goal.filter_numbers-requires-clause-masked
filter_numbers-requires-clause-masked g c =
    let shown = ap (map pos) c.as_slice.ensures.value ∙ sym (ap numbers c.in-U8-match_each_native.is) ∙ c.values.ensures.shows in
    sym c.len.ensures ∙ c.if-len.false ∙ c.len-2.ensures.numbers ∙ sym (length-arm pos c.as_slice.result.now c.args.self.now.numbers shown)

pub returns-in-U8-match_each_native-clause-refused : goal.returns-in-U8-match_each_native-clause-refused
returns-in-U8-match_each_native-clause-refused g c = no_fault _ c.filter_numbers.result (same_count _ _ (sym c.len.ensures ∙ c.if-len.false ∙ c.len-2.ensures.rows)) c.filter_numbers.ensures.only

pub returns-in-U8-match_each_native-clause-first : goal.returns-in-U8-match_each_native-clause-first
returns-in-U8-match_each_native-clause-first g c = first-none _ c.filter_numbers.result (same_count _ _ (sym c.len.ensures ∙ c.if-len.false ∙ c.len-2.ensures.rows))

pub returns-in-U8-match_each_native-clause-made : goal.returns-in-U8-match_each_native-clause-made
returns-in-U8-match_each_native-clause-made g c =
    let shown = ap (map pos) c.as_slice.ensures.value ∙ sym (ap numbers c.in-U8-match_each_native.is) ∙ c.values.ensures.shows in
    let typed = sym (ap ptype_of c.in-U8-match_each_native.is) ∙ c.values.ensures.typed in
    let same = same-primitive U8 (map pos c.as_slice.result.now) (form_of c.validity-own.result.now) c.args.self.now typed shown c.validity-own.ensures.form in
    subst (λ (own : PrimitiveForm). IfOk c.filter_numbers.result (λ kept. IsMade (filter_rows (mask_bits c.args.mask.now) (primitive_rows own)) (column.Primitive own.ptype (nullability_in own.validity)) (OfNumbers kept))) same c.filter_numbers.ensures.made

pub filter_numbers-requires-2-clause-fits : goal.filter_numbers-requires-2-clause-fits
filter_numbers-requires-2-clause-fits g c =
    let shown = ap (map pos) c.as_slice-2.ensures.value ∙ sym (ap numbers c.in-U16-match_each_native.is) ∙ c.values.ensures.shows in
    HasLength-arm _ _ _ _ c.validity-own.ensures.form (length-arm pos c.as_slice-2.result.now c.args.self.now.numbers shown) c.validity-own.ensures.counted

pub filter_numbers-requires-2-clause-masked : goal.filter_numbers-requires-2-clause-masked
filter_numbers-requires-2-clause-masked g c =
    let shown = ap (map pos) c.as_slice-2.ensures.value ∙ sym (ap numbers c.in-U16-match_each_native.is) ∙ c.values.ensures.shows in
    sym c.len.ensures ∙ c.if-len.false ∙ c.len-2.ensures.numbers ∙ sym (length-arm pos c.as_slice-2.result.now c.args.self.now.numbers shown)

pub returns-in-U16-match_each_native-clause-refused : goal.returns-in-U16-match_each_native-clause-refused
returns-in-U16-match_each_native-clause-refused g c = no_fault _ c.filter_numbers-2.result (same_count _ _ (sym c.len.ensures ∙ c.if-len.false ∙ c.len-2.ensures.rows)) c.filter_numbers-2.ensures.only

pub returns-in-U16-match_each_native-clause-first : goal.returns-in-U16-match_each_native-clause-first
returns-in-U16-match_each_native-clause-first g c = first-none _ c.filter_numbers-2.result (same_count _ _ (sym c.len.ensures ∙ c.if-len.false ∙ c.len-2.ensures.rows))

pub returns-in-U16-match_each_native-clause-made : goal.returns-in-U16-match_each_native-clause-made
returns-in-U16-match_each_native-clause-made g c =
    let shown = ap (map pos) c.as_slice-2.ensures.value ∙ sym (ap numbers c.in-U16-match_each_native.is) ∙ c.values.ensures.shows in
    let typed = sym (ap ptype_of c.in-U16-match_each_native.is) ∙ c.values.ensures.typed in
    let same = same-primitive U16 (map pos c.as_slice-2.result.now) (form_of c.validity-own.result.now) c.args.self.now typed shown c.validity-own.ensures.form in
    subst (λ (own : PrimitiveForm). IfOk c.filter_numbers-2.result (λ kept. IsMade (filter_rows (mask_bits c.args.mask.now) (primitive_rows own)) (column.Primitive own.ptype (nullability_in own.validity)) (OfNumbers kept))) same c.filter_numbers-2.ensures.made

pub filter_numbers-requires-3-clause-fits : goal.filter_numbers-requires-3-clause-fits
filter_numbers-requires-3-clause-fits g c =
    let shown = ap (map pos) c.as_slice-3.ensures.value ∙ sym (ap numbers c.in-U32-match_each_native.is) ∙ c.values.ensures.shows in
    HasLength-arm _ _ _ _ c.validity-own.ensures.form (length-arm pos c.as_slice-3.result.now c.args.self.now.numbers shown) c.validity-own.ensures.counted

pub filter_numbers-requires-3-clause-masked : goal.filter_numbers-requires-3-clause-masked
filter_numbers-requires-3-clause-masked g c =
    let shown = ap (map pos) c.as_slice-3.ensures.value ∙ sym (ap numbers c.in-U32-match_each_native.is) ∙ c.values.ensures.shows in
    sym c.len.ensures ∙ c.if-len.false ∙ c.len-2.ensures.numbers ∙ sym (length-arm pos c.as_slice-3.result.now c.args.self.now.numbers shown)

pub returns-in-U32-match_each_native-clause-refused : goal.returns-in-U32-match_each_native-clause-refused
returns-in-U32-match_each_native-clause-refused g c = no_fault _ c.filter_numbers-3.result (same_count _ _ (sym c.len.ensures ∙ c.if-len.false ∙ c.len-2.ensures.rows)) c.filter_numbers-3.ensures.only

pub returns-in-U32-match_each_native-clause-first : goal.returns-in-U32-match_each_native-clause-first
returns-in-U32-match_each_native-clause-first g c = first-none _ c.filter_numbers-3.result (same_count _ _ (sym c.len.ensures ∙ c.if-len.false ∙ c.len-2.ensures.rows))

pub returns-in-U32-match_each_native-clause-made : goal.returns-in-U32-match_each_native-clause-made
returns-in-U32-match_each_native-clause-made g c =
    let shown = ap (map pos) c.as_slice-3.ensures.value ∙ sym (ap numbers c.in-U32-match_each_native.is) ∙ c.values.ensures.shows in
    let typed = sym (ap ptype_of c.in-U32-match_each_native.is) ∙ c.values.ensures.typed in
    let same = same-primitive U32 (map pos c.as_slice-3.result.now) (form_of c.validity-own.result.now) c.args.self.now typed shown c.validity-own.ensures.form in
    subst (λ (own : PrimitiveForm). IfOk c.filter_numbers-3.result (λ kept. IsMade (filter_rows (mask_bits c.args.mask.now) (primitive_rows own)) (column.Primitive own.ptype (nullability_in own.validity)) (OfNumbers kept))) same c.filter_numbers-3.ensures.made

pub filter_numbers-requires-4-clause-fits : goal.filter_numbers-requires-4-clause-fits
filter_numbers-requires-4-clause-fits g c =
    let shown = ap (map pos) c.as_slice-4.ensures.value ∙ sym (ap numbers c.in-U64-match_each_native.is) ∙ c.values.ensures.shows in
    HasLength-arm _ _ _ _ c.validity-own.ensures.form (length-arm pos c.as_slice-4.result.now c.args.self.now.numbers shown) c.validity-own.ensures.counted

pub filter_numbers-requires-4-clause-masked : goal.filter_numbers-requires-4-clause-masked
filter_numbers-requires-4-clause-masked g c =
    let shown = ap (map pos) c.as_slice-4.ensures.value ∙ sym (ap numbers c.in-U64-match_each_native.is) ∙ c.values.ensures.shows in
    sym c.len.ensures ∙ c.if-len.false ∙ c.len-2.ensures.numbers ∙ sym (length-arm pos c.as_slice-4.result.now c.args.self.now.numbers shown)

pub returns-in-U64-match_each_native-clause-refused : goal.returns-in-U64-match_each_native-clause-refused
returns-in-U64-match_each_native-clause-refused g c = no_fault _ c.filter_numbers-4.result (same_count _ _ (sym c.len.ensures ∙ c.if-len.false ∙ c.len-2.ensures.rows)) c.filter_numbers-4.ensures.only

pub returns-in-U64-match_each_native-clause-first : goal.returns-in-U64-match_each_native-clause-first
returns-in-U64-match_each_native-clause-first g c = first-none _ c.filter_numbers-4.result (same_count _ _ (sym c.len.ensures ∙ c.if-len.false ∙ c.len-2.ensures.rows))

pub returns-in-U64-match_each_native-clause-made : goal.returns-in-U64-match_each_native-clause-made
returns-in-U64-match_each_native-clause-made g c =
    let shown = ap (map pos) c.as_slice-4.ensures.value ∙ sym (ap numbers c.in-U64-match_each_native.is) ∙ c.values.ensures.shows in
    let typed = sym (ap ptype_of c.in-U64-match_each_native.is) ∙ c.values.ensures.typed in
    let same = same-primitive U64 (map pos c.as_slice-4.result.now) (form_of c.validity-own.result.now) c.args.self.now typed shown c.validity-own.ensures.form in
    subst (λ (own : PrimitiveForm). IfOk c.filter_numbers-4.result (λ kept. IsMade (filter_rows (mask_bits c.args.mask.now) (primitive_rows own)) (column.Primitive own.ptype (nullability_in own.validity)) (OfNumbers kept))) same c.filter_numbers-4.ensures.made

pub filter_numbers-requires-5-clause-fits : goal.filter_numbers-requires-5-clause-fits
filter_numbers-requires-5-clause-fits g c =
    let shown = map-id c.as_slice-5.result.now ∙ c.as_slice-5.ensures.value ∙ sym (ap numbers c.in-I8-match_each_native.is) ∙ c.values.ensures.shows in
    HasLength-arm _ _ _ _ c.validity-own.ensures.form (length-arm (λ (n : ℤ). n) c.as_slice-5.result.now c.args.self.now.numbers shown) c.validity-own.ensures.counted

pub filter_numbers-requires-5-clause-masked : goal.filter_numbers-requires-5-clause-masked
filter_numbers-requires-5-clause-masked g c =
    let shown = map-id c.as_slice-5.result.now ∙ c.as_slice-5.ensures.value ∙ sym (ap numbers c.in-I8-match_each_native.is) ∙ c.values.ensures.shows in
    sym c.len.ensures ∙ c.if-len.false ∙ c.len-2.ensures.numbers ∙ sym (length-arm (λ (n : ℤ). n) c.as_slice-5.result.now c.args.self.now.numbers shown)

pub returns-in-I8-match_each_native-clause-refused : goal.returns-in-I8-match_each_native-clause-refused
returns-in-I8-match_each_native-clause-refused g c = no_fault _ c.filter_numbers-5.result (same_count _ _ (sym c.len.ensures ∙ c.if-len.false ∙ c.len-2.ensures.rows)) c.filter_numbers-5.ensures.only

pub returns-in-I8-match_each_native-clause-first : goal.returns-in-I8-match_each_native-clause-first
returns-in-I8-match_each_native-clause-first g c = first-none _ c.filter_numbers-5.result (same_count _ _ (sym c.len.ensures ∙ c.if-len.false ∙ c.len-2.ensures.rows))

pub returns-in-I8-match_each_native-clause-made : goal.returns-in-I8-match_each_native-clause-made
returns-in-I8-match_each_native-clause-made g c =
    let shown = map-id c.as_slice-5.result.now ∙ c.as_slice-5.ensures.value ∙ sym (ap numbers c.in-I8-match_each_native.is) ∙ c.values.ensures.shows in
    let typed = sym (ap ptype_of c.in-I8-match_each_native.is) ∙ c.values.ensures.typed in
    let same = same-primitive I8 (map (λ (n : ℤ). n) c.as_slice-5.result.now) (form_of c.validity-own.result.now) c.args.self.now typed shown c.validity-own.ensures.form in
    subst (λ (own : PrimitiveForm). IfOk c.filter_numbers-5.result (λ kept. IsMade (filter_rows (mask_bits c.args.mask.now) (primitive_rows own)) (column.Primitive own.ptype (nullability_in own.validity)) (OfNumbers kept))) same c.filter_numbers-5.ensures.made

pub filter_numbers-requires-6-clause-fits : goal.filter_numbers-requires-6-clause-fits
filter_numbers-requires-6-clause-fits g c =
    let shown = map-id c.as_slice-6.result.now ∙ c.as_slice-6.ensures.value ∙ sym (ap numbers c.in-I16-match_each_native.is) ∙ c.values.ensures.shows in
    HasLength-arm _ _ _ _ c.validity-own.ensures.form (length-arm (λ (n : ℤ). n) c.as_slice-6.result.now c.args.self.now.numbers shown) c.validity-own.ensures.counted

pub filter_numbers-requires-6-clause-masked : goal.filter_numbers-requires-6-clause-masked
filter_numbers-requires-6-clause-masked g c =
    let shown = map-id c.as_slice-6.result.now ∙ c.as_slice-6.ensures.value ∙ sym (ap numbers c.in-I16-match_each_native.is) ∙ c.values.ensures.shows in
    sym c.len.ensures ∙ c.if-len.false ∙ c.len-2.ensures.numbers ∙ sym (length-arm (λ (n : ℤ). n) c.as_slice-6.result.now c.args.self.now.numbers shown)

pub returns-in-I16-match_each_native-clause-refused : goal.returns-in-I16-match_each_native-clause-refused
returns-in-I16-match_each_native-clause-refused g c = no_fault _ c.filter_numbers-6.result (same_count _ _ (sym c.len.ensures ∙ c.if-len.false ∙ c.len-2.ensures.rows)) c.filter_numbers-6.ensures.only

pub returns-in-I16-match_each_native-clause-first : goal.returns-in-I16-match_each_native-clause-first
returns-in-I16-match_each_native-clause-first g c = first-none _ c.filter_numbers-6.result (same_count _ _ (sym c.len.ensures ∙ c.if-len.false ∙ c.len-2.ensures.rows))

pub returns-in-I16-match_each_native-clause-made : goal.returns-in-I16-match_each_native-clause-made
returns-in-I16-match_each_native-clause-made g c =
    let shown = map-id c.as_slice-6.result.now ∙ c.as_slice-6.ensures.value ∙ sym (ap numbers c.in-I16-match_each_native.is) ∙ c.values.ensures.shows in
    let typed = sym (ap ptype_of c.in-I16-match_each_native.is) ∙ c.values.ensures.typed in
    let same = same-primitive I16 (map (λ (n : ℤ). n) c.as_slice-6.result.now) (form_of c.validity-own.result.now) c.args.self.now typed shown c.validity-own.ensures.form in
    subst (λ (own : PrimitiveForm). IfOk c.filter_numbers-6.result (λ kept. IsMade (filter_rows (mask_bits c.args.mask.now) (primitive_rows own)) (column.Primitive own.ptype (nullability_in own.validity)) (OfNumbers kept))) same c.filter_numbers-6.ensures.made

pub filter_numbers-requires-7-clause-fits : goal.filter_numbers-requires-7-clause-fits
filter_numbers-requires-7-clause-fits g c =
    let shown = map-id c.as_slice-7.result.now ∙ c.as_slice-7.ensures.value ∙ sym (ap numbers c.in-I32-match_each_native.is) ∙ c.values.ensures.shows in
    HasLength-arm _ _ _ _ c.validity-own.ensures.form (length-arm (λ (n : ℤ). n) c.as_slice-7.result.now c.args.self.now.numbers shown) c.validity-own.ensures.counted

pub filter_numbers-requires-7-clause-masked : goal.filter_numbers-requires-7-clause-masked
filter_numbers-requires-7-clause-masked g c =
    let shown = map-id c.as_slice-7.result.now ∙ c.as_slice-7.ensures.value ∙ sym (ap numbers c.in-I32-match_each_native.is) ∙ c.values.ensures.shows in
    sym c.len.ensures ∙ c.if-len.false ∙ c.len-2.ensures.numbers ∙ sym (length-arm (λ (n : ℤ). n) c.as_slice-7.result.now c.args.self.now.numbers shown)

pub returns-in-I32-match_each_native-clause-refused : goal.returns-in-I32-match_each_native-clause-refused
returns-in-I32-match_each_native-clause-refused g c = no_fault _ c.filter_numbers-7.result (same_count _ _ (sym c.len.ensures ∙ c.if-len.false ∙ c.len-2.ensures.rows)) c.filter_numbers-7.ensures.only

pub returns-in-I32-match_each_native-clause-first : goal.returns-in-I32-match_each_native-clause-first
returns-in-I32-match_each_native-clause-first g c = first-none _ c.filter_numbers-7.result (same_count _ _ (sym c.len.ensures ∙ c.if-len.false ∙ c.len-2.ensures.rows))

pub returns-in-I32-match_each_native-clause-made : goal.returns-in-I32-match_each_native-clause-made
returns-in-I32-match_each_native-clause-made g c =
    let shown = map-id c.as_slice-7.result.now ∙ c.as_slice-7.ensures.value ∙ sym (ap numbers c.in-I32-match_each_native.is) ∙ c.values.ensures.shows in
    let typed = sym (ap ptype_of c.in-I32-match_each_native.is) ∙ c.values.ensures.typed in
    let same = same-primitive I32 (map (λ (n : ℤ). n) c.as_slice-7.result.now) (form_of c.validity-own.result.now) c.args.self.now typed shown c.validity-own.ensures.form in
    subst (λ (own : PrimitiveForm). IfOk c.filter_numbers-7.result (λ kept. IsMade (filter_rows (mask_bits c.args.mask.now) (primitive_rows own)) (column.Primitive own.ptype (nullability_in own.validity)) (OfNumbers kept))) same c.filter_numbers-7.ensures.made

pub filter_numbers-requires-8-clause-fits : goal.filter_numbers-requires-8-clause-fits
filter_numbers-requires-8-clause-fits g c =
    let shown = map-id c.as_slice-8.result.now ∙ c.as_slice-8.ensures.value ∙ sym (ap numbers c.in-I64-match_each_native.is) ∙ c.values.ensures.shows in
    HasLength-arm _ _ _ _ c.validity-own.ensures.form (length-arm (λ (n : ℤ). n) c.as_slice-8.result.now c.args.self.now.numbers shown) c.validity-own.ensures.counted

pub filter_numbers-requires-8-clause-masked : goal.filter_numbers-requires-8-clause-masked
filter_numbers-requires-8-clause-masked g c =
    let shown = map-id c.as_slice-8.result.now ∙ c.as_slice-8.ensures.value ∙ sym (ap numbers c.in-I64-match_each_native.is) ∙ c.values.ensures.shows in
    sym c.len.ensures ∙ c.if-len.false ∙ c.len-2.ensures.numbers ∙ sym (length-arm (λ (n : ℤ). n) c.as_slice-8.result.now c.args.self.now.numbers shown)

pub returns-in-I64-match_each_native-clause-refused : goal.returns-in-I64-match_each_native-clause-refused
returns-in-I64-match_each_native-clause-refused g c = no_fault _ c.filter_numbers-8.result (same_count _ _ (sym c.len.ensures ∙ c.if-len.false ∙ c.len-2.ensures.rows)) c.filter_numbers-8.ensures.only

pub returns-in-I64-match_each_native-clause-first : goal.returns-in-I64-match_each_native-clause-first
returns-in-I64-match_each_native-clause-first g c = first-none _ c.filter_numbers-8.result (same_count _ _ (sym c.len.ensures ∙ c.if-len.false ∙ c.len-2.ensures.rows))

pub returns-in-I64-match_each_native-clause-made : goal.returns-in-I64-match_each_native-clause-made
returns-in-I64-match_each_native-clause-made g c =
    let shown = map-id c.as_slice-8.result.now ∙ c.as_slice-8.ensures.value ∙ sym (ap numbers c.in-I64-match_each_native.is) ∙ c.values.ensures.shows in
    let typed = sym (ap ptype_of c.in-I64-match_each_native.is) ∙ c.values.ensures.typed in
    let same = same-primitive I64 (map (λ (n : ℤ). n) c.as_slice-8.result.now) (form_of c.validity-own.result.now) c.args.self.now typed shown c.validity-own.ensures.form in
    subst (λ (own : PrimitiveForm). IfOk c.filter_numbers-8.result (λ kept. IsMade (filter_rows (mask_bits c.args.mask.now) (primitive_rows own)) (column.Primitive own.ptype (nullability_in own.validity)) (OfNumbers kept))) same c.filter_numbers-8.ensures.made

pub returns-then-len-clause-first : goal.returns-then-len-clause-first
returns-then-len-clause-first g c =
    let other : ¬ (c.len-then-len.result ≡ c.len-then-len-2.result) = λ same.
    c.if-len.true (c.len.ensures ∙ sym c.len-then-len.ensures ∙ same ∙ c.len-then-len-2.ensures.rows ∙ sym c.len-2.ensures.rows) in
    first-told _ _ _ (other_count _ _ c.len-then-len.result c.len-then-len-2.result c.len-then-len.ensures c.len-then-len-2.ensures.rows other) refl
