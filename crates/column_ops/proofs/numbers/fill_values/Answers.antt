use Rattle.std.proofs.Common.{ℤ, FitsSigned, pos, map, sym, ap, subst, rules, ◌∙◌}
use Rattle.std.specs.Prelude.{IfOk}
use Rattle.std.specs.Int.{w128}
use Rattle.std.proofs.lemmas.Int.{to_z-of_z}
use Rattle.std.proofs.lemmas.List.{map-id}
use Rattle.column_base.specs.declared.dtype.DType.TheVariants as column
use Rattle.column_base.specs.declared.dtype.Nullability.TheVariants.{NonNullable}
use Rattle.column_base.specs.declared.dtype.PType.{PType}
use Rattle.column_base.specs.declared.dtype.PType.TheVariants.{U8, U16, U32, U64, I8, I16, I32, I64}
use Rattle.column_base.specs.Numbers.{numbers, ptype_of}
use Rattle.column_base.specs.Types.{HasNumber}
use Rattle.column_base.specs.Validity.{form_of}
use Rattle.column_core.specs.Leaf.{OfNumbers}
use Rattle.column_core.specs.PrimitiveForm.{PrimitiveForm, primitive_rows}
use Rattle.column_core.specs.Value.{Number}
use Rattle.column_ops.specs.Computed.{IsMade}
use Rattle.column_ops.specs.Fill.{fill_rows}
use Rattle.column_ops.proofs.Arms.{same-primitive, length-arm, HasLength-arm}
use Rattle.column_ops.proofs.numbers.fill_values.Goals as goal

pub fill_numbers-requires-clause-fits : goal.fill_numbers-requires-clause-fits
fill_numbers-requires-clause-fits g c =
    let shown = ap (map pos) c.as_slice.ensures.value ∙ sym (ap numbers c.in-U8-match_each_native.is) ∙ c.values.ensures.shows in
    HasLength-arm _ _ _ _ c.validity-validity.ensures.form (length-arm pos c.as_slice.result.now c.args.array.now.numbers shown) c.validity-validity.ensures.counted

pub fill_numbers-requires-clause-has : goal.fill_numbers-requires-clause-has
fill_numbers-requires-clause-has g c =
    let fits : FitsSigned w128 c.args.number = search rules in
    let typed = sym (ap ptype_of c.in-U8-match_each_native.is) ∙ c.values.ensures.typed in
    rw (to_z-of_z w128 c.args.number fits) (subst (λ (ptype : PType). HasNumber ptype c.args.number) (sym typed) c.requires)

pub returns-in-U8-match_each_native-clause-only : goal.returns-in-U8-match_each_native-clause-only
returns-in-U8-match_each_native-clause-only g c = c.fill_numbers.ensures.only

pub returns-in-U8-match_each_native-clause-made : goal.returns-in-U8-match_each_native-clause-made
returns-in-U8-match_each_native-clause-made g c =
    let shown = ap (map pos) c.as_slice.ensures.value ∙ sym (ap numbers c.in-U8-match_each_native.is) ∙ c.values.ensures.shows in
    let typed = sym (ap ptype_of c.in-U8-match_each_native.is) ∙ c.values.ensures.typed in
    let fits : FitsSigned w128 c.args.number = search rules in
    let filled = rw (to_z-of_z w128 c.args.number fits) at c.fill_numbers.ensures.made in
    let same = same-primitive U8 (map pos c.as_slice.result.now) (form_of c.validity-validity.result.now) c.args.array.now typed shown c.validity-validity.ensures.form in
    subst (λ (own : PrimitiveForm). IfOk c.fill_numbers.result (λ filled. IsMade (fill_rows (primitive_rows own) (Number c.args.number)) (column.Primitive own.ptype NonNullable) (OfNumbers filled))) same filled

pub fill_numbers-requires-2-clause-fits : goal.fill_numbers-requires-2-clause-fits
fill_numbers-requires-2-clause-fits g c =
    let shown = ap (map pos) c.as_slice-2.ensures.value ∙ sym (ap numbers c.in-U16-match_each_native.is) ∙ c.values.ensures.shows in
    HasLength-arm _ _ _ _ c.validity-validity.ensures.form (length-arm pos c.as_slice-2.result.now c.args.array.now.numbers shown) c.validity-validity.ensures.counted

pub fill_numbers-requires-2-clause-has : goal.fill_numbers-requires-2-clause-has
fill_numbers-requires-2-clause-has g c =
    let fits : FitsSigned w128 c.args.number = search rules in
    let typed = sym (ap ptype_of c.in-U16-match_each_native.is) ∙ c.values.ensures.typed in
    rw (to_z-of_z w128 c.args.number fits) (subst (λ (ptype : PType). HasNumber ptype c.args.number) (sym typed) c.requires)

pub returns-in-U16-match_each_native-clause-only : goal.returns-in-U16-match_each_native-clause-only
returns-in-U16-match_each_native-clause-only g c = c.fill_numbers-2.ensures.only

pub returns-in-U16-match_each_native-clause-made : goal.returns-in-U16-match_each_native-clause-made
returns-in-U16-match_each_native-clause-made g c =
    let shown = ap (map pos) c.as_slice-2.ensures.value ∙ sym (ap numbers c.in-U16-match_each_native.is) ∙ c.values.ensures.shows in
    let typed = sym (ap ptype_of c.in-U16-match_each_native.is) ∙ c.values.ensures.typed in
    let fits : FitsSigned w128 c.args.number = search rules in
    let filled = rw (to_z-of_z w128 c.args.number fits) at c.fill_numbers-2.ensures.made in
    let same = same-primitive U16 (map pos c.as_slice-2.result.now) (form_of c.validity-validity.result.now) c.args.array.now typed shown c.validity-validity.ensures.form in
    subst (λ (own : PrimitiveForm). IfOk c.fill_numbers-2.result (λ filled. IsMade (fill_rows (primitive_rows own) (Number c.args.number)) (column.Primitive own.ptype NonNullable) (OfNumbers filled))) same filled

pub fill_numbers-requires-3-clause-fits : goal.fill_numbers-requires-3-clause-fits
fill_numbers-requires-3-clause-fits g c =
    let shown = ap (map pos) c.as_slice-3.ensures.value ∙ sym (ap numbers c.in-U32-match_each_native.is) ∙ c.values.ensures.shows in
    HasLength-arm _ _ _ _ c.validity-validity.ensures.form (length-arm pos c.as_slice-3.result.now c.args.array.now.numbers shown) c.validity-validity.ensures.counted

pub fill_numbers-requires-3-clause-has : goal.fill_numbers-requires-3-clause-has
fill_numbers-requires-3-clause-has g c =
    let fits : FitsSigned w128 c.args.number = search rules in
    let typed = sym (ap ptype_of c.in-U32-match_each_native.is) ∙ c.values.ensures.typed in
    rw (to_z-of_z w128 c.args.number fits) (subst (λ (ptype : PType). HasNumber ptype c.args.number) (sym typed) c.requires)

pub returns-in-U32-match_each_native-clause-only : goal.returns-in-U32-match_each_native-clause-only
returns-in-U32-match_each_native-clause-only g c = c.fill_numbers-3.ensures.only

pub returns-in-U32-match_each_native-clause-made : goal.returns-in-U32-match_each_native-clause-made
returns-in-U32-match_each_native-clause-made g c =
    let shown = ap (map pos) c.as_slice-3.ensures.value ∙ sym (ap numbers c.in-U32-match_each_native.is) ∙ c.values.ensures.shows in
    let typed = sym (ap ptype_of c.in-U32-match_each_native.is) ∙ c.values.ensures.typed in
    let fits : FitsSigned w128 c.args.number = search rules in
    let filled = rw (to_z-of_z w128 c.args.number fits) at c.fill_numbers-3.ensures.made in
    let same = same-primitive U32 (map pos c.as_slice-3.result.now) (form_of c.validity-validity.result.now) c.args.array.now typed shown c.validity-validity.ensures.form in
    subst (λ (own : PrimitiveForm). IfOk c.fill_numbers-3.result (λ filled. IsMade (fill_rows (primitive_rows own) (Number c.args.number)) (column.Primitive own.ptype NonNullable) (OfNumbers filled))) same filled

pub fill_numbers-requires-4-clause-fits : goal.fill_numbers-requires-4-clause-fits
fill_numbers-requires-4-clause-fits g c =
    let shown = ap (map pos) c.as_slice-4.ensures.value ∙ sym (ap numbers c.in-U64-match_each_native.is) ∙ c.values.ensures.shows in
    HasLength-arm _ _ _ _ c.validity-validity.ensures.form (length-arm pos c.as_slice-4.result.now c.args.array.now.numbers shown) c.validity-validity.ensures.counted

pub fill_numbers-requires-4-clause-has : goal.fill_numbers-requires-4-clause-has
fill_numbers-requires-4-clause-has g c =
    let fits : FitsSigned w128 c.args.number = search rules in
    let typed = sym (ap ptype_of c.in-U64-match_each_native.is) ∙ c.values.ensures.typed in
    rw (to_z-of_z w128 c.args.number fits) (subst (λ (ptype : PType). HasNumber ptype c.args.number) (sym typed) c.requires)

pub returns-in-U64-match_each_native-clause-only : goal.returns-in-U64-match_each_native-clause-only
returns-in-U64-match_each_native-clause-only g c = c.fill_numbers-4.ensures.only

pub returns-in-U64-match_each_native-clause-made : goal.returns-in-U64-match_each_native-clause-made
returns-in-U64-match_each_native-clause-made g c =
    let shown = ap (map pos) c.as_slice-4.ensures.value ∙ sym (ap numbers c.in-U64-match_each_native.is) ∙ c.values.ensures.shows in
    let typed = sym (ap ptype_of c.in-U64-match_each_native.is) ∙ c.values.ensures.typed in
    let fits : FitsSigned w128 c.args.number = search rules in
    let filled = rw (to_z-of_z w128 c.args.number fits) at c.fill_numbers-4.ensures.made in
    let same = same-primitive U64 (map pos c.as_slice-4.result.now) (form_of c.validity-validity.result.now) c.args.array.now typed shown c.validity-validity.ensures.form in
    subst (λ (own : PrimitiveForm). IfOk c.fill_numbers-4.result (λ filled. IsMade (fill_rows (primitive_rows own) (Number c.args.number)) (column.Primitive own.ptype NonNullable) (OfNumbers filled))) same filled

pub fill_numbers-requires-5-clause-fits : goal.fill_numbers-requires-5-clause-fits
fill_numbers-requires-5-clause-fits g c =
    let shown = map-id c.as_slice-5.result.now ∙ c.as_slice-5.ensures.value ∙ sym (ap numbers c.in-I8-match_each_native.is) ∙ c.values.ensures.shows in
    HasLength-arm _ _ _ _ c.validity-validity.ensures.form (length-arm (λ (n : ℤ). n) c.as_slice-5.result.now c.args.array.now.numbers shown) c.validity-validity.ensures.counted

pub fill_numbers-requires-5-clause-has : goal.fill_numbers-requires-5-clause-has
fill_numbers-requires-5-clause-has g c =
    let fits : FitsSigned w128 c.args.number = search rules in
    let typed = sym (ap ptype_of c.in-I8-match_each_native.is) ∙ c.values.ensures.typed in
    rw (to_z-of_z w128 c.args.number fits) (subst (λ (ptype : PType). HasNumber ptype c.args.number) (sym typed) c.requires)

pub returns-in-I8-match_each_native-clause-only : goal.returns-in-I8-match_each_native-clause-only
returns-in-I8-match_each_native-clause-only g c = c.fill_numbers-5.ensures.only

pub returns-in-I8-match_each_native-clause-made : goal.returns-in-I8-match_each_native-clause-made
returns-in-I8-match_each_native-clause-made g c =
    let shown = map-id c.as_slice-5.result.now ∙ c.as_slice-5.ensures.value ∙ sym (ap numbers c.in-I8-match_each_native.is) ∙ c.values.ensures.shows in
    let typed = sym (ap ptype_of c.in-I8-match_each_native.is) ∙ c.values.ensures.typed in
    let fits : FitsSigned w128 c.args.number = search rules in
    let filled = rw (to_z-of_z w128 c.args.number fits) at c.fill_numbers-5.ensures.made in
    let same = same-primitive I8 (map (λ (n : ℤ). n) c.as_slice-5.result.now) (form_of c.validity-validity.result.now) c.args.array.now typed shown c.validity-validity.ensures.form in
    subst (λ (own : PrimitiveForm). IfOk c.fill_numbers-5.result (λ filled. IsMade (fill_rows (primitive_rows own) (Number c.args.number)) (column.Primitive own.ptype NonNullable) (OfNumbers filled))) same filled

pub fill_numbers-requires-6-clause-fits : goal.fill_numbers-requires-6-clause-fits
fill_numbers-requires-6-clause-fits g c =
    let shown = map-id c.as_slice-6.result.now ∙ c.as_slice-6.ensures.value ∙ sym (ap numbers c.in-I16-match_each_native.is) ∙ c.values.ensures.shows in
    HasLength-arm _ _ _ _ c.validity-validity.ensures.form (length-arm (λ (n : ℤ). n) c.as_slice-6.result.now c.args.array.now.numbers shown) c.validity-validity.ensures.counted

pub fill_numbers-requires-6-clause-has : goal.fill_numbers-requires-6-clause-has
fill_numbers-requires-6-clause-has g c =
    let fits : FitsSigned w128 c.args.number = search rules in
    let typed = sym (ap ptype_of c.in-I16-match_each_native.is) ∙ c.values.ensures.typed in
    rw (to_z-of_z w128 c.args.number fits) (subst (λ (ptype : PType). HasNumber ptype c.args.number) (sym typed) c.requires)

pub returns-in-I16-match_each_native-clause-only : goal.returns-in-I16-match_each_native-clause-only
returns-in-I16-match_each_native-clause-only g c = c.fill_numbers-6.ensures.only

pub returns-in-I16-match_each_native-clause-made : goal.returns-in-I16-match_each_native-clause-made
returns-in-I16-match_each_native-clause-made g c =
    let shown = map-id c.as_slice-6.result.now ∙ c.as_slice-6.ensures.value ∙ sym (ap numbers c.in-I16-match_each_native.is) ∙ c.values.ensures.shows in
    let typed = sym (ap ptype_of c.in-I16-match_each_native.is) ∙ c.values.ensures.typed in
    let fits : FitsSigned w128 c.args.number = search rules in
    let filled = rw (to_z-of_z w128 c.args.number fits) at c.fill_numbers-6.ensures.made in
    let same = same-primitive I16 (map (λ (n : ℤ). n) c.as_slice-6.result.now) (form_of c.validity-validity.result.now) c.args.array.now typed shown c.validity-validity.ensures.form in
    subst (λ (own : PrimitiveForm). IfOk c.fill_numbers-6.result (λ filled. IsMade (fill_rows (primitive_rows own) (Number c.args.number)) (column.Primitive own.ptype NonNullable) (OfNumbers filled))) same filled

pub fill_numbers-requires-7-clause-fits : goal.fill_numbers-requires-7-clause-fits
fill_numbers-requires-7-clause-fits g c =
    let shown = map-id c.as_slice-7.result.now ∙ c.as_slice-7.ensures.value ∙ sym (ap numbers c.in-I32-match_each_native.is) ∙ c.values.ensures.shows in
    HasLength-arm _ _ _ _ c.validity-validity.ensures.form (length-arm (λ (n : ℤ). n) c.as_slice-7.result.now c.args.array.now.numbers shown) c.validity-validity.ensures.counted

pub fill_numbers-requires-7-clause-has : goal.fill_numbers-requires-7-clause-has
fill_numbers-requires-7-clause-has g c =
    let fits : FitsSigned w128 c.args.number = search rules in
    let typed = sym (ap ptype_of c.in-I32-match_each_native.is) ∙ c.values.ensures.typed in
    rw (to_z-of_z w128 c.args.number fits) (subst (λ (ptype : PType). HasNumber ptype c.args.number) (sym typed) c.requires)

pub returns-in-I32-match_each_native-clause-only : goal.returns-in-I32-match_each_native-clause-only
returns-in-I32-match_each_native-clause-only g c = c.fill_numbers-7.ensures.only

pub returns-in-I32-match_each_native-clause-made : goal.returns-in-I32-match_each_native-clause-made
returns-in-I32-match_each_native-clause-made g c =
    let shown = map-id c.as_slice-7.result.now ∙ c.as_slice-7.ensures.value ∙ sym (ap numbers c.in-I32-match_each_native.is) ∙ c.values.ensures.shows in
    let typed = sym (ap ptype_of c.in-I32-match_each_native.is) ∙ c.values.ensures.typed in
    let fits : FitsSigned w128 c.args.number = search rules in
    let filled = rw (to_z-of_z w128 c.args.number fits) at c.fill_numbers-7.ensures.made in
    let same = same-primitive I32 (map (λ (n : ℤ). n) c.as_slice-7.result.now) (form_of c.validity-validity.result.now) c.args.array.now typed shown c.validity-validity.ensures.form in
    subst (λ (own : PrimitiveForm). IfOk c.fill_numbers-7.result (λ filled. IsMade (fill_rows (primitive_rows own) (Number c.args.number)) (column.Primitive own.ptype NonNullable) (OfNumbers filled))) same filled

pub fill_numbers-requires-8-clause-fits : goal.fill_numbers-requires-8-clause-fits
fill_numbers-requires-8-clause-fits g c =
    let shown = map-id c.as_slice-8.result.now ∙ c.as_slice-8.ensures.value ∙ sym (ap numbers c.in-I64-match_each_native.is) ∙ c.values.ensures.shows in
    HasLength-arm _ _ _ _ c.validity-validity.ensures.form (length-arm (λ (n : ℤ). n) c.as_slice-8.result.now c.args.array.now.numbers shown) c.validity-validity.ensures.counted

pub fill_numbers-requires-8-clause-has : goal.fill_numbers-requires-8-clause-has
fill_numbers-requires-8-clause-has g c =
    let fits : FitsSigned w128 c.args.number = search rules in
    let typed = sym (ap ptype_of c.in-I64-match_each_native.is) ∙ c.values.ensures.typed in
    rw (to_z-of_z w128 c.args.number fits) (subst (λ (ptype : PType). HasNumber ptype c.args.number) (sym typed) c.requires)

pub returns-in-I64-match_each_native-clause-only : goal.returns-in-I64-match_each_native-clause-only
returns-in-I64-match_each_native-clause-only g c = c.fill_numbers-8.ensures.only

pub returns-in-I64-match_each_native-clause-made : goal.returns-in-I64-match_each_native-clause-made
returns-in-I64-match_each_native-clause-made g c =
    let shown = map-id c.as_slice-8.result.now ∙ c.as_slice-8.ensures.value ∙ sym (ap numbers c.in-I64-match_each_native.is) ∙ c.values.ensures.shows in
    let typed = sym (ap ptype_of c.in-I64-match_each_native.is) ∙ c.values.ensures.typed in
    let fits : FitsSigned w128 c.args.number = search rules in
    let filled = rw (to_z-of_z w128 c.args.number fits) at c.fill_numbers-8.ensures.made in
    let same = same-primitive I64 (map (λ (n : ℤ). n) c.as_slice-8.result.now) (form_of c.validity-validity.result.now) c.args.array.now typed shown c.validity-validity.ensures.form in
    subst (λ (own : PrimitiveForm). IfOk c.fill_numbers-8.result (λ filled. IsMade (fill_rows (primitive_rows own) (Number c.args.number)) (column.Primitive own.ptype NonNullable) (OfNumbers filled))) same filled
