use Rattle.std.proofs.Common.{ℤ, pos, map, sym, ap, subst, ◌∙◌}
use Rattle.std.specs.Prelude.{IfOk}
use Rattle.std.proofs.lemmas.List.{map-id}
use Rattle.column_base.specs.declared.dtype.PType.TheVariants.{U8, U16, U32, U64, I8, I16, I32, I64}
use Rattle.column_base.specs.Numbers.{numbers, ptype_of}
use Rattle.column_base.specs.ValidityForm.{nullability_in}
use Rattle.column_base.specs.Validity.{form_of}
use Rattle.column_core.specs.PrimitiveForm.{PrimitiveForm, optional_numbers}
use Rattle.column_core.specs.Refusal.{IsRefusedBy}
use Rattle.column_ops.specs.Take.{ArePositionsFor, take_fault}
use Rattle.column_ops.proofs.Arms.{same-primitive, length-arm, HasLength-arm}
use Rattle.column_ops.proofs.positions.positions_of.Goals as goal

pub native_positions-requires : goal.native_positions-requires
native_positions-requires g c =
    let shown = ap (map pos) c.as_slice.ensures.value ∙ sym (ap numbers c.in-U8-match_each_native.is) ∙ c.values.ensures.shows in
    record { fits = HasLength-arm _ _ _ _ c.validity-validity.ensures.form (length-arm pos c.as_slice.result.now c.args.indices.now.numbers shown) c.validity-validity.ensures.counted }

pub returns-in-U8-match_each_native-clause-refused : goal.returns-in-U8-match_each_native-clause-refused
returns-in-U8-match_each_native-clause-refused g c =
    let shown = ap (map pos) c.as_slice.ensures.value ∙ sym (ap numbers c.in-U8-match_each_native.is) ∙ c.values.ensures.shows in
    let typed = sym (ap ptype_of c.in-U8-match_each_native.is) ∙ c.values.ensures.typed in
    let same = same-primitive U8 (map pos c.as_slice.result.now) (form_of c.validity-validity.result.now) c.args.indices.now typed shown c.validity-validity.ensures.form in
    subst (λ (own : PrimitiveForm). IsRefusedBy (take_fault (optional_numbers own) c.args.count) c.native_positions.result) same c.native_positions.ensures.refused

pub returns-in-U8-match_each_native-clause-positions : goal.returns-in-U8-match_each_native-clause-positions
returns-in-U8-match_each_native-clause-positions g c =
    let shown = ap (map pos) c.as_slice.ensures.value ∙ sym (ap numbers c.in-U8-match_each_native.is) ∙ c.values.ensures.shows in
    let typed = sym (ap ptype_of c.in-U8-match_each_native.is) ∙ c.values.ensures.typed in
    let same = same-primitive U8 (map pos c.as_slice.result.now) (form_of c.validity-validity.result.now) c.args.indices.now typed shown c.validity-validity.ensures.form in
    subst (λ (own : PrimitiveForm). IfOk c.native_positions.result (λ parts. ArePositionsFor (optional_numbers own) (nullability_in own.validity) c.args.count parts.0.items (form_of parts.1))) same c.native_positions.ensures.positions

pub native_positions-requires-2 : goal.native_positions-requires-2
native_positions-requires-2 g c =
    let shown = ap (map pos) c.as_slice-2.ensures.value ∙ sym (ap numbers c.in-U16-match_each_native.is) ∙ c.values.ensures.shows in
    record { fits = HasLength-arm _ _ _ _ c.validity-validity.ensures.form (length-arm pos c.as_slice-2.result.now c.args.indices.now.numbers shown) c.validity-validity.ensures.counted }

pub returns-in-U16-match_each_native-clause-refused : goal.returns-in-U16-match_each_native-clause-refused
returns-in-U16-match_each_native-clause-refused g c =
    let shown = ap (map pos) c.as_slice-2.ensures.value ∙ sym (ap numbers c.in-U16-match_each_native.is) ∙ c.values.ensures.shows in
    let typed = sym (ap ptype_of c.in-U16-match_each_native.is) ∙ c.values.ensures.typed in
    let same = same-primitive U16 (map pos c.as_slice-2.result.now) (form_of c.validity-validity.result.now) c.args.indices.now typed shown c.validity-validity.ensures.form in
    subst (λ (own : PrimitiveForm). IsRefusedBy (take_fault (optional_numbers own) c.args.count) c.native_positions-2.result) same c.native_positions-2.ensures.refused

pub returns-in-U16-match_each_native-clause-positions : goal.returns-in-U16-match_each_native-clause-positions
returns-in-U16-match_each_native-clause-positions g c =
    let shown = ap (map pos) c.as_slice-2.ensures.value ∙ sym (ap numbers c.in-U16-match_each_native.is) ∙ c.values.ensures.shows in
    let typed = sym (ap ptype_of c.in-U16-match_each_native.is) ∙ c.values.ensures.typed in
    let same = same-primitive U16 (map pos c.as_slice-2.result.now) (form_of c.validity-validity.result.now) c.args.indices.now typed shown c.validity-validity.ensures.form in
    subst (λ (own : PrimitiveForm). IfOk c.native_positions-2.result (λ parts. ArePositionsFor (optional_numbers own) (nullability_in own.validity) c.args.count parts.0.items (form_of parts.1))) same c.native_positions-2.ensures.positions

pub native_positions-requires-3 : goal.native_positions-requires-3
native_positions-requires-3 g c =
    let shown = ap (map pos) c.as_slice-3.ensures.value ∙ sym (ap numbers c.in-U32-match_each_native.is) ∙ c.values.ensures.shows in
    record { fits = HasLength-arm _ _ _ _ c.validity-validity.ensures.form (length-arm pos c.as_slice-3.result.now c.args.indices.now.numbers shown) c.validity-validity.ensures.counted }

pub returns-in-U32-match_each_native-clause-refused : goal.returns-in-U32-match_each_native-clause-refused
returns-in-U32-match_each_native-clause-refused g c =
    let shown = ap (map pos) c.as_slice-3.ensures.value ∙ sym (ap numbers c.in-U32-match_each_native.is) ∙ c.values.ensures.shows in
    let typed = sym (ap ptype_of c.in-U32-match_each_native.is) ∙ c.values.ensures.typed in
    let same = same-primitive U32 (map pos c.as_slice-3.result.now) (form_of c.validity-validity.result.now) c.args.indices.now typed shown c.validity-validity.ensures.form in
    subst (λ (own : PrimitiveForm). IsRefusedBy (take_fault (optional_numbers own) c.args.count) c.native_positions-3.result) same c.native_positions-3.ensures.refused

pub returns-in-U32-match_each_native-clause-positions : goal.returns-in-U32-match_each_native-clause-positions
returns-in-U32-match_each_native-clause-positions g c =
    let shown = ap (map pos) c.as_slice-3.ensures.value ∙ sym (ap numbers c.in-U32-match_each_native.is) ∙ c.values.ensures.shows in
    let typed = sym (ap ptype_of c.in-U32-match_each_native.is) ∙ c.values.ensures.typed in
    let same = same-primitive U32 (map pos c.as_slice-3.result.now) (form_of c.validity-validity.result.now) c.args.indices.now typed shown c.validity-validity.ensures.form in
    subst (λ (own : PrimitiveForm). IfOk c.native_positions-3.result (λ parts. ArePositionsFor (optional_numbers own) (nullability_in own.validity) c.args.count parts.0.items (form_of parts.1))) same c.native_positions-3.ensures.positions

pub native_positions-requires-4 : goal.native_positions-requires-4
native_positions-requires-4 g c =
    let shown = ap (map pos) c.as_slice-4.ensures.value ∙ sym (ap numbers c.in-U64-match_each_native.is) ∙ c.values.ensures.shows in
    record { fits = HasLength-arm _ _ _ _ c.validity-validity.ensures.form (length-arm pos c.as_slice-4.result.now c.args.indices.now.numbers shown) c.validity-validity.ensures.counted }

pub returns-in-U64-match_each_native-clause-refused : goal.returns-in-U64-match_each_native-clause-refused
returns-in-U64-match_each_native-clause-refused g c =
    let shown = ap (map pos) c.as_slice-4.ensures.value ∙ sym (ap numbers c.in-U64-match_each_native.is) ∙ c.values.ensures.shows in
    let typed = sym (ap ptype_of c.in-U64-match_each_native.is) ∙ c.values.ensures.typed in
    let same = same-primitive U64 (map pos c.as_slice-4.result.now) (form_of c.validity-validity.result.now) c.args.indices.now typed shown c.validity-validity.ensures.form in
    subst (λ (own : PrimitiveForm). IsRefusedBy (take_fault (optional_numbers own) c.args.count) c.native_positions-4.result) same c.native_positions-4.ensures.refused

pub returns-in-U64-match_each_native-clause-positions : goal.returns-in-U64-match_each_native-clause-positions
returns-in-U64-match_each_native-clause-positions g c =
    let shown = ap (map pos) c.as_slice-4.ensures.value ∙ sym (ap numbers c.in-U64-match_each_native.is) ∙ c.values.ensures.shows in
    let typed = sym (ap ptype_of c.in-U64-match_each_native.is) ∙ c.values.ensures.typed in
    let same = same-primitive U64 (map pos c.as_slice-4.result.now) (form_of c.validity-validity.result.now) c.args.indices.now typed shown c.validity-validity.ensures.form in
    subst (λ (own : PrimitiveForm). IfOk c.native_positions-4.result (λ parts. ArePositionsFor (optional_numbers own) (nullability_in own.validity) c.args.count parts.0.items (form_of parts.1))) same c.native_positions-4.ensures.positions

pub native_positions-requires-5 : goal.native_positions-requires-5
native_positions-requires-5 g c =
    let shown = map-id c.as_slice-5.result.now ∙ c.as_slice-5.ensures.value ∙ sym (ap numbers c.in-I8-match_each_native.is) ∙ c.values.ensures.shows in
    record { fits = HasLength-arm _ _ _ _ c.validity-validity.ensures.form (length-arm (λ (n : ℤ). n) c.as_slice-5.result.now c.args.indices.now.numbers shown) c.validity-validity.ensures.counted }

pub returns-in-I8-match_each_native-clause-refused : goal.returns-in-I8-match_each_native-clause-refused
returns-in-I8-match_each_native-clause-refused g c =
    let shown = map-id c.as_slice-5.result.now ∙ c.as_slice-5.ensures.value ∙ sym (ap numbers c.in-I8-match_each_native.is) ∙ c.values.ensures.shows in
    let typed = sym (ap ptype_of c.in-I8-match_each_native.is) ∙ c.values.ensures.typed in
    let same = same-primitive I8 (map (λ (n : ℤ). n) c.as_slice-5.result.now) (form_of c.validity-validity.result.now) c.args.indices.now typed shown c.validity-validity.ensures.form in
    subst (λ (own : PrimitiveForm). IsRefusedBy (take_fault (optional_numbers own) c.args.count) c.native_positions-5.result) same c.native_positions-5.ensures.refused

pub returns-in-I8-match_each_native-clause-positions : goal.returns-in-I8-match_each_native-clause-positions
returns-in-I8-match_each_native-clause-positions g c =
    let shown = map-id c.as_slice-5.result.now ∙ c.as_slice-5.ensures.value ∙ sym (ap numbers c.in-I8-match_each_native.is) ∙ c.values.ensures.shows in
    let typed = sym (ap ptype_of c.in-I8-match_each_native.is) ∙ c.values.ensures.typed in
    let same = same-primitive I8 (map (λ (n : ℤ). n) c.as_slice-5.result.now) (form_of c.validity-validity.result.now) c.args.indices.now typed shown c.validity-validity.ensures.form in
    subst (λ (own : PrimitiveForm). IfOk c.native_positions-5.result (λ parts. ArePositionsFor (optional_numbers own) (nullability_in own.validity) c.args.count parts.0.items (form_of parts.1))) same c.native_positions-5.ensures.positions

pub native_positions-requires-6 : goal.native_positions-requires-6
native_positions-requires-6 g c =
    let shown = map-id c.as_slice-6.result.now ∙ c.as_slice-6.ensures.value ∙ sym (ap numbers c.in-I16-match_each_native.is) ∙ c.values.ensures.shows in
    record { fits = HasLength-arm _ _ _ _ c.validity-validity.ensures.form (length-arm (λ (n : ℤ). n) c.as_slice-6.result.now c.args.indices.now.numbers shown) c.validity-validity.ensures.counted }

pub returns-in-I16-match_each_native-clause-refused : goal.returns-in-I16-match_each_native-clause-refused
returns-in-I16-match_each_native-clause-refused g c =
    let shown = map-id c.as_slice-6.result.now ∙ c.as_slice-6.ensures.value ∙ sym (ap numbers c.in-I16-match_each_native.is) ∙ c.values.ensures.shows in
    let typed = sym (ap ptype_of c.in-I16-match_each_native.is) ∙ c.values.ensures.typed in
    let same = same-primitive I16 (map (λ (n : ℤ). n) c.as_slice-6.result.now) (form_of c.validity-validity.result.now) c.args.indices.now typed shown c.validity-validity.ensures.form in
    subst (λ (own : PrimitiveForm). IsRefusedBy (take_fault (optional_numbers own) c.args.count) c.native_positions-6.result) same c.native_positions-6.ensures.refused

pub returns-in-I16-match_each_native-clause-positions : goal.returns-in-I16-match_each_native-clause-positions
returns-in-I16-match_each_native-clause-positions g c =
    let shown = map-id c.as_slice-6.result.now ∙ c.as_slice-6.ensures.value ∙ sym (ap numbers c.in-I16-match_each_native.is) ∙ c.values.ensures.shows in
    let typed = sym (ap ptype_of c.in-I16-match_each_native.is) ∙ c.values.ensures.typed in
    let same = same-primitive I16 (map (λ (n : ℤ). n) c.as_slice-6.result.now) (form_of c.validity-validity.result.now) c.args.indices.now typed shown c.validity-validity.ensures.form in
    subst (λ (own : PrimitiveForm). IfOk c.native_positions-6.result (λ parts. ArePositionsFor (optional_numbers own) (nullability_in own.validity) c.args.count parts.0.items (form_of parts.1))) same c.native_positions-6.ensures.positions

pub native_positions-requires-7 : goal.native_positions-requires-7
native_positions-requires-7 g c =
    let shown = map-id c.as_slice-7.result.now ∙ c.as_slice-7.ensures.value ∙ sym (ap numbers c.in-I32-match_each_native.is) ∙ c.values.ensures.shows in
    record { fits = HasLength-arm _ _ _ _ c.validity-validity.ensures.form (length-arm (λ (n : ℤ). n) c.as_slice-7.result.now c.args.indices.now.numbers shown) c.validity-validity.ensures.counted }

pub returns-in-I32-match_each_native-clause-refused : goal.returns-in-I32-match_each_native-clause-refused
returns-in-I32-match_each_native-clause-refused g c =
    let shown = map-id c.as_slice-7.result.now ∙ c.as_slice-7.ensures.value ∙ sym (ap numbers c.in-I32-match_each_native.is) ∙ c.values.ensures.shows in
    let typed = sym (ap ptype_of c.in-I32-match_each_native.is) ∙ c.values.ensures.typed in
    let same = same-primitive I32 (map (λ (n : ℤ). n) c.as_slice-7.result.now) (form_of c.validity-validity.result.now) c.args.indices.now typed shown c.validity-validity.ensures.form in
    subst (λ (own : PrimitiveForm). IsRefusedBy (take_fault (optional_numbers own) c.args.count) c.native_positions-7.result) same c.native_positions-7.ensures.refused

pub returns-in-I32-match_each_native-clause-positions : goal.returns-in-I32-match_each_native-clause-positions
returns-in-I32-match_each_native-clause-positions g c =
    let shown = map-id c.as_slice-7.result.now ∙ c.as_slice-7.ensures.value ∙ sym (ap numbers c.in-I32-match_each_native.is) ∙ c.values.ensures.shows in
    let typed = sym (ap ptype_of c.in-I32-match_each_native.is) ∙ c.values.ensures.typed in
    let same = same-primitive I32 (map (λ (n : ℤ). n) c.as_slice-7.result.now) (form_of c.validity-validity.result.now) c.args.indices.now typed shown c.validity-validity.ensures.form in
    subst (λ (own : PrimitiveForm). IfOk c.native_positions-7.result (λ parts. ArePositionsFor (optional_numbers own) (nullability_in own.validity) c.args.count parts.0.items (form_of parts.1))) same c.native_positions-7.ensures.positions

pub native_positions-requires-8 : goal.native_positions-requires-8
native_positions-requires-8 g c =
    let shown = map-id c.as_slice-8.result.now ∙ c.as_slice-8.ensures.value ∙ sym (ap numbers c.in-I64-match_each_native.is) ∙ c.values.ensures.shows in
    record { fits = HasLength-arm _ _ _ _ c.validity-validity.ensures.form (length-arm (λ (n : ℤ). n) c.as_slice-8.result.now c.args.indices.now.numbers shown) c.validity-validity.ensures.counted }

pub returns-in-I64-match_each_native-clause-refused : goal.returns-in-I64-match_each_native-clause-refused
returns-in-I64-match_each_native-clause-refused g c =
    let shown = map-id c.as_slice-8.result.now ∙ c.as_slice-8.ensures.value ∙ sym (ap numbers c.in-I64-match_each_native.is) ∙ c.values.ensures.shows in
    let typed = sym (ap ptype_of c.in-I64-match_each_native.is) ∙ c.values.ensures.typed in
    let same = same-primitive I64 (map (λ (n : ℤ). n) c.as_slice-8.result.now) (form_of c.validity-validity.result.now) c.args.indices.now typed shown c.validity-validity.ensures.form in
    subst (λ (own : PrimitiveForm). IsRefusedBy (take_fault (optional_numbers own) c.args.count) c.native_positions-8.result) same c.native_positions-8.ensures.refused

pub returns-in-I64-match_each_native-clause-positions : goal.returns-in-I64-match_each_native-clause-positions
returns-in-I64-match_each_native-clause-positions g c =
    let shown = map-id c.as_slice-8.result.now ∙ c.as_slice-8.ensures.value ∙ sym (ap numbers c.in-I64-match_each_native.is) ∙ c.values.ensures.shows in
    let typed = sym (ap ptype_of c.in-I64-match_each_native.is) ∙ c.values.ensures.typed in
    let same = same-primitive I64 (map (λ (n : ℤ). n) c.as_slice-8.result.now) (form_of c.validity-validity.result.now) c.args.indices.now typed shown c.validity-validity.ensures.form in
    subst (λ (own : PrimitiveForm). IfOk c.native_positions-8.result (λ parts. ArePositionsFor (optional_numbers own) (nullability_in own.validity) c.args.count parts.0.items (form_of parts.1))) same c.native_positions-8.ensures.positions
