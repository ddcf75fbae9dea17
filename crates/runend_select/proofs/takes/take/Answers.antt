use Rattle.std.proofs.Common.{◌≡◌, ◌∙◌, ℤ, Some, length, map, subst, sym, ap, pos}
use Rattle.std.specs.Prelude.{IfOk, IsErrOf}
use Rattle.std.proofs.lemmas.List.{map-id}
use Rattle.column_base.specs.declared.dtype.PType.TheVariants.{U8, U16, U32, U64, I8, I16, I32, I64}
use Rattle.column_base.specs.declared.error.VortexError.{VortexError}
use Rattle.column_base.specs.Numbers.{numbers, ptype_of}
use Rattle.column_base.specs.Validity.{form_of}
use Rattle.column_core.specs.PrimitiveForm.{PrimitiveForm, optional_numbers, primitive_dtype}
use Rattle.column_core.specs.Refusal.{IsRefusedBy}
use Rattle.column_ops.specs.Nullable.{take_dtype}
use Rattle.column_ops.specs.Take.{take_fault, take_rows}
use Rattle.runend_array.specs.Array.{column_of, dtype_of, rows}
use Rattle.runend_array.specs.Column.{column_dtype, column_of_runs, column_rows}
use Rattle.runend_select.specs.TakeForm.{TakeLeaves}
use Rattle.runend_select.proofs.CheckedIndices.{same-primitive}
use Rattle.runend_select.proofs.takes.take.Goals as goal

pub returns-in-U8-match_each_native-clause-refused : goal.returns-in-U8-match_each_native-clause-refused
returns-in-U8-match_each_native-clause-refused g c =
    let arm = c.in-U8-match_each_native.is in
    let typed = sym (ap ptype_of arm) ∙ c.values.ensures.typed in
    let shown = ap (map pos) c.as_slice.ensures.value ∙ sym (ap numbers arm) ∙ c.values.ensures.shows in
    let same = same-primitive U8 (map pos c.as_slice.result.now) (form_of c.validity-validity.result.now) c.args.indices.now typed shown c.validity-validity.ensures.form in
    subst (λ (p : PrimitiveForm). IsRefusedBy (take_fault (optional_numbers p) (length (column_rows (column_of_runs c.args.array.now)))) c.take_native.result) same c.take_native.ensures.refused

pub returns-in-U8-match_each_native-clause-first : goal.returns-in-U8-match_each_native-clause-first
returns-in-U8-match_each_native-clause-first g c =
    let arm = c.in-U8-match_each_native.is in
    let typed = sym (ap ptype_of arm) ∙ c.values.ensures.typed in
    let shown = ap (map pos) c.as_slice.ensures.value ∙ sym (ap numbers arm) ∙ c.values.ensures.shows in
    let same = same-primitive U8 (map pos c.as_slice.result.now) (form_of c.validity-validity.result.now) c.args.indices.now typed shown c.validity-validity.ensures.form in
    subst (λ (p : PrimitiveForm). (error : VortexError) → take_fault (optional_numbers p) (length (column_rows (column_of_runs c.args.array.now))) ≡ Some error → IsErrOf c.take_native.result error) same c.take_native.ensures.first

pub returns-in-U8-match_each_native-clause-rows : goal.returns-in-U8-match_each_native-clause-rows
returns-in-U8-match_each_native-clause-rows g c =
    let arm = c.in-U8-match_each_native.is in
    let typed = sym (ap ptype_of arm) ∙ c.values.ensures.typed in
    let shown = ap (map pos) c.as_slice.ensures.value ∙ sym (ap numbers arm) ∙ c.values.ensures.shows in
    let same = same-primitive U8 (map pos c.as_slice.result.now) (form_of c.validity-validity.result.now) c.args.indices.now typed shown c.validity-validity.ensures.form in
    subst (λ (p : PrimitiveForm). IfOk c.take_native.result (λ taken. rows taken ≡ take_rows (column_rows (column_of_runs c.args.array.now)) (optional_numbers p))) same c.take_native.ensures.rows

pub returns-in-U8-match_each_native-clause-dtype : goal.returns-in-U8-match_each_native-clause-dtype
returns-in-U8-match_each_native-clause-dtype g c =
    let arm = c.in-U8-match_each_native.is in
    let typed = sym (ap ptype_of arm) ∙ c.values.ensures.typed in
    let shown = ap (map pos) c.as_slice.ensures.value ∙ sym (ap numbers arm) ∙ c.values.ensures.shows in
    let same = same-primitive U8 (map pos c.as_slice.result.now) (form_of c.validity-validity.result.now) c.args.indices.now typed shown c.validity-validity.ensures.form in
    subst (λ (p : PrimitiveForm). IfOk c.take_native.result (λ taken. dtype_of taken ≡ take_dtype (column_dtype c.args.array.now.values) (primitive_dtype p))) same c.take_native.ensures.dtype

pub returns-in-U8-match_each_native-clause-form : goal.returns-in-U8-match_each_native-clause-form
returns-in-U8-match_each_native-clause-form g c =
    let arm = c.in-U8-match_each_native.is in
    let typed = sym (ap ptype_of arm) ∙ c.values.ensures.typed in
    let shown = ap (map pos) c.as_slice.ensures.value ∙ sym (ap numbers arm) ∙ c.values.ensures.shows in
    let same = same-primitive U8 (map pos c.as_slice.result.now) (form_of c.validity-validity.result.now) c.args.indices.now typed shown c.validity-validity.ensures.form in
    subst (λ (p : PrimitiveForm). IfOk c.take_native.result (λ taken. TakeLeaves (optional_numbers p) (column_of taken))) same c.take_native.ensures.form

pub returns-in-U16-match_each_native-clause-refused : goal.returns-in-U16-match_each_native-clause-refused
returns-in-U16-match_each_native-clause-refused g c =
    let arm = c.in-U16-match_each_native.is in
    let typed = sym (ap ptype_of arm) ∙ c.values.ensures.typed in
    let shown = ap (map pos) c.as_slice-2.ensures.value ∙ sym (ap numbers arm) ∙ c.values.ensures.shows in
    let same = same-primitive U16 (map pos c.as_slice-2.result.now) (form_of c.validity-validity.result.now) c.args.indices.now typed shown c.validity-validity.ensures.form in
    subst (λ (p : PrimitiveForm). IsRefusedBy (take_fault (optional_numbers p) (length (column_rows (column_of_runs c.args.array.now)))) c.take_native-2.result) same c.take_native-2.ensures.refused

pub returns-in-U16-match_each_native-clause-first : goal.returns-in-U16-match_each_native-clause-first
returns-in-U16-match_each_native-clause-first g c =
    let arm = c.in-U16-match_each_native.is in
    let typed = sym (ap ptype_of arm) ∙ c.values.ensures.typed in
    let shown = ap (map pos) c.as_slice-2.ensures.value ∙ sym (ap numbers arm) ∙ c.values.ensures.shows in
    let same = same-primitive U16 (map pos c.as_slice-2.result.now) (form_of c.validity-validity.result.now) c.args.indices.now typed shown c.validity-validity.ensures.form in
    subst (λ (p : PrimitiveForm). (error : VortexError) → take_fault (optional_numbers p) (length (column_rows (column_of_runs c.args.array.now))) ≡ Some error → IsErrOf c.take_native-2.result error) same c.take_native-2.ensures.first

pub returns-in-U16-match_each_native-clause-rows : goal.returns-in-U16-match_each_native-clause-rows
returns-in-U16-match_each_native-clause-rows g c =
    let arm = c.in-U16-match_each_native.is in
    let typed = sym (ap ptype_of arm) ∙ c.values.ensures.typed in
    let shown = ap (map pos) c.as_slice-2.ensures.value ∙ sym (ap numbers arm) ∙ c.values.ensures.shows in
    let same = same-primitive U16 (map pos c.as_slice-2.result.now) (form_of c.validity-validity.result.now) c.args.indices.now typed shown c.validity-validity.ensures.form in
    subst (λ (p : PrimitiveForm). IfOk c.take_native-2.result (λ taken. rows taken ≡ take_rows (column_rows (column_of_runs c.args.array.now)) (optional_numbers p))) same c.take_native-2.ensures.rows

pub returns-in-U16-match_each_native-clause-dtype : goal.returns-in-U16-match_each_native-clause-dtype
returns-in-U16-match_each_native-clause-dtype g c =
    let arm = c.in-U16-match_each_native.is in
    let typed = sym (ap ptype_of arm) ∙ c.values.ensures.typed in
    let shown = ap (map pos) c.as_slice-2.ensures.value ∙ sym (ap numbers arm) ∙ c.values.ensures.shows in
    let same = same-primitive U16 (map pos c.as_slice-2.result.now) (form_of c.validity-validity.result.now) c.args.indices.now typed shown c.validity-validity.ensures.form in
    subst (λ (p : PrimitiveForm). IfOk c.take_native-2.result (λ taken. dtype_of taken ≡ take_dtype (column_dtype c.args.array.now.values) (primitive_dtype p))) same c.take_native-2.ensures.dtype

pub returns-in-U16-match_each_native-clause-form : goal.returns-in-U16-match_each_native-clause-form
returns-in-U16-match_each_native-clause-form g c =
    let arm = c.in-U16-match_each_native.is in
    let typed = sym (ap ptype_of arm) ∙ c.values.ensures.typed in
    let shown = ap (map pos) c.as_slice-2.ensures.value ∙ sym (ap numbers arm) ∙ c.values.ensures.shows in
    let same = same-primitive U16 (map pos c.as_slice-2.result.now) (form_of c.validity-validity.result.now) c.args.indices.now typed shown c.validity-validity.ensures.form in
    subst (λ (p : PrimitiveForm). IfOk c.take_native-2.result (λ taken. TakeLeaves (optional_numbers p) (column_of taken))) same c.take_native-2.ensures.form

pub returns-in-U32-match_each_native-clause-refused : goal.returns-in-U32-match_each_native-clause-refused
returns-in-U32-match_each_native-clause-refused g c =
    let arm = c.in-U32-match_each_native.is in
    let typed = sym (ap ptype_of arm) ∙ c.values.ensures.typed in
    let shown = ap (map pos) c.as_slice-3.ensures.value ∙ sym (ap numbers arm) ∙ c.values.ensures.shows in
    let same = same-primitive U32 (map pos c.as_slice-3.result.now) (form_of c.validity-validity.result.now) c.args.indices.now typed shown c.validity-validity.ensures.form in
    subst (λ (p : PrimitiveForm). IsRefusedBy (take_fault (optional_numbers p) (length (column_rows (column_of_runs c.args.array.now)))) c.take_native-3.result) same c.take_native-3.ensures.refused

pub returns-in-U32-match_each_native-clause-first : goal.returns-in-U32-match_each_native-clause-first
returns-in-U32-match_each_native-clause-first g c =
    let arm = c.in-U32-match_each_native.is in
    let typed = sym (ap ptype_of arm) ∙ c.values.ensures.typed in
    let shown = ap (map pos) c.as_slice-3.ensures.value ∙ sym (ap numbers arm) ∙ c.values.ensures.shows in
    let same = same-primitive U32 (map pos c.as_slice-3.result.now) (form_of c.validity-validity.result.now) c.args.indices.now typed shown c.validity-validity.ensures.form in
    subst (λ (p : PrimitiveForm). (error : VortexError) → take_fault (optional_numbers p) (length (column_rows (column_of_runs c.args.array.now))) ≡ Some error → IsErrOf c.take_native-3.result error) same c.take_native-3.ensures.first

pub returns-in-U32-match_each_native-clause-rows : goal.returns-in-U32-match_each_native-clause-rows
returns-in-U32-match_each_native-clause-rows g c =
    let arm = c.in-U32-match_each_native.is in
    let typed = sym (ap ptype_of arm) ∙ c.values.ensures.typed in
    let shown = ap (map pos) c.as_slice-3.ensures.value ∙ sym (ap numbers arm) ∙ c.values.ensures.shows in
    let same = same-primitive U32 (map pos c.as_slice-3.result.now) (form_of c.validity-validity.result.now) c.args.indices.now typed shown c.validity-validity.ensures.form in
    subst (λ (p : PrimitiveForm). IfOk c.take_native-3.result (λ taken. rows taken ≡ take_rows (column_rows (column_of_runs c.args.array.now)) (optional_numbers p))) same c.take_native-3.ensures.rows

pub returns-in-U32-match_each_native-clause-dtype : goal.returns-in-U32-match_each_native-clause-dtype
returns-in-U32-match_each_native-clause-dtype g c =
    let arm = c.in-U32-match_each_native.is in
    let typed = sym (ap ptype_of arm) ∙ c.values.ensures.typed in
    let shown = ap (map pos) c.as_slice-3.ensures.value ∙ sym (ap numbers arm) ∙ c.values.ensures.shows in
    let same = same-primitive U32 (map pos c.as_slice-3.result.now) (form_of c.validity-validity.result.now) c.args.indices.now typed shown c.validity-validity.ensures.form in
    subst (λ (p : PrimitiveForm). IfOk c.take_native-3.result (λ taken. dtype_of taken ≡ take_dtype (column_dtype c.args.array.now.values) (primitive_dtype p))) same c.take_native-3.ensures.dtype

pub returns-in-U32-match_each_native-clause-form : goal.returns-in-U32-match_each_native-clause-form
returns-in-U32-match_each_native-clause-form g c =
    let arm = c.in-U32-match_each_native.is in
    let typed = sym (ap ptype_of arm) ∙ c.values.ensures.typed in
    let shown = ap (map pos) c.as_slice-3.ensures.value ∙ sym (ap numbers arm) ∙ c.values.ensures.shows in
    let same = same-primitive U32 (map pos c.as_slice-3.result.now) (form_of c.validity-validity.result.now) c.args.indices.now typed shown c.validity-validity.ensures.form in
    subst (λ (p : PrimitiveForm). IfOk c.take_native-3.result (λ taken. TakeLeaves (optional_numbers p) (column_of taken))) same c.take_native-3.ensures.form

pub returns-in-U64-match_each_native-clause-refused : goal.returns-in-U64-match_each_native-clause-refused
returns-in-U64-match_each_native-clause-refused g c =
    let arm = c.in-U64-match_each_native.is in
    let typed = sym (ap ptype_of arm) ∙ c.values.ensures.typed in
    let shown = ap (map pos) c.as_slice-4.ensures.value ∙ sym (ap numbers arm) ∙ c.values.ensures.shows in
    let same = same-primitive U64 (map pos c.as_slice-4.result.now) (form_of c.validity-validity.result.now) c.args.indices.now typed shown c.validity-validity.ensures.form in
    subst (λ (p : PrimitiveForm). IsRefusedBy (take_fault (optional_numbers p) (length (column_rows (column_of_runs c.args.array.now)))) c.take_native-4.result) same c.take_native-4.ensures.refused

pub returns-in-U64-match_each_native-clause-first : goal.returns-in-U64-match_each_native-clause-first
returns-in-U64-match_each_native-clause-first g c =
    let arm = c.in-U64-match_each_native.is in
    let typed = sym (ap ptype_of arm) ∙ c.values.ensures.typed in
    let shown = ap (map pos) c.as_slice-4.ensures.value ∙ sym (ap numbers arm) ∙ c.values.ensures.shows in
    let same = same-primitive U64 (map pos c.as_slice-4.result.now) (form_of c.validity-validity.result.now) c.args.indices.now typed shown c.validity-validity.ensures.form in
    subst (λ (p : PrimitiveForm). (error : VortexError) → take_fault (optional_numbers p) (length (column_rows (column_of_runs c.args.array.now))) ≡ Some error → IsErrOf c.take_native-4.result error) same c.take_native-4.ensures.first

pub returns-in-U64-match_each_native-clause-rows : goal.returns-in-U64-match_each_native-clause-rows
returns-in-U64-match_each_native-clause-rows g c =
    let arm = c.in-U64-match_each_native.is in
    let typed = sym (ap ptype_of arm) ∙ c.values.ensures.typed in
    let shown = ap (map pos) c.as_slice-4.ensures.value ∙ sym (ap numbers arm) ∙ c.values.ensures.shows in
    let same = same-primitive U64 (map pos c.as_slice-4.result.now) (form_of c.validity-validity.result.now) c.args.indices.now typed shown c.validity-validity.ensures.form in
    subst (λ (p : PrimitiveForm). IfOk c.take_native-4.result (λ taken. rows taken ≡ take_rows (column_rows (column_of_runs c.args.array.now)) (optional_numbers p))) same c.take_native-4.ensures.rows

pub returns-in-U64-match_each_native-clause-dtype : goal.returns-in-U64-match_each_native-clause-dtype
returns-in-U64-match_each_native-clause-dtype g c =
    let arm = c.in-U64-match_each_native.is in
    let typed = sym (ap ptype_of arm) ∙ c.values.ensures.typed in
    let shown = ap (map pos) c.as_slice-4.ensures.value ∙ sym (ap numbers arm) ∙ c.values.ensures.shows in
    let same = same-primitive U64 (map pos c.as_slice-4.result.now) (form_of c.validity-validity.result.now) c.args.indices.now typed shown c.validity-validity.ensures.form in
    subst (λ (p : PrimitiveForm). IfOk c.take_native-4.result (λ taken. dtype_of taken ≡ take_dtype (column_dtype c.args.array.now.values) (primitive_dtype p))) same c.take_native-4.ensures.dtype

pub returns-in-U64-match_each_native-clause-form : goal.returns-in-U64-match_each_native-clause-form
returns-in-U64-match_each_native-clause-form g c =
    let arm = c.in-U64-match_each_native.is in
    let typed = sym (ap ptype_of arm) ∙ c.values.ensures.typed in
    let shown = ap (map pos) c.as_slice-4.ensures.value ∙ sym (ap numbers arm) ∙ c.values.ensures.shows in
    let same = same-primitive U64 (map pos c.as_slice-4.result.now) (form_of c.validity-validity.result.now) c.args.indices.now typed shown c.validity-validity.ensures.form in
    subst (λ (p : PrimitiveForm). IfOk c.take_native-4.result (λ taken. TakeLeaves (optional_numbers p) (column_of taken))) same c.take_native-4.ensures.form

pub returns-in-I8-match_each_native-clause-refused : goal.returns-in-I8-match_each_native-clause-refused
returns-in-I8-match_each_native-clause-refused g c =
    let arm = c.in-I8-match_each_native.is in
    let typed = sym (ap ptype_of arm) ∙ c.values.ensures.typed in
    let shown = map-id c.as_slice-5.result.now ∙ c.as_slice-5.ensures.value ∙ sym (ap numbers arm) ∙ c.values.ensures.shows in
    let same = same-primitive I8 (map (λ (n : ℤ). n) c.as_slice-5.result.now) (form_of c.validity-validity.result.now) c.args.indices.now typed shown c.validity-validity.ensures.form in
    subst (λ (p : PrimitiveForm). IsRefusedBy (take_fault (optional_numbers p) (length (column_rows (column_of_runs c.args.array.now)))) c.take_native-5.result) same c.take_native-5.ensures.refused

pub returns-in-I8-match_each_native-clause-first : goal.returns-in-I8-match_each_native-clause-first
returns-in-I8-match_each_native-clause-first g c =
    let arm = c.in-I8-match_each_native.is in
    let typed = sym (ap ptype_of arm) ∙ c.values.ensures.typed in
    let shown = map-id c.as_slice-5.result.now ∙ c.as_slice-5.ensures.value ∙ sym (ap numbers arm) ∙ c.values.ensures.shows in
    let same = same-primitive I8 (map (λ (n : ℤ). n) c.as_slice-5.result.now) (form_of c.validity-validity.result.now) c.args.indices.now typed shown c.validity-validity.ensures.form in
    subst (λ (p : PrimitiveForm). (error : VortexError) → take_fault (optional_numbers p) (length (column_rows (column_of_runs c.args.array.now))) ≡ Some error → IsErrOf c.take_native-5.result error) same c.take_native-5.ensures.first

pub returns-in-I8-match_each_native-clause-rows : goal.returns-in-I8-match_each_native-clause-rows
returns-in-I8-match_each_native-clause-rows g c =
    let arm = c.in-I8-match_each_native.is in
    let typed = sym (ap ptype_of arm) ∙ c.values.ensures.typed in
    let shown = map-id c.as_slice-5.result.now ∙ c.as_slice-5.ensures.value ∙ sym (ap numbers arm) ∙ c.values.ensures.shows in
    let same = same-primitive I8 (map (λ (n : ℤ). n) c.as_slice-5.result.now) (form_of c.validity-validity.result.now) c.args.indices.now typed shown c.validity-validity.ensures.form in
    subst (λ (p : PrimitiveForm). IfOk c.take_native-5.result (λ taken. rows taken ≡ take_rows (column_rows (column_of_runs c.args.array.now)) (optional_numbers p))) same c.take_native-5.ensures.rows

pub returns-in-I8-match_each_native-clause-dtype : goal.returns-in-I8-match_each_native-clause-dtype
returns-in-I8-match_each_native-clause-dtype g c =
    let arm = c.in-I8-match_each_native.is in
    let typed = sym (ap ptype_of arm) ∙ c.values.ensures.typed in
    let shown = map-id c.as_slice-5.result.now ∙ c.as_slice-5.ensures.value ∙ sym (ap numbers arm) ∙ c.values.ensures.shows in
    let same = same-primitive I8 (map (λ (n : ℤ). n) c.as_slice-5.result.now) (form_of c.validity-validity.result.now) c.args.indices.now typed shown c.validity-validity.ensures.form in
    subst (λ (p : PrimitiveForm). IfOk c.take_native-5.result (λ taken. dtype_of taken ≡ take_dtype (column_dtype c.args.array.now.values) (primitive_dtype p))) same c.take_native-5.ensures.dtype

pub returns-in-I8-match_each_native-clause-form : goal.returns-in-I8-match_each_native-clause-form
returns-in-I8-match_each_native-clause-form g c =
    let arm = c.in-I8-match_each_native.is in
    let typed = sym (ap ptype_of arm) ∙ c.values.ensures.typed in
    let shown = map-id c.as_slice-5.result.now ∙ c.as_slice-5.ensures.value ∙ sym (ap numbers arm) ∙ c.values.ensures.shows in
    let same = same-primitive I8 (map (λ (n : ℤ). n) c.as_slice-5.result.now) (form_of c.validity-validity.result.now) c.args.indices.now typed shown c.validity-validity.ensures.form in
    subst (λ (p : PrimitiveForm). IfOk c.take_native-5.result (λ taken. TakeLeaves (optional_numbers p) (column_of taken))) same c.take_native-5.ensures.form

pub returns-in-I16-match_each_native-clause-refused : goal.returns-in-I16-match_each_native-clause-refused
returns-in-I16-match_each_native-clause-refused g c =
    let arm = c.in-I16-match_each_native.is in
    let typed = sym (ap ptype_of arm) ∙ c.values.ensures.typed in
    let shown = map-id c.as_slice-6.result.now ∙ c.as_slice-6.ensures.value ∙ sym (ap numbers arm) ∙ c.values.ensures.shows in
    let same = same-primitive I16 (map (λ (n : ℤ). n) c.as_slice-6.result.now) (form_of c.validity-validity.result.now) c.args.indices.now typed shown c.validity-validity.ensures.form in
    subst (λ (p : PrimitiveForm). IsRefusedBy (take_fault (optional_numbers p) (length (column_rows (column_of_runs c.args.array.now)))) c.take_native-6.result) same c.take_native-6.ensures.refused

pub returns-in-I16-match_each_native-clause-first : goal.returns-in-I16-match_each_native-clause-first
returns-in-I16-match_each_native-clause-first g c =
    let arm = c.in-I16-match_each_native.is in
    let typed = sym (ap ptype_of arm) ∙ c.values.ensures.typed in
    let shown = map-id c.as_slice-6.result.now ∙ c.as_slice-6.ensures.value ∙ sym (ap numbers arm) ∙ c.values.ensures.shows in
    let same = same-primitive I16 (map (λ (n : ℤ). n) c.as_slice-6.result.now) (form_of c.validity-validity.result.now) c.args.indices.now typed shown c.validity-validity.ensures.form in
    subst (λ (p : PrimitiveForm). (error : VortexError) → take_fault (optional_numbers p) (length (column_rows (column_of_runs c.args.array.now))) ≡ Some error → IsErrOf c.take_native-6.result error) same c.take_native-6.ensures.first

pub returns-in-I16-match_each_native-clause-rows : goal.returns-in-I16-match_each_native-clause-rows
returns-in-I16-match_each_native-clause-rows g c =
    let arm = c.in-I16-match_each_native.is in
    let typed = sym (ap ptype_of arm) ∙ c.values.ensures.typed in
    let shown = map-id c.as_slice-6.result.now ∙ c.as_slice-6.ensures.value ∙ sym (ap numbers arm) ∙ c.values.ensures.shows in
    let same = same-primitive I16 (map (λ (n : ℤ). n) c.as_slice-6.result.now) (form_of c.validity-validity.result.now) c.args.indices.now typed shown c.validity-validity.ensures.form in
    subst (λ (p : PrimitiveForm). IfOk c.take_native-6.result (λ taken. rows taken ≡ take_rows (column_rows (column_of_runs c.args.array.now)) (optional_numbers p))) same c.take_native-6.ensures.rows

pub returns-in-I16-match_each_native-clause-dtype : goal.returns-in-I16-match_each_native-clause-dtype
returns-in-I16-match_each_native-clause-dtype g c =
    let arm = c.in-I16-match_each_native.is in
    let typed = sym (ap ptype_of arm) ∙ c.values.ensures.typed in
    let shown = map-id c.as_slice-6.result.now ∙ c.as_slice-6.ensures.value ∙ sym (ap numbers arm) ∙ c.values.ensures.shows in
    let same = same-primitive I16 (map (λ (n : ℤ). n) c.as_slice-6.result.now) (form_of c.validity-validity.result.now) c.args.indices.now typed shown c.validity-validity.ensures.form in
    subst (λ (p : PrimitiveForm). IfOk c.take_native-6.result (λ taken. dtype_of taken ≡ take_dtype (column_dtype c.args.array.now.values) (primitive_dtype p))) same c.take_native-6.ensures.dtype

pub returns-in-I16-match_each_native-clause-form : goal.returns-in-I16-match_each_native-clause-form
returns-in-I16-match_each_native-clause-form g c =
    let arm = c.in-I16-match_each_native.is in
    let typed = sym (ap ptype_of arm) ∙ c.values.ensures.typed in
    let shown = map-id c.as_slice-6.result.now ∙ c.as_slice-6.ensures.value ∙ sym (ap numbers arm) ∙ c.values.ensures.shows in
    let same = same-primitive I16 (map (λ (n : ℤ). n) c.as_slice-6.result.now) (form_of c.validity-validity.result.now) c.args.indices.now typed shown c.validity-validity.ensures.form in
    subst (λ (p : PrimitiveForm). IfOk c.take_native-6.result (λ taken. TakeLeaves (optional_numbers p) (column_of taken))) same c.take_native-6.ensures.form

pub returns-in-I32-match_each_native-clause-refused : goal.returns-in-I32-match_each_native-clause-refused
returns-in-I32-match_each_native-clause-refused g c =
    let arm = c.in-I32-match_each_native.is in
    let typed = sym (ap ptype_of arm) ∙ c.values.ensures.typed in
    let shown = map-id c.as_slice-7.result.now ∙ c.as_slice-7.ensures.value ∙ sym (ap numbers arm) ∙ c.values.ensures.shows in
    let same = same-primitive I32 (map (λ (n : ℤ). n) c.as_slice-7.result.now) (form_of c.validity-validity.result.now) c.args.indices.now typed shown c.validity-validity.ensures.form in
    subst (λ (p : PrimitiveForm). IsRefusedBy (take_fault (optional_numbers p) (length (column_rows (column_of_runs c.args.array.now)))) c.take_native-7.result) same c.take_native-7.ensures.refused

pub returns-in-I32-match_each_native-clause-first : goal.returns-in-I32-match_each_native-clause-first
returns-in-I32-match_each_native-clause-first g c =
    let arm = c.in-I32-match_each_native.is in
    let typed = sym (ap ptype_of arm) ∙ c.values.ensures.typed in
    let shown = map-id c.as_slice-7.result.now ∙ c.as_slice-7.ensures.value ∙ sym (ap numbers arm) ∙ c.values.ensures.shows in
    let same = same-primitive I32 (map (λ (n : ℤ). n) c.as_slice-7.result.now) (form_of c.validity-validity.result.now) c.args.indices.now typed shown c.validity-validity.ensures.form in
    subst (λ (p : PrimitiveForm). (error : VortexError) → take_fault (optional_numbers p) (length (column_rows (column_of_runs c.args.array.now))) ≡ Some error → IsErrOf c.take_native-7.result error) same c.take_native-7.ensures.first

pub returns-in-I32-match_each_native-clause-rows : goal.returns-in-I32-match_each_native-clause-rows
returns-in-I32-match_each_native-clause-rows g c =
    let arm = c.in-I32-match_each_native.is in
    let typed = sym (ap ptype_of arm) ∙ c.values.ensures.typed in
    let shown = map-id c.as_slice-7.result.now ∙ c.as_slice-7.ensures.value ∙ sym (ap numbers arm) ∙ c.values.ensures.shows in
    let same = same-primitive I32 (map (λ (n : ℤ). n) c.as_slice-7.result.now) (form_of c.validity-validity.result.now) c.args.indices.now typed shown c.validity-validity.ensures.form in
    subst (λ (p : PrimitiveForm). IfOk c.take_native-7.result (λ taken. rows taken ≡ take_rows (column_rows (column_of_runs c.args.array.now)) (optional_numbers p))) same c.take_native-7.ensures.rows

pub returns-in-I32-match_each_native-clause-dtype : goal.returns-in-I32-match_each_native-clause-dtype
returns-in-I32-match_each_native-clause-dtype g c =
    let arm = c.in-I32-match_each_native.is in
    let typed = sym (ap ptype_of arm) ∙ c.values.ensures.typed in
    let shown = map-id c.as_slice-7.result.now ∙ c.as_slice-7.ensures.value ∙ sym (ap numbers arm) ∙ c.values.ensures.shows in
    let same = same-primitive I32 (map (λ (n : ℤ). n) c.as_slice-7.result.now) (form_of c.validity-validity.result.now) c.args.indices.now typed shown c.validity-validity.ensures.form in
    subst (λ (p : PrimitiveForm). IfOk c.take_native-7.result (λ taken. dtype_of taken ≡ take_dtype (column_dtype c.args.array.now.values) (primitive_dtype p))) same c.take_native-7.ensures.dtype

pub returns-in-I32-match_each_native-clause-form : goal.returns-in-I32-match_each_native-clause-form
returns-in-I32-match_each_native-clause-form g c =
    let arm = c.in-I32-match_each_native.is in
    let typed = sym (ap ptype_of arm) ∙ c.values.ensures.typed in
    let shown = map-id c.as_slice-7.result.now ∙ c.as_slice-7.ensures.value ∙ sym (ap numbers arm) ∙ c.values.ensures.shows in
    let same = same-primitive I32 (map (λ (n : ℤ). n) c.as_slice-7.result.now) (form_of c.validity-validity.result.now) c.args.indices.now typed shown c.validity-validity.ensures.form in
    subst (λ (p : PrimitiveForm). IfOk c.take_native-7.result (λ taken. TakeLeaves (optional_numbers p) (column_of taken))) same c.take_native-7.ensures.form

pub returns-in-I64-match_each_native-clause-refused : goal.returns-in-I64-match_each_native-clause-refused
returns-in-I64-match_each_native-clause-refused g c =
    let arm = c.in-I64-match_each_native.is in
    let typed = sym (ap ptype_of arm) ∙ c.values.ensures.typed in
    let shown = map-id c.as_slice-8.result.now ∙ c.as_slice-8.ensures.value ∙ sym (ap numbers arm) ∙ c.values.ensures.shows in
    let same = same-primitive I64 (map (λ (n : ℤ). n) c.as_slice-8.result.now) (form_of c.validity-validity.result.now) c.args.indices.now typed shown c.validity-validity.ensures.form in
    subst (λ (p : PrimitiveForm). IsRefusedBy (take_fault (optional_numbers p) (length (column_rows (column_of_runs c.args.array.now)))) c.take_native-8.result) same c.take_native-8.ensures.refused

pub returns-in-I64-match_each_native-clause-first : goal.returns-in-I64-match_each_native-clause-first
returns-in-I64-match_each_native-clause-first g c =
    let arm = c.in-I64-match_each_native.is in
    let typed = sym (ap ptype_of arm) ∙ c.values.ensures.typed in
    let shown = map-id c.as_slice-8.result.now ∙ c.as_slice-8.ensures.value ∙ sym (ap numbers arm) ∙ c.values.ensures.shows in
    let same = same-primitive I64 (map (λ (n : ℤ). n) c.as_slice-8.result.now) (form_of c.validity-validity.result.now) c.args.indices.now typed shown c.validity-validity.ensures.form in
    subst (λ (p : PrimitiveForm). (error : VortexError) → take_fault (optional_numbers p) (length (column_rows (column_of_runs c.args.array.now))) ≡ Some error → IsErrOf c.take_native-8.result error) same c.take_native-8.ensures.first

pub returns-in-I64-match_each_native-clause-rows : goal.returns-in-I64-match_each_native-clause-rows
returns-in-I64-match_each_native-clause-rows g c =
    let arm = c.in-I64-match_each_native.is in
    let typed = sym (ap ptype_of arm) ∙ c.values.ensures.typed in
    let shown = map-id c.as_slice-8.result.now ∙ c.as_slice-8.ensures.value ∙ sym (ap numbers arm) ∙ c.values.ensures.shows in
    let same = same-primitive I64 (map (λ (n : ℤ). n) c.as_slice-8.result.now) (form_of c.validity-validity.result.now) c.args.indices.now typed shown c.validity-validity.ensures.form in
    subst (λ (p : PrimitiveForm). IfOk c.take_native-8.result (λ taken. rows taken ≡ take_rows (column_rows (column_of_runs c.args.array.now)) (optional_numbers p))) same c.take_native-8.ensures.rows

pub returns-in-I64-match_each_native-clause-dtype : goal.returns-in-I64-match_each_native-clause-dtype
returns-in-I64-match_each_native-clause-dtype g c =
    let arm = c.in-I64-match_each_native.is in
    let typed = sym (ap ptype_of arm) ∙ c.values.ensures.typed in
    let shown = map-id c.as_slice-8.result.now ∙ c.as_slice-8.ensures.value ∙ sym (ap numbers arm) ∙ c.values.ensures.shows in
    let same = same-primitive I64 (map (λ (n : ℤ). n) c.as_slice-8.result.now) (form_of c.validity-validity.result.now) c.args.indices.now typed shown c.validity-validity.ensures.form in
    subst (λ (p : PrimitiveForm). IfOk c.take_native-8.result (λ taken. dtype_of taken ≡ take_dtype (column_dtype c.args.array.now.values) (primitive_dtype p))) same c.take_native-8.ensures.dtype

pub returns-in-I64-match_each_native-clause-form : goal.returns-in-I64-match_each_native-clause-form
returns-in-I64-match_each_native-clause-form g c =
    let arm = c.in-I64-match_each_native.is in
    let typed = sym (ap ptype_of arm) ∙ c.values.ensures.typed in
    let shown = map-id c.as_slice-8.result.now ∙ c.as_slice-8.ensures.value ∙ sym (ap numbers arm) ∙ c.values.ensures.shows in
    let same = same-primitive I64 (map (λ (n : ℤ). n) c.as_slice-8.result.now) (form_of c.validity-validity.result.now) c.args.indices.now typed shown c.validity-validity.ensures.form in
    subst (λ (p : PrimitiveForm). IfOk c.take_native-8.result (λ taken. TakeLeaves (optional_numbers p) (column_of taken))) same c.take_native-8.ensures.form
