-- Forms that codes take of a dictionary, by its type.
use Rattle.std.proofs.Common.{◌≡◌, Bool, false, refl, subst, sym}
use Rattle.column_base.specs.declared.dtype.DType.{DType}
use Rattle.column_base.specs.declared.dtype.DType.TheVariants as column
use Rattle.column_base.specs.declared.dtype.Nullability.{Nullability}
use Rattle.column_base.specs.ValidityForm.{nullability_in}
use Rattle.column_base.specs.Types.{nullability_of, with_nullability}
use Rattle.column_core.specs.BoolForm.{BoolForm}
use Rattle.column_core.specs.PrimitiveForm.{PrimitiveForm}
use Rattle.column_core.specs.VarBinForm.{kind_dtype}
use Rattle.column_core.specs.declared.varbinview.VarBinKind.{VarBinKind}
use Rattle.column_core.specs.declared.varbinview.VarBinKind.TheVariants.{Utf8, Binary}
use Rattle.column_ops.specs.Nullable.{either_nullable, take_dtype}
use Rattle.runend_array.specs.Array.{column_of, dtype_of}
use Rattle.runend_array.specs.Column.{Column, Runs}
use Rattle.runend_array.specs.Encoding.{IsComputedFlat}
use Rattle.runend_array.specs.declared.array_ref.ArrayRef.{ArrayRef}
use Rattle.runend_array.specs.declared.array_ref.ArrayRef.TheVariants as array
use Rattle.runend_map.specs.Codes.{keeps_runs}
use Rattle.runend_map.specs.TakenForm.{TakeFromLeaves}

-- whether the type has null decides no form
form_kind : (dtype : DType) (n : Nullability) (codes : Runs) (taken : Column) → TakeFromLeaves (keeps_runs (with_nullability dtype n)) (with_nullability dtype n) codes taken
    → TakeFromLeaves (keeps_runs dtype) dtype codes taken
form_kind (column.Bool m) n codes taken form = form
form_kind (column.Primitive t m) n codes taken form = form
form_kind (column.Decimal d m) n codes taken form = form
form_kind (column.Utf8 m) n codes taken form = form
form_kind (column.Binary m) n codes taken form = form
form_kind (column.List e m) n codes taken form = form

-- what is taken has the dictionary's kind
pub taken_kind : (dictionary codes_type : DType) (codes : Runs) (taken : Column) → TakeFromLeaves (keeps_runs (take_dtype dictionary codes_type)) (take_dtype dictionary codes_type) codes taken
    → TakeFromLeaves (keeps_runs dictionary) dictionary codes taken
taken_kind dictionary codes_type codes taken form = form_kind dictionary (either_nullable (nullability_of dictionary) (nullability_of codes_type)) codes taken form

views_lose : (kind : VarBinKind) (n : Nullability) → keeps_runs (kind_dtype kind n) ≡ false
views_lose Utf8 n = refl
views_lose Binary n = refl

-- only runs over integers and booleans are kept
pub others_flat : {A : Type 0} (values : ArrayRef A) (codes : Runs) (taken : Column) → ((form : PrimitiveForm) → ¬ (values ≡ array.Primitive form)) → ((form : BoolForm) → ¬ (values ≡ array.Bool form))
    → IsComputedFlat (column_of values) → IsComputedFlat taken → TakeFromLeaves (keeps_runs (dtype_of values)) (dtype_of values) codes taken
others_flat (array.Primitive form) codes taken numbers truths flat shown = absurd (numbers form refl)
others_flat (array.Bool form) codes taken numbers truths flat shown = absurd (truths form refl)
others_flat (array.Decimal form) codes taken numbers truths flat shown = shown
others_flat (array.VarBinView form) codes taken numbers truths flat shown =
    let dtype = kind_dtype form.kind (nullability_in form.validity) in
    subst (λ (kept : Bool). TakeFromLeaves kept dtype codes taken) (sym (views_lose form.kind (nullability_in form.validity))) shown
others_flat (array.ListView lists) codes taken numbers truths flat shown = shown
others_flat (array.Constant constant) codes taken numbers truths flat shown = absurd flat
others_flat (array.RunEnd runs) codes taken numbers truths flat shown = absurd flat
