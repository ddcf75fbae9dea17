-- Builders to which rows were appended, or not.
use Rattle.std.proofs.Common.{◌≡◌, ◌∙◌, ◌++◌, ℕ, List, inl, inr, subst, sym}
use Rattle.std.specs.Prelude.{Option, None, Some, Result, Ok, Err, IfErr, OnErr, OnOk, length, replicate}
use Rattle.column_base.specs.declared.error.VortexError.{VortexError}
use Rattle.column_core.specs.Refusal.{IsRefusedBy}
use Rattle.column_core.specs.ScalarForm.{ScalarForm}
use Rattle.column_core.specs.Value.{Value}
use Rattle.runend_builder.specs.Builder.{Built, append_fault, scalar_row}
use Rattle.c_columns.specs.Builders.{PassedAppendFault, passed_row, with_rows}
use Rattle.c_columns.specs.Ending.{IsShortOr}
use Rattle.c_columns.specs.Makers.{ConstantFault}
use Rattle.c_columns.specs.Values.{value_in}
use Rattle.c_columns.specs.declared.row_value.RowValue.{RowValue}

-- the rows of a column
pub column_grown : {T E : Type 0} (result : Result T E) (old new : Built) (more : List (Option Value)) → new.dtype ≡ old.dtype → OnOk result (new.rows ≡ old.rows ++ more) → OnOk result (new ≡ with_rows old more)
column_grown (Ok value) old new more typed grown = (λ i. record { dtype = typed i; rows = grown i })
column_grown (Err error) old new more typed grown = tt

pub still_kept : {T E : Type 0} (result : Result T E) (old new : Built) → new.dtype ≡ old.dtype → OnErr result (new.rows ≡ old.rows) → OnErr result (new ≡ old)
still_kept (Ok value) old new typed kept = tt
still_kept (Err error) old new typed kept = (λ i. record { dtype = typed i; rows = kept i })

-- `count` rows of the scalar that is passed
pub value_grown : {T E : Type 0} (result : Result T E) (old new : Built) (scalar : ScalarForm) (value : RowValue) (text : List ℕ) (count : ℕ)
    → scalar ≡ record { dtype = old.dtype; value = value_in value.kind value text } → new.dtype ≡ old.dtype → OnOk result (new.rows ≡ old.rows ++ replicate count (scalar_row scalar))
    → OnOk result (new ≡ with_rows old (replicate count (passed_row value text)))
value_grown result old new scalar value text count same typed grown =
    subst (λ (s : ScalarForm). OnOk result (new ≡ with_rows old (replicate count (scalar_row s)))) same (column_grown result old new (replicate count (scalar_row scalar)) typed grown)

-- it is not a value of the type, or there were too many rows
pub no_value : (built : Built) (value : RowValue) (text : List ℕ) (count : ℕ) (error : VortexError) → IsShortOr (ConstantFault built.dtype value text) error → IsShortOr (PassedAppendFault built value text count) error
no_value built value text count error (inl short) = inl short
no_value built value text count error (inr wrong) = inr (inl wrong)

pub value_refused : {T : Type 0} (result : Result T VortexError) (built : Built) (scalar : ScalarForm) (value : RowValue) (text : List ℕ) (count : ℕ)
    → scalar ≡ record { dtype = built.dtype; value = value_in value.kind value text } → ((error : VortexError) → ¬ (ConstantFault built.dtype value text error))
    → IsRefusedBy (append_fault built.dtype scalar.dtype (length built.rows) count) result
    → IfErr result (λ error. IsShortOr (PassedAppendFault built value text count) error)
value_refused (Ok done) built scalar value text count same served refused = tt
value_refused (Err error) built scalar value text count same served (inl short) = inl short
value_refused (Err error) built scalar value text count same served (inr found) =
    inr (inr (served, subst (λ (s : ScalarForm). append_fault built.dtype s.dtype (length built.rows) count ≡ Some error) same found))

-- it is a value of the type, and there are not too many rows
pub value_served : {T : Type 0} (result : Result T VortexError) (built : Built) (scalar : ScalarForm) (value : RowValue) (text : List ℕ) (count : ℕ)
    → scalar ≡ record { dtype = built.dtype; value = value_in value.kind value text } → ((error : VortexError) → ¬ (ConstantFault built.dtype value text error))
    → IsRefusedBy (append_fault built.dtype scalar.dtype (length built.rows) count) result → OnOk result ((error : VortexError) → ¬ (PassedAppendFault built value text count error))
value_served (Ok done) built scalar value text count same served none = λ error fault.
    let fits : append_fault built.dtype built.dtype (length built.rows) count ≡ None = subst (λ (s : ScalarForm). append_fault built.dtype s.dtype (length built.rows) count ≡ None) same none in
    elim fault as (λ _. ⊥) [ inl wrong ↦ served error wrong | inr many ↦ (let both : None ≡ Some error = sym fits ∙ many.1 in cc) ]
value_served (Err error) built scalar value text count same served refused = tt
