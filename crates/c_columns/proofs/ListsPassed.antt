-- Why what C passes does not make lists.
use Rattle.std.proofs.Common.{◌≡◌, ◌⊎◌, ℕ, List, length, inl, inr, subst, ⊎_elim}
use Rattle.std.specs.Prelude.{Some, None}
use Rattle.std.specs.Global.{Global}
use Rattle.column_base.specs.declared.error.VortexError.{VortexError}
use Rattle.column_base.specs.declared.error.VortexError.TheVariants.{OutOfMemory}
use Rattle.column_base.specs.ValidityForm.{ValidityForm}
use Rattle.column_core.specs.Refusal.{IsErrorFor}
use Rattle.runend_array.specs.Array.{column_of}
use Rattle.runend_array.specs.declared.array_ref.ArrayRef.{ArrayRef}
use Rattle.runend_column.specs.ListParts.{ListsOverFault}
use Rattle.c_columns.specs.Bits.{validity_by, validity_fault}
use Rattle.c_columns.specs.Ending.{IsShortOr}
use Rattle.c_columns.specs.Lists.{PassedListsFault}

module _ (offsets sizes : List ℕ) (nulls : ℕ) (bits : List ℕ) (first : ℕ) (elements : ArrayRef Global) (error : VortexError) where
  -- the bits of the validity were refused
  pub bits_refused : (count : ℕ) → count ≡ length offsets → IsErrorFor (validity_fault nulls bits first count) error → IsShortOr (PassedListsFault offsets sizes nulls bits first elements) error
  bits_refused count counted why =
      ⊎_elim
      (λ (short : error ≡ OutOfMemory). inl short)
      (λ (fault : validity_fault nulls bits first count ≡ Some error). inr (inl (subst (λ (n : ℕ). validity_fault nulls bits first n ≡ Some error) counted fault)))
      why

  -- the parts were refused
  pub parts_refused : (count : ℕ) (validity : ValidityForm) → count ≡ length offsets → validity_fault nulls bits first count ≡ None → validity ≡ validity_by nulls bits first count
      → ((error ≡ OutOfMemory) ⊎ ListsOverFault (column_of elements) offsets sizes validity error) → IsShortOr (PassedListsFault offsets sizes nulls bits first elements) error
  parts_refused count validity counted accepted told why =
      let none : validity_fault nulls bits first (length offsets) ≡ None = subst (λ (n : ℕ). validity_fault nulls bits first n ≡ None) counted accepted in
      let same : validity ≡ validity_by nulls bits first (length offsets) = subst (λ (n : ℕ). validity ≡ validity_by nulls bits first n) counted told in
      ⊎_elim
      (λ (short : error ≡ OutOfMemory). inl short)
      (λ (fault : ListsOverFault (column_of elements) offsets sizes validity error).
      inr (inr (none, subst (λ (v : ValidityForm). ListsOverFault (column_of elements) offsets sizes v error) same fault)))
      why
