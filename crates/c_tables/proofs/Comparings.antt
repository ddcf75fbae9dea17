-- Rows of tables are compared with a number, or with a value of the type of their column, but for lists.
use Rattle.std.proofs.Common.{◌≡◌, ◌∙◌, ℕ, zero, suc, Bool, true, false, List, Option, None, Some, ap, inl, inr, refl, subst, sym}
use Rattle.std.specs.Prelude.{◌⊎◌, if◌then◌else◌, option_map, slice_get}
use Rattle.std.specs.Option.{option_or}
use Rattle.column_base.specs.Types.{with_nullability}
use Rattle.column_base.specs.declared.dtype.DType.{DType}
use Rattle.column_base.specs.declared.dtype.DType.TheVariants as column
use Rattle.column_base.specs.declared.dtype.Nullability.{Nullability}
use Rattle.column_base.specs.declared.dtype.Nullability.TheVariants.{NonNullable, Nullable}
use Rattle.column_base.specs.declared.error.VortexError.{VortexError}
use Rattle.column_base.specs.declared.error.VortexError.TheVariants.{OutOfMemory, TypeMismatch, Unsupported}
use Rattle.column_core.specs.Kinds.{is_list, list_fault, same_kind}
use Rattle.column_core.specs.ScalarForm.{ScalarForm}
use Rattle.column_core.specs.SameType.{same_dtype-decides}
use Rattle.column_core.specs.Value.{Single}
use Rattle.column_ops.specs.CompareFault.{compare_scalar_fault}
use Rattle.column_ops.specs.declared.operator.CompareOperator.{CompareOperator}
use Rattle.exact_comparisons.specs.ExactRows.{number_fault}
use Rattle.exact_comparisons.specs.Filtered.{IsFilteredByNumber, IsNumberFilterError}
use Rattle.exact_numbers.specs.declared.numbers.ExactNumber.{ExactNumber}
use Rattle.runend_array.specs.Column.{column_dtype}
use Rattle.c_columns.specs.Values.{IsPassed, scalar_in}
use Rattle.c_columns.specs.declared.row_value.RowValue.{RowValue}
use Rattle.c_tables.specs.Filters.{IsFilterAs, IsFilterBy, IsFilterByRefusal, compared_number, number_without}
use Rattle.c_tables.proofs.TableCopies.{one_place, some_same}
use Rattle.tables.specs.Selected.{IsFilterByError, IsFilteredBy}
use Rattle.tables.specs.Tables.{IsKept, IsNamed, IsTable, TableForm}
use Rattle.tables.specs.declared.fault.TableError.{TableError}
use Rattle.tables.specs.declared.fault.TableError.TheVariants.{Refused, NameCount, RowCount, RepeatedName, UnknownName, NewNameCount, RepeatedNewName, OtherNames, OtherType, NoKeys, UnsupportedKey, RepeatedAnswer, UnknownColumn, UnsupportedAnswer, SumOverflow}
use Rattle.typed_columns.specs.Typed.{TypedForm}
use Rattle.typed_kernels.specs.Served.{served}

without_null : (t : DType) (m : Nullability) → with_nullability (with_nullability t m) NonNullable ≡ with_nullability t NonNullable
without_null (column.Bool n) m = refl
without_null (column.Primitive t n) m = refl
without_null (column.Decimal d n) m = refl
without_null (column.Utf8 n) m = refl
without_null (column.Binary n) m = refl
without_null (column.List e n) m = refl

kind_same : (t : DType) (m : Nullability) → same_kind t (with_nullability t m) ≡ true
kind_same t m = (same_dtype-decides (with_nullability t NonNullable) (with_nullability (with_nullability t m) NonNullable)).1 (sym (without_null t m))

not_list : (listed : Bool) → (if listed then Some Unsupported else None) ≡ None → listed ≡ false
not_list true none = cc
not_list false none = refl

no_fault : (listed same : Bool) → listed ≡ false → same ≡ true → (if listed then Some Unsupported else (if same then None else Some TypeMismatch)) ≡ None
no_fault false true single kind = refl
no_fault false false single kind = cc
no_fault true same single kind = cc

pub compared : (t : DType) (kind : ℕ) (value : RowValue) (text : List ℕ) → list_fault t ≡ None → compare_scalar_fault t (scalar_in t kind value text).dtype ≡ None
compared t zero value text single = no_fault (is_list t) (same_kind t (with_nullability t Nullable)) (not_list (is_list t) single) (kind_same t Nullable)
compared t (suc kind) value text single = no_fault (is_list t) (same_kind t (with_nullability t NonNullable)) (not_list (is_list t) single) (kind_same t NonNullable)

module _ (t : TableForm) (table : IsTable t) (name : List ℕ) (value : RowValue) (text : List ℕ) where
  -- one name has one column
  one_column : (one other : TypedForm) → IsNamed t name one → IsNamed t name other → one ≡ other
  one_column one other first second =
      let at : second.place ≡ first.place = one_place t.names name second.place first.place table.distinct second.name_there.within first.name_there.within second.name_there.there first.name_there.there in
      some_same one other (sym first.column_there ∙ ap (slice_get t.columns) (sym at) ∙ second.column_there)

  short_only : (fault : Option VortexError) (error : VortexError) → fault ≡ None → option_or fault (Some OutOfMemory) ≡ Some error → error ≡ OutOfMemory
  short_only None error none is = cc
  short_only (Some why) error none is = cc

  -- the column is there, and no list: only memory is refused
  pub filter_short : (column : TypedForm) (error : TableError) → IsNamed t name column → list_fault (column_dtype column.column) ≡ None
      → IsFilterByError t name (scalar_in (column_dtype column.column) value.kind value text).dtype error → IsFilterByRefusal name value text t error
  filter_short column (Refused error) named single (other, there, refused) =
      let same : other ≡ column = one_column other column there named in
      let dtype = (scalar_in (column_dtype column.column) value.kind value text).dtype in
      let fault : option_or (compare_scalar_fault (column_dtype column.column) dtype) (Some OutOfMemory) ≡ Some error =
      subst (λ (c : TypedForm). option_or (compare_scalar_fault (column_dtype c.column) dtype) (Some OutOfMemory) ≡ Some error) same refused in
      (column, named, inr (single, inr (short_only (compare_scalar_fault (column_dtype column.column) dtype) error (compared (column_dtype column.column) value.kind value text single) fault)))
  filter_short column (UnknownName place) named single (zeroth, unknown) = absurd (unknown named.place named.name_there)
  filter_short column (NameCount n m) named single refused = absurd refused
  filter_short column (RowCount place found wanted) named single refused = absurd refused
  filter_short column (RepeatedName earlier place) named single refused = absurd refused
  filter_short column (NewNameCount n m) named single refused = absurd refused
  filter_short column (RepeatedNewName earlier place) named single refused = absurd refused
  filter_short column OtherNames named single refused = absurd refused
  filter_short column (OtherType place) named single refused = absurd refused
  filter_short column NoKeys named single refused = absurd refused
  filter_short column (UnsupportedKey key) named single refused = absurd refused
  filter_short column (RepeatedAnswer earlier answer) named single refused = absurd refused
  filter_short column (UnknownColumn answer) named single refused = absurd refused
  filter_short column (UnsupportedAnswer answer) named single refused = absurd refused
  filter_short column (SumOverflow answer group) named single refused = absurd refused

-- what is compared with numbers has no fault
no_number_fault : (fault : Option VortexError) (value : RowValue) (number : ExactNumber) → number_without fault value ≡ Some number → fault ≡ None
no_number_fault None value number is = refl
no_number_fault (Some why) value number is = cc

-- the same under a name that is equal
module _ (t : TableForm) (table : IsTable t) (name under : List ℕ) (same : under ≡ name) (value : RowValue) (text : List ℕ) (column : TypedForm) (found : IsNamed t under column) where
  named : IsNamed t name column
  named = subst (λ (n : List ℕ). IsNamed t n column) same found

  pub filter_lists : (error : VortexError) → list_fault (column_dtype column.column) ≡ Some error → IsFilterByRefusal name value text t (Refused error)
  filter_lists error listed = (column, named, inl listed)

  -- a number next to numbers: only memory is refused
  pub exact_refused : (number : ExactNumber) (error : TableError) → compared_number column value ≡ Some number → list_fault (column_dtype column.column) ≡ None → IsNumberFilterError t under error → IsFilterByRefusal name value text t error
  exact_refused number (Refused error) given single (other, there, refused) =
      let own : other ≡ column = one_column t table under value text other column there found in
      let fault : option_or (number_fault (served column) (column_dtype column.column)) (Some OutOfMemory) ≡ Some error =
      subst (λ (c : TypedForm). option_or (number_fault (served c) (column_dtype c.column)) (Some OutOfMemory) ≡ Some error) own refused in
      let none = no_number_fault (number_fault (served column) (column_dtype column.column)) value number given in
      (column, named, inr (single, inr (short_only t table under value text (number_fault (served column) (column_dtype column.column)) error none fault)))
  exact_refused number (UnknownName place) given single (zeroth, unknown) = absurd (unknown found.place found.name_there)
  exact_refused number (NameCount n m) given single refused = absurd refused
  exact_refused number (RowCount place count wanted) given single refused = absurd refused
  exact_refused number (RepeatedName earlier place) given single refused = absurd refused
  exact_refused number (NewNameCount n m) given single refused = absurd refused
  exact_refused number (RepeatedNewName earlier place) given single refused = absurd refused
  exact_refused number OtherNames given single refused = absurd refused
  exact_refused number (OtherType place) given single refused = absurd refused
  exact_refused number NoKeys given single refused = absurd refused
  exact_refused number (UnsupportedKey key) given single refused = absurd refused
  exact_refused number (RepeatedAnswer earlier answer) given single refused = absurd refused
  exact_refused number (UnknownColumn answer) given single refused = absurd refused
  exact_refused number (UnsupportedAnswer answer) given single refused = absurd refused
  exact_refused number (SumOverflow answer group) given single refused = absurd refused

  pub exact_made : (operator : CompareOperator) (number : ExactNumber) (kept after : TableForm) → after ≡ kept → compared_number column value ≡ Some number → IsFilteredByNumber t under operator number kept → IsKept t kept
      → IsFilterBy name operator value text t after
  exact_made operator number kept after back given filtered stays =
      subst (λ (u : TableForm). IsFilterBy name operator value text t u) (sym back) (record {
        column = column;
        named = named;
        filtered = subst (λ (n : Option ExactNumber). IsFilterAs n column name operator value text t kept) (sym given) (subst (λ (n : List ℕ). IsFilteredByNumber t n operator number kept) same filtered);
        kept = stays;
      })

  -- a value of the column's type
  pub filter_other : (error : VortexError) → compared_number column value ≡ None → list_fault (column_dtype column.column) ≡ None
      → (error ≡ OutOfMemory) ⊎ ((error ≡ TypeMismatch) × (¬ IsPassed (column_dtype column.column) value.kind value text)) → IsFilterByRefusal name value text t (Refused error)
  filter_other error none single (inl short) = (column, named, inr (single, inr short))
  filter_other error none single (inr (mismatch, other)) = (column, named, inr (single, inl (mismatch, none, other)))

  pub filter_boxed : (error : VortexError) → list_fault (column_dtype column.column) ≡ None → error ≡ OutOfMemory → IsFilterByRefusal name value text t (Refused error)
  filter_boxed error single short = (column, named, inr (single, inr short))

  pub filter_failed : (scalar : ScalarForm) (error : TableError) → scalar ≡ scalar_in (column_dtype column.column) value.kind value text → list_fault (column_dtype column.column) ≡ None → IsFilterByError t under scalar.dtype error
      → IsFilterByRefusal name value text t error
  filter_failed scalar error is single refused =
      filter_short t table name value text column error named single
      (subst (λ (n : List ℕ). IsFilterByError t n (scalar_in (column_dtype column.column) value.kind value text).dtype error) same (subst (λ (s : ScalarForm). IsFilterByError t under s.dtype error) is refused))

  pub filter_made : (operator : CompareOperator) (scalar : ScalarForm) (kept after : TableForm) → after ≡ kept → scalar ≡ scalar_in (column_dtype column.column) value.kind value text → compared_number column value ≡ None
      → IsPassed (column_dtype column.column) value.kind value text → IsFilteredBy t under operator scalar.dtype (option_map Single scalar.value) kept → IsKept t kept → IsFilterBy name operator value text t after
  filter_made operator scalar kept after back is none passed filtered stays =
      let compared = subst (λ (s : ScalarForm). IsFilteredBy t name operator s.dtype (option_map Single s.value) kept) is (subst (λ (n : List ℕ). IsFilteredBy t n operator scalar.dtype (option_map Single scalar.value) kept) same filtered) in
      subst (λ (u : TableForm). IsFilterBy name operator value text t u) (sym back) (record {
        column = column;
        named = named;
        filtered = subst (λ (n : Option ExactNumber). IsFilterAs n column name operator value text t kept) (sym none) (passed, compared);
        kept = stays;
      })
