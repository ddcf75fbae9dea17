-- What bytes are as messages, with a limited number of levels of runs.
use Rattle.std.specs.Prelude.{◌≡◌, ◌⊎◌, ℕ, ℤ, ◌≤◌, true, Some, None, List, [], length, FitsSigned}
use Rattle.std.specs.Int.{w128}
use Rattle.column_base.specs.declared.dtype.Nullability.{Nullability}
use Rattle.column_base.specs.declared.dtype.Nullability.TheVariants.{Nullable}
use Rattle.column_base.specs.declared.dtype.DecimalDType.{DecimalDType}
use Rattle.column_base.specs.declared.dtype.ElementDType.{ElementDType}
use Rattle.column_base.specs.declared.dtype.DType.{DType}
use Rattle.column_base.specs.declared.dtype.DType.TheVariants as column
use Rattle.column_base.specs.declared.dtype.PType.{PType}
use Rattle.column_base.specs.declared.error.VortexError.{VortexError}
use Rattle.column_base.specs.declared.error.VortexError.TheVariants.{Unsupported, OutOfMemory}
use Rattle.column_base.specs.Types.{HasNumber, nullability_of}
use Rattle.column_core.specs.Value.{FlatValue, Number, DecimalNumber}
use Rattle.column_core.specs.ScalarForm.{ScalarForm}
use Rattle.column_core.specs.Leaf.{OfNumbers, OfTruths, OfDecimals}
use Rattle.column_core.specs.PrimitiveForm.{PrimitiveForm, primitive_dtype}
use Rattle.column_core.specs.BoolForm.{BoolForm}
use Rattle.column_core.specs.DecimalForm.{DecimalForm}
use Rattle.column_fields.specs.NumberBytes.{number_bytes}
use Rattle.column_fields.specs.DecimalBytes.{decimal_bytes}
use Rattle.column_fields.specs.ElementFields.{IsElementType}
use Rattle.column_fields.specs.Lengths.{lengths_bytes, Rises, AreEndsOf}
use Rattle.runend_windows.specs.Ends.{IsEndsType, ends_of}
use Rattle.runend_array.specs.Column.{Column, OfRuns, AreRuns, runs_with, column_dtype, depth}
use Rattle.column_bytes.specs.Packed.{IsPacked}
use Rattle.column_bytes.specs.Bytes.{kind_number, form_number, column_count, leaf_fields, column_body, column_bytes}
use Rattle.column_bytes.specs.Values.{IsPlainType, IsStoredValue, IsStoredScalar, some_bytes, value_fields, constant_fields}
use Rattle.column_bytes.specs.Stored.{IsStored, AreNumbers, AreTruths, AreDecimals}

-- the column has bytes, and at most `levels` levels of runs
pub record IsWritable (levels : ℕ) (c : Column) : Type 0 where
  pub stored : IsStored c
  pub shallow : depth c ≤ levels

-- the bytes are those of the column, whose texts and bytes are packed
pub record IsMessage (levels : ℕ) (bytes : List ℕ) (c : Column) : Type 0 where
  pub writable : IsWritable levels c
  pub packed : IsPacked c
  pub spelt : bytes ≡ column_bytes c

pub record IsNoMessage (levels : ℕ) (bytes : List ℕ) : Type 0 where
  pub none : (c : Column) → IsMessage levels bytes c → ⊥

-- ---- what follows a header

-- the bytes are what the message of the column says after a header with these numbers
pub record IsBody (levels kind form rows : ℕ) (bytes : List ℕ) (c : Column) : Type 0 where
  pub writable : IsWritable levels c
  pub packed : IsPacked c
  pub kind_is : kind_number (column_dtype c) ≡ kind
  pub form_is : form_number c ≡ form
  pub rows_is : column_count c ≡ rows
  pub spelt : bytes ≡ column_body c

pub record IsNoBody (levels kind form rows : ℕ) (bytes : List ℕ) : Type 0 where
  pub none : (c : Column) → IsBody levels kind form rows bytes c → ⊥

-- the bytes are what the message of `rows` numbers of a type says after its header
pub record AreNumbersOf (t : PType) (rows : ℕ) (bytes : List ℕ) (form : PrimitiveForm) : Type 0 where
  pub typed : form.ptype ≡ t
  pub counted : length form.numbers ≡ rows
  pub stored : AreNumbers form
  pub spelt : bytes ≡ leaf_fields (OfNumbers form)

pub record AreNoNumbersOf (t : PType) (rows : ℕ) (bytes : List ℕ) : Type 0 where
  pub none : (form : PrimitiveForm) → AreNumbersOf t rows bytes form → ⊥

-- the bytes are what the message of `rows` booleans says after its header
pub record AreTruthsOf (rows : ℕ) (bytes : List ℕ) (form : BoolForm) : Type 0 where
  pub counted : length form.bits ≡ rows
  pub stored : AreTruths form
  pub spelt : bytes ≡ leaf_fields (OfTruths form)

pub record AreNoTruthsOf (rows : ℕ) (bytes : List ℕ) : Type 0 where
  pub none : (form : BoolForm) → AreTruthsOf rows bytes form → ⊥

-- the bytes are what the message of `rows` decimals says after its header
pub record AreDecimalsOf (rows : ℕ) (bytes : List ℕ) (form : DecimalForm) : Type 0 where
  pub counted : length form.numbers ≡ rows
  pub stored : AreDecimals form
  pub spelt : bytes ≡ leaf_fields (OfDecimals form)

pub record AreNoDecimalsOf (rows : ℕ) (bytes : List ℕ) : Type 0 where
  pub none : (form : DecimalForm) → AreDecimalsOf rows bytes form → ⊥

-- the bytes are what the message of a constant of this value says after its header
pub record IsScalarIn (kind : ℕ) (bytes : List ℕ) (scalar : ScalarForm) : Type 0 where
  pub kind_is : kind_number scalar.dtype ≡ kind
  pub stored : IsStoredScalar scalar.dtype scalar.value
  pub spelt : bytes ≡ constant_fields scalar.dtype scalar.value

pub record HasNoScalarIn (kind : ℕ) (bytes : List ℕ) : Type 0 where
  pub none : (scalar : ScalarForm) → IsScalarIn kind bytes scalar → ⊥

-- the scalar is a value of that type of decimals, with these bytes
pub record IsDecimalOf (decimal : DecimalDType) (n : Nullability) (bytes : List ℕ) (scalar : ScalarForm) : Type 0 where
  pub number : ℤ
  pub is : scalar ≡ record { dtype = column.Decimal decimal n; value = Some (DecimalNumber number) }
  pub fits : FitsSigned w128 number
  pub spelt : decimal_bytes number ≡ bytes

-- the scalar is null, of that type of decimals with null, and has no bytes
pub record IsNullDecimal (decimal : DecimalDType) (bytes : List ℕ) (scalar : ScalarForm) : Type 0 where
  pub is : scalar ≡ record { dtype = column.Decimal decimal Nullable; value = None }
  pub spelt : bytes ≡ []

-- the bytes are what the message of a constant of lists of this type says after its header: it is null
pub record IsNullOfLists (bytes : List ℕ) (element : ElementDType) : Type 0 where
  pub typed : IsElementType element
  pub spelt : bytes ≡ constant_fields (column.List element Nullable) None

pub record IsNullOfNoLists (bytes : List ℕ) : Type 0 where
  pub none : (element : ElementDType) → IsNullOfLists bytes element → ⊥

-- the bytes are what the message of a constant of integers, booleans, texts or bytes says after its header
pub record IsValueIn (kind : ℕ) (bytes : List ℕ) (scalar : ScalarForm) : Type 0 where
  pub kind_is : kind_number scalar.dtype ≡ kind
  pub stored : IsStoredValue scalar.dtype scalar.value
  pub spelt : bytes ≡ value_fields scalar.dtype scalar.value

pub record HasNoValueIn (kind : ℕ) (bytes : List ℕ) : Type 0 where
  pub none : (scalar : ScalarForm) → IsValueIn kind bytes scalar → ⊥

-- the scalar is null, of the type of that number with null, and has no bytes
pub record IsNullOf (kind : ℕ) (bytes : List ℕ) (scalar : ScalarForm) : Type 0 where
  pub is : scalar.value ≡ None
  pub kind_is : kind_number scalar.dtype ≡ kind
  pub stored : IsStoredValue scalar.dtype None
  pub spelt : bytes ≡ []

pub record HasNoNullOf (kind : ℕ) (bytes : List ℕ) : Type 0 where
  pub none : (scalar : ScalarForm) → IsNullOf kind bytes scalar → ⊥

-- the scalar is a value of the type of that number, with these bytes
pub record IsSomeOf (kind : ℕ) (n : Nullability) (bytes : List ℕ) (scalar : ScalarForm) : Type 0 where
  pub value : FlatValue
  pub is : scalar.value ≡ Some value
  pub kind_is : kind_number scalar.dtype ≡ kind
  pub nullability : nullability_of scalar.dtype ≡ n
  pub stored : IsStoredValue scalar.dtype (Some value)
  pub spelt : some_bytes scalar.dtype value ≡ bytes

pub record HasNoSomeOf (kind : ℕ) (n : Nullability) (bytes : List ℕ) : Type 0 where
  pub none : (scalar : ScalarForm) → IsSomeOf kind n bytes scalar → ⊥

-- the value is a number of the native type with these bytes
pub record IsWholeOf (t : PType) (bytes : List ℕ) (value : FlatValue) : Type 0 where
  pub number : ℤ
  pub is : value ≡ Number number
  pub has : HasNumber t number
  pub spelt : number_bytes t number ≡ bytes

-- no value of the type has these bytes
pub record HasNoValueOf (t : DType) (bytes : List ℕ) : Type 0 where
  pub none : (value : FlatValue) → IsStoredValue t (Some value) → some_bytes t value ≡ bytes → ⊥

-- no type of values has this number
pub record HasNoPlainType (kind : ℕ) : Type 0 where
  pub none : (t : DType) → IsPlainType t → kind_number t ≡ kind → ⊥

-- a flat column of ends of the type, of runs with these lengths
pub record IsEndsColumn (t : PType) (lengths : List ℕ) (form : PrimitiveForm) : Type 0 where
  pub typed : form.ptype ≡ t
  pub plain : IsEndsType (primitive_dtype form)
  pub fit : AreEndsOf t (ends_of form)
  pub rise : Rises true 0 (ends_of form)
  pub spelt : lengths ≡ lengths_bytes 0 (ends_of form)

-- the runs over these values, with these run lengths
pub record AreRunsOf (kind rows offset : ℕ) (t : PType) (lengths : List ℕ) (values c : Column) : Type 0 where
  pub ends : List ℕ
  pub is : c ≡ OfRuns t ends values offset rows
  pub fit : AreEndsOf t ends
  pub runs : AreRuns (runs_with t ends values offset rows)
  pub kind_is : kind_number (column_dtype values) ≡ kind
  pub spelt : lengths ≡ lengths_bytes 0 ends

pub record AreNoRunsOf (kind rows offset : ℕ) (t : PType) (lengths : List ℕ) (values : Column) : Type 0 where
  pub none : (c : Column) → AreRunsOf kind rows offset t lengths values c → ⊥

-- writing is refused
abbrev pub IsUnsupportedOrMemory : VortexError → Type 0
IsUnsupportedOrMemory error = (error ≡ Unsupported) ⊎ (error ≡ OutOfMemory)

-- these are runs over each column that the values are the message of
pub record JoinsRuns (kind rows offset : ℕ) (t : PType) (lengths values : List ℕ) : Type 0 where
  pub some : (levels : ℕ) (v : Column) → IsMessage levels values v → (c : Column) × AreRunsOf kind rows offset t lengths v c

pub record JoinsNoRuns (kind rows offset : ℕ) (t : PType) (lengths values : List ℕ) : Type 0 where
  pub none : (levels : ℕ) (v : Column) → IsMessage levels values v → AreNoRunsOf kind rows offset t lengths v
