-- How forms of columns are distinguished: by their levels of runs, the outermost first, and what is below them.
use Rattle.std.specs.Prelude.{◌≡◌, ℕ, zero, suc, ℤ, Bool, List, [], ◌∷◌, Option, ◌⊎◌, refl}
use Rattle.std.specs.Coded.{Coded, code_by, coded×, coded⊎, coded_ℕ, coded_ℤ, coded_bool, coded_list, coded_option}
use Rattle.std.proofs.Common.{ap, inl, inr}
use Rattle.column_base.specs.declared.dtype.PType.{PType}
use Rattle.column_base.specs.declared.dtype.DType.{DType}
use Rattle.column_base.specs.declared.dtype.DecimalDType.{DecimalDType}
use Rattle.column_base.specs.contracts.dtype.PType as ptype
use Rattle.column_base.specs.contracts.dtype.DType as dtype
use Rattle.column_base.specs.contracts.dtype.DecimalDType as decimal
use Rattle.column_base.specs.ValidityForm.{ValidityForm, NeverNull, NoneNull, AllNull, ByBits}
use Rattle.column_core.specs.Value.{FlatValue, Truth, Number, DecimalNumber, Text, Bytes}
use Rattle.column_core.specs.PrimitiveForm.{PrimitiveForm, primitive_with}
use Rattle.column_core.specs.BoolForm.{BoolForm, bool_with}
use Rattle.column_core.specs.DecimalForm.{DecimalForm, decimal_with}
use Rattle.column_core.specs.VarBinForm.{VarBinForm, varbin_with}
use Rattle.column_core.specs.declared.varbinview.View.{View}
use Rattle.column_core.specs.declared.varbinview.VarBinKind.{VarBinKind}
use Rattle.column_core.specs.contracts.varbinview.VarBinKind as kind
use Rattle.column_core.specs.Leaf.{Leaf, OfNumbers, OfTruths, OfDecimals, OfVarBins}
use Rattle.runend_array.specs.Lists.{Index, PlainIndex, RunIndex, RowValidityForm, ByRows, ByRuns, Lists, lists_with}
use Rattle.runend_array.specs.Column.{Column, OfLeaf, OfConstant, OfLists, OfRuns, Constant, Runs, runs_with}

-- a native type, and a type of a column
abbrev pub ptype_code : Coded PType
ptype_code = ptype.the_row.coded

abbrev pub dtype_code : Coded DType
dtype_code = dtype.the_row.coded

-- a validity is one of three words, or bits
abbrev pub StoredValidity : Type 0
StoredValidity = ℕ ⊎ List Bool

abbrev pub stored_validity : ValidityForm → StoredValidity
stored_validity NeverNull = inl 0
stored_validity NoneNull = inl 1
stored_validity AllNull = inl 2
stored_validity (ByBits bits) = inr bits

abbrev pub validity_word : ℕ → ValidityForm
validity_word zero = NeverNull
validity_word (suc zero) = NoneNull
validity_word (suc (suc n)) = AllNull

abbrev pub restored_validity : StoredValidity → ValidityForm
restored_validity (inl n) = validity_word n
restored_validity (inr bits) = ByBits bits

pub restored-stored_validity : (v : ValidityForm) → restored_validity (stored_validity v) ≡ v
restored-stored_validity NeverNull = refl
restored-stored_validity NoneNull = refl
restored-stored_validity AllNull = refl
restored-stored_validity (ByBits bits) = refl

abbrev pub validity_code : Coded ValidityForm
validity_code = code_by StoredValidity (coded⊎ coded_ℕ (coded_list coded_bool)) stored_validity restored_validity restored-stored_validity

-- a flat value is one of five
abbrev pub StoredFlat : Type 0
StoredFlat = Bool ⊎ (ℤ ⊎ (ℤ ⊎ (List ℕ ⊎ List ℕ)))

abbrev pub stored_flat : FlatValue → StoredFlat
stored_flat (Truth b) = inl b
stored_flat (Number z) = inr (inl z)
stored_flat (DecimalNumber z) = inr (inr (inl z))
stored_flat (Text bytes) = inr (inr (inr (inl bytes)))
stored_flat (Bytes bytes) = inr (inr (inr (inr bytes)))

abbrev pub restored_flat : StoredFlat → FlatValue
restored_flat (inl b) = Truth b
restored_flat (inr (inl z)) = Number z
restored_flat (inr (inr (inl z))) = DecimalNumber z
restored_flat (inr (inr (inr (inl bytes)))) = Text bytes
restored_flat (inr (inr (inr (inr bytes)))) = Bytes bytes

pub restored-stored_flat : (v : FlatValue) → restored_flat (stored_flat v) ≡ v
restored-stored_flat (Truth b) = refl
restored-stored_flat (Number z) = refl
restored-stored_flat (DecimalNumber z) = refl
restored-stored_flat (Text bytes) = refl
restored-stored_flat (Bytes bytes) = refl

abbrev pub flat_code : Coded FlatValue
flat_code = code_by StoredFlat (coded⊎ coded_bool (coded⊎ coded_ℤ (coded⊎ coded_ℤ (coded⊎ (coded_list coded_ℕ) (coded_list coded_ℕ))))) stored_flat restored_flat restored-stored_flat

-- a flat column is one of four
abbrev pub primitive_code : Coded PrimitiveForm
primitive_code = code_by (PType × (List ℤ × ValidityForm)) (coded× ptype_code (coded× (coded_list coded_ℤ) validity_code)) (λ f. (f.ptype, (f.numbers, f.validity))) (λ p. primitive_with p.0 p.1.0 p.1.1) (λ _. refl)

abbrev pub bool_code : Coded BoolForm
bool_code = code_by (List Bool × ValidityForm) (coded× (coded_list coded_bool) validity_code) (λ f. (f.bits, f.validity)) (λ p. bool_with p.0 p.1) (λ _. refl)

abbrev pub decimal_code : Coded DecimalForm
decimal_code = code_by (DecimalDType × (List ℤ × ValidityForm)) (coded× decimal.the_row.coded (coded× (coded_list coded_ℤ) validity_code)) (λ f. (f.decimal, (f.numbers, f.validity))) (λ p. decimal_with p.0 p.1.0 p.1.1) (λ _. refl)

abbrev pub view_code : Coded View
view_code = code_by (ℕ × (ℕ × ℕ)) (coded× coded_ℕ (coded× coded_ℕ coded_ℕ)) (λ v. (v.buffer, (v.start, v.size))) (λ p. record { buffer = p.0; start = p.1.0; size = p.1.1 }) (λ _. refl)

abbrev pub varbin_code : Coded VarBinForm
varbin_code = code_by (VarBinKind × (List View × (List (List ℕ) × ValidityForm))) (coded× kind.the_row.coded (coded× (coded_list view_code) (coded× (coded_list (coded_list coded_ℕ)) validity_code))) (λ f. (f.kind, (f.views, (f.buffers, f.validity)))) (λ p. varbin_with p.0 p.1.0 p.1.1.0 p.1.1.1) (λ _. refl)

abbrev pub StoredLeaf : Type 0
StoredLeaf = PrimitiveForm ⊎ (BoolForm ⊎ (DecimalForm ⊎ VarBinForm))

abbrev pub stored_leaf : Leaf → StoredLeaf
stored_leaf (OfNumbers form) = inl form
stored_leaf (OfTruths form) = inr (inl form)
stored_leaf (OfDecimals form) = inr (inr (inl form))
stored_leaf (OfVarBins form) = inr (inr (inr form))

abbrev pub restored_leaf : StoredLeaf → Leaf
restored_leaf (inl form) = OfNumbers form
restored_leaf (inr (inl form)) = OfTruths form
restored_leaf (inr (inr (inl form))) = OfDecimals form
restored_leaf (inr (inr (inr form))) = OfVarBins form

pub restored-stored_leaf : (leaf : Leaf) → restored_leaf (stored_leaf leaf) ≡ leaf
restored-stored_leaf (OfNumbers form) = refl
restored-stored_leaf (OfTruths form) = refl
restored-stored_leaf (OfDecimals form) = refl
restored-stored_leaf (OfVarBins form) = refl

abbrev pub leaf_code : Coded Leaf
leaf_code = code_by StoredLeaf (coded⊎ primitive_code (coded⊎ bool_code (coded⊎ decimal_code varbin_code))) stored_leaf restored_leaf restored-stored_leaf

-- numbers of a column of lists are flat or in runs, and so are its flags
abbrev pub StoredIndex : Type 0
StoredIndex = List ℕ ⊎ (PType × (List ℕ × (List ℕ × (ℕ × ℕ))))

abbrev pub stored_index : Index → StoredIndex
stored_index (PlainIndex numbers) = inl numbers
stored_index (RunIndex ends_type ends numbers offset count) = inr (ends_type, (ends, (numbers, (offset, count))))

abbrev pub restored_index : StoredIndex → Index
restored_index (inl numbers) = PlainIndex numbers
restored_index (inr p) = RunIndex p.0 p.1.0 p.1.1.0 p.1.1.1.0 p.1.1.1.1

pub restored-stored_index : (index : Index) → restored_index (stored_index index) ≡ index
restored-stored_index (PlainIndex numbers) = refl
restored-stored_index (RunIndex ends_type ends numbers offset count) = refl

abbrev pub index_code : Coded Index
index_code = code_by StoredIndex (coded⊎ (coded_list coded_ℕ) (coded× ptype_code (coded× (coded_list coded_ℕ) (coded× (coded_list coded_ℕ) (coded× coded_ℕ coded_ℕ))))) stored_index restored_index restored-stored_index

abbrev pub StoredFlags : Type 0
StoredFlags = ValidityForm ⊎ (PType × (List ℕ × (List Bool × (ℕ × ℕ))))

abbrev pub stored_flags : RowValidityForm → StoredFlags
stored_flags (ByRows form) = inl form
stored_flags (ByRuns ends_type ends bits offset count) = inr (ends_type, (ends, (bits, (offset, count))))

abbrev pub restored_flags : StoredFlags → RowValidityForm
restored_flags (inl form) = ByRows form
restored_flags (inr p) = ByRuns p.0 p.1.0 p.1.1.0 p.1.1.1.0 p.1.1.1.1

pub restored-stored_flags : (form : RowValidityForm) → restored_flags (stored_flags form) ≡ form
restored-stored_flags (ByRows form) = refl
restored-stored_flags (ByRuns ends_type ends bits offset count) = refl

abbrev pub row_validity_code : Coded RowValidityForm
row_validity_code = code_by StoredFlags (coded⊎ validity_code (coded× ptype_code (coded× (coded_list coded_ℕ) (coded× (coded_list coded_bool) (coded× coded_ℕ coded_ℕ))))) stored_flags restored_flags restored-stored_flags

-- a column of lists
abbrev pub lists_code : Coded Lists
lists_code = code_by (Leaf × (Index × (Index × RowValidityForm))) (coded× leaf_code (coded× index_code (coded× index_code row_validity_code))) (λ l. (l.elements, (l.offsets, (l.sizes, l.validity)))) (λ p. lists_with p.0 p.1.0 p.1.1.0 p.1.1.1) (λ _. refl)

-- a constant
abbrev pub constant_code : Coded Constant
constant_code = code_by (DType × (Option FlatValue × ℕ)) (coded× dtype_code (coded× (coded_option flat_code) coded_ℕ)) (λ c. (c.dtype, (c.value, c.count))) (λ p. record { dtype = p.0; value = p.1.0; count = p.1.1 }) (λ _. refl)

-- a column: its levels of runs, and what is below them
abbrev pub Level : Type 0
Level = PType × (List ℕ × (ℕ × ℕ))

abbrev pub Bottom : Type 0
Bottom = Leaf ⊎ (Constant ⊎ Lists)

abbrev pub Stored : Type 0
Stored = List Level × Bottom

abbrev pub stored_of : Column → Stored
stored_of (OfLeaf leaf) = ([], inl leaf)
stored_of (OfConstant constant) = ([], inr (inl constant))
stored_of (OfLists lists) = ([], inr (inr lists))
stored_of (OfRuns ends_type ends values offset count) = ((ends_type, (ends, (offset, count))) ∷ (stored_of values).0, (stored_of values).1)

abbrev pub bottom_of : Bottom → Column
bottom_of (inl leaf) = OfLeaf leaf
bottom_of (inr (inl constant)) = OfConstant constant
bottom_of (inr (inr lists)) = OfLists lists

abbrev pub levels_on : List Level → Column → Column
levels_on [] bottom = bottom
levels_on (l ∷ ls) bottom = OfRuns l.0 l.1.0 (levels_on ls bottom) l.1.1.0 l.1.1.1

abbrev pub restored : Stored → Column
restored s = levels_on s.0 (bottom_of s.1)

pub restored-stored_of : (c : Column) → restored (stored_of c) ≡ c
restored-stored_of (OfLeaf leaf) = refl
restored-stored_of (OfConstant constant) = refl
restored-stored_of (OfLists lists) = refl
restored-stored_of (OfRuns ends_type ends values offset count) = ap (λ v. OfRuns ends_type ends v offset count) (restored-stored_of values)

abbrev pub column_code : Coded Column
column_code = code_by Stored (coded× (coded_list (coded× ptype_code (coded× (coded_list coded_ℕ) (coded× coded_ℕ coded_ℕ)))) (coded⊎ leaf_code (coded⊎ constant_code lists_code))) stored_of restored restored-stored_of

-- a run column
abbrev pub runs_code : Coded Runs
runs_code = code_by (PType × (List ℕ × (Column × (ℕ × ℕ)))) (coded× ptype_code (coded× (coded_list coded_ℕ) (coded× column_code (coded× coded_ℕ coded_ℕ)))) (λ r. (r.ends_type, (r.ends, (r.values, (r.offset, r.count))))) (λ p. runs_with p.0 p.1.0 p.1.1.0 p.1.1.1.0 p.1.1.1.1) (λ _. refl)
