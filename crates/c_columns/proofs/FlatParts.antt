-- Rows that are not flat are read of a flat part of their column: it has all that is asked for.
use Rattle.std.proofs.Common.{◌≡◌, ◌∙◌, ◌+◌, ◌-◌, ◌≤◌, ◌<◌, inr, sym, ap, subst, refl, ℕ, ℤ, List, Bool, true, false, length, take, eq-eqb, arith}
use Rattle.std.specs.Prelude.{Option, Some, None, Result, Ok, Err, IfOk, cond, nat_eq, slice_range}
use Rattle.std.specs.Option.{option_or}
use Rattle.std.proofs.lemmas.Bool.Decides.{nat_tests}
use Rattle.std.proofs.lemmas.List.{take_all}
use Rattle.column_base.specs.declared.dtype.DType.{DType}
use Rattle.column_base.specs.declared.dtype.DType.TheVariants as column
use Rattle.column_base.proofs.Ranges.{length-slice_range}
use Rattle.column_base.specs.declared.dtype.Nullability.{Nullability}
use Rattle.column_base.specs.declared.dtype.PType.{PType}
use Rattle.column_base.specs.declared.error.VortexError.{VortexError}
use Rattle.column_base.specs.declared.error.VortexError.TheVariants.{BadRange, TypeMismatch}
use Rattle.column_core.specs.Kinds.{list_fault}
use Rattle.column_core.specs.Leaf.{Leaf, OfNumbers, OfTruths, OfDecimals, OfVarBins, leaf_count}
use Rattle.column_core.specs.Refusal.{IsRefusedBy}
use Rattle.column_core.specs.Value.{Value}
use Rattle.column_base.specs.ValidityForm.{nullability_in}
use Rattle.column_core.specs.VarBinForm.{VarBinForm, kind_dtype}
use Rattle.column_core.specs.declared.varbinview.VarBinKind.{VarBinKind}
use Rattle.column_core.specs.declared.varbinview.VarBinKind.TheVariants.{Utf8, Binary}
use Rattle.runend_array.specs.Canonical.{IsFlatPart}
use Rattle.runend_array.specs.Column.{Column, OfLeaf, OfConstant, OfLists, OfRuns, IsLeaf, column_dtype, column_rows}
use Rattle.runend_array.specs.Lists.{Lists}
use Rattle.c_columns.specs.ReadFaults.{IsRefusedIn, IsRefusedOnlyBy, bytes_fault, decimals_fault, decimals_type_fault, is_same_type, numbers_fault, numbers_type_fault, offset_fault, offsets_fault, offsets_room_fault, other_bytes_fault, other_offsets_fault, part_fault, past_fault, room_fault, stored_bytes_fault, stored_decimals_fault, stored_numbers_fault, stored_offsets_fault, stored_truths_fault, texts_type_fault, truths_type_fault, words_fault}
use Rattle.c_columns.specs.Reads.{AreBytesFrom, AreNumbersFrom, AreOffsetsFrom, ArePairsFrom, AreReadFlat, AreStoredBytes, AreStoredNumbers, AreStoredOffsets, AreStoredPairs, size_between, size_of_rows, text_rows}
use Rattle.c_columns.specs.declared.pairs.Pair.{Pair}
use Rattle.c_columns.proofs.ReadRefusals.{reaches}

-- the first of two faults, or the second without a first
pub or_first : (f g : Option VortexError) (error : VortexError) → f ≡ Some error → option_or f g ≡ Some error
or_first f g error is = ap (λ (x : Option VortexError). option_or x g) is

pub or_second : (f g : Option VortexError) → f ≡ None → option_or f g ≡ g
or_second f g none = ap (λ (x : Option VortexError). option_or x g) none

pub accepted : (fault : Option VortexError) (start count : ℕ) (c : Column) → fault ≡ None → start + count ≤ length (column_rows c) → part_fault fault start count c ≡ None
accepted fault start count c none there = or_second fault (past_fault start count (length (column_rows c))) none ∙ reaches start count (length (column_rows c)) there

-- a type that is read in one way is none of lists
pub numbers_are_single : (ptype : PType) (t : DType) → numbers_type_fault ptype t ≡ None → list_fault t ≡ None
numbers_are_single ptype (column.Primitive p n) none = refl
numbers_are_single ptype (column.Bool n) none = refl
numbers_are_single ptype (column.Decimal d n) none = refl
numbers_are_single ptype (column.Utf8 n) none = refl
numbers_are_single ptype (column.Binary n) none = refl
numbers_are_single ptype (column.List e n) none = absurd (cc)

pub decimals_are_single : (t : DType) → decimals_type_fault t ≡ None → list_fault t ≡ None
decimals_are_single (column.Primitive p n) none = refl
decimals_are_single (column.Bool n) none = refl
decimals_are_single (column.Decimal d n) none = refl
decimals_are_single (column.Utf8 n) none = refl
decimals_are_single (column.Binary n) none = refl
decimals_are_single (column.List e n) none = absurd (cc)

pub truths_are_single : (t : DType) → truths_type_fault t ≡ None → list_fault t ≡ None
truths_are_single (column.Primitive p n) none = refl
truths_are_single (column.Bool n) none = refl
truths_are_single (column.Decimal d n) none = refl
truths_are_single (column.Utf8 n) none = refl
truths_are_single (column.Binary n) none = refl
truths_are_single (column.List e n) none = absurd (cc)

pub texts_are_single : (t : DType) → texts_type_fault t ≡ None → list_fault t ≡ None
texts_are_single (column.Primitive p n) none = refl
texts_are_single (column.Bool n) none = refl
texts_are_single (column.Decimal d n) none = refl
texts_are_single (column.Utf8 n) none = refl
texts_are_single (column.Binary n) none = refl
texts_are_single (column.List e n) none = absurd (cc)

-- so its part is not a column of lists
pub no_lists : (c : Column) (lists : Lists) (start stop : ℕ) → list_fault (column_dtype c) ≡ None → IsFlatPart c start stop (OfLists lists) → ⊥
no_lists c lists start stop single part = let none : list_fault (column_dtype (OfLists lists)) ≡ None = ap list_fault part.dtype ∙ single in absurd (cc)

-- how many rows a part has
pub part_length : (c d : Column) (start count : ℕ) → IsFlatPart c start (start + count) d → start + count ≤ length (column_rows c) → length (column_rows d) ≡ count
part_length c d start count part there =
    let long = length-slice_range (column_rows c) start (start + count) (omega arith) there in
    ap (λ (l : List (Option Value)). length l) part.rows ∙ long ∙ omega arith

-- the part is read in one way, and shows it
pub read_flat : {T : Type 0} (r : Result T VortexError) (c : Column) (start count : ℕ) (leaf other : Leaf) (Read : Leaf → Type 0) → start + count ≤ length (column_rows c) → IsFlatPart c start (start + count) (OfLeaf leaf) → other ≡ leaf
    → IfOk r (λ _. Read other) → IfOk r (λ _. AreReadFlat c start count Read)
read_flat (Ok value) c start count leaf other Read there part same is = record { leaf = leaf; there = there; part = part; read = subst Read same is }
read_flat (Err error) c start count leaf other Read there part same is = tt

-- a read that has no fault is not refused, and one that has is refused so
pub never : {T : Type 0} (stored wanted : Option VortexError) (r : Result T VortexError) → stored ≡ None → wanted ≡ None → IsRefusedOnlyBy stored r → IsRefusedBy wanted r
never stored wanted (Ok value) none accepted refused = accepted
never stored wanted (Err error) none accepted refused = absurd (cc)

pub likewise : {T : Type 0} (stored wanted : Option VortexError) (r : Result T VortexError) → stored ≡ wanted → IsRefusedOnlyBy stored r → IsRefusedBy wanted r
likewise stored wanted (Ok value) same refused = sym same ∙ refused
likewise stored wanted (Err error) same refused = inr (sym same ∙ refused)

-- texts and bytes are of a type of their own
no_numbers : (ptype : PType) (kind : VarBinKind) (n : Nullability) → numbers_type_fault ptype (kind_dtype kind n) ≡ None → ⊥
no_numbers ptype Utf8 n none = absurd (cc)
no_numbers ptype Binary n none = absurd (cc)

no_decimals : (kind : VarBinKind) (n : Nullability) → decimals_type_fault (kind_dtype kind n) ≡ None → ⊥
no_decimals Utf8 n none = absurd (cc)
no_decimals Binary n none = absurd (cc)

no_truths : (kind : VarBinKind) (n : Nullability) → truths_type_fault (kind_dtype kind n) ≡ None → ⊥
no_truths Utf8 n none = absurd (cc)
no_truths Binary n none = absurd (cc)

-- numbers
of_this_type : (b : Bool) (fault : Option VortexError) → cond b None (Some TypeMismatch) ≡ None → fault ≡ None → cond b fault (Some TypeMismatch) ≡ None
of_this_type true fault typed none = none
of_this_type false fault typed none = absurd (cc)

pub numbers_there : (c : Column) (leaf : Leaf) (ptype : PType) (start count : ℕ) → numbers_type_fault ptype (column_dtype c) ≡ None → IsFlatPart c start (start + count) (OfLeaf leaf) → leaf_count leaf ≡ count → stored_numbers_fault ptype 0 count leaf ≡ None
numbers_there c (OfNumbers form) ptype start count typed part counted =
    of_this_type (is_same_type form.ptype ptype) (past_fault 0 count (length form.numbers)) (ap (numbers_type_fault ptype) part.dtype ∙ typed) (reaches 0 count (length form.numbers) (omega (arith, counted)))
numbers_there c (OfTruths form) ptype start count typed part counted = let none : numbers_type_fault ptype (column_dtype (OfLeaf (OfTruths form))) ≡ None = ap (numbers_type_fault ptype) part.dtype ∙ typed in absurd (cc)
numbers_there c (OfDecimals form) ptype start count typed part counted = let none : numbers_type_fault ptype (column_dtype (OfLeaf (OfDecimals form))) ≡ None = ap (numbers_type_fault ptype) part.dtype ∙ typed in absurd (cc)
numbers_there c (OfVarBins form) ptype start count typed part counted = absurd (no_numbers ptype form.kind (nullability_in form.validity) (ap (numbers_type_fault ptype) part.dtype ∙ typed))

-- decimals
pub decimals_there : (c : Column) (leaf : Leaf) (start count : ℕ) → decimals_type_fault (column_dtype c) ≡ None → IsFlatPart c start (start + count) (OfLeaf leaf) → leaf_count leaf ≡ count → stored_decimals_fault 0 count leaf ≡ None
decimals_there c (OfDecimals form) start count typed part counted = reaches 0 count (length form.numbers) (omega (arith, counted))
decimals_there c (OfNumbers form) start count typed part counted = let none : decimals_type_fault (column_dtype (OfLeaf (OfNumbers form))) ≡ None = ap decimals_type_fault part.dtype ∙ typed in absurd (cc)
decimals_there c (OfTruths form) start count typed part counted = let none : decimals_type_fault (column_dtype (OfLeaf (OfTruths form))) ≡ None = ap decimals_type_fault part.dtype ∙ typed in absurd (cc)
decimals_there c (OfVarBins form) start count typed part counted = absurd (no_decimals form.kind (nullability_in form.validity) (ap decimals_type_fault part.dtype ∙ typed))

-- booleans
pub truths_there : (c : Column) (leaf : Leaf) (start count room : ℕ) → truths_type_fault (column_dtype c) ≡ None → IsFlatPart c start (start + count) (OfLeaf leaf) → leaf_count leaf ≡ count → stored_truths_fault room leaf ≡ words_fault count room
truths_there c (OfTruths form) start count room typed part counted = ap (λ (n : ℕ). words_fault n room) counted
truths_there c (OfNumbers form) start count room typed part counted = let none : truths_type_fault (column_dtype (OfLeaf (OfNumbers form))) ≡ None = ap truths_type_fault part.dtype ∙ typed in absurd (cc)
truths_there c (OfDecimals form) start count room typed part counted = let none : truths_type_fault (column_dtype (OfLeaf (OfDecimals form))) ≡ None = ap truths_type_fault part.dtype ∙ typed in absurd (cc)
truths_there c (OfVarBins form) start count room typed part counted = absurd (no_truths form.kind (nullability_in form.validity) (ap truths_type_fault part.dtype ∙ typed))

-- texts and bytes: as many bytes as the rows of the part have
same_size : (c : Column) (form : VarBinForm) (start count : ℕ) → IsFlatPart c start (start + count) (OfLeaf (OfVarBins form)) → start + count ≤ length (column_rows c) → size_between form 0 (0 + count) ≡ size_of_rows (slice_range (column_rows c) start (start + count))
same_size c form start count part there =
    let long : length (text_rows form) ≡ count = part_length c (OfLeaf (OfVarBins form)) start count part there in
    let all : 0 + count - 0 ≡ count = omega arith in
    ap (λ (n : ℕ). size_of_rows (take n (text_rows form))) all ∙ ap size_of_rows (take_all count (text_rows form) (omega (arith, long))) ∙ ap size_of_rows part.rows

pub bytes_there : (c : Column) (leaf : Leaf) (start count room : ℕ) → texts_type_fault (column_dtype c) ≡ None → IsFlatPart c start (start + count) (OfLeaf leaf) → leaf_count leaf ≡ count → start + count ≤ length (column_rows c)
    → stored_bytes_fault 0 count room leaf ≡ other_bytes_fault start count room c
bytes_there c (OfVarBins form) start count room typed part counted there =
    or_second (past_fault 0 count (length form.views)) (room_fault (size_between form 0 (0 + count)) room) (reaches 0 count (length form.views) (omega (arith, counted)))
    ∙ ap (λ (n : ℕ). room_fault n room) (same_size c form start count part there)
    ∙ sym (or_second (part_fault (texts_type_fault (column_dtype c)) start count c) (room_fault (size_of_rows (slice_range (column_rows c) start (start + count))) room) (accepted (texts_type_fault (column_dtype c)) start count c typed there))
bytes_there c (OfNumbers form) start count room typed part counted there = let none : texts_type_fault (column_dtype (OfLeaf (OfNumbers form))) ≡ None = ap texts_type_fault part.dtype ∙ typed in absurd (cc)
bytes_there c (OfTruths form) start count room typed part counted there = let none : texts_type_fault (column_dtype (OfLeaf (OfTruths form))) ≡ None = ap texts_type_fault part.dtype ∙ typed in absurd (cc)
bytes_there c (OfDecimals form) start count room typed part counted there = let none : texts_type_fault (column_dtype (OfLeaf (OfDecimals form))) ≡ None = ap texts_type_fault part.dtype ∙ typed in absurd (cc)

some_room : (room : ℕ) → 0 < room → nat_eq room 0 ≡ false
some_room room some = grind (arith, nat_tests)

-- the fault of offsets that there is room for, of rows that are there
of_offsets : (ptype : PType) (start room rows size : ℕ) → 0 < room → start + (room - 1) ≤ rows → offsets_room_fault ptype start room rows size ≡ offset_fault ptype size
of_offsets ptype start room rows size some there =
    ap (λ (b : Bool). cond b (Some (BadRange start start rows)) (option_or (past_fault start (room - 1) rows) (offset_fault ptype size))) (some_room room some)
    ∙ or_second (past_fault start (room - 1) rows) (offset_fault ptype size) (reaches start (room - 1) rows there)

pub offsets_there : (c : Column) (leaf : Leaf) (ptype : PType) (start room : ℕ) → texts_type_fault (column_dtype c) ≡ None → IsFlatPart c start (start + (room - 1)) (OfLeaf leaf) → leaf_count leaf ≡ room - 1 → 0 < room → start + (room - 1) ≤ length (column_rows c)
    → stored_offsets_fault ptype 0 room leaf ≡ other_offsets_fault ptype start room c
offsets_there c (OfVarBins form) ptype start room typed part counted some there =
    of_offsets ptype 0 room (length form.views) (size_between form 0 (0 + (room - 1))) some (omega (arith, counted))
    ∙ ap (offset_fault ptype) (same_size c form start (room - 1) part there)
    ∙ sym (of_offsets ptype start room (length (column_rows c)) (size_of_rows (slice_range (column_rows c) start (start + (room - 1)))) some there)
    ∙ sym (or_second (texts_type_fault (column_dtype c)) (offsets_room_fault ptype start room (length (column_rows c)) (size_of_rows (slice_range (column_rows c) start (start + (room - 1))))) typed)
offsets_there c (OfNumbers form) ptype start room typed part counted some there = let none : texts_type_fault (column_dtype (OfLeaf (OfNumbers form))) ≡ None = ap texts_type_fault part.dtype ∙ typed in absurd (cc)
offsets_there c (OfTruths form) ptype start room typed part counted some there = let none : texts_type_fault (column_dtype (OfLeaf (OfTruths form))) ≡ None = ap texts_type_fault part.dtype ∙ typed in absurd (cc)
offsets_there c (OfDecimals form) ptype start room typed part counted some there = let none : texts_type_fault (column_dtype (OfLeaf (OfDecimals form))) ≡ None = ap texts_type_fault part.dtype ∙ typed in absurd (cc)

-- an offset does not fit
pub no_offsets : (c : Column) (ptype : PType) (start room : ℕ) → texts_type_fault (column_dtype c) ≡ None → room ≡ 0 → other_offsets_fault ptype start room c ≡ Some (BadRange start start (length (column_rows c)))
no_offsets c ptype start room typed none =
    or_second (texts_type_fault (column_dtype c)) (offsets_room_fault ptype start room (length (column_rows c)) (size_of_rows (slice_range (column_rows c) start (start + (room - 1))))) typed
    ∙ ap (λ (b : Bool). cond b (Some (BadRange start start (length (column_rows c)))) (option_or (past_fault start (room - 1) (length (column_rows c))) (offset_fault ptype (size_of_rows (slice_range (column_rows c) start (start + (room - 1)))))))
    (eq-eqb room 0 none)

pub past_offsets : (c : Column) (ptype : PType) (start room : ℕ) (error : VortexError) → texts_type_fault (column_dtype c) ≡ None → 0 < room → past_fault start (room - 1) (length (column_rows c)) ≡ Some error → other_offsets_fault ptype start room c ≡ Some error
past_offsets c ptype start room error typed some past =
    or_second (texts_type_fault (column_dtype c)) (offsets_room_fault ptype start room (length (column_rows c)) (size_of_rows (slice_range (column_rows c) start (start + (room - 1))))) typed
    ∙ ap (λ (b : Bool). cond b (Some (BadRange start start (length (column_rows c)))) (option_or (past_fault start (room - 1) (length (column_rows c))) (offset_fault ptype (size_of_rows (slice_range (column_rows c) start (start + (room - 1)))))))
    (some_room room some)
    ∙ or_first (past_fault start (room - 1) (length (column_rows c))) (offset_fault ptype (size_of_rows (slice_range (column_rows c) start (start + (room - 1))))) error past

-- a flat column is read where it lies
pub flat_numbers : {T : Type 0} (r : Result T VortexError) (c : Column) (leaf : Leaf) (start : ℕ) (numbers : List ℤ) → c ≡ OfLeaf leaf → IfOk r (λ _. AreStoredNumbers leaf start numbers) → IfOk r (λ _. AreNumbersFrom c start numbers)
flat_numbers r c leaf start numbers same is = subst (λ (d : Column). IfOk r (λ _. AreNumbersFrom d start numbers)) (sym same) is

pub flat_numbers_refused : {T : Type 0} (r : Result T VortexError) (c : Column) (leaf : Leaf) (ptype : PType) (start many : ℕ) → c ≡ OfLeaf leaf → IsRefusedOnlyBy (stored_numbers_fault ptype start many leaf) r → IsRefusedIn c (numbers_fault ptype start many c) r
flat_numbers_refused r c leaf ptype start many same is = subst (λ (d : Column). IsRefusedIn d (numbers_fault ptype start many d) r) (sym same) is

pub flat_pairs : {T : Type 0} (r : Result T VortexError) (c : Column) (leaf : Leaf) (start : ℕ) (pairs : List Pair) → c ≡ OfLeaf leaf → IfOk r (λ _. AreStoredPairs leaf start pairs) → IfOk r (λ _. ArePairsFrom c start pairs)
flat_pairs r c leaf start pairs same is = subst (λ (d : Column). IfOk r (λ _. ArePairsFrom d start pairs)) (sym same) is

pub flat_pairs_refused : {T : Type 0} (r : Result T VortexError) (c : Column) (leaf : Leaf) (start many : ℕ) → c ≡ OfLeaf leaf → IsRefusedOnlyBy (stored_decimals_fault start many leaf) r → IsRefusedIn c (decimals_fault start many c) r
flat_pairs_refused r c leaf start many same is = subst (λ (d : Column). IsRefusedIn d (decimals_fault start many d) r) (sym same) is

pub flat_offsets : {T : Type 0} (r : Result T VortexError) (c : Column) (leaf : Leaf) (start : ℕ) (offsets : List ℤ) → c ≡ OfLeaf leaf → IfOk r (λ _. AreStoredOffsets leaf start offsets) → IfOk r (λ _. AreOffsetsFrom c start offsets)
flat_offsets r c leaf start offsets same is = subst (λ (d : Column). IfOk r (λ _. AreOffsetsFrom d start offsets)) (sym same) is

pub flat_offsets_refused : {T : Type 0} (r : Result T VortexError) (c : Column) (leaf : Leaf) (ptype : PType) (start room : ℕ) → c ≡ OfLeaf leaf → IsRefusedOnlyBy (stored_offsets_fault ptype start room leaf) r → IsRefusedIn c (offsets_fault ptype start room c) r
flat_offsets_refused r c leaf ptype start room same is = subst (λ (d : Column). IsRefusedIn d (offsets_fault ptype start room d) r) (sym same) is

pub flat_bytes : {T : Type 0} (r : Result T VortexError) (c : Column) (leaf : Leaf) (start many : ℕ) (bytes : List ℕ) → c ≡ OfLeaf leaf → IfOk r (λ _. AreStoredBytes leaf start many bytes) → IfOk r (λ _. AreBytesFrom c start many bytes)
flat_bytes r c leaf start many bytes same is = subst (λ (d : Column). IfOk r (λ _. AreBytesFrom d start many bytes)) (sym same) is

pub flat_bytes_refused : {T : Type 0} (r : Result T VortexError) (c : Column) (leaf : Leaf) (start many room : ℕ) → c ≡ OfLeaf leaf → IsRefusedOnlyBy (stored_bytes_fault start many room leaf) r → IsRefusedIn c (bytes_fault start many room c) r
flat_bytes_refused r c leaf start many room same is = subst (λ (d : Column). IsRefusedIn d (bytes_fault start many room d) r) (sym same) is

-- the same of what is not flat
pub other_numbers : {T : Type 0} (r : Result T VortexError) (c : Column) (start : ℕ) (numbers : List ℤ) → ¬ IsLeaf c → IfOk r (λ _. AreReadFlat c start (length numbers) (λ leaf. AreStoredNumbers leaf 0 numbers)) → IfOk r (λ _. AreNumbersFrom c start numbers)
other_numbers r (OfLeaf leaf) start numbers other is = absurd (other tt)
other_numbers r (OfConstant constant) start numbers other is = is
other_numbers r (OfLists lists) start numbers other is = is
other_numbers r (OfRuns ends_type ends values offset count) start numbers other is = is

pub other_pairs : {T : Type 0} (r : Result T VortexError) (c : Column) (start : ℕ) (pairs : List Pair) → ¬ IsLeaf c → IfOk r (λ _. AreReadFlat c start (length pairs) (λ leaf. AreStoredPairs leaf 0 pairs)) → IfOk r (λ _. ArePairsFrom c start pairs)
other_pairs r (OfLeaf leaf) start pairs other is = absurd (other tt)
other_pairs r (OfConstant constant) start pairs other is = is
other_pairs r (OfLists lists) start pairs other is = is
other_pairs r (OfRuns ends_type ends values offset count) start pairs other is = is

pub other_offsets : {T : Type 0} (r : Result T VortexError) (c : Column) (start : ℕ) (offsets : List ℤ) → ¬ IsLeaf c → IfOk r (λ _. AreReadFlat c start (length offsets - 1) (λ leaf. AreStoredOffsets leaf 0 offsets)) → IfOk r (λ _. AreOffsetsFrom c start offsets)
other_offsets r (OfLeaf leaf) start offsets other is = absurd (other tt)
other_offsets r (OfConstant constant) start offsets other is = is
other_offsets r (OfLists lists) start offsets other is = is
other_offsets r (OfRuns ends_type ends values offset count) start offsets other is = is

pub other_bytes : {T : Type 0} (r : Result T VortexError) (c : Column) (start many : ℕ) (bytes : List ℕ) → ¬ IsLeaf c → IfOk r (λ _. AreReadFlat c start many (λ leaf. AreStoredBytes leaf 0 many bytes)) → IfOk r (λ _. AreBytesFrom c start many bytes)
other_bytes r (OfLeaf leaf) start many bytes other is = absurd (other tt)
other_bytes r (OfConstant constant) start many bytes other is = is
other_bytes r (OfLists lists) start many bytes other is = is
other_bytes r (OfRuns ends_type ends values offset count) start many bytes other is = is

pub other_numbers_refused : {T : Type 0} (r : Result T VortexError) (c : Column) (ptype : PType) (start many : ℕ) → ¬ IsLeaf c → IsRefusedBy (part_fault (numbers_type_fault ptype (column_dtype c)) start many c) r → IsRefusedIn c (numbers_fault ptype start many c) r
other_numbers_refused r (OfLeaf leaf) ptype start many other is = absurd (other tt)
other_numbers_refused r (OfConstant constant) ptype start many other is = is
other_numbers_refused r (OfLists lists) ptype start many other is = is
other_numbers_refused r (OfRuns ends_type ends values offset count) ptype start many other is = is

pub other_pairs_refused : {T : Type 0} (r : Result T VortexError) (c : Column) (start many : ℕ) → ¬ IsLeaf c → IsRefusedBy (part_fault (decimals_type_fault (column_dtype c)) start many c) r → IsRefusedIn c (decimals_fault start many c) r
other_pairs_refused r (OfLeaf leaf) start many other is = absurd (other tt)
other_pairs_refused r (OfConstant constant) start many other is = is
other_pairs_refused r (OfLists lists) start many other is = is
other_pairs_refused r (OfRuns ends_type ends values offset count) start many other is = is

pub other_offsets_refused : {T : Type 0} (r : Result T VortexError) (c : Column) (ptype : PType) (start room : ℕ) → ¬ IsLeaf c → IsRefusedBy (other_offsets_fault ptype start room c) r → IsRefusedIn c (offsets_fault ptype start room c) r
other_offsets_refused r (OfLeaf leaf) ptype start room other is = absurd (other tt)
other_offsets_refused r (OfConstant constant) ptype start room other is = is
other_offsets_refused r (OfLists lists) ptype start room other is = is
other_offsets_refused r (OfRuns ends_type ends values offset count) ptype start room other is = is

pub other_bytes_refused : {T : Type 0} (r : Result T VortexError) (c : Column) (start many room : ℕ) → ¬ IsLeaf c → IsRefusedBy (other_bytes_fault start many room c) r → IsRefusedIn c (bytes_fault start many room c) r
other_bytes_refused r (OfLeaf leaf) start many room other is = absurd (other tt)
other_bytes_refused r (OfConstant constant) start many room other is = is
other_bytes_refused r (OfLists lists) start many room other is = is
other_bytes_refused r (OfRuns ends_type ends values offset count) start many room other is = is
