-- Bits of a comparison with one value, from items and their flags, and the answers that they are.
use Rattle.std.proofs.Common.{◌≡◌, ◌∙◌, ◌+◌, ◌<◌, ℕ, ℤ, zero, suc, List, [], ◌∷◌, ◌++◌, Bool, true, false, Option, Some, None, length, map, replicate, take, refl, sym, ap, subst, arith}
use Rattle.std.specs.Prelude.{◌&&◌, Result, IfOk, is_some, is_none, option_map, slice_get, unwrap_or, if◌then◌else◌}
use Rattle.std.specs.Ordering.{int_cmp}
use Rattle.std.specs.declared.cmp.Ordering.{Ordering}
use Rattle.std.proofs.lemmas.Bool.{false≢true}
use Rattle.std.proofs.lemmas.List.{length-map, length-replicate, map-id, map_push, take_more}
use Rattle.std.proofs.lemmas.Option.{slice_get_within}
use Rattle.column_base.specs.ValidityForm.{ValidityForm, AllNull, HasLength, IsNormal, flags, nullability_in}
use Rattle.column_base.specs.declared.dtype.DType.{DType}
use Rattle.column_base.specs.declared.dtype.DType.TheVariants as column
use Rattle.column_base.specs.declared.dtype.Nullability.{Nullability}
use Rattle.column_base.specs.declared.dtype.Nullability.TheVariants.{NonNullable, Nullable}
use Rattle.column_base.specs.Types.{nullability_of, with_nullability}
use Rattle.column_base.proofs.ValidityRows.{length-flags}
use Rattle.column_core.specs.BoolForm.{BoolForm, bool_rows, bool_with}
use Rattle.column_core.specs.Kinds.{same_kind}
use Rattle.column_core.specs.SameType.{same_dtype-decides}
use Rattle.column_core.specs.Leaf.{Leaf, OfNumbers, OfTruths, OfDecimals, OfVarBins, leaf_count, leaf_dtype, leaf_rows, leaf_validity, single_rows}
use Rattle.column_core.specs.Optionals.{optionals, AreBlankAtNulls}
use Rattle.column_core.specs.ScalarView.{sees, IsViewOf}
use Rattle.column_core.specs.Value.{FlatValue, Number, DecimalNumber, Truth, Value, Single, MayBeNull}
use Rattle.column_core.specs.VarBinForm.{kind_dtype, varbin_value, view_bytes}
use Rattle.column_core.specs.declared.varbinview.VarBinKind.{VarBinKind}
use Rattle.column_core.specs.declared.varbinview.VarBinKind.TheVariants.{Utf8, Binary}
use Rattle.column_core.specs.declared.view.ScalarView.{ScalarView}
use Rattle.column_core.specs.declared.view.ScalarView.TheVariants as view
use Rattle.column_ops.specs.Comparing.{answer_bit, answer_bits, compare_dtype, compare_with, compared, either_nullability, holds_of, is_held, IsStoredComparison}
use Rattle.column_ops.specs.Order.{flat_cmp}
use Rattle.column_ops.specs.declared.operator.CompareOperator.{CompareOperator}
use Rattle.column_ops.proofs.RowRanges.{get_or-read}

-- a flat value as a value, and an optional one as a row
abbrev pub row_of : Option FlatValue → Option Value
row_of = option_map (λ (v : FlatValue). Single v)

-- where no item is null, a test holds of an item where it does
pub is_held-all : {B : Type 0} (test : B → Bool) (xs : List B) → map (is_held test) (optionals xs (replicate (length xs) true)) ≡ map test xs
is_held-all test [] = refl
is_held-all test (x ∷ xs) = ap (λ (bits : List Bool). test x ∷ bits) (is_held-all test xs)

-- where all items are null, it never does
pub is_held-none : {B : Type 0} (test : B → Bool) (xs : List B) → map (is_held test) (optionals xs (replicate (length xs) false)) ≡ replicate (length xs) false
is_held-none test [] = refl
is_held-none test (x ∷ xs) = ap (λ (bits : List Bool). false ∷ bits) (is_held-none test xs)

-- a test of items is one of their values
pub is_held-map : {B C : Type 0} (test : B → Bool) (other : C → Bool) (value : B → C) → ((x : B) → test x ≡ other (value x)) → (xs : List B) (bs : List Bool)
    → map (is_held test) (optionals xs bs) ≡ map (is_held other) (optionals (map value xs) bs)
is_held-map test other value same [] bs = refl
is_held-map test other value same (x ∷ xs) [] = refl
is_held-map test other value same (x ∷ xs) (true ∷ bs) =
    ap (λ (b : Bool). b ∷ map (is_held test) (optionals xs bs)) (same x) ∙ ap (λ (bits : List Bool). other (value x) ∷ bits) (is_held-map test other value same xs bs)
is_held-map test other value same (x ∷ xs) (false ∷ bs) = ap (λ (bits : List Bool). false ∷ bits) (is_held-map test other value same xs bs)

-- the bits of the answers are those of a test of the numbers
answer_bits-rows : (value : ℤ → FlatValue) (operator : CompareOperator) (right : ℤ) → ((n : ℤ) → flat_cmp (value n) (value right) ≡ int_cmp n right) → (ns : List ℤ) (bs : List Bool)
    → answer_bits (compare_with operator (map row_of (map (option_map value) (optionals ns bs))) (Some (Single (value right))))
    ≡ map (is_held (λ n. holds_of operator (int_cmp n right))) (optionals ns bs)
answer_bits-rows value operator right as_numbers [] bs = refl
answer_bits-rows value operator right as_numbers (n ∷ ns) [] = refl
answer_bits-rows value operator right as_numbers (n ∷ ns) (true ∷ bs) =
    ap (λ (bits : List Bool). holds_of operator (flat_cmp (value n) (value right)) ∷ bits) (answer_bits-rows value operator right as_numbers ns bs)
    ∙ ap (λ (o : Ordering). holds_of operator o ∷ map (is_held (λ (m : ℤ). holds_of operator (int_cmp m right))) (optionals ns bs)) (as_numbers n)
answer_bits-rows value operator right as_numbers (n ∷ ns) (false ∷ bs) = ap (λ (bits : List Bool). false ∷ bits) (answer_bits-rows value operator right as_numbers ns bs)

-- a row is not null where its flag is true
flags_of-rows : {B : Type 0} (value : B → FlatValue) (xs : List B) (bs : List Bool) → length bs ≡ length xs
    → map is_some (map row_of (map (option_map value) (optionals xs bs))) ≡ bs
flags_of-rows value [] [] h = refl
flags_of-rows value [] (b ∷ bs) h = cc
flags_of-rows value (x ∷ xs) [] h = cc
flags_of-rows value (x ∷ xs) (true ∷ bs) h = ap (λ (flags : List Bool). true ∷ flags) (flags_of-rows value xs bs (omega arith))
flags_of-rows value (x ∷ xs) (false ∷ bs) h = ap (λ (flags : List Bool). false ∷ flags) (flags_of-rows value xs bs (omega arith))

-- the rows of a column that are not null are those that its validity says to be there
pub flags_of-leaf : (leaf : Leaf) → HasLength (leaf_validity leaf) (leaf_count leaf) → map is_some (single_rows leaf) ≡ flags (leaf_validity leaf) (leaf_count leaf)
flags_of-leaf (OfNumbers form) fits = flags_of-rows (λ (n : ℤ). Number n) form.numbers (flags form.validity (length form.numbers)) (length-flags form.validity (length form.numbers) fits)
flags_of-leaf (OfTruths form) fits = flags_of-rows (λ (b : Bool). Truth b) form.bits (flags form.validity (length form.bits)) (length-flags form.validity (length form.bits) fits)
flags_of-leaf (OfDecimals form) fits = flags_of-rows (λ (n : ℤ). DecimalNumber n) form.numbers (flags form.validity (length form.numbers)) (length-flags form.validity (length form.numbers) fits)
flags_of-leaf (OfVarBins form) fits =
    flags_of-rows (varbin_value form.kind) (map (view_bytes form.buffers) form.views) (flags form.validity (length form.views))
    (length-flags form.validity (length form.views) fits ∙ sym (length-map form.views (view_bytes form.buffers)))

-- the answers are what their bits and the flags of the rows say
pub stored-rows : (operator : CompareOperator) (rows : List (Option Value)) (right : Value)
    → map row_of (map (option_map (λ (b : Bool). Truth b)) (optionals (answer_bits (compare_with operator rows (Some right))) (map is_some rows))) ≡ compare_with operator rows (Some right)
stored-rows operator [] right = refl
stored-rows operator (None ∷ rows) right = ap (λ (answers : List (Option Value)). None ∷ answers) (stored-rows operator rows right)
stored-rows operator (Some left ∷ rows) right = ap (λ (answers : List (Option Value)). compared operator (Some left) (Some right) ∷ answers) (stored-rows operator rows right)

-- and false is stored under null
pub stored-blank : (operator : CompareOperator) (rows : List (Option Value)) (right : Value)
    → AreBlankAtNulls false (answer_bits (compare_with operator rows (Some right))) (map is_some rows)
stored-blank operator [] right = tt
stored-blank operator (None ∷ rows) right = ((λ e. refl), stored-blank operator rows right)
stored-blank operator (Some left ∷ rows) right = ((λ e. absurd (false≢true (sym e))), stored-blank operator rows right)

-- a comparison with null is null everywhere
compared-null : (operator : CompareOperator) (row : Option Value) → compared operator row None ≡ None
compared-null operator None = refl
compared-null operator (Some left) = refl

null-rows : (operator : CompareOperator) (rows : List (Option Value))
    → map row_of (map (option_map (λ (b : Bool). Truth b)) (optionals (replicate (length rows) false) (replicate (length rows) false))) ≡ compare_with operator rows None
null-rows operator [] = refl
null-rows operator (row ∷ rows) =
    ap (λ (answers : List (Option Value)). None ∷ answers) (null-rows operator rows) ∙ ap (λ (answer : Option Value). answer ∷ compare_with operator rows None) (sym (compared-null operator row))

no_value : {X : Type 0} (o : Option X) → is_none o ≡ true → o ≡ None
no_value None h = refl
no_value (Some x) h = absurd (false≢true h)

some_value : {X : Type 0} (o : Option X) → is_none o ≡ false → (x : X) × (o ≡ Some x)
some_value None h = absurd (false≢true (sym h))
some_value (Some x) h = (x, refl)

-- the answers of a comparison with null, of as many bits that are false and said to be null
pub stored_nulls-rows : (operator : CompareOperator) (rows : List (Option Value)) (right : Option Value) (count : ℕ) → is_none right ≡ true → count ≡ length rows
    → map row_of (map (option_map (λ (b : Bool). Truth b)) (optionals (replicate count false) (replicate count false))) ≡ compare_with operator rows right
stored_nulls-rows operator rows right count none same = rw (same, no_value right none) (null-rows operator rows)

pub stored_nulls-blank : (count : ℕ) → AreBlankAtNulls false (replicate count false) (replicate count false)
stored_nulls-blank zero = tt
stored_nulls-blank (suc count) = ((λ e. refl), stored_nulls-blank count)

-- the answers of a comparison with a value, of their bits and the flags of the rows
pub stored_values-rows : (operator : CompareOperator) (rows : List (Option Value)) (right : Option Value) (bits flags : List Bool) → is_none right ≡ false
    → bits ≡ answer_bits (compare_with operator rows right) → flags ≡ map is_some rows
    → map row_of (map (option_map (λ (b : Bool). Truth b)) (optionals bits flags)) ≡ compare_with operator rows right
stored_values-rows operator rows right bits flags some told flagged =
    let value = some_value right some in
    rw (told, flagged, value.1) (stored-rows operator rows value.0)

pub stored_values-blank : (operator : CompareOperator) (rows : List (Option Value)) (right : Option Value) (bits flags : List Bool) → is_none right ≡ false
    → bits ≡ answer_bits (compare_with operator rows right) → flags ≡ map is_some rows → AreBlankAtNulls false bits flags
stored_values-blank operator rows right bits flags some told flagged =
    let value = some_value right some in
    rw (told, flagged, value.1) (stored-blank operator rows value.0)

-- a view that is not null is of a type with whatever nullability
kind_of-view : {A : Type 0} (t : DType) (n : Nullability) (v : ScalarView A) → is_none (sees v) ≡ false → IsViewOf t v → IsViewOf (with_nullability t n) v
kind_of-view t n view.Null some is = absurd (false≢true (sym some))
kind_of-view (column.Bool m) n (view.Bool b) some is = is
kind_of-view (column.Primitive p m) n (view.Unsigned k) some is = is
kind_of-view (column.Primitive p m) n (view.Signed z) some is = is
kind_of-view (column.Decimal d m) n (view.Decimal z) some is = is
kind_of-view (column.Utf8 m) n (view.Utf8 s) some is = is
kind_of-view (column.Binary m) n (view.Binary s) some is = is
kind_of-view (column.List e m) n (view.List elements start size) some is = is
kind_of-view t n v some is = absurd is

same_of-kind : {A : Type 0} (t : DType) (n : Nullability) (v : ScalarView A) → is_none (sees v) ≡ false → IsViewOf (with_nullability t n) v → IsViewOf t v
same_of-kind t n view.Null some is = absurd (false≢true (sym some))
same_of-kind (column.Bool m) n (view.Bool b) some is = is
same_of-kind (column.Primitive p m) n (view.Unsigned k) some is = is
same_of-kind (column.Primitive p m) n (view.Signed z) some is = is
same_of-kind (column.Decimal d m) n (view.Decimal z) some is = is
same_of-kind (column.Utf8 m) n (view.Utf8 s) some is = is
same_of-kind (column.Binary m) n (view.Binary s) some is = is
same_of-kind (column.List e m) n (view.List elements start size) some is = is
same_of-kind t n v some is = absurd is

-- and so of any type of the same kind
pub IsViewOf-same_kind : {A : Type 0} (t u : DType) (v : ScalarView A) → same_kind t u ≡ true → is_none (sees v) ≡ false → IsViewOf u v → IsViewOf t v
IsViewOf-same_kind t u v same some is =
    let one = (same_dtype-decides (with_nullability t NonNullable) (with_nullability u NonNullable)).0 same in
    same_of-kind t NonNullable v some (subst (λ (w : DType). IsViewOf w v) (sym one) (kind_of-view u NonNullable v some is))

-- there is a bit for each row
pub length-answer_bits : (operator : CompareOperator) (leaf : Leaf) (right : Option Value) → length (answer_bits (compare_with operator (single_rows leaf) right)) ≡ length (leaf_rows leaf)
length-answer_bits operator leaf right =
    length-map (compare_with operator (single_rows leaf) right) answer_bit ∙ length-map (single_rows leaf) (λ (row : Option Value). compared operator row right)
    ∙ length-map (leaf_rows leaf) row_of

-- a validity that says of the bits what the column's says of the rows
pub flags_of-bits : (leaf : Leaf) (operator : CompareOperator) (right : Option Value) (bits : List Bool) (form own : ValidityForm) (count : ℕ)
    → HasLength (leaf_validity leaf) (leaf_count leaf) → length (leaf_rows leaf) ≡ leaf_count leaf → count ≡ length (leaf_rows leaf) → own ≡ leaf_validity leaf
    → bits ≡ answer_bits (compare_with operator (single_rows leaf) right) → flags form count ≡ flags own count → flags form (length bits) ≡ map is_some (single_rows leaf)
flags_of-bits leaf operator right bits form own count counted stored same whole told flagged =
    let long : length bits ≡ count = ap (λ (bs : List Bool). length bs) told ∙ length-answer_bits operator leaf right ∙ sym same in
    ap (flags form) long ∙ flagged ∙ ap (λ (v : ValidityForm). flags v count) whole ∙ ap (flags (leaf_validity leaf)) (same ∙ stored) ∙ sym (flags_of-leaf leaf counted)

-- one item more, mapped
pub mapped-next : {X Y : Type 0} (f : X → Y) (xs : List X) (k : ℕ) (x : X) (old : List Y) (y : Y) → slice_get xs k ≡ Some x → y ≡ f x → old ≡ map f (take k xs)
    → old ++ y ∷ [] ≡ map f (take (k + 1) xs)
mapped-next f xs k x old y here is told =
    let within = slice_get_within xs k x here in
    let grown : take (k + 1) xs ≡ take k xs ++ x ∷ [] = take_more xs k x within ∙ ap (λ z. take k xs ++ z ∷ []) (get_or-read xs k x x here) in
    ap (λ ys. ys ++ y ∷ []) told ∙ ap (λ z. map f (take k xs) ++ z ∷ []) is ∙ sym (map_push f (take k xs) x) ∙ ap (map f) (sym grown)

-- the bit of an optional boolean is that of the answer that it is
pub bit_of-truth : (truth : Option Bool) (answer : Option Value) → option_map (λ (b : Bool). Single (Truth b)) truth ≡ answer → unwrap_or truth false ≡ answer_bit answer
bit_of-truth None answer says = ap answer_bit says
bit_of-truth (Some b) answer says = ap answer_bit says

-- bits of items, which are numbers as they are, by a number that was passed on
pub bits-shown : {E : Type 0} (result : Result (List Bool) E) (operator : CompareOperator) (sent right : ℤ) (form : ValidityForm) (items numbers : List ℤ) → sent ≡ right → items ≡ numbers
    → IfOk result (λ bits. bits ≡ map (is_held (λ n. holds_of operator (int_cmp n sent))) (optionals (map (λ (n : ℤ). n) items) (flags form (length items))))
    → IfOk result (λ bits. bits ≡ map (is_held (λ n. holds_of operator (int_cmp n right))) (optionals numbers (flags form (length numbers))))
bits-shown result operator sent right form items numbers same shown told =
    let plain = subst (λ (ns : List ℤ). IfOk result (λ bits. bits ≡ map (is_held (λ (n : ℤ). holds_of operator (int_cmp n sent))) (optionals ns (flags form (length items))))) (map-id items) told in
    let own = subst (λ (ns : List ℤ). IfOk result (λ bits. bits ≡ map (is_held (λ (n : ℤ). holds_of operator (int_cmp n sent))) (optionals ns (flags form (length ns))))) shown plain in
    subst (λ (r : ℤ). IfOk result (λ bits. bits ≡ map (is_held (λ (n : ℤ). holds_of operator (int_cmp n r))) (optionals numbers (flags form (length numbers))))) same own

-- bits of numbers are those of the answers
bits-told : {E : Type 0} (value : ℤ → FlatValue) (result : Result (List Bool) E) (operator : CompareOperator) (sent right : ℤ) (form own : ValidityForm) (items numbers : List ℤ)
    → ((n : ℤ) → flat_cmp (value n) (value right) ≡ int_cmp n right) → sent ≡ right → items ≡ numbers → form ≡ own
    → IfOk result (λ bits. bits ≡ map (is_held (λ n. holds_of operator (int_cmp n sent))) (optionals items (flags form (length items))))
    → IfOk result (λ bits. bits ≡ answer_bits (compare_with operator (map row_of (map (option_map value) (optionals numbers (flags own (length numbers))))) (Some (Single (value right)))))
bits-told value result operator sent right form own items numbers as_numbers same shown whole told =
    let rights = subst (λ (r : ℤ). IfOk result (λ bits. bits ≡ map (is_held (λ (n : ℤ). holds_of operator (int_cmp n r))) (optionals items (flags form (length items))))) same told in
    let items_told = subst (λ (ns : List ℤ). IfOk result (λ bits. bits ≡ map (is_held (λ (n : ℤ). holds_of operator (int_cmp n right))) (optionals ns (flags form (length ns))))) shown rights in
    let wholes = subst (λ (v : ValidityForm). IfOk result (λ bits. bits ≡ map (is_held (λ (n : ℤ). holds_of operator (int_cmp n right))) (optionals numbers (flags v (length numbers))))) whole items_told in
    subst (λ (bs : List Bool). IfOk result (λ bits. bits ≡ bs)) (sym (answer_bits-rows value operator right as_numbers numbers (flags own (length numbers)))) wholes

-- of integers
pub bits-numbers : {E : Type 0} (result : Result (List Bool) E) (operator : CompareOperator) (sent right : ℤ) (form own : ValidityForm) (items numbers : List ℤ) → sent ≡ right → items ≡ numbers → form ≡ own
    → IfOk result (λ bits. bits ≡ map (is_held (λ n. holds_of operator (int_cmp n sent))) (optionals items (flags form (length items))))
    → IfOk result (λ bits. bits ≡ answer_bits (compare_with operator (map row_of (map (option_map (λ (n : ℤ). Number n)) (optionals numbers (flags own (length numbers))))) (Some (Single (Number right)))))
bits-numbers result operator sent right form own items numbers = bits-told (λ (n : ℤ). Number n) result operator sent right form own items numbers (λ n. refl)

-- of decimals
pub bits-decimals : {E : Type 0} (result : Result (List Bool) E) (operator : CompareOperator) (sent right : ℤ) (form own : ValidityForm) (items numbers : List ℤ) → sent ≡ right → items ≡ numbers → form ≡ own
    → IfOk result (λ bits. bits ≡ map (is_held (λ n. holds_of operator (int_cmp n sent))) (optionals items (flags form (length items))))
    → IfOk result (λ bits. bits ≡ answer_bits (compare_with operator (map row_of (map (option_map (λ (n : ℤ). DecimalNumber n)) (optionals numbers (flags own (length numbers))))) (Some (Single (DecimalNumber right)))))
bits-decimals result operator sent right form own items numbers = bits-told (λ (n : ℤ). DecimalNumber n) result operator sent right form own items numbers (λ n. refl)

-- a null is of a type with null
may_be-null : (n : Nullability) → MayBeNull n → n ≡ Nullable
may_be-null NonNullable h = absurd h
may_be-null Nullable h = refl

nullable-of_null : {A : Type 0} (t : DType) (v : ScalarView A) → is_none (sees v) ≡ true → IsViewOf t v → nullability_of t ≡ Nullable
nullable-of_null (column.Bool n) view.Null none is = may_be-null n is
nullable-of_null (column.Primitive p n) view.Null none is = may_be-null n is
nullable-of_null (column.Decimal d n) view.Null none is = may_be-null n is
nullable-of_null (column.Utf8 n) view.Null none is = may_be-null n is
nullable-of_null (column.Binary n) view.Null none is = may_be-null n is
nullable-of_null (column.List e n) view.Null none is = may_be-null n is
nullable-of_null t v none is = absurd (false≢true none)

either-nullable : (n : Nullability) → either_nullability n Nullable ≡ Nullable
either-nullable NonNullable = refl
either-nullable Nullable = refl

-- so a comparison with null is of one
pub dtype-of_null : {A : Type 0} (t u : DType) (v : ScalarView A) (form : ValidityForm) → is_none (sees v) ≡ true → IsViewOf u v → nullability_in form ≡ Nullable
    → column.Bool (nullability_in form) ≡ compare_dtype t u
dtype-of_null t u v form none is nullable =
    ap column.Bool (nullable ∙ sym (either-nullable (nullability_of t)) ∙ ap (either_nullability (nullability_of t)) (sym (nullable-of_null u v none is)))

-- the validity of a column says whether its type has null
nullability-of_varbins : (kind : VarBinKind) (n : Nullability) → nullability_of (kind_dtype kind n) ≡ n
nullability-of_varbins Utf8 n = refl
nullability-of_varbins Binary n = refl

nullability-of_leaf : (leaf : Leaf) → nullability_of (leaf_dtype leaf) ≡ nullability_in (leaf_validity leaf)
nullability-of_leaf (OfNumbers form) = refl
nullability-of_leaf (OfTruths form) = refl
nullability-of_leaf (OfDecimals form) = refl
nullability-of_leaf (OfVarBins form) = nullability-of_varbins form.kind (nullability_in form.validity)

pub dtype-of_value : (leaf : Leaf) (u : DType) (form own : ValidityForm) (n : Nullability) → own ≡ leaf_validity leaf → n ≡ nullability_of u
    → nullability_in form ≡ either_nullability (nullability_in own) n → column.Bool (nullability_in form) ≡ compare_dtype (leaf_dtype leaf) u
dtype-of_value leaf u form own n whole is told =
    ap column.Bool (told ∙ ap (λ (v : ValidityForm). either_nullability (nullability_in v) n) whole
    ∙ ap (λ (m : Nullability). either_nullability m n) (sym (nullability-of_leaf leaf)) ∙ ap (either_nullability (nullability_of (leaf_dtype leaf))) is)

-- how answers are stored, of the validity of as many rows
pub IsStored-bits : (bits : List Bool) (form : ValidityForm) (count : ℕ) → length bits ≡ count → IsNormal form → (form ≡ AllNull → 0 < count)
    → AreBlankAtNulls false bits (flags form (length bits)) → IsStoredComparison (bool_with bits form)
IsStored-bits bits form count long normal some blank = record {
  normal = normal;
  some = λ e. subst (λ (n : ℕ). 0 < n) (sym long) (some e);
  blank = blank;
}

-- the rows, and the store, of the answers of a comparison with a value, as an array of these bits and of this validity
pub rows-of_array : (operator : CompareOperator) (leaf : Leaf) (right : Option Value) (array : BoolForm) (bits : List Bool) (form : ValidityForm) → is_none right ≡ false
    → array ≡ bool_with bits form → bits ≡ answer_bits (compare_with operator (single_rows leaf) right) → flags form (length bits) ≡ map is_some (single_rows leaf)
    → map row_of (bool_rows array) ≡ compare_with operator (single_rows leaf) right
rows-of_array operator leaf right array bits form some made told flagged =
    ap (λ (a : BoolForm). map row_of (bool_rows a)) made ∙ stored_values-rows operator (single_rows leaf) right bits (flags form (length bits)) some told flagged

pub stored-of_array : (operator : CompareOperator) (leaf : Leaf) (right : Option Value) (array : BoolForm) (bits : List Bool) (form : ValidityForm) (count : ℕ) → is_none right ≡ false
    → array ≡ bool_with bits form → bits ≡ answer_bits (compare_with operator (single_rows leaf) right) → flags form (length bits) ≡ map is_some (single_rows leaf) → count ≡ length (leaf_rows leaf)
    → IsNormal form → (form ≡ AllNull → 0 < count) → IsStoredComparison array
stored-of_array operator leaf right array bits form count some made told flagged same normal rows =
    let long : length bits ≡ count = ap (λ (bs : List Bool). length bs) told ∙ length-answer_bits operator leaf right ∙ sym same in
    subst IsStoredComparison (sym made)
    (IsStored-bits bits form count long normal rows (stored_values-blank operator (single_rows leaf) right bits (flags form (length bits)) some told flagged))

-- the rows of a comparison with null are null each
pub rows-of_nulls : (operator : CompareOperator) (leaf : Leaf) (right : Option Value) (array : BoolForm) (form : ValidityForm) (count : ℕ) → is_none right ≡ true
    → array ≡ bool_with (replicate count false) form → flags form count ≡ replicate count false → count ≡ length (leaf_rows leaf)
    → map row_of (bool_rows array) ≡ compare_with operator (single_rows leaf) right
rows-of_nulls operator leaf right array form count none made flagged same =
    let all : flags form (length (replicate count false)) ≡ replicate count false = ap (flags form) (length-replicate count false) ∙ flagged in
    ap (λ (a : BoolForm). map row_of (bool_rows a)) made
    ∙ ap (λ (bs : List Bool). map row_of (map (option_map (λ (b : Bool). Truth b)) (optionals (replicate count false) bs))) all
    ∙ stored_nulls-rows operator (single_rows leaf) right count none (same ∙ sym (length-map (leaf_rows leaf) row_of))

pub stored-of_nulls : (array : BoolForm) (form : ValidityForm) (count : ℕ) → array ≡ bool_with (replicate count false) form → flags form count ≡ replicate count false
    → IsNormal form → (form ≡ AllNull → 0 < count) → IsStoredComparison array
stored-of_nulls array form count made flagged normal rows =
    let long = length-replicate count false in
    let all : flags form (length (replicate count false)) ≡ replicate count false = ap (flags form) long ∙ flagged in
    subst IsStoredComparison (sym made)
    (IsStored-bits (replicate count false) form count long normal rows (subst (AreBlankAtNulls false (replicate count false)) (sym all) (stored_nulls-blank count)))
