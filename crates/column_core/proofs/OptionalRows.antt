-- Lemmas on rows of which some are null: items, and a flag for each.
use Rattle.std.proofs.Common.{◌≡◌, ◌∙◌, ◌-◌, ◌<◌, ◌≤◌, ℕ, ℤ, take, drop, pos, zero, suc, List, [], ◌∷◌, ◌++◌, Bool, true, false, Option, Some, None, length, map, refl, sym, ap, arith, get_or}
use Rattle.std.specs.Prelude.{slice_get, slice_range, option_map, if◌then◌else◌}
use Rattle.std.proofs.lemmas.List.{length-map}
use Rattle.std.proofs.lemmas.Option.{slice_get-map, slice_get-get_or}
use Rattle.column_base.specs.ValidityForm.{ValidityForm, HasLength, flag_at, flags}
use Rattle.column_base.proofs.Ranges.{length-slice_range, slice_range_of_map}
use Rattle.column_base.proofs.ValidityRows.{flags-at, length-flags}
use Rattle.column_core.specs.Value.{FlatValue, Truth, Number, DecimalNumber, Value, Single}
use Rattle.column_core.specs.Optionals.{optionals, AreBlankAtNulls}
use Rattle.column_core.specs.PrimitiveForm.{PrimitiveForm, optional_numbers, primitive_rows, row_flags, AreZeroAtNulls}
use Rattle.column_core.specs.BoolForm.{BoolForm, bool_rows, bool_flags}
use Rattle.column_core.specs.DecimalForm.{DecimalForm, decimal_rows, decimal_flags}
use Rattle.column_core.specs.VarBinForm.{VarBinForm, varbin_rows, varbin_flags, varbin_value, view_bytes}

-- there is one optional item for each item
pub length-optionals : {B : Type 0} (xs : List B) (bs : List Bool) → length bs ≡ length xs → length (optionals xs bs) ≡ length xs
length-optionals [] bs h = refl
length-optionals (x ∷ xs) [] h = cc
length-optionals (x ∷ xs) (b ∷ bs) h = let rest = length-optionals xs bs (omega arith) in omega arith

-- the optional item at k, of the item and the flag there
pub optionals-at : {B : Type 0} (xs : List B) (bs : List Bool) (k : ℕ) (x : B) (b : Bool) → slice_get xs k ≡ Some x → slice_get bs k ≡ Some b
    → slice_get (optionals xs bs) k ≡ Some (if b then Some x else None)
optionals-at [] bs k x b h g = cc
optionals-at (y ∷ xs) [] k x b h g = cc
optionals-at (y ∷ xs) (c ∷ bs) zero x b h g = cc
optionals-at (y ∷ xs) (c ∷ bs) (suc k) x b h g = optionals-at xs bs k x b h g

-- the optional item at k, where the flag there is false
pub null-at : {B : Type 0} (xs : List B) (bs : List Bool) (k : ℕ) → k < length xs → slice_get bs k ≡ Some false → slice_get (optionals xs bs) k ≡ Some None
null-at [] bs k h g = absurd (omega arith)
null-at (x ∷ xs) [] k h g = cc
null-at (x ∷ xs) (b ∷ bs) zero h g = cc
null-at (x ∷ xs) (b ∷ bs) (suc k) h g = null-at xs bs k (omega arith) g

-- pushing an item and a flag pushes one optional item
pub optionals-push : {B : Type 0} (xs : List B) (bs : List Bool) (x : B) (b : Bool) → length bs ≡ length xs
    → optionals (xs ++ x ∷ []) (bs ++ b ∷ []) ≡ optionals xs bs ++ (if b then Some x else None) ∷ []
optionals-push [] [] x b h = refl
optionals-push [] (c ∷ bs) x b h = cc
optionals-push (y ∷ xs) [] x b h = cc
optionals-push (y ∷ xs) (c ∷ bs) x b h = let rest = optionals-push xs bs x b (omega arith) in cc

-- the blank item stays stored under null, where a null pushed stores it
pub AreBlankAtNulls-push : {B : Type 0} (blank : B) (xs : List B) (bs : List Bool) (x : B) (b : Bool) → length bs ≡ length xs
    → (b ≡ false → x ≡ blank) → AreBlankAtNulls blank xs bs → AreBlankAtNulls blank (xs ++ x ∷ []) (bs ++ b ∷ [])
AreBlankAtNulls-push blank [] [] x b h z a = (z, tt)
AreBlankAtNulls-push blank [] (c ∷ bs) x b h z a = cc
AreBlankAtNulls-push blank (y ∷ xs) [] x b h z a = cc
AreBlankAtNulls-push blank (y ∷ xs) (c ∷ bs) x b h z a = (a.0, AreBlankAtNulls-push blank xs bs x b (omega arith) z a.1)

-- 0 stays stored under null, where a null pushed stores 0
pub AreZeroAtNulls-push : (ns : List ℤ) (bs : List Bool) (n : ℤ) (b : Bool) → length bs ≡ length ns
    → (b ≡ false → n ≡ pos 0) → AreZeroAtNulls ns bs → AreZeroAtNulls (ns ++ n ∷ []) (bs ++ b ∷ [])
AreZeroAtNulls-push ns bs n b h z a = AreBlankAtNulls-push (pos 0) ns bs n b h z a

-- there are no more optional items than items
pub length-optionals-le : {B : Type 0} (xs : List B) (bs : List Bool) → length (optionals xs bs) ≤ length xs
length-optionals-le [] bs = omega arith
length-optionals-le (x ∷ xs) [] = omega arith
length-optionals-le (x ∷ xs) (b ∷ bs) = let rest = length-optionals-le xs bs in omega arith

-- optional items from some place on
optionals-drop : {B : Type 0} (xs : List B) (bs : List Bool) (k : ℕ) → length bs ≡ length xs → optionals (drop k xs) (drop k bs) ≡ drop k (optionals xs bs)
optionals-drop [] [] zero h = refl
optionals-drop [] [] (suc k) h = refl
optionals-drop [] (b ∷ bs) k h = cc
optionals-drop (x ∷ xs) [] k h = cc
optionals-drop (x ∷ xs) (b ∷ bs) zero h = refl
optionals-drop (x ∷ xs) (b ∷ bs) (suc k) h = optionals-drop xs bs k (omega arith)

-- optional items up to some place
optionals-take : {B : Type 0} (xs : List B) (bs : List Bool) (k : ℕ) → optionals (take k xs) (take k bs) ≡ take k (optionals xs bs)
optionals-take xs bs zero = refl
optionals-take [] bs (suc k) = refl
optionals-take (x ∷ xs) [] (suc k) = refl
optionals-take (x ∷ xs) (b ∷ bs) (suc k) = ap (λ os. (if b then Some x else None) ∷ os) (optionals-take xs bs k)

-- a range of optional items, of ranges of items and flags
pub optionals-slice_range : {B : Type 0} (xs : List B) (bs : List Bool) (start stop : ℕ) → length bs ≡ length xs
    → optionals (slice_range xs start stop) (slice_range bs start stop) ≡ slice_range (optionals xs bs) start stop
optionals-slice_range xs bs start stop h = optionals-take (drop start xs) (drop start bs) (stop - start) ∙ ap (take (stop - start)) (optionals-drop xs bs start h)

-- there is one row for each item
pub length-rows_of : {B : Type 0} (value : B → FlatValue) (xs : List B) (bs : List Bool) → length bs ≡ length xs → length (map (option_map value) (optionals xs bs)) ≡ length xs
length-rows_of value xs bs h = length-map (optionals xs bs) (option_map value) ∙ length-optionals xs bs h

-- there are no more rows than items
pub rows_of-within : {B : Type 0} (value : B → FlatValue) (xs : List B) (bs : List Bool) → length (map (option_map value) (optionals xs bs)) ≤ length xs
rows_of-within value xs bs = omega (arith, length-map (optionals xs bs) (option_map value), length-optionals-le xs bs)

-- the row at k, as a value, is the optional item there
value-at : {B : Type 0} (value : B → FlatValue) (xs : List B) (bs : List Bool) (k : ℕ) (o : Option B) → slice_get (optionals xs bs) k ≡ Some o
    → slice_get (map (option_map (λ (v : FlatValue). Single v)) (map (option_map value) (optionals xs bs))) k ≡ Some (option_map (λ (v : FlatValue). Single v) (option_map value o))
value-at value xs bs k o h =
    slice_get-map (option_map (λ (v : FlatValue). Single v)) (map (option_map value) (optionals xs bs)) k
    ∙ ap (option_map (option_map (λ (v : FlatValue). Single v))) (slice_get-map (option_map value) (optionals xs bs) k ∙ ap (option_map (option_map value)) h)

-- the row at k of a validity that says that it is valid shows the item stored there
pub valid-row_of : {B : Type 0} (value : B → FlatValue) (xs : List B) (form : ValidityForm) (n k : ℕ) (x : B) (seen : Option Value)
    → HasLength form n → k < n → flag_at form k ≡ true → slice_get xs k ≡ Some x → Some (Some (Single (value x))) ≡ Some seen
    → slice_get (map (option_map (λ (v : FlatValue). Single v)) (map (option_map value) (optionals xs (flags form n)))) k ≡ Some seen
valid-row_of value xs form n k x seen has within flag item shows =
    let valid : slice_get (flags form n) k ≡ Some true = flags-at form n k has within ∙ ap Some flag in
    value-at value xs (flags form n) k (Some x) (optionals-at xs (flags form n) k x true item valid) ∙ shows

-- the row at k of a validity that says that it is null is null
pub null-row_of : {B : Type 0} (value : B → FlatValue) (xs : List B) (form : ValidityForm) (n k : ℕ)
    → HasLength form n → length xs ≡ n → k < n → flag_at form k ≡ false
    → slice_get (map (option_map (λ (v : FlatValue). Single v)) (map (option_map value) (optionals xs (flags form n)))) k ≡ Some None
null-row_of value xs form n k has counted within flag =
    let invalid : slice_get (flags form n) k ≡ Some false = flags-at form n k has within ∙ ap Some flag in
    value-at value xs (flags form n) k None (null-at xs (flags form n) k (omega arith) invalid)

-- the flags of a range of rows
pub flags-of_range : (whole part : ValidityForm) (counted count start stop : ℕ) → counted ≡ stop - start
    → flags part (stop - start) ≡ slice_range (flags whole count) start stop → flags part counted ≡ slice_range (flags whole count) start stop
flags-of_range whole part counted count start stop same flagged = ap (flags part) same ∙ flagged

-- the rows of a range of n items, m in number, under flags of that range are a range of the rows
pub range-of_rows : {B : Type 0} (value : B → FlatValue) (xs part : List B) (whole_form part_form : ValidityForm) (n m start stop : ℕ)
    → length xs ≡ n → length part ≡ m → start ≤ stop → stop ≤ n → HasLength whole_form n
    → part ≡ slice_range xs start stop → flags part_form (stop - start) ≡ slice_range (flags whole_form n) start stop
    → map (option_map value) (optionals part (flags part_form m)) ≡ slice_range (map (option_map value) (optionals xs (flags whole_form n))) start stop
range-of_rows value xs part whole_form part_form n m start stop counted part_counted ordered within fits stored flagged =
    let sized : length part ≡ stop - start = ap length stored ∙ length-slice_range xs start stop ordered (omega arith) in
    let marks = flags-of_range whole_form part_form m n start stop (sym part_counted ∙ sized) flagged in
    let shown : optionals part (flags part_form m) ≡ slice_range (optionals xs (flags whole_form n)) start stop =
    ap (λ ys. optionals ys (flags part_form m)) stored ∙ ap (optionals (slice_range xs start stop)) marks
    ∙ optionals-slice_range xs (flags whole_form n) start stop (length-flags whole_form n fits ∙ sym counted) in
    ap (map (option_map value)) shown ∙ sym (slice_range_of_map (option_map value) (optionals xs (flags whole_form n)) start stop)

-- there is one row for each number
pub length-primitive_rows : (f : PrimitiveForm) → HasLength f.validity (length f.numbers) → length (primitive_rows f) ≡ length f.numbers
length-primitive_rows f h = length-rows_of (λ (n : ℤ). Number n) f.numbers (row_flags f) (length-flags f.validity (length f.numbers) h)

-- there are no more rows than numbers
pub rows_within_numbers : (f : PrimitiveForm) → length (primitive_rows f) ≤ length f.numbers
rows_within_numbers f = rows_of-within (λ (n : ℤ). Number n) f.numbers (row_flags f)

-- the row at k is the optional number there
pub primitive_rows-at : (f : PrimitiveForm) (k : ℕ) (o : Option ℤ) → slice_get (optional_numbers f) k ≡ Some o
    → slice_get (primitive_rows f) k ≡ Some (option_map (λ (n : ℤ). Number n) o)
primitive_rows-at f k o h = slice_get-map (option_map (λ (n : ℤ). Number n)) (optional_numbers f) k ∙ ap (option_map (option_map (λ (n : ℤ). Number n))) h

-- a row whose flag is true shows the number stored there
pub valid-row : (f : PrimitiveForm) (k : ℕ) (seen : Option Value) → HasLength f.validity (length f.numbers) → k < length f.numbers → flag_at f.validity k ≡ true
    → option_map (λ (n : ℤ). Some (Single (Number n))) (slice_get f.numbers k) ≡ Some seen
    → slice_get (map (option_map (λ (v : FlatValue). Single v)) (primitive_rows f)) k ≡ Some seen
valid-row f k seen has within flag shows =
    let n = get_or f.numbers k (pos 0) in
    let number : slice_get f.numbers k ≡ Some n = slice_get-get_or f.numbers k (pos 0) within in
    valid-row_of (λ (m : ℤ). Number m) f.numbers f.validity (length f.numbers) k n seen has within flag number
    (sym (ap (option_map (λ (m : ℤ). Some (Single (Number m)))) number) ∙ shows)

-- a row whose flag is false is null
pub null-row : (f : PrimitiveForm) (k : ℕ) → HasLength f.validity (length f.numbers) → k < length f.numbers → flag_at f.validity k ≡ false
    → slice_get (map (option_map (λ (v : FlatValue). Single v)) (primitive_rows f)) k ≡ Some None
null-row f k has within flag = null-row_of (λ (n : ℤ). Number n) f.numbers f.validity (length f.numbers) k has refl within flag

-- the rows of a range of numbers and flags are a range of the rows
pub rows-of_range : (whole part : PrimitiveForm) (start stop : ℕ) → start ≤ stop → stop ≤ length whole.numbers → HasLength whole.validity (length whole.numbers)
    → part.numbers ≡ slice_range whole.numbers start stop → flags part.validity (stop - start) ≡ slice_range (row_flags whole) start stop
    → primitive_rows part ≡ slice_range (primitive_rows whole) start stop
rows-of_range whole part start stop ordered within fits stored flagged =
    range-of_rows (λ (n : ℤ). Number n) whole.numbers part.numbers whole.validity part.validity (length whole.numbers) (length part.numbers) start stop
    refl refl ordered within fits stored flagged

-- there is one row for each bit
pub length-bool_rows : (f : BoolForm) → HasLength f.validity (length f.bits) → length (bool_rows f) ≡ length f.bits
length-bool_rows f h = length-rows_of (λ (b : Bool). Truth b) f.bits (bool_flags f) (length-flags f.validity (length f.bits) h)

-- there are no more rows than bits
pub rows_within_bits : (f : BoolForm) → length (bool_rows f) ≤ length f.bits
rows_within_bits f = rows_of-within (λ (b : Bool). Truth b) f.bits (bool_flags f)

-- there is one row for each number of a decimal
pub length-decimal_rows : (f : DecimalForm) → HasLength f.validity (length f.numbers) → length (decimal_rows f) ≡ length f.numbers
length-decimal_rows f h = length-rows_of (λ (n : ℤ). DecimalNumber n) f.numbers (decimal_flags f) (length-flags f.validity (length f.numbers) h)

-- there are no more rows than numbers of decimals
pub rows_within_decimals : (f : DecimalForm) → length (decimal_rows f) ≤ length f.numbers
rows_within_decimals f = rows_of-within (λ (n : ℤ). DecimalNumber n) f.numbers (decimal_flags f)

-- there is one row for each view
pub length-varbin_rows : (f : VarBinForm) → HasLength f.validity (length f.views) → length (varbin_rows f) ≡ length f.views
length-varbin_rows f h =
    let same : length (map (view_bytes f.buffers) f.views) ≡ length f.views = length-map f.views (view_bytes f.buffers) in
    length-rows_of (varbin_value f.kind) (map (view_bytes f.buffers) f.views) (varbin_flags f) (length-flags f.validity (length f.views) h ∙ sym same) ∙ same

-- there are no more rows than views
pub rows_within_views : (f : VarBinForm) → length (varbin_rows f) ≤ length f.views
rows_within_views f =
    let same : length (map (view_bytes f.buffers) f.views) ≡ length f.views = length-map f.views (view_bytes f.buffers) in
    omega (arith, rows_of-within (varbin_value f.kind) (map (view_bytes f.buffers) f.views) (varbin_flags f))

-- there are no more rows than stored items, whatever the kind
pub ruleset rows_within = (rows_within_numbers, rows_within_bits, rows_within_decimals, rows_within_views)

-- a range of flat rows is a range of them as values
pub single-of_range : (part whole : List (Option FlatValue)) (start stop : ℕ) → part ≡ slice_range whole start stop
    → map (option_map (λ (v : FlatValue). Single v)) part ≡ slice_range (map (option_map (λ (v : FlatValue). Single v)) whole) start stop
single-of_range part whole start stop same =
    ap (map (option_map (λ (v : FlatValue). Single v))) same ∙ sym (slice_range_of_map (option_map (λ (v : FlatValue). Single v)) whole start stop)
