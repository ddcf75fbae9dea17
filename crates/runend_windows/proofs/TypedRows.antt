-- What a typed decoder has computed, by the items and the flags that fill its rows.
use Rattle.std.proofs.Common.{subst, ◌≡◌, ℕ, ℤ, pos, zero, suc, ◌+◌, ◌<◌, get_or, List, [], ◌∷◌, Bool, true, false, Option, Some, None, length, map, replicate, refl, sym, ◌∙◌, ap, arith}
use Rattle.std.specs.List.{slice_get, range_with_len}
use Rattle.std.specs.Prelude.{All}
use Rattle.std.proofs.lemmas.List.Elements.{All-head, All-tail}
use Rattle.std.specs.Option.{option_map, unwrap_or, UnwrapsOrElse}
use Rattle.std.specs.declared.cmp.Ordering.{Ordering}
use Rattle.column_base.specs.Number.{IsNumbered}
use Rattle.std.proofs.lemmas.List.{length-map, length-replicate}
use Rattle.std.proofs.lemmas.Option.{slice_get-map, slice_get-get_or, slice_get_within, get_or_from_slice_get}
use Rattle.column_base.specs.declared.dtype.Nullability.{Nullability}
use Rattle.column_base.specs.declared.dtype.Nullability.TheVariants.{NonNullable, Nullable}
use Rattle.column_base.specs.declared.mask.Mask.{Mask}
use Rattle.column_base.specs.declared.mask.Mask.TheVariants.{AllTrue, AllFalse, Values}
use Rattle.column_base.specs.Mask.{mask_bits}
use Rattle.column_base.specs.ValidityForm.{ValidityForm, IsNormal, flags}
use Rattle.column_core.specs.Value.{FlatValue, Truth, Number, Value, Single, MayBeNull}
use Rattle.column_core.specs.Optionals.{optionals, AreBlankAtNulls}
use Rattle.column_core.specs.PrimitiveForm.{PrimitiveForm, optional_numbers, row_flags}
use Rattle.column_core.proofs.OptionalRows.{length-optionals, optionals-at, null-at}
use Rattle.runend_windows.specs.Window.{run_at, last_end}
use Rattle.runend_windows.specs.Window.{run_rows}
use Rattle.runend_windows.specs.Encoding.{HasNullsAlone, blanked, number_rows}
use Rattle.column_core.specs.Computed.{HasRowIfAllNull, IsComputed, without_nulls}
use Rattle.runend_windows.specs.RunEnds.{Fills, FitsMask, masked_truths, masked_values}
use Rattle.runend_windows.proofs.Blanked.{optionals-blanked, AreBlankAtNulls-from_each}
use Rattle.runend_windows.proofs.WrittenConstants.{flags-without_nulls}
use Rattle.runend_windows.proofs.Lists.{equal_by_slice_get, slice_get-replicate}
use Rattle.runend_windows.proofs.RunAt.{run_at_within}
use Rattle.runend_windows.proofs.RunRows.{length-run_rows, slice_get-run_rows}

-- items and flags that are filled apart are optional items filled
Fills-optionals : {B : Type 0} (blank : B) (items : List B) (marks : List Bool) (ends : List ℕ) (run_items : List B) (run_marks : List Bool) (count : ℕ)
    → Fills items ends run_items count → Fills marks ends run_marks count → Fills (optionals items marks) ends (optionals run_items run_marks) count
Fills-optionals blank items marks ends run_items run_marks count f g =
    let counted = f.counted in
    let marked = g.counted in
    record {
      counted = length-optionals items marks (omega arith) ∙ counted;
      each = λ i h.
          let item = slice_get-get_or items i blank (omega arith) in
          let mark = slice_get-get_or marks i false (omega arith) in
          let row = optionals-at items marks i (get_or items i blank) (get_or marks i false) item mark in
          let value = optionals-at run_items run_marks (run_at ends i) (get_or items i blank) (get_or marks i false) (sym (f.each i h) ∙ item) (sym (g.each i h) ∙ mark) in
          row ∙ sym value;
    }

-- copies are filled by copies
Fills-copies : {X : Type 0} (x : X) (ends : List ℕ) (count runs : ℕ) → runs ≡ length ends → last_end ends ≡ count → Fills (replicate count x) ends (replicate runs x) count
Fills-copies x [] count runs all last = record { counted = length-replicate count x; each = λ i h. absurd (omega arith) }
Fills-copies x (end ∷ ends) count runs all last = record {
  counted = length-replicate count x;
  each = λ i h.
      let within = run_at_within (end ∷ ends) i (omega arith) (omega arith) in
      slice_get-replicate count i x h ∙ sym (slice_get-replicate runs (run_at (end ∷ ends) i) x (omega arith));
}

-- filled rows are the rows of the runs
run_rows-of_Fills : {B : Type 0} (rows : List (Option B)) (ends : List ℕ) (values : List (Option B)) (count : ℕ) → Fills rows ends values count → rows ≡ run_rows ends values 0 count
run_rows-of_Fills rows ends values count fills = equal_by_slice_get rows (run_rows ends values 0 count) (fills.counted ∙ sym (length-run_rows ends values 0 count)) (λ i h.
    let counted = fills.counted in
    let row = slice_get-get_or rows i None h in
    let value = get_or_from_slice_get values (run_at ends i) (get_or rows i None) None (sym (fills.each i (omega arith)) ∙ row) in
    let start : 0 + i ≡ i = omega arith in
    row ∙ ap Some (sym value) ∙ sym (rw start at (slice_get-run_rows ends values 0 count i (omega arith))))

-- the blank item under null, by index
blank-of_stored : {B : Type 0} (blank : B) (items : List B) (marks : List Bool) (k : ℕ) (x : B) → slice_get (blanked blank (optionals items marks)) k ≡ Some x
    → slice_get marks k ≡ Some false → x ≡ blank
blank-of_stored blank [] marks k x here mark = cc
blank-of_stored blank (y ∷ items) [] k x here mark = cc
blank-of_stored blank (y ∷ items) (true ∷ marks) zero x here mark = cc
blank-of_stored blank (y ∷ items) (false ∷ marks) zero x here mark = cc
blank-of_stored blank (y ∷ items) (b ∷ marks) (suc k) x here mark = blank-of_stored blank items marks k x here mark

-- where no item is null, each is stored
stored-of_valid : {B : Type 0} (blank : B) (items : List B) (n : ℕ) → n ≡ length items → blanked blank (optionals items (replicate n true)) ≡ items
stored-of_valid blank [] n h = refl
stored-of_valid blank (x ∷ items) zero h = absurd (omega arith)
stored-of_valid {B} blank (x ∷ items) (suc n) h = ap (λ (xs : List B). x ∷ xs) (stored-of_valid blank items n (omega arith))

-- where each is null, the blank one is
stored-of_nulls : {B : Type 0} (blank : B) (items : List B) (n : ℕ) → n ≡ length items → blanked blank (optionals items (replicate n false)) ≡ replicate n blank
stored-of_nulls blank [] zero h = refl
stored-of_nulls blank [] (suc n) h = absurd (omega arith)
stored-of_nulls blank (x ∷ items) zero h = absurd (omega arith)
stored-of_nulls {B} blank (x ∷ items) (suc n) h = ap (λ (xs : List B). blank ∷ xs) (stored-of_nulls blank items n (omega arith))

-- items and a validity show the rows of runs of optional items, with a blank one under null
pub record Shows {B : Type 0} (blank : B) (items : List B) (form : ValidityForm) (ends : List ℕ) (run_items : List B) (run_marks : List Bool) (count : ℕ) : Type 0 where
  pub counted : length items ≡ count
  pub rows : optionals items (flags form count) ≡ run_rows ends (optionals run_items run_marks) 0 count
  pub blanks : AreBlankAtNulls blank items (flags form count)

-- they do where items and flags are filled apart
Shows-of_Fills : {B : Type 0} (blank : B) (items : List B) (form : ValidityForm) (ends : List ℕ) (run_items : List B) (run_marks : List Bool) (count : ℕ)
    → length run_marks ≡ length run_items → Fills items ends (blanked blank (optionals run_items run_marks)) count → Fills (flags form count) ends run_marks count
    → Shows blank items form ends run_items run_marks count
Shows-of_Fills blank items form ends run_items run_marks count paired kept marked =
    let shown = rw (optionals-blanked blank run_items run_marks paired) at
    (Fills-optionals blank items (flags form count) ends (blanked blank (optionals run_items run_marks)) run_marks count kept marked) in
    record {
      counted = kept.counted;
      rows = run_rows-of_Fills (optionals items (flags form count)) ends (optionals run_items run_marks) count shown;
      blanks = AreBlankAtNulls-from_each blank items (flags form count) (λ i x here mark.
          let counted = kept.counted in
          let within = slice_get_within items i x here in
          blank-of_stored blank run_items run_marks (run_at ends i) x (sym (kept.each i (omega arith)) ∙ here) (sym (marked.each i (omega arith)) ∙ mark));
    }

-- where no item is null
pub Shows-of_valid : {B : Type 0} (blank : B) (items : List B) (nullability : Nullability) (ends : List ℕ) (run_items : List B) (n count : ℕ) → n ≡ length run_items
    → length ends ≡ length run_items → last_end ends ≡ count → Fills items ends run_items count → Shows blank items (without_nulls nullability) ends run_items (replicate n true) count
Shows-of_valid blank items nullability ends run_items n count all paired last fills =
    Shows-of_Fills blank items (without_nulls nullability) ends run_items (replicate n true) count (length-replicate n true ∙ all)
    (rw (stored-of_valid blank run_items n all) fills)
    (rw (flags-without_nulls nullability count) (Fills-copies true ends count n (all ∙ sym paired) last))

-- where each is
pub Shows-of_nulls : {B : Type 0} (blank : B) (form : ValidityForm) (ends : List ℕ) (run_items : List B) (n count : ℕ) → flags form count ≡ replicate count false
    → n ≡ length run_items → length ends ≡ length run_items → last_end ends ≡ count → Shows blank (replicate count blank) form ends run_items (replicate n false) count
Shows-of_nulls blank form ends run_items n count null all paired last =
    Shows-of_Fills blank (replicate count blank) form ends run_items (replicate n false) count (length-replicate n false ∙ all)
    (rw (stored-of_nulls blank run_items n all) (Fills-copies blank ends count n (all ∙ sym paired) last))
    (rw null (Fills-copies false ends count n (all ∙ sym paired) last))

-- and where the validity is made of filled flags
pub Shows-of_marks : {B : Type 0} (blank : B) (items : List B) (form : ValidityForm) (marks : List Bool) (ends : List ℕ) (run_items : List B) (run_marks : List Bool) (count : ℕ)
    → length run_marks ≡ length run_items → flags form (length marks) ≡ marks → Fills items ends (blanked blank (optionals run_items run_marks)) count → Fills marks ends run_marks count
    → Shows blank items form ends run_items run_marks count
Shows-of_marks blank items form marks ends run_items run_marks count paired marked fills marks_fill =
    let same : flags form count ≡ marks = ap (flags form) (sym marks_fill.counted) ∙ marked in
    Shows-of_Fills blank items form ends run_items run_marks count paired fills (rw same marks_fill)

-- an optional item past the end of a mapped list
get_or-map_none : {X Y : Type 0} (f : X → Y) (values : List (Option X)) (k : ℕ) → get_or (map (option_map f) values) k None ≡ option_map f (get_or values k None)
get_or-map_none f [] k = refl
get_or-map_none f (value ∷ values) zero = refl
get_or-map_none f (value ∷ values) (suc k) = get_or-map_none f values k

-- the rows of mapped values are the rows mapped
pub run_rows-map : {X Y : Type 0} (f : X → Y) (ends : List ℕ) (values : List (Option X)) (offset count : ℕ)
    → map (option_map f) (run_rows ends values offset count) ≡ run_rows ends (map (option_map f) values) offset count
run_rows-map f ends values offset count =
    let long = length-run_rows ends values offset count in
    let mapped = length-map (run_rows ends values offset count) (option_map f) in
    equal_by_slice_get _ _ (mapped ∙ long ∙ sym (length-run_rows ends (map (option_map f) values) offset count)) (λ i h.
    slice_get-map (option_map f) (run_rows ends values offset count) i
    ∙ ap (option_map (option_map f)) (slice_get-run_rows ends values offset count i (omega arith))
    ∙ ap Some (sym (get_or-map_none f values (run_at ends (offset + i))))
    ∙ sym (slice_get-run_rows ends (map (option_map f) values) offset count i (omega arith)))

-- the rows of a column of numbers that are shown
pub number_rows-of_Shows : (array : PrimitiveForm) (ends : List ℕ) (numbers : List ℤ) (bits : List Bool) (count : ℕ) → Shows (pos 0) array.numbers array.validity ends numbers bits count
    → number_rows array ≡ run_rows ends (masked_values numbers bits) 0 count
number_rows-of_Shows array ends numbers bits count shows =
    let row_marks : row_flags array ≡ flags array.validity count = ap (flags array.validity) shows.counted in
    let shown : optional_numbers array ≡ run_rows ends (optionals numbers bits) 0 count = ap (optionals array.numbers) row_marks ∙ shows.rows in
    ap (λ (rows : List (Option ℤ)). map (option_map (λ (v : FlatValue). Single v)) (map (option_map (λ (n : ℤ). Number n)) rows)) shown
    ∙ ap (map (option_map (λ (v : FlatValue). Single v))) (run_rows-map (λ (n : ℤ). Number n) ends (optionals numbers bits) 0 count)
    ∙ run_rows-map (λ (v : FlatValue). Single v) ends _ 0 count

-- and of booleans
pub truth_rows-of_Shows : (items : List Bool) (form : ValidityForm) (ends : List ℕ) (truths : List Bool) (bits : List Bool) (count : ℕ) → Shows false items form ends truths bits count
    → map (option_map (λ (v : FlatValue). Single v)) (map (option_map (λ (b : Bool). Truth b)) (optionals items (flags form (length items)))) ≡ run_rows ends (masked_truths truths bits) 0 count
truth_rows-of_Shows items form ends truths bits count shows =
    let row_marks : flags form (length items) ≡ flags form count = ap (flags form) shows.counted in
    let shown : optionals items (flags form (length items)) ≡ run_rows ends (optionals truths bits) 0 count = ap (optionals items) row_marks ∙ shows.rows in
    ap (λ (rows : List (Option Bool)). map (option_map (λ (v : FlatValue). Single v)) (map (option_map (λ (b : Bool). Truth b)) rows)) shown
    ∙ ap (map (option_map (λ (v : FlatValue). Single v))) (run_rows-map (λ (b : Bool). Truth b) ends (optionals truths bits) 0 count)
    ∙ run_rows-map (λ (v : FlatValue). Single v) ends _ 0 count

-- and its form
pub IsComputed-of_Shows : (array : PrimitiveForm) (ends : List ℕ) (numbers : List ℤ) (bits : List Bool) (count : ℕ) → Shows (pos 0) array.numbers array.validity ends numbers bits count
    → IsNormal array.validity → HasRowIfAllNull array.validity count → IsComputed array
IsComputed-of_Shows array ends numbers bits count shows normal some =
    let row_marks : flags array.validity count ≡ row_flags array = ap (flags array.validity) (sym shows.counted) in
    record { blanked = rw row_marks at shows.blanks; normal = normal; some = subst (HasRowIfAllNull array.validity) (sym shows.counted) some }

-- a type under a mask with a form that has false bits has null
pub nullable-under_false : {A : Type 0} (nullability : Nullability) (mask : Mask A) (n : ℕ) → mask ≡ AllFalse n → FitsMask nullability mask → nullability ≡ Nullable
nullable-under_false NonNullable mask n form fits = absurd (rw form at fits)
nullable-under_false Nullable mask n form fits = refl

pub nullable-under_values : {A : Type 0} (nullability : Nullability) (mask : Mask A) (bits : List Bool) → mask ≡ Values bits → FitsMask nullability mask → nullability ≡ Nullable
nullable-under_values NonNullable mask bits form fits = absurd (rw form at fits)
nullable-under_values Nullable mask bits form fits = refl

pub nullable-under_nulls : {A : Type 0} (nullability : Nullability) (mask : Mask A) (n : ℕ) → mask ≡ AllFalse n → FitsMask nullability mask → nullability ≡ Nullable
nullable-under_nulls NonNullable mask n form fits = absurd (rw form at fits)
nullable-under_nulls Nullable mask n form fits = refl

-- a type under a mask that is true where there is a value and nowhere true has null
pub nullable-of_nulls : {A : Type 0} (nullability : Nullability) (mask : Mask A) (truths : List Bool) → FitsMask nullability mask → length (mask_bits mask) ≡ length truths
    → HasNullsAlone (masked_truths truths (mask_bits mask)) → MayBeNull nullability
nullable-of_nulls Nullable mask truths fits paired nulls = tt
nullable-of_nulls NonNullable (AllTrue n) truths fits paired nulls = elim truths as (λ ts. length (replicate n true) ≡ length ts → HasNullsAlone (masked_truths ts (replicate n true)) → MayBeNull NonNullable) [
  | [] ↦ λ p h. let some = h.0 in absurd (omega arith)
  | t ∷ ts ↦ λ p h. elim n as (λ m. length (replicate m true) ≡ length (t ∷ ts) → HasNullsAlone (masked_truths (t ∷ ts) (replicate m true)) → MayBeNull NonNullable) [
    | zero ↦ λ q k. absurd (omega arith)
    | suc m ↦ λ q k.
        let first : ◌≡◌ {A = Option Value} (Some (Single (Truth t))) None = All-head (λ v. v ≡ None) (Some (Single (Truth t))) (masked_truths ts (replicate m true)) k.1 in
        cc
  ] p h
] paired nulls
nullable-of_nulls NonNullable (AllFalse n) truths fits paired nulls = absurd fits
nullable-of_nulls NonNullable (Values bits) truths fits paired nulls = absurd fits

-- a mask of one bit in all rows has as many of them as there are values
pub rows_masked : (bit : Bool) (bits : List Bool) (n runs : ℕ) → bits ≡ replicate n bit → length bits ≡ runs → n ≡ runs
rows_masked bit bits n runs same masked = sym (length-replicate n bit) ∙ sym (ap length same) ∙ masked

-- a stored item, by its flag
pub stored-at_valid : {B : Type 0} (blank : B) (items : List B) (marks : List Bool) (k : ℕ) (x : B) → slice_get items k ≡ Some x → slice_get marks k ≡ Some true
    → slice_get (blanked blank (optionals items marks)) k ≡ Some x
stored-at_valid {B} blank items marks k x item mark =
    slice_get-map (λ (row : Option B). unwrap_or row blank) (optionals items marks) k
    ∙ ap (option_map (λ (row : Option B). unwrap_or row blank)) (optionals-at items marks k x true item mark)

pub stored-at_null : {B : Type 0} (blank : B) (items : List B) (marks : List Bool) (k : ℕ) → k < length items → slice_get marks k ≡ Some false
    → slice_get (blanked blank (optionals items marks)) k ≡ Some blank
stored-at_null {B} blank items marks k within mark =
    slice_get-map (λ (row : Option B). unwrap_or row blank) (optionals items marks) k
    ∙ ap (option_map (λ (row : Option B). unwrap_or row blank)) (null-at items marks k within mark)

number_kept : {S : Type 0} (eq : S → S → Bool) (cmp : S → S → Ordering) (is_default : S → Type 0) (number : S → ℤ) → IsNumbered eq cmp is_default number
    → (row : Option S) (x : S) → UnwrapsOrElse row is_default x → unwrap_or (option_map number row) (pos 0) ≡ number x
number_kept eq cmp is_default number law None x u = sym (law.zeroth x u)
number_kept eq cmp is_default number law (Some y) x u = sym (ap number u)

-- a number that is read as an optional one, and 0 for null
pub blanked-at_number : {S : Type 0} (eq : S → S → Bool) (cmp : S → S → Ordering) (is_default : S → Type 0) (number : S → ℤ) → IsNumbered eq cmp is_default number
    → (rows : List (Option ℤ)) (k : ℕ) (row : Option S) (x : S) → slice_get rows k ≡ Some (option_map number row) → UnwrapsOrElse row is_default x
    → slice_get (blanked (pos 0) rows) k ≡ Some (number x)
blanked-at_number eq cmp is_default number law rows k row x h u =
    slice_get-map (λ (o : Option ℤ). unwrap_or o (pos 0)) rows k ∙ ap (option_map (λ (o : Option ℤ). unwrap_or o (pos 0))) h ∙ ap Some (number_kept eq cmp is_default number law row x u)

-- where each value is null, each row is, whatever the ends
constant_map : {X Y : Type 0} (f : X → Y) (y : Y) → ((x : X) → f x ≡ y) → (xs : List X) → map f xs ≡ replicate (length xs) y
constant_map f y same [] = refl
constant_map f y same (x ∷ xs) = let here = same x in let rest = constant_map f y same xs in cc

none_at : {X : Type 0} (values : List (Option X)) (k : ℕ) → All (λ v. v ≡ None) values → get_or values k None ≡ None
none_at [] k nulls = refl
none_at (v ∷ values) zero nulls = All-head (λ v. v ≡ None) v values nulls
none_at (v ∷ values) (suc k) nulls = none_at values k (All-tail (λ v. v ≡ None) v values nulls)

pub run_rows-of_nulls_alone : {X : Type 0} (ends : List ℕ) (values : List (Option X)) (count : ℕ) → All (λ v. v ≡ None) values → replicate count None ≡ run_rows ends values 0 count
run_rows-of_nulls_alone {X} ends values count nulls =
    let row : ℕ → Option X = λ position. get_or values (run_at ends position) None in
    let long : length (range_with_len 0 count) ≡ count = sym (length-map (range_with_len 0 count) row) ∙ length-run_rows ends values 0 count in
    ap (λ n. replicate n None) (sym long) ∙ sym (constant_map row None (λ position. none_at values (run_at ends position) nulls) (range_with_len 0 count))
