-- Ranges of lists, and of what they are made of.
use Rattle.std.proofs.Common.{◌≡◌, ◌+◌, ◌-◌, ◌<◌, ◌≤◌, ℕ, pos, List, [], ◌∷◌, ◌++◌, Bool, true, Option, Some, None, cond, length, map, refl, sym, ◌∙◌, ap, arith}
use Rattle.std.specs.List.{slice_get, range_with_len}
use Rattle.std.specs.Prelude.{slice_range, All, ◌↔◌}
use Rattle.std.proofs.lemmas.List.FromFn.{length-map-range_with_len, get_or-map-range_with_len, map-range_with_len_more}
use Rattle.std.proofs.lemmas.Option.{slice_get-get_or}
use Rattle.column_base.proofs.Ranges.{length-slice_range, get_or-slice_range}
use Rattle.column_base.proofs.ValidityRows.{flags-at, nullable-of_bits}
use Rattle.column_base.specs.ValidityForm.{ValidityForm, NeverNull, NoneNull, ByBits, HasLength, IsNormal, flags, flag_at}
use Rattle.column_base.specs.declared.dtype.DType.TheVariants as column
use Rattle.column_base.specs.declared.dtype.PType.TheVariants.{U64}
use Rattle.column_core.specs.Value.{Value, Items}
use Rattle.column_core.specs.PrimitiveForm.{PrimitiveForm, primitive_with}
use Rattle.column_core.specs.Leaf.{Leaf, leaf_dtype, leaf_rows}
use Rattle.runend_windows.specs.Ends.{ends_of}
use Rattle.runend_array.specs.Lists.{AreLists, ByRows, Index, Lists, PlainIndex, RowValidityForm, index_at, index_count, list_at, list_count, list_dtype, list_rows, row_flag_at, row_nullability}
use Rattle.column_core.specs.Value.{element_of}
use Rattle.runend_array.specs.Column.{Column, OfLeaf, OfConstant, OfLists, OfRuns, IsPlainIndex, end_numbers, index_of, leaf_ends}
use Rattle.runend_array.specs.ListSlice.{AreListsInRange, IsIndexInRange, IsValidityInRange}
use Rattle.runend_windows.proofs.Lists.{equal_by_slice_get}
use Rattle.runend_array.proofs.ListRows.{slice_get-made}
use Rattle.runend_windows.proofs.StoredNumbers.{naturals-of_pos}

-- a list that is made by a function of the index, from some place on, with one item more
pub made_from-push : {X : Type 0} (f : ℕ → X) (xs ys : List X) (start i : ℕ) (x : X) → start ≤ i → ys ≡ xs ++ x ∷ [] → x ≡ f i
    → xs ≡ map f (range_with_len start (i - start)) → ys ≡ map f (range_with_len start (i + 1 - start))
made_from-push f xs ys start i x from pushed is made =
    let more : i + 1 - start ≡ i - start + 1 = omega arith in
    pushed ∙ ap (λ y. xs ++ y ∷ []) is ∙ ap (λ zs. zs ++ f i ∷ []) made
    ∙ sym (map-range_with_len_more f start (i - start) i (omega arith)) ∙ ap (λ n. map f (range_with_len start n)) (sym more)

-- an item of such a list
pub slice_get-made_from : {X : Type 0} (f : ℕ → X) (start n i : ℕ) → i < n → slice_get (map f (range_with_len start n)) i ≡ Some (f (start + i))
slice_get-made_from f start n i h =
    slice_get-get_or (map f (range_with_len start n)) i (f i) (rw (length-map-range_with_len f start n) h)
    ∙ ap Some (get_or-map-range_with_len f start n i (start + i) (f i) h refl)

-- a range of a list that is made by a function of the index
pub slice_range-made : {X : Type 0} (f : ℕ → X) (n start stop : ℕ) → start ≤ stop → stop ≤ n
    → slice_range (map f (range_with_len 0 n)) start stop ≡ map f (range_with_len start (stop - start))
slice_range-made f n start stop ordered within =
    let all = map f (range_with_len 0 n) in
    let long : length all ≡ n = length-map-range_with_len f 0 n in
    let cut : length (slice_range all start stop) ≡ stop - start = length-slice_range all start stop ordered (omega arith) in
    equal_by_slice_get (slice_range all start stop) (map f (range_with_len start (stop - start))) (cut ∙ sym (length-map-range_with_len f start (stop - start))) (λ k h.
    let there : k < stop - start = omega arith in
    slice_get-get_or (slice_range all start stop) k (f k) h
    ∙ ap Some (get_or-slice_range all start stop k (f k) there ∙ get_or-map-range_with_len f 0 n (start + k) (start + k) (f k) (omega arith) (omega arith))
    ∙ sym (slice_get-made_from f start (stop - start) k there))

-- a range of numbers that are stored one by one
IsIndexInRange-plain : (numbers : List ℕ) (part : Index) (start stop : ℕ) → start ≤ stop → stop ≤ length numbers → part ≡ PlainIndex (slice_range numbers start stop)
    → IsIndexInRange (PlainIndex numbers) start stop part
IsIndexInRange-plain numbers part start stop ordered within cut = record {
  form = cut;
  counted = ap index_count cut ∙ length-slice_range numbers start stop ordered within;
  numbers = λ i h. ap (λ index. index_at index i) cut ∙ get_or-slice_range numbers start stop i 0 h;
}

-- so a flat column of them
pub IsIndexInRange-flat : (whole : Column) (part : Index) (start stop : ℕ) → IsPlainIndex whole → start ≤ stop → stop ≤ index_count (index_of whole)
    → part ≡ PlainIndex (slice_range (end_numbers whole) start stop) → IsIndexInRange (index_of whole) start stop part
IsIndexInRange-flat (OfLeaf leaf) part start stop plain ordered within cut = IsIndexInRange-plain (leaf_ends leaf) part start stop ordered within cut
IsIndexInRange-flat (OfConstant constant) part start stop plain ordered within cut = absurd plain
IsIndexInRange-flat (OfLists lists) part start stop plain ordered within cut = absurd plain
IsIndexInRange-flat (OfRuns ends_type ends values offset count) part start stop plain ordered within cut = absurd plain

-- unsigned numbers without null hold these numbers
pub PlainIndex-numbers : (form : PrimitiveForm) (items numbers : List ℕ) → form ≡ primitive_with U64 (map (λ (n : ℕ). pos n) items) NeverNull → items ≡ numbers
    → PlainIndex (ends_of form) ≡ PlainIndex numbers
PlainIndex-numbers form items numbers is made = ap (λ f. PlainIndex (ends_of f)) is ∙ ap PlainIndex (naturals-of_pos items ∙ made)

-- bits of which a range is made into a validity
IsValidityInRange-bits : (told : List Bool) (part : RowValidityForm) (form : ValidityForm) (bits : List Bool) (start stop : ℕ)
    → part ≡ ByRows form → bits ≡ map (row_flag_at (ByRows (ByBits told))) (range_with_len start (stop - start))
    → flags form (length bits) ≡ bits → HasLength form (length bits) → IsNormal form → (form ≡ NoneNull) ↔ All (λ bit. bit ≡ true) bits
    → IsValidityInRange (ByRows (ByBits told)) start stop part
IsValidityInRange-bits told part form bits start stop is made flagged fits normal valid =
    let whole = ByRows (ByBits told) in
    let long : length bits ≡ stop - start = ap length made ∙ length-map-range_with_len (row_flag_at whole) start (stop - start) in
    record {
      kept = λ none. cc;
      stored = rw is normal;
      counted = rw is (rw long at fits);
      flags = λ i h.
          let told_flag : slice_get bits i ≡ Some (flag_at form i) = ap (λ bs. slice_get bs i) (sym flagged) ∙ flags-at form (length bits) i fits (rw long h) in
          let shown : slice_get bits i ≡ Some (row_flag_at whole (start + i)) = ap (λ bs. slice_get bs i) made ∙ slice_get-made_from (row_flag_at whole) start (stop - start) i h in
          let same : flag_at form i ≡ row_flag_at whole (start + i) = cc in
          ap (λ v. row_flag_at v i) is ∙ same;
      nullability = ap row_nullability is ∙ nullable-of_bits form bits flagged valid;
    }

-- a validity made of the flags of a range of rows, which are bits, is the validity of that range
pub IsValidityInRange-flags : (whole part : RowValidityForm) (told : List Bool) (form : ValidityForm) (bits : List Bool) (start stop : ℕ) → whole ≡ ByRows (ByBits told)
    → part ≡ ByRows form → bits ≡ map (row_flag_at whole) (range_with_len start (stop - start))
    → flags form (length bits) ≡ bits → HasLength form (length bits) → IsNormal form → (form ≡ NoneNull) ↔ All (λ bit. bit ≡ true) bits
    → IsValidityInRange whole start stop part
IsValidityInRange-flags whole part told form bits start stop of_bits is made flagged fits normal valid =
    rw of_bits (IsValidityInRange-bits told part form bits start stop is (rw of_bits at made) flagged fits normal valid)

-- a row by its parts
abbrev row_with : Leaf → ℕ → ℕ → Bool → Option Value
row_with elements start size valid = cond valid (Some (Items (slice_range (leaf_rows elements) start (start + size)))) None

module _ (whole part : Lists) (start stop : ℕ)
    (ordered : start ≤ stop)
    (in_bounds : stop ≤ list_count whole)
    (were : AreLists whole)
    (cut : AreListsInRange whole start stop part) where
  counted : list_count part ≡ stop - start
  counted = cut.offsets.counted

  offset-at : (i : ℕ) → i < stop - start → index_at part.offsets i ≡ index_at whole.offsets (start + i)
  offset-at i h = cut.offsets.numbers i h

  size-at : (i : ℕ) → i < stop - start → index_at part.sizes i ≡ index_at whole.sizes (start + i)
  size-at i h = cut.sizes.numbers i h

  -- a row is the list at its place
  list-at : (i : ℕ) → i < stop - start → list_at part i ≡ list_at whole (start + i)
  list-at i h =
      ap (λ e. row_with e (index_at part.offsets i) (index_at part.sizes i) (row_flag_at part.validity i)) cut.elements
      ∙ ap (λ o. row_with whole.elements o (index_at part.sizes i) (row_flag_at part.validity i)) (offset-at i h)
      ∙ ap (λ s. row_with whole.elements (index_at whole.offsets (start + i)) s (row_flag_at part.validity i)) (size-at i h)
      ∙ ap (λ b. row_with whole.elements (index_at whole.offsets (start + i)) (index_at whole.sizes (start + i)) b) (cut.validity.flags i h)

  -- and so the rows are a range of the rows
  pub list_rows-in_range : list_rows part ≡ slice_range (list_rows whole) start stop
  list_rows-in_range =
      let long = length-map-range_with_len (list_at part) 0 (list_count part) ∙ counted in
      equal_by_slice_get (list_rows part) (map (list_at whole) (range_with_len start (stop - start))) (long ∙ sym (length-map-range_with_len (list_at whole) start (stop - start))) (λ i h.
      let there : i < stop - start = rw long at h in
      slice_get-made (list_at part) (list_count part) i (rw counted there)
      ∙ ap Some (list-at i there)
      ∙ sym (slice_get-made_from (list_at whole) start (stop - start) i there))
      ∙ sym (slice_range-made (list_at whole) (list_count whole) start stop ordered in_bounds)

  -- they are lists
  pub AreLists-in_range : AreLists part
  AreLists-in_range = record {
    sized = cut.sizes.counted ∙ sym counted;
    flagged = rw counted cut.validity.counted;
    within = λ i h valid.
        let there : i < stop - start = rw counted at h in
        rw (cut.elements, offset-at i there, size-at i there) (were.within (start + i) (omega arith) (sym (cut.validity.flags i there) ∙ valid));
  }

  -- of the same type
  pub list_dtype-in_range : list_dtype part ≡ list_dtype whole
  list_dtype-in_range =
      ap (λ e. column.List (element_of (leaf_dtype e)) (row_nullability part.validity)) cut.elements
      ∙ ap (λ n. column.List (element_of (leaf_dtype whole.elements)) n) cut.validity.nullability

-- parts of that range make lists of it
pub AreListsInRange-of_parts : (whole same part : Lists) (start stop : ℕ) → same ≡ whole → part.elements ≡ same.elements
    → IsIndexInRange same.offsets start stop part.offsets → IsIndexInRange same.sizes start stop part.sizes
    → IsValidityInRange same.validity start stop part.validity → AreListsInRange whole start stop part
AreListsInRange-of_parts whole same part start stop is elements offsets sizes validity =
    rw (← is) (record { elements = elements; offsets = offsets; sizes = sizes; validity = validity })
