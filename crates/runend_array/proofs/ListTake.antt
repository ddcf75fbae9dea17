-- Lists at positions, and what they are made of.
use Rattle.std.proofs.Common.{◌≡◌, ◌+◌, ◌<◌, ◌≤◌, ℕ, pos, List, Bool, true, false, Option, Some, None, cond, length, map, refl, sym, ◌∙◌, ap, arith}
use Rattle.std.specs.List.{slice_get, range_with_len}
use Rattle.std.specs.Prelude.{slice_range, slice_index, All, IsTrue, ◌↔◌}
use Rattle.std.proofs.lemmas.List.FromFn.{length-map-range_with_len, get_or-map-range_with_len}
use Rattle.column_base.proofs.ValidityRows.{flags-at, nullable-of_bits}
use Rattle.column_base.specs.ValidityForm.{ValidityForm, NeverNull, NoneNull, AllNull, ByBits, HasLength, IsNormal, flags, flag_at, nullability_in}
use Rattle.column_base.specs.declared.dtype.DType.TheVariants as column
use Rattle.column_base.specs.declared.dtype.Nullability.{Nullability}
use Rattle.column_base.specs.declared.dtype.Nullability.TheVariants.{NonNullable, Nullable}
use Rattle.column_base.specs.declared.dtype.PType.TheVariants.{U64}
use Rattle.column_core.specs.Value.{Value, Items, element_of}
use Rattle.column_core.specs.PrimitiveForm.{PrimitiveForm, primitive_with}
use Rattle.column_core.specs.Leaf.{Leaf, leaf_dtype, leaf_rows}
use Rattle.runend_windows.specs.Ends.{ends_of}
use Rattle.runend_windows.proofs.Lists.{equal_by_slice_get}
use Rattle.runend_windows.proofs.StoredNumbers.{naturals-of_pos}
use Rattle.runend_array.specs.Lists.{AreLists, ByRows, ByRuns, Lists, PlainIndex, RowValidityForm, index_at, index_count, list_at, list_count, list_dtype, list_rows, row_flag_at, row_nullability}
use Rattle.runend_array.specs.ListTake.{AreListsAt, ArePlacesOf, IsValidityAt, flag_taken, list_taken, lists_taken, nullability_taken, number_taken}
use Rattle.runend_array.proofs.ListRows.{slice_get-made}

-- unsigned numbers without null hold the numbers at positions
pub PlainIndex-taken : (form : PrimitiveForm) (items numbers : List ℕ) → form ≡ primitive_with U64 (map (λ (n : ℕ). pos n) items) NeverNull → items ≡ numbers → PlainIndex (ends_of form) ≡ PlainIndex numbers
PlainIndex-taken form items numbers is made = ap (λ f. PlainIndex (ends_of f)) is ∙ ap PlainIndex (naturals-of_pos items ∙ made)

-- where the type has no null, each row is valid
flag-required : (form : ValidityForm) (row : ℕ) → nullability_in form ≡ NonNullable → flag_at form row ≡ true
flag-required NeverNull row h = refl
flag-required NoneNull row h = cc
flag-required AllNull row h = cc
flag-required (ByBits bits) row h = cc

row_flag-required : (validity : RowValidityForm) (row : ℕ) → row_nullability validity ≡ NonNullable → row_flag_at validity row ≡ true
row_flag-required (ByRows form) row h = flag-required form row h
row_flag-required (ByRuns ends_type ends bits offset count) row h = cc

neither_nullable : (rows places : Nullability) → nullability_taken rows places ≡ NonNullable → (rows ≡ NonNullable) × (places ≡ NonNullable)
neither_nullable NonNullable places h = (refl, h)
neither_nullable Nullable places h = cc

-- rows and positions of which none is null
pub IsValidityAt-required : (whole part : RowValidityForm) (positions : List ℕ) (places : ValidityForm) → nullability_taken (row_nullability whole) (nullability_in places) ≡ NonNullable
    → part ≡ ByRows NeverNull → IsValidityAt whole positions places part
IsValidityAt-required whole part positions places none is =
    let both = neither_nullable (row_nullability whole) (nullability_in places) none in
    rw is (record {
      normal = tt;
      counted = tt;
      flags = λ place h.
          sym (ap (λ (b : Bool). cond b (row_flag_at whole (slice_index positions place)) false) (flag-required places place both.1) ∙ row_flag-required whole (slice_index positions place) both.0);
      nullability = sym none;
    })

-- a validity that is made of the flags at the positions
pub IsValidityAt-flags : (whole part : RowValidityForm) (form : ValidityForm) (bits : List Bool) (positions : List ℕ) (places : ValidityForm) → nullability_taken (row_nullability whole) (nullability_in places) ≡ Nullable
    → part ≡ ByRows form → bits ≡ map (flag_taken whole positions places) (range_with_len 0 (length positions))
    → flags form (length bits) ≡ bits → HasLength form (length bits) → IsNormal form → (form ≡ NoneNull) ↔ All (λ bit. bit ≡ true) bits
    → IsValidityAt whole positions places part
IsValidityAt-flags whole part form bits positions places nullable is made flagged fits normal valid =
    let long : length bits ≡ length positions = ap length made ∙ length-map-range_with_len (flag_taken whole positions places) 0 (length positions) in
    record {
      normal = rw is normal;
      counted = rw is (rw long at fits);
      flags = λ place h.
          let told : slice_get bits place ≡ Some (flag_at form place) = ap (λ bs. slice_get bs place) (sym flagged) ∙ flags-at form (length bits) place fits (rw long h) in
          let shown : slice_get bits place ≡ Some (flag_taken whole positions places place) = ap (λ bs. slice_get bs place) made ∙ slice_get-made (flag_taken whole positions places) (length positions) place h in
          let same : flag_at form place ≡ flag_taken whole positions places place = cc in
          ap (λ v. row_flag_at v place) is ∙ same;
      nullability = ap row_nullability is ∙ nullable-of_bits form bits flagged valid ∙ sym nullable;
    }

-- a row by its parts
abbrev row_with : Leaf → ℕ → ℕ → Bool → Option Value
row_with elements start size valid = cond valid (Some (Items (slice_range (leaf_rows elements) start (start + size)))) None

-- null where the position is null, else the row of the parts there
row_with-taken : (elements : Leaf) (start size : ℕ) (valid here : Bool) → row_with elements (cond here start 0) (cond here size 0) (cond here valid false) ≡ cond here (row_with elements start size valid) None
row_with-taken elements start size valid true = refl
row_with-taken elements start size valid false = refl

module _ (whole part : Lists) (positions : List ℕ) (places : ValidityForm) (were : AreLists whole) (there : ArePlacesOf (list_count whole) positions places) (taken : AreListsAt whole positions places part) where
  counted : list_count part ≡ length positions
  counted = ap index_count taken.offsets ∙ length-map-range_with_len (number_taken whole.offsets positions places) 0 (length positions)

  offset-at : (place : ℕ) → place < length positions → index_at part.offsets place ≡ number_taken whole.offsets positions places place
  offset-at place h = ap (λ index. index_at index place) taken.offsets ∙ get_or-map-range_with_len (number_taken whole.offsets positions places) 0 (length positions) place place 0 h (omega arith)

  size-at : (place : ℕ) → place < length positions → index_at part.sizes place ≡ number_taken whole.sizes positions places place
  size-at place h = ap (λ index. index_at index place) taken.sizes ∙ get_or-map-range_with_len (number_taken whole.sizes positions places) 0 (length positions) place place 0 h (omega arith)

  -- a row is the list at its position
  list-at : (place : ℕ) → place < length positions → list_at part place ≡ list_taken whole positions places place
  list-at place h =
      ap (λ e. row_with e (index_at part.offsets place) (index_at part.sizes place) (row_flag_at part.validity place)) taken.elements
      ∙ ap (λ o. row_with whole.elements o (index_at part.sizes place) (row_flag_at part.validity place)) (offset-at place h)
      ∙ ap (λ s. row_with whole.elements (number_taken whole.offsets positions places place) s (row_flag_at part.validity place)) (size-at place h)
      ∙ ap (λ b. row_with whole.elements (number_taken whole.offsets positions places place) (number_taken whole.sizes positions places place) b) (taken.validity.flags place h)
      ∙ row_with-taken whole.elements (index_at whole.offsets (slice_index positions place)) (index_at whole.sizes (slice_index positions place)) (row_flag_at whole.validity (slice_index positions place)) (flag_at places place)

  -- and so the rows are the lists at the positions
  pub list_rows-taken : list_rows part ≡ lists_taken whole positions places
  list_rows-taken =
      let long = length-map-range_with_len (list_at part) 0 (list_count part) ∙ counted in
      equal_by_slice_get (list_rows part) (lists_taken whole positions places) (long ∙ sym (length-map-range_with_len (list_taken whole positions places) 0 (length positions))) (λ place h.
      let inside : place < length positions = rw long at h in
      slice_get-made (list_at part) (list_count part) place (rw counted inside)
      ∙ ap Some (list-at place inside)
      ∙ sym (slice_get-made (list_taken whole positions places) (length positions) place inside))

  within : (place : ℕ) → place < length positions → (here : Bool) → flag_at places place ≡ here → IsTrue (cond here (row_flag_at whole.validity (slice_index positions place)) false)
      → cond here (index_at whole.offsets (slice_index positions place)) 0 + cond here (index_at whole.sizes (slice_index positions place)) 0 ≤ length (leaf_rows whole.elements)
  within place h true is valid = were.within (slice_index positions place) (there place h is) valid
  within place h false is valid = omega arith

  -- they are lists
  pub AreLists-taken : AreLists part
  AreLists-taken = record {
    sized = ap index_count taken.sizes ∙ length-map-range_with_len (number_taken whole.sizes positions places) 0 (length positions) ∙ sym counted;
    flagged = rw counted taken.validity.counted;
    within = λ place h valid.
        let inside : place < length positions = rw counted at h in
        rw (taken.elements, offset-at place inside, size-at place inside) (within place inside (flag_at places place) refl (sym (taken.validity.flags place inside) ∙ valid));
  }

  -- with null where the lists or the positions have null
  pub list_dtype-taken : list_dtype part ≡ column.List (element_of (leaf_dtype whole.elements)) (nullability_taken (row_nullability whole.validity) (nullability_in places))
  list_dtype-taken =
      ap (λ e. column.List (element_of (leaf_dtype e)) (row_nullability part.validity)) taken.elements
      ∙ ap (λ n. column.List (element_of (leaf_dtype whole.elements)) n) taken.validity.nullability

-- parts at those positions make lists
pub AreListsAt-of_parts : (whole same part : Lists) (positions : List ℕ) (places : ValidityForm) → same ≡ whole → part.elements ≡ same.elements
    → part.offsets ≡ PlainIndex (map (number_taken same.offsets positions places) (range_with_len 0 (length positions)))
    → part.sizes ≡ PlainIndex (map (number_taken same.sizes positions places) (range_with_len 0 (length positions)))
    → IsValidityAt same.validity positions places part.validity → AreListsAt whole positions places part
AreListsAt-of_parts whole same part positions places is elements offsets sizes validity =
    rw (← is) (record { elements = elements; offsets = offsets; sizes = sizes; validity = validity })
