-- Lists at positions, as rows at numbers.
use Rattle.std.proofs.Common.{◌≡◌, ◌∙◌, ◌<◌, ℕ, zero, suc, pos, List, [], ◌∷◌, Bool, true, false, cond, Some, None, length, refl, sym, ap, subst, arith}
use Rattle.std.specs.Prelude.{All, IfSome, option_map, slice_get, slice_index}
use Rattle.std.proofs.lemmas.List.{length-map}
use Rattle.std.proofs.lemmas.List.Elements.{All-head, All-tail}
use Rattle.std.proofs.lemmas.List.FromFn.{length-map-range_with_len, get_or-map-range_with_len}
use Rattle.std.proofs.lemmas.Option.{slice_get-get_or, slice_get-map}
use Rattle.column_base.specs.declared.dtype.DType.{DType}
use Rattle.column_base.specs.declared.dtype.DType.TheVariants as column
use Rattle.column_base.specs.declared.dtype.Nullability.{Nullability}
use Rattle.column_base.specs.declared.dtype.Nullability.TheVariants.{NonNullable, Nullable}
use Rattle.column_base.specs.Types.{nullability_of, with_nullability}
use Rattle.column_base.specs.ValidityForm.{ValidityForm, HasLength, flags, flag_at, nullability_in}
use Rattle.column_base.proofs.ValidityRows.{flags-at, length-flags}
use Rattle.column_core.specs.Optionals.{optionals}
use Rattle.column_core.proofs.OptionalRows.{optionals-at, null-at}
use Rattle.column_ops.specs.Nullable.{either_nullable}
use Rattle.column_ops.specs.Take.{ArePositions, position_numbers, take_rows, taken_row}
use Rattle.runend_windows.proofs.Lists.{equal_by_slice_get}
use Rattle.runend_array.specs.Column.{OfLists}
use Rattle.runend_array.specs.Lists.{Lists, list_at, list_count, list_dtype, list_rows}
use Rattle.runend_array.specs.ListTake.{ArePlacesOf, list_taken, lists_taken, nullability_taken}
use Rattle.runend_array.proofs.ListRows.{length-list_rows, slice_get-made}
use Rattle.runend_column.specs.Computed.{IsComputedAs}

-- with null where either has null
pub either-taken : (rows places : Nullability) → nullability_taken rows places ≡ either_nullable rows places
either-taken NonNullable places = refl
either-taken Nullable places = refl

-- a type with the nullability that it has
keeps_type : (t : DType) → with_nullability t (nullability_of t) ≡ t
keeps_type (column.Bool n) = refl
keeps_type (column.Primitive t n) = refl
keeps_type (column.Decimal d n) = refl
keeps_type (column.Utf8 n) = refl
keeps_type (column.Binary n) = refl
keeps_type (column.List e n) = refl

keeps_nullability : (n : Nullability) → either_nullable n NonNullable ≡ n
keeps_nullability NonNullable = refl
keeps_nullability Nullable = refl

-- indices without null change no type
pub take_dtype-required : (t : DType) → with_nullability t (either_nullable (nullability_of t) NonNullable) ≡ t
take_dtype-required t = ap (with_nullability t) (keeps_nullability (nullability_of t)) ∙ keeps_type t

length-optionals : {B : Type 0} (xs : List B) (bits : List Bool) → length bits ≡ length xs → length (optionals xs bits) ≡ length xs
length-optionals [] bits h = refl
length-optionals (x ∷ xs) [] h = h
length-optionals (x ∷ xs) (b ∷ bits) h = let rest = length-optionals xs bits (omega arith) in omega arith

-- what holds of each item, of the item at a place
all-at : {B : Type 0} (P : B → Type 0) (xs : List B) (k : ℕ) (x : B) → All P xs → slice_get xs k ≡ Some x → P x
all-at P [] k x all is = cc
all-at P (y ∷ ys) zero x all is = let same : y ≡ x = cc in subst P same (All-head P y ys all)
all-at P (y ∷ ys) (suc k) x all is = all-at P ys k x (All-tail P y ys all) is

module _ (lists : Lists) (positions : List ℕ) (places : ValidityForm) (fits : HasLength places (length positions))
    (within : ArePositions (optionals positions (flags places (length positions))) (length (list_rows lists))) where
  -- the position of a place
  position-at : (place : ℕ) → place < length positions → (here : Bool) → flag_at places place ≡ here
      → slice_get (optionals positions (flags places (length positions))) place ≡ Some (cond here (Some (slice_index positions place)) None)
  position-at place h true is =
      optionals-at positions (flags places (length positions)) place (slice_index positions place) true (slice_get-get_or positions place 0 h) (flags-at places (length positions) place fits h ∙ ap Some is)
  position-at place h false is = null-at positions (flags places (length positions)) place h (flags-at places (length positions) place fits h ∙ ap Some is)

  pub ArePlacesOf-lists : ArePlacesOf (list_count lists) positions places
  ArePlacesOf-lists place h valid =
      let counted = length-list_rows lists in
      let here = all-at (λ position. IfSome position (λ k. k < length (list_rows lists))) (optionals positions (flags places (length positions))) place (Some (slice_index positions place)) within (position-at place h true valid) in
      omega arith

  -- the list of a place is the row at its number
  list-taken : (place : ℕ) → place < length positions → (here : Bool) → flag_at places place ≡ here
      → cond here (list_at lists (slice_index positions place)) None ≡ taken_row (list_rows lists) (option_map (λ (k : ℕ). pos k) (cond here (Some (slice_index positions place)) None))
  list-taken place h true is =
      let inside = ArePlacesOf-lists place h is in
      sym (get_or-map-range_with_len (list_at lists) 0 (list_count lists) (slice_index positions place) (slice_index positions place) None inside (omega arith))
  list-taken place h false is = refl

  pub rows-of_lists : lists_taken lists positions places ≡ take_rows (list_rows lists) (position_numbers (optionals positions (flags places (length positions))))
  rows-of_lists =
      let optional = optionals positions (flags places (length positions)) in
      let long = length-map-range_with_len (list_taken lists positions places) 0 (length positions) in
      let long_optional = length-optionals positions (flags places (length positions)) (length-flags places (length positions) fits) in
      let long_numbers = length-map optional (option_map (λ (k : ℕ). pos k)) in
      let long_rows = length-map (position_numbers optional) (taken_row (list_rows lists)) in
      equal_by_slice_get (lists_taken lists positions places) (take_rows (list_rows lists) (position_numbers optional)) (omega arith) (λ place h.
      let inside : place < length positions = omega arith in
      slice_get-made (list_taken lists positions places) (length positions) place inside
      ∙ ap Some (list-taken place inside (flag_at places place) refl)
      ∙ sym (slice_get-map (taken_row (list_rows lists)) (position_numbers optional) place
      ∙ ap (option_map (taken_row (list_rows lists))) (slice_get-map (option_map (λ (k : ℕ). pos k)) optional place
      ∙ ap (option_map (option_map (λ (k : ℕ). pos k))) (position-at place inside (flag_at places place) refl))))

  -- the lists at the positions, as rows of a column
  pub IsComputedAs-lists : (taken : Lists) → list_rows taken ≡ lists_taken lists positions places
      → list_dtype taken ≡ with_nullability (list_dtype lists) (nullability_taken (nullability_of (list_dtype lists)) (nullability_in places))
      → IsComputedAs (take_rows (list_rows lists) (position_numbers (optionals positions (flags places (length positions)))))
      (with_nullability (list_dtype lists) (either_nullable (nullability_of (list_dtype lists)) (nullability_in places))) (OfLists taken)
  IsComputedAs-lists taken rows dtype = record {
    rows = rows ∙ rows-of_lists;
    dtype = dtype ∙ ap (with_nullability (list_dtype lists)) (either-taken (nullability_of (list_dtype lists)) (nullability_in places));
    form = tt;
  }
