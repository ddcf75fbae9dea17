-- Lemmas on positions of indices of which some are null.
use Rattle.std.proofs.Common.{◌≡◌, ◌∙◌, ◌<◌, ◌+◌, ℕ, ℤ, zero, suc, pos, List, [], ◌∷◌, ◌++◌, Bool, true, false, Option, Some, None, cond, get_or, length, map, replicate, take, refl, sym, ap}
use Rattle.std.specs.Prelude.{IfSome, option_map, slice_get, unwrap_or}
use Rattle.std.specs.Option.{option_or}
use Rattle.std.proofs.lemmas.Bool.{ltb-true}
use Rattle.std.proofs.lemmas.List.{length-map, map_push}
use Rattle.std.proofs.lemmas.List.Elements.{All-cons, All-nil}
use Rattle.column_base.specs.declared.dtype.Nullability.{Nullability}
use Rattle.column_base.specs.declared.error.VortexError.{VortexError}
use Rattle.column_base.specs.declared.error.VortexError.TheVariants.{OutOfBounds}
use Rattle.column_base.specs.ValidityForm.{ValidityForm, flags}
use Rattle.column_core.specs.Optionals.{optionals}
use Rattle.column_ops.specs.Fault.{first_fault}
use Rattle.column_ops.specs.Take.{ArePositions, ArePositionsFor, index_fault, position_numbers, take_fault}
use Rattle.column_ops.specs.Written.{AreStoredAs}
use Rattle.column_ops.proofs.IndexPositions.{neither, optionals-map}
use Rattle.column_ops.proofs.Passed.{take_more}
use Rattle.std.proofs.lemmas.Option.{slice_get-get_or, slice_get-map}

passed : (b : Bool) (error : VortexError) → cond b None (Some error) ≡ None → b ≡ true
passed true error none = refl
passed false error none = cc

-- positions without a fault are below the number of rows
pub positions-sound : (positions : List (Option ℕ)) (count : ℕ) → take_fault (position_numbers positions) count ≡ None → ArePositions positions count
positions-sound [] count sound = All-nil (λ p. IfSome p (λ k. k < count))
positions-sound (None ∷ positions) count sound = All-cons (λ p. IfSome p (λ k. k < count)) None positions tt (positions-sound positions count sound)
positions-sound (Some k ∷ positions) count sound =
    let both = neither (index_fault count (Some (pos k))) (take_fault (position_numbers positions) count) sound in
    All-cons (λ p. IfSome p (λ j. j < count)) (Some k) positions (ltb-true k count (passed _ (OutOfBounds (pos k) count) both.0)) (positions-sound positions count both.1)

-- positions with 0 for null, and a validity, are those of the indices
pub ArePositionsFor-kept : (indices : List (Option ℤ)) (wanted : Nullability) (count : ℕ) (items : List ℕ) (form : ValidityForm) → take_fault indices count ≡ None
    → AreStoredAs (pos 0) indices wanted (map pos items) form → ArePositionsFor indices wanted count items form
ArePositionsFor-kept indices wanted count items form sound written =
    let long = length-map items pos in
    let told : optionals (map pos items) (flags form (length items)) ≡ indices = rw long at written.shown in
    let shown : position_numbers (optionals items (flags form (length items))) ≡ indices = sym (optionals-map pos items (flags form (length items))) ∙ told in
    record {
      shown = shown;
      within = positions-sound (optionals items (flags form (length items))) count (ap (λ is. take_fault is count) shown ∙ sound);
      fits = rw long at written.fits;
      nullability = written.nullability;
    }

-- of indices that are all valid, the first that is not a position is the fault
pub faults-valid : (count : ℕ) (numbers : List ℤ) → take_fault (optionals numbers (replicate (length numbers) true)) count ≡ first_fault (λ index. index_fault count (Some index)) numbers
faults-valid count [] = refl
faults-valid count (n ∷ numbers) = ap (option_or (index_fault count (Some n))) (faults-valid count numbers)

-- indices that are all null have no fault
pub faults-null : (count : ℕ) (numbers : List ℤ) → take_fault (optionals numbers (replicate (length numbers) false)) count ≡ None
faults-null count [] = refl
faults-null count (n ∷ numbers) = faults-null count numbers

-- the number of an item
pub number-at : {S : Type 0} (number : S → ℤ) (items : List S) (k : ℕ) (x : S) → k < length items → x ≡ get_or items k x → slice_get (map number items) k ≡ Some (number x)
number-at number items k x within is = slice_get-map number items k ∙ ap (option_map number) (slice_get-get_or items k x within ∙ ap Some (sym is))

-- one position more, with 0 for null
pub positions-more : (positions : List ℕ) (rows : List (Option ℤ)) (k position : ℕ) (row : Option ℤ) → map pos positions ≡ map (λ row. unwrap_or row (pos 0)) (take k rows)
    → slice_get rows k ≡ Some row → pos position ≡ unwrap_or row (pos 0) → map pos (positions ++ position ∷ []) ≡ map (λ row. unwrap_or row (pos 0)) (take (k + 1) rows)
positions-more positions rows k position row old here same =
    map_push pos positions position ∙ ap (λ (xs : List ℤ). xs ++ pos position ∷ []) old ∙ ap (λ (n : ℤ). map (λ row. unwrap_or row (pos 0)) (take k rows) ++ n ∷ []) same
    ∙ sym (ap (map (λ row. unwrap_or row (pos 0))) (take_more rows k row here) ∙ map_push (λ row. unwrap_or row (pos 0)) (take k rows) row)

-- zeros as numbers
pub map-zeros : (n : ℕ) → map pos (replicate n 0) ≡ replicate n (pos 0)
map-zeros zero = refl
map-zeros (suc n) = ap (λ (xs : List ℤ). pos 0 ∷ xs) (map-zeros n)
