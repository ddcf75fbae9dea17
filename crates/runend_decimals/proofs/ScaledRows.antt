-- Numbers written at another scale, as they are stored.
use Rattle.std.proofs.Common.{◌≡◌, ◌∙◌, ℕ, ◌<◌, ◌^◌, ℤ, Bool, true, false, Option, Some, None, List, [], ◌∷◌, FitsSigned, length, map, min, unsigned_abs, refl, sym, ap, subst, arith}
use Rattle.std.specs.Int.{w128}
use Rattle.std.specs.Prelude.{option_map, IfErr, IsErrAnd, Result, Ok, Err}
use Rattle.std.proofs.lemmas.Int.{ints}
use Rattle.std.proofs.lemmas.List.{length-map}
use Rattle.column_base.specs.declared.dtype.PType.{PType}
use Rattle.column_base.specs.declared.dtype.PType.TheVariants.{U8, U16, U32, U64, I8, I16, I32, I64}
use Rattle.column_base.specs.Types.{HasNumber}
use Rattle.column_base.specs.ValidityForm.{HasLength, ValidityForm, flags}
use Rattle.column_base.proofs.ValidityRows.{length-flags}
use Rattle.column_core.specs.Optionals.{optionals}
use Rattle.column_core.specs.Value.{FlatValue, Single, Value}
use Rattle.column_core.proofs.OptionalRows.{length-optionals}
use Rattle.runend_decimals.specs.Digits.{HasDigits}
use Rattle.runend_decimals.specs.Rescaling.{stored_by}
use Rattle.runend_decimals.specs.Scales.{places_more, rescaled_by, EachDecimal, IsHeldAt, IsRescaleRefusal}
use Rattle.runend_decimals.specs.declared.fault.RescaleError.{RescaleError}
use Rattle.runend_decimals.proofs.TenPowers.{short_precision}

-- the rows of numbers, as values of a kind
abbrev pub rows_as : (ℤ → FlatValue) → List (Option ℤ) → List (Option Value)
rows_as kind ns = map (option_map (λ (v : FlatValue). Single v)) (map (option_map (λ (n : ℤ). kind n)) ns)

-- the row of a number at another scale
abbrev pub row_by : (ℤ → FlatValue) → ℕ → ℕ → Option ℤ → Option Value
row_by kind dropped added n = option_map (λ (m : ℤ). Single (kind m)) (option_map (rescaled_by dropped added) n)

-- what is stored shows the numbers at the other scale
stored-rows : (kind : ℤ → FlatValue) (dropped added : ℕ) (ns : List ℤ) (bs : List Bool)
    → rows_as kind (optionals (map (stored_by dropped added) (optionals ns bs)) bs) ≡ map (row_by kind dropped added) (optionals ns bs)
stored-rows kind dropped added [] bs = refl
stored-rows kind dropped added (n ∷ ns) [] = refl
stored-rows kind dropped added (n ∷ ns) (true ∷ bs) = ap (λ (rest : List (Option Value)). Some (Single (kind (rescaled_by dropped added n))) ∷ rest) (stored-rows kind dropped added ns bs)
stored-rows kind dropped added (n ∷ ns) (false ∷ bs) = ap (λ (rest : List (Option Value)). None ∷ rest) (stored-rows kind dropped added ns bs)

module _ (kind : ℤ → FlatValue) (dropped added : ℕ) (validity : ValidityForm) (ns : List ℤ) (counted : HasLength validity (length ns)) (items : List ℤ)
    (is : items ≡ map (stored_by dropped added) (optionals ns (flags validity (length ns)))) where
  -- as many items as numbers
  stored_long : length items ≡ length ns
  stored_long = ap length is ∙ length-map (optionals ns (flags validity (length ns))) (stored_by dropped added)
      ∙ length-optionals ns (flags validity (length ns)) (length-flags validity (length ns) counted)

  -- so that they have the validity of the numbers
  pub stored_counted : (same : ValidityForm) → same ≡ validity → HasLength same (length items)
  stored_counted same e = subst (λ (n : ℕ). HasLength same n) (sym stored_long) (subst (λ (v : ValidityForm). HasLength v (length ns)) (sym e) counted)

  -- a column of them shows the numbers at the other scale
  pub stored_shows : (same : ValidityForm) → same ≡ validity
      → rows_as kind (optionals items (flags same (length items))) ≡ map (row_by kind dropped added) (optionals ns (flags validity (length ns)))
  stored_shows same e =
      ap (λ (v : ValidityForm). rows_as kind (optionals items (flags v (length items)))) e
      ∙ ap (λ (count : ℕ). rows_as kind (optionals items (flags validity count))) stored_long
      ∙ ap (λ (stored : List ℤ). rows_as kind (optionals stored (flags validity (length ns)))) is
      ∙ stored-rows kind dropped added ns (flags validity (length ns))

-- what has the digits of a precision is small
pub small_digits : (limit p : ℕ) (n : ℤ) → limit ≡ 10 ^ min p 38 → unsigned_abs n < limit → FitsSigned w128 n
small_digits limit p n is within = let small = short_precision p in omega (arith, ints, small, is, within)

-- what a native type has is small
pub small_number : (t : PType) (n : ℤ) → HasNumber t n → FitsSigned w128 n
small_number U8 n has = omega (arith, ints, has)
small_number U16 n has = omega (arith, ints, has)
small_number U32 n has = omega (arith, ints, has)
small_number U64 n has = omega (arith, ints, has)
small_number I8 n has = omega (arith, ints, has)
small_number I16 n has = omega (arith, ints, has)
small_number I32 n has = omega (arith, ints, has)
small_number I64 n has = omega (arith, ints, has)

module _ (from to : ℤ) (limit digits : ℕ) (is : limit ≡ 10 ^ digits) (rows : List (Option ℤ)) where
  -- what is below the limit has the digits
  pub held_within : EachDecimal (IsHeldAt from to (λ n. unsigned_abs n < limit)) rows → EachDecimal (IsHeldAt from to (HasDigits digits)) rows
  held_within held = subst (λ (x : ℕ). EachDecimal (IsHeldAt from to (λ n. unsigned_abs n < x)) rows) is held

  pub refused_within : (error : RescaleError) → IsRescaleRefusal None from to (λ n. unsigned_abs n < limit) rows error → IsRescaleRefusal None from to (HasDigits digits) rows error
  refused_within error refused = subst (λ (x : ℕ). IsRescaleRefusal None from to (λ n. unsigned_abs n < x) rows error) is refused

-- what holds by the places that are dropped and added holds by the scales
pub by_scales : (P : ℕ → ℕ → Type 0) (dropped added : ℕ) (read written from to : ℤ) → read ≡ from → written ≡ to → dropped ≡ places_more read written → added ≡ places_more written read
    → P dropped added → P (places_more from to) (places_more to from)
by_scales P dropped added read written from to r w d a h =
    subst (λ (z : ℤ). P (places_more z to) (places_more to z)) r
    (subst (λ (z : ℤ). P (places_more read z) (places_more z read)) w
    (subst (λ (x : ℕ). P x (places_more written read)) d (subst (λ (x : ℕ). P dropped x) a h)))

-- an error that is passed on
pub passed_on : {T E : Type 0} (Why : E → Type 0) (error : E) (result : Result T E) → IsErrAnd result (λ other. other ≡ error) → Why error → IfErr result Why
passed_on Why error (Ok value) passed why = absurd passed
passed_on Why error (Err other) passed why = subst Why (sym passed) why
