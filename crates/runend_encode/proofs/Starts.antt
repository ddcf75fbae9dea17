-- Ends and starts of runs, as a walk over the rows finds them.
use Rattle.std.proofs.Common.{◌≡◌, ◌∙◌, ◌<◌, ◌^◌, ◌++◌, ℕ, List, [], ◌∷◌, Bool, Option, Some, None, length, map, refl, sym, ap, subst, arith}
use Rattle.std.specs.Prelude.{IfSome, option_map, slice_index_or}
use Rattle.std.proofs.lemmas.List.{length-map}
use Rattle.std.proofs.lemmas.List.Elements.{All-cons, All-nil}
use Rattle.column_base.specs.Bits.{set_indices_of}
use Rattle.column_base.specs.declared.dtype.DType.{DType}
use Rattle.column_base.specs.declared.dtype.DType.TheVariants as column
use Rattle.column_base.specs.declared.dtype.Nullability.TheVariants.{NonNullable, Nullable}
use Rattle.column_base.specs.Types.{nullability_of, with_nullability}
use Rattle.column_base.specs.ValidityForm.{NeverNull, flags}
use Rattle.column_core.specs.Leaf.{Leaf, leaf_dtype, leaf_rows, single_rows}
use Rattle.column_core.specs.Optionals.{optionals}
use Rattle.column_core.specs.Value.{FlatValue, Single, Value}
use Rattle.column_ops.specs.Computed.{IsMade}
use Rattle.column_ops.specs.Nullable.{either_nullable}
use Rattle.column_ops.specs.Take.{ArePositions, position_numbers, take_rows}
use Rattle.runend_windows.specs.Cover.{IsTightCover}
use Rattle.runend_windows.proofs.ChangedRows.{IsTightCover-of_changes}
use Rattle.runend_windows.proofs.Grow.{IsTightCover-of_none}
use Rattle.runend_windows.proofs.ValidRuns.{optionals-all_valid}
use Rattle.runend_windows.proofs.Tiles.{Tiles, Tiles-from_IsTightCover, Tiles-le}
use Rattle.runend_encode.proofs.RowTests.{row-single}
use Rattle.runend_encode.specs.Encoding.{AreRunValues}
use Rattle.runend_windows.specs.Starts.{AreChanges, starts_from}
use Rattle.runend_encode.specs.Starts.{AreRunEnds, rows_at}

-- the ends of runs are the rows that differ from the row before, and the number of rows
pub AreRunEnds-of_changes : (rows : List (Option Value)) (bits : List Bool) → AreChanges rows bits → 0 < length rows → length rows < 2 ^ 64
    → AreRunEnds rows (set_indices_of bits ++ length bits ∷ [])
AreRunEnds-of_changes rows bits changes some small = IsTightCover-of_changes None rows bits changes some small

pub AreRunEnds-of_none : (rows : List (Option Value)) → length rows ≡ 0 → AreRunEnds rows []
AreRunEnds-of_none rows none = IsTightCover-of_none rows none

-- each run starts at a row
starts-within : {A : Type 0} (start stop : ℕ) (ends : List ℕ) (values : List A) → Tiles start stop ends values
    → ArePositions (map (λ place. Some place) (starts_from start ends)) stop
starts-within start stop [] values tiles = All-nil (λ place. IfSome place (λ k. k < stop))
starts-within start stop (end ∷ ends) [] tiles = absurd tiles
starts-within start stop (end ∷ ends) (value ∷ values) tiles =
    let filled = tiles.0 in
    let order = Tiles-le end stop ends values tiles.2 in
    All-cons (λ place. IfSome place (λ k. k < stop)) (Some start) (map (λ place. Some place) (starts_from end ends)) (omega arith)
    (starts-within end stop ends values tiles.2)

pub starts-are_positions : (rows : List (Option Value)) (ends : List ℕ) → AreRunEnds rows ends → ArePositions (map (λ place. Some place) (starts_from 0 ends)) (length rows)
starts-are_positions rows ends cover =
    starts-within 0 (length rows) ends (rows_at rows (starts_from 0 ends)) (Tiles-from_IsTightCover rows ends (rows_at rows (starts_from 0 ends)) cover)

-- there is a row for each row
pub length-single : (leaf : Leaf) → length (single_rows leaf) ≡ length (leaf_rows leaf)
length-single leaf = length-map (leaf_rows leaf) (option_map (λ (v : FlatValue). Single v))

-- rows taken there, as values
pub single-taken : (rows : List (Option FlatValue)) (places : List ℕ)
    → map (option_map (λ (v : FlatValue). Single v)) (take_rows rows (position_numbers (map (λ place. Some place) places))) ≡ rows_at (map (option_map (λ (v : FlatValue). Single v)) rows) places
single-taken rows [] = refl
single-taken rows (place ∷ places) =
    ap (λ (row : Option Value). row ∷ map (option_map (λ (v : FlatValue). Single v)) (take_rows rows (position_numbers (map (λ p. Some p) places)))) (row-single rows place)
    ∙ ap (λ taken. slice_index_or (map (option_map (λ (v : FlatValue). Single v)) rows) place None ∷ taken) (single-taken rows places)

-- the positions of the first rows of runs, as a take wants them
pub starts-positions : (leaf : Leaf) (ends starts : List ℕ) → AreRunEnds (single_rows leaf) ends → starts ≡ starts_from 0 ends
    → ArePositions (optionals starts (flags NeverNull (length starts))) (length (leaf_rows leaf))
starts-positions leaf ends starts cover are =
    subst (λ places. ArePositions places (length (leaf_rows leaf)))
    (ap (map (λ (place : ℕ). Some place)) (sym are) ∙ sym (optionals-all_valid starts (length starts) refl))
    (subst (ArePositions (map (λ place. Some place) (starts_from 0 ends))) (length-single leaf) (starts-are_positions (single_rows leaf) ends cover))

-- a type has its own nullability, also with positions without null
own_type : (t : DType) → with_nullability t (either_nullable (nullability_of t) NonNullable) ≡ t
own_type (column.Bool NonNullable) = refl
own_type (column.Bool Nullable) = refl
own_type (column.Primitive p NonNullable) = refl
own_type (column.Primitive p Nullable) = refl
own_type (column.Decimal d NonNullable) = refl
own_type (column.Decimal d Nullable) = refl
own_type (column.Utf8 NonNullable) = refl
own_type (column.Utf8 Nullable) = refl
own_type (column.Binary NonNullable) = refl
own_type (column.Binary Nullable) = refl
own_type (column.List e NonNullable) = refl
own_type (column.List e Nullable) = refl

-- rows taken at the starts of runs are their values
pub AreRunValues-made : (leaf : Leaf) (ends starts : List ℕ) (made : Leaf) → AreRunEnds (single_rows leaf) ends → starts ≡ starts_from 0 ends
    → IsMade (take_rows (leaf_rows leaf) (position_numbers (optionals starts (flags NeverNull (length starts)))))
    (with_nullability (leaf_dtype leaf) (either_nullable (nullability_of (leaf_dtype leaf)) NonNullable)) made
    → AreRunValues (single_rows leaf) (leaf_dtype leaf) ends made
AreRunValues-made leaf ends starts made cover are is =
    let taken : single_rows made ≡ rows_at (single_rows leaf) (starts_from 0 ends) =
    ap (map (option_map (λ (v : FlatValue). Single v))) is.rows
    ∙ ap (λ places. map (option_map (λ (v : FlatValue). Single v)) (take_rows (leaf_rows leaf) (position_numbers places))) (optionals-all_valid starts (length starts) refl)
    ∙ single-taken (leaf_rows leaf) starts
    ∙ ap (rows_at (single_rows leaf)) are in
    record {
      cover = subst (IsTightCover (single_rows leaf) ends) (sym taken) cover;
      typed = is.dtype ∙ own_type (leaf_dtype leaf);
      computed = is.computed;
    }
