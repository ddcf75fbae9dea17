-- What the encoding of visible runs is to the column.
use Rattle.std.proofs.Common.{◌≡◌, ◌∙◌, ◌<◌, ◌^◌, ℕ, pos, List, [], ◌∷◌, Option, None, Some, length, replicate, refl, sym, ap, subst, inl, inr, arith}
use Rattle.std.specs.Prelude.{All}
use Rattle.std.proofs.lemmas.List.Elements.{All-replicate}
use Rattle.column_base.specs.declared.dtype.DType.{DType}
use Rattle.column_base.specs.declared.dtype.DType.TheVariants as column
use Rattle.column_base.specs.declared.dtype.Nullability.{Nullability}
use Rattle.column_base.specs.declared.dtype.PType.{PType}
use Rattle.column_base.specs.declared.dtype.PType.TheVariants.{U64}
use Rattle.column_base.specs.declared.error.VortexError.{VortexError}
use Rattle.column_base.specs.declared.error.VortexError.TheVariants.{OnlyPrimitive}
use Rattle.column_base.specs.ValidityForm.{NeverNull}
use Rattle.column_core.specs.Kinds.{list_fault}
use Rattle.column_core.specs.Leaf.{Leaf, OfNumbers, single_rows}
use Rattle.column_core.specs.PrimitiveForm.{PrimitiveForm, primitive_with}
use Rattle.column_core.specs.Value.{Value}
use Rattle.runend_windows.specs.Encoding.{HasNullsAlone}
use Rattle.runend_windows.specs.Ends.{ends_of}
use Rattle.runend_windows.specs.Window.{IsWindow, run_rows}
use Rattle.runend_windows.proofs.Grow.{IsTightCover-from_Tiles}
use Rattle.runend_windows.proofs.NullRows.{null-at_each}
use Rattle.runend_windows.proofs.RunRows.{Covers_iff_run_rows}
use Rattle.runend_windows.proofs.ShownRuns.{shown_at-here}
use Rattle.runend_windows.proofs.Tiles.{Tiles, Tiles-from_IsTightCover, Tiles-le}
use Rattle.runend_windows.proofs.TypedRows.{run_rows-of_nulls_alone}
use Rattle.runend_array.specs.Column.{AreParts, Column, Constant, OfLeaf, OfConstant, OfLists, OfRuns, column_of_runs, column_rows, runs_of, runs_with}
use Rattle.runend_encode.specs.Encoding.{IsRowEncoding}
use Rattle.runend_commands.specs.Meaning.{IsTightColumn}
use Rattle.runend_commands.specs.Refusal.{numbers_fault}

-- integers are not lists
pub numbers_no_lists : (t : DType) → numbers_fault t ≡ None → list_fault t ≡ None
numbers_no_lists (column.Primitive p n) none = refl
numbers_no_lists (column.Bool n) none = cc
numbers_no_lists (column.Decimal d n) none = cc
numbers_no_lists (column.Utf8 n) none = cc
numbers_no_lists (column.Binary n) none = cc
numbers_no_lists (column.List e n) none = cc

-- what is not integers has one fault
pub other_numbers : (t : DType) → ((p : PType) (n : Nullability) → ¬ (t ≡ column.Primitive p n)) → numbers_fault t ≡ Some OnlyPrimitive
other_numbers (column.Primitive p n) other = absurd (other p n refl)
other_numbers (column.Bool n) other = refl
other_numbers (column.Decimal d n) other = refl
other_numbers (column.Utf8 n) other = refl
other_numbers (column.Binary n) other = refl
other_numbers (column.List e n) other = refl

pub one_fault : (t : DType) (error : VortexError) → numbers_fault t ≡ Some OnlyPrimitive → numbers_fault t ≡ Some error → OnlyPrimitive ≡ error
one_fault t error is has = let same : ◌≡◌ {A = Option VortexError} (Some OnlyPrimitive) (Some error) = sym is ∙ has in cc

-- a tight column shows the rows
pub tight_rows : (rows : List (Option Value)) (c : Column) → IsTightColumn rows c → column_rows c ≡ rows
tight_rows rows (OfLeaf leaf) tight = absurd tight
tight_rows rows (OfConstant constant) tight = absurd tight
tight_rows rows (OfLists lists) tight = absurd tight
tight_rows rows (OfRuns ends_type ends values offset count) tight =
    let cover = tight.0.covers in
    rw (tight.1, tight.2) (sym ((Covers_iff_run_rows rows ends (column_rows values) 0 (length rows) cover.window cover.paired).0 cover))

-- ends and flat values that encode rows are a tight column of them
pub tight_of_rows : (rows : List (Option Value)) (dtype : DType) (ends : PrimitiveForm) (values : Leaf) (count : ℕ) (shown : Column) → IsRowEncoding rows dtype ends values → count ≡ length rows → shown ≡ OfLeaf values
    → IsTightColumn rows (column_of_runs (runs_of (OfLeaf (OfNumbers ends)) shown 0 count))
tight_of_rows rows dtype ends values count shown e counted stored =
    subst (λ (c : Column). IsTightColumn rows (column_of_runs (runs_of (OfLeaf (OfNumbers ends)) c 0 count))) (sym stored)
    (e.cover, refl, counted, inl (e.narrow, e.computed))

-- tiles that are some reach past their start
some_tiles : {B : Type 0} (start stop : ℕ) (ends : List ℕ) (values : List B) → Tiles start stop ends values → 0 < length values → start < stop
some_tiles start stop [] [] tiles some = absurd (omega arith)
some_tiles start stop [] (value ∷ values) tiles some = absurd tiles
some_tiles start stop (end ∷ ends) [] tiles some = absurd tiles
some_tiles start stop (end ∷ ends) (value ∷ values) tiles some = let rest = Tiles-le end stop ends values tiles.2 in let filled = tiles.0 in omega arith

-- one null of a type, as a constant
abbrev pub one_null : DType → Constant
one_null dtype = record { dtype = dtype; value = None; count = 1 }

-- where all values of an encoding are null
module _ (rows : List (Option Value)) (dtype : DType) (ends : PrimitiveForm) (values : Leaf) (count : ℕ) (e : IsRowEncoding rows dtype ends values) (counted : count ≡ length rows) (nulls : HasNullsAlone (single_rows values)) where
  -- there is a row
  pub some_row : 0 < count
  some_row =
      let some = some_tiles 0 (length rows) (ends_of ends) (single_rows values) (Tiles-from_IsTightCover rows (ends_of ends) (single_rows values) e.cover) nulls.0 in
      omega (arith, some, counted)

  all_null : All (λ row. row ≡ None) rows
  all_null =
      let cover = e.cover.covers in
      let shown = (Covers_iff_run_rows rows (ends_of ends) (single_rows values) 0 (length rows) cover.window cover.paired).0 cover in
      let same : rows ≡ replicate (length rows) None = shown ∙ sym (run_rows-of_nulls_alone (ends_of ends) (single_rows values) (length rows) nulls.1) in
      subst (λ (l : List (Option Value)). All (λ row. row ≡ None) l) (sym same) (All-replicate (λ (row : Option Value). row ≡ None) (length rows) None refl)

  -- and all rows are one run of null
  pub tight_of_nulls : count < 2 ^ 64 → IsTightColumn rows (column_of_runs (runs_with U64 (count ∷ []) (OfConstant (one_null dtype)) 0 count))
  tight_of_nulls small = (
    IsTightCover-from_Tiles rows (count ∷ []) (None ∷ []) (omega arith) (some_row, tt, counted)
        (λ i h. null-at_each rows i all_null h ∙ sym (shown_at-here count [] None [] i (omega (arith, h, counted)))),
    refl,
    counted,
    inr (refl, (refl, refl), all_null),
  )

-- the parts of one run of null
window_of_one : (count : ℕ) → 0 < count → count < 2 ^ 64 → IsWindow (count ∷ []) 0 count
window_of_one count some small = record {
  increasing = λ k h. absurd (omega arith);
  none = λ none. absurd (omega arith);
  first = λ _. omega arith;
  last = λ _. omega arith;
  small = omega arith;
}

module _ (dtype : DType) (count : ℕ) (ends : PrimitiveForm) (nulls : Constant) (made : ends ≡ primitive_with U64 (pos count ∷ []) NeverNull) (is : nulls ≡ one_null dtype) where
  pub null_parts : 0 < count → count < 2 ^ 64 → AreParts (OfLeaf (OfNumbers ends)) (OfConstant nulls) 0 count
  null_parts some small =
      subst (λ (form : PrimitiveForm). AreParts (OfLeaf (OfNumbers form)) (OfConstant nulls) 0 count) (sym made)
      (subst (λ (c : Constant). AreParts (OfLeaf (OfNumbers (primitive_with U64 (pos count ∷ []) NeverNull))) (OfConstant c) 0 count) (sym is)
      (record { plain = tt; runs = record { window = window_of_one count some small; paired = refl } }))

  pub null_runs : runs_of (OfLeaf (OfNumbers ends)) (OfConstant nulls) 0 count ≡ runs_with U64 (count ∷ []) (OfConstant (one_null dtype)) 0 count
  null_runs = λ i. runs_of (OfLeaf (OfNumbers (made i))) (OfConstant (is i)) 0 count
