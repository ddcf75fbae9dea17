-- Joined runs, as a run column.
use Rattle.std.proofs.Common.{◌≡◌, ℕ, List, Option, length, refl, sym, subst}
use Rattle.column_base.specs.declared.dtype.PType.{PType}
use Rattle.column_base.specs.declared.dtype.Nullability.{Nullability}
use Rattle.column_base.specs.declared.dtype.DType.TheVariants as column
use Rattle.column_core.specs.Value.{Value}
use Rattle.column_core.specs.Leaf.{OfNumbers}
use Rattle.column_core.specs.PrimitiveForm.{PrimitiveForm, primitive_dtype}
use Rattle.runend_windows.specs.Cover.{Covers, IsTightCover}
use Rattle.runend_windows.specs.Encoding.{number_rows}
use Rattle.runend_windows.specs.Ends.{IsEndsType, ends_of}
use Rattle.runend_windows.specs.Window.{run_rows, IsWindow}
use Rattle.runend_windows.proofs.RunRows.{Covers_iff_run_rows, length-run_rows}
use Rattle.runend_encode.specs.Joined.{AreJoined}
use Rattle.runend_array.specs.Column.{AreParts, OfLeaf, Runs, column_dtype, column_of_runs, column_rows, runs_of}
use Rattle.runend_column.specs.MinimalForm.{AreMinimalRuns, IsMinimalForm}

-- the runs of a tight cover are a window over its rows
pub least_window : (rows : List (Option Value)) (ends : List ℕ) (values : List (Option Value)) (count : ℕ) → length rows ≡ count → IsTightCover rows ends values → IsWindow ends 0 count
least_window rows ends values count counted cover = subst (λ (n : ℕ). IsWindow ends 0 n) counted cover.covers.window

-- and show them
pub least_rows : (rows : List (Option Value)) (ends : List ℕ) (values : List (Option Value)) (count : ℕ) → length rows ≡ count → IsTightCover rows ends values → run_rows ends values 0 count ≡ rows
least_rows rows ends values count counted cover =
    sym ((Covers_iff_run_rows rows ends values 0 count (least_window rows ends values count counted cover) cover.covers.paired).0
    (subst (λ (n : ℕ). Covers rows ends values 0 n) counted cover.covers))

ptype_from_dtype : (t u : PType) (n m : Nullability) → column.Primitive t n ≡ column.Primitive u m → t ≡ u
ptype_from_dtype t u n m same = cc

module _ (ends values joined_ends joined_values : PrimitiveForm) (offset count : ℕ) (joined : AreJoined ends values offset count joined_ends joined_values) where
  abbrev shown : List (Option Value)
  shown = run_rows (ends_of ends) (number_rows values) offset count

  counted : length shown ≡ count
  counted = length-run_rows (ends_of ends) (number_rows values) offset count

  -- joined runs are parts of a run column
  pub joined_parts : IsEndsType (primitive_dtype ends) → AreParts (OfLeaf (OfNumbers joined_ends)) (OfLeaf (OfNumbers joined_values)) 0 count
  joined_parts plain = record {
    plain = subst IsEndsType (sym joined.ends_dtype) plain;
    runs = record {
      window = least_window shown (ends_of joined_ends) (number_rows joined_values) count counted joined.cover;
      paired = joined.cover.covers.paired;
    };
  }

  -- of the same rows, of the same type, in minimal form
  module _ (least : Runs) (made : least ≡ runs_of (OfLeaf (OfNumbers joined_ends)) (OfLeaf (OfNumbers joined_values)) 0 count) where
    pub joined_rows : column_rows (column_of_runs least) ≡ shown
    joined_rows = subst (λ (p : Runs). column_rows (column_of_runs p) ≡ shown) (sym made) (least_rows shown (ends_of joined_ends) (number_rows joined_values) count counted joined.cover)

    pub joined_dtype : column_dtype least.values ≡ primitive_dtype values
    joined_dtype = subst (λ (p : Runs). column_dtype p.values ≡ primitive_dtype values) (sym made) joined.dtype

    pub joined_form : AreMinimalRuns ends.ptype least
    joined_form = subst (λ (p : Runs). AreMinimalRuns ends.ptype p) (sym made) (record {
      cover = subst (λ (rows : List (Option Value)). IsTightCover rows (ends_of joined_ends) (number_rows joined_values))
          (sym (least_rows shown (ends_of joined_ends) (number_rows joined_values) count counted joined.cover)) joined.cover;
      offset = refl;
      ends_type = ptype_from_dtype _ _ _ _ joined.ends_dtype;
      values = joined.computed;
    })

-- minimal form of runs is that of the column that they are
pub minimal_column : (wanted : PType) (least : Runs) → AreMinimalRuns wanted least → IsMinimalForm wanted (column_of_runs least)
minimal_column wanted least form = record { cover = form.cover; offset = form.offset; ends_type = form.ends_type; values = form.values }
