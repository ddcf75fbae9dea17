-- The run column of kept runs.
use Rattle.std.proofs.Common.{◌≡◌, ◌∙◌, ℕ, List, Bool, true, length, replicate, ap, sym}
use Rattle.column_base.specs.declared.dtype.PType.{PType}
use Rattle.column_base.specs.declared.dtype.Nullability.{Nullability}
use Rattle.column_base.specs.declared.dtype.Nullability.TheVariants.{NonNullable, Nullable}
use Rattle.column_base.specs.declared.dtype.DType.TheVariants as column
use Rattle.column_base.specs.Bits.{set_indices_of}
use Rattle.column_base.specs.Types.{IsUnsigned}
use Rattle.column_base.specs.ValidityForm.{NeverNull}
use Rattle.column_core.specs.Leaf.{OfNumbers}
use Rattle.column_core.specs.Optionals.{optionals}
use Rattle.column_core.specs.PrimitiveForm.{PrimitiveForm}
use Rattle.column_ops.specs.Filter.{filter_rows}
use Rattle.column_ops.specs.Take.{ArePositions, position_numbers, take_rows}
use Rattle.runend_array.specs.Column.{AreParts, AreRuns, Column, OfLeaf, Runs, column_rows}
use Rattle.runend_windows.specs.Ends.{IsEndsType, ends_of}
use Rattle.runend_windows.specs.Window.{run_rows}
use Rattle.runend_encode.specs.Joined.{AllHaveRows}
use Rattle.runend_column.proofs.SetPlaces.{positions-places, take_rows-positions}
use Rattle.runend_select.specs.KeptRuns.{AreKept}
use Rattle.runend_select.proofs.Filtered.{IsWindow-filtered, AllHaveRows-filtered, paired-filtered, run_rows-filtered}
use Rattle.runend_select.proofs.Selected.{set_bits}

-- the type of ends is unsigned
pub unsigned_of_ends : (t : PType) (n : Nullability) → IsEndsType (column.Primitive t n) → IsUnsigned t
unsigned_of_ends t NonNullable h = h
unsigned_of_ends t Nullable h = absurd h

module _ (whole : Runs) (bits kept : List Bool) (kept_ends : PrimitiveForm) (values : Column) (count : ℕ) (valid : AreRuns whole) (long : length bits ≡ whole.count)
    (are : AreKept whole.ends whole.offset bits kept (ends_of kept_ends)) (rows : column_rows values ≡ filter_rows kept (column_rows whole.values)) (counted : count ≡ set_bits bits) where
  pub parts-kept : kept_ends.validity ≡ NeverNull → IsUnsigned kept_ends.ptype → AreParts (OfLeaf (OfNumbers kept_ends)) values 0 count
  parts-kept required unsigned = record {
    plain = rw required unsigned;
    runs = record {
      window = rw counted (IsWindow-filtered whole.ends (column_rows whole.values) whole.offset whole.count bits kept (ends_of kept_ends) valid.window valid.paired long are);
      paired = ap length rows ∙ paired-filtered whole.ends (column_rows whole.values) whole.offset whole.count bits kept (ends_of kept_ends) valid.window valid.paired long are;
    };
  }

  pub rows-kept : run_rows (ends_of kept_ends) (column_rows values) 0 count ≡ filter_rows bits (run_rows whole.ends (column_rows whole.values) whole.offset whole.count)
  rows-kept = rw (rows, counted) (run_rows-filtered whole.ends (column_rows whole.values) whole.offset whole.count bits kept (ends_of kept_ends) valid.window valid.paired long are)

  pub filled-kept : AllHaveRows (ends_of kept_ends) 0 count
  filled-kept = rw counted (AllHaveRows-filtered whole.ends (column_rows whole.values) whole.offset whole.count bits kept (ends_of kept_ends) valid.window valid.paired long are)

-- the values at the places of kept runs are the kept values
module _ (whole : Runs) (values : Column) (kept : List Bool) (places : List ℕ) (same : values ≡ whole.values) (valid : AreRuns whole) (paired : length kept ≡ length whole.ends) (placed : places ≡ set_indices_of kept) where
  long : length kept ≡ length (column_rows values)
  long = paired ∙ sym valid.paired ∙ ap (λ (column : Column). length (column_rows column)) (sym same)

  pub positions-shown : ArePositions (optionals places (replicate (length places) true)) (length (column_rows values))
  positions-shown = positions-places kept (length (column_rows values)) places long placed

  pub shown-places : take_rows (column_rows values) (position_numbers (optionals places (replicate (length places) true))) ≡ filter_rows kept (column_rows whole.values)
  shown-places = take_rows-positions kept (column_rows values) places long placed ∙ ap (λ (column : Column). filter_rows kept (column_rows column)) same
