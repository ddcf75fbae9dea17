-- Ranges of rows, in a flat form.
use Rattle.std.proofs.Common.{◌≡◌, ℕ, ◌+◌, ◌-◌, ◌<◌, ◌≤◌, List, replicate, sym, ap, ◌∙◌, arith}
use Rattle.std.specs.Prelude.{option_map, slice_range}
use Rattle.column_base.proofs.Ranges.{slice_range-replicate}
use Rattle.column_core.specs.Value.{FlatValue, Single}
use Rattle.column_core.specs.Leaf.{OfNumbers, OfTruths, OfDecimals, OfVarBins}
use Rattle.runend_windows.specs.Window.{run_rows}
use Rattle.runend_windows.proofs.SlicedRuns.{run_rows-narrowed}
use Rattle.runend_array.specs.Column.{AreRuns, Column, Constant, OfLeaf, OfConstant, OfLists, OfRuns, Runs, column_dtype, column_of_runs, column_rows, repeated}
use Rattle.runend_array.specs.Encoding.{IsComputedFlat}
use Rattle.runend_array.specs.RowRuns.{first_run, last_run}
use Rattle.runend_array.specs.Canonical.{IsCanonical, IsFlatPart, IsNormalFlat}

-- what a constant is written out as has no bits to spare
normal-of_constant : (constant : Constant) (c : Column) → IsCanonical (OfConstant constant) c → IsNormalFlat c
normal-of_constant constant (OfLeaf (OfNumbers form)) w = w.0.normal
normal-of_constant constant (OfLeaf (OfTruths form)) w = w.0.normal
normal-of_constant constant (OfLeaf (OfDecimals form)) w = w.0.normal
normal-of_constant constant (OfLeaf (OfVarBins form)) w = w.0.normal
normal-of_constant constant (OfConstant other) w = absurd w
normal-of_constant constant (OfLists lists) w = tt
normal-of_constant constant (OfRuns ends_type ends values offset count) w = absurd w

-- some rows of a constant, written out
pub part-of_constant : (constant part : Constant) (start stop : ℕ) (c : Column) → part ≡ repeated constant (stop - start) → start < stop → stop ≤ constant.count
    → column_rows c ≡ replicate part.count (option_map (λ (v : FlatValue). Single v) part.value) → column_dtype c ≡ part.dtype → IsCanonical (OfConstant part) c
    → IsFlatPart (OfConstant constant) start stop c
part-of_constant constant part start stop c made some within rows dtype written =
    let row = option_map (λ (v : FlatValue). Single v) constant.value in
    record {
      rows = rows ∙ (rw made (sym (slice_range-replicate constant.count start stop row (omega arith) within)));
      dtype = dtype ∙ ap (λ (k : Constant). k.dtype) made;
      flat = normal-of_constant part c written;
      some = λ _. some;
    }

-- what a call computes has no bits to spare
normal-of_computed : (c : Column) → IsComputedFlat c → IsNormalFlat c
normal-of_computed (OfLeaf (OfNumbers form)) computed = computed.normal
normal-of_computed (OfLeaf (OfTruths form)) computed = computed.normal
normal-of_computed (OfLeaf (OfDecimals form)) computed = computed.normal
normal-of_computed (OfLeaf (OfVarBins form)) computed = computed.normal
normal-of_computed (OfConstant constant) computed = absurd computed
normal-of_computed (OfLists lists) computed = tt
normal-of_computed (OfRuns ends_type ends values offset count) computed = absurd computed

-- some rows of a run column, shown by the values of their runs
pub part-of_runs : (whole : Runs) (start stop first last : ℕ) (ends : List ℕ) (values part : Column) → AreRuns whole → start < stop → stop ≤ whole.count
    → first ≡ first_run whole start → last ≡ last_run whole stop + 1 → ends ≡ slice_range whole.ends first last → IsFlatPart whole.values first last values
    → column_rows part ≡ run_rows ends (column_rows values) (whole.offset + start) (stop - start) → column_dtype part ≡ column_dtype values → IsComputedFlat part
    → IsFlatPart (column_of_runs whole) start stop part
part-of_runs whole start stop first last ends values part valid some within from to ends_are kept shown typed computed = record {
  rows = shown ∙ rw (ends_are, kept.rows, from, to)
      (run_rows-narrowed whole.ends whole.offset whole.count start stop valid.window some within (column_rows whole.values) valid.paired);
  dtype = typed ∙ kept.dtype;
  flat = normal-of_computed part computed;
  some = λ _. some;
}
