-- The views so far, and that their rows are cut.
use Rattle.std.proofs.Common.{◌≡◌, ◌+◌, ◌<◌, ℕ, pos, length, slice_index_or, map}
use Rattle.column_core.specs.VarBinForm.{zero_view}
use Rattle.c_columns.specs.Makers.{IsRowCut}
use Rattle.c_columns.proofs.texts.views_between.Given as goal

abbrev pub invariant-loop-row : goal.invariant-loop-row
invariant-loop-row g l =
    record {
      len : length l.views.items ≡ l.row;
      buffers : (k : ℕ) → k < l.row → (slice_index_or l.views.items k zero_view).buffer ≡ 0;
      starts : (k : ℕ) → k < l.row → pos ((slice_index_or l.views.items k zero_view).start) ≡ slice_index_or (map g.T.NativePType.number l.offsets) k (pos 0);
      stops : (k : ℕ) → k < l.row → pos ((slice_index_or l.views.items k zero_view).start + (slice_index_or l.views.items k zero_view).size) ≡ slice_index_or (map g.T.NativePType.number l.offsets) (k + 1) (pos 0);
      cut : (k : ℕ) → k < l.row → IsRowCut (map g.T.NativePType.number l.offsets) k;
    }
