use Rattle.std.proofs.Common.{◌≡◌, ◌++◌, ◌<◌, None, length, map}
use Rattle.column_base.specs.Bits.{set_indices_of}
use Rattle.column_base.specs.Validity.{validity_flags}
use Rattle.column_core.specs.PrimitiveForm.{optionals, AreZeroAtNulls}
use Rattle.runend_windows.specs.Starts.{items_at, starts_from}
use Rattle.runend_windows.proofs.Starts.{start_behind}
use Rattle.runend_windows.proofs.encode.first_rows.Given as goal

-- the iterator has the ends that are not yet written, and each run so far shows its first row
abbrev pub invariant-loop-end : goal.invariant-loop-end
invariant-loop-end g l =
    let number = g.T.NativePType.number in
    record {
      left : l.runs.ends.items ++ l.end-iterator ≡ set_indices_of l.changes;
      start : l.start ≡ start_behind 0 l.runs.ends.items;
      within : l.start < length l.items;
      taken : optionals (map number l.runs.values.items) l.runs.flags ≡ items_at None (optionals (map number l.items) (validity_flags l.validity (length l.items))) (starts_from 0 l.runs.ends.items);
      paired : length l.runs.flags ≡ length l.runs.values.items;
      zeroed : AreZeroAtNulls (map number l.runs.values.items) l.runs.flags;
    }
