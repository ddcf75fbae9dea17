-- The runs so far.
use Rattle.std.proofs.Common.{◌≡◌, ◌+◌, ◌<◌, ℕ, length, slice_index_or}
use Rattle.c_columns.specs.RunReads.{stop_of}
use Rattle.c_columns.proofs.run_reads.put_stops.Given as goal

abbrev pub invariant-loop-run : goal.invariant-loop-run
invariant-loop-run l =
    record {
      len : length l.stops ≡ length l.fn.stops;
      each : (k : ℕ) → k < l.run → slice_index_or l.stops k 0 ≡ stop_of l.runs (l.first + k);
    }
