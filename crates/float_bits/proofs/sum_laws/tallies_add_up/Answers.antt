use Rattle.float_bits.proofs.Tallies.{chunks_joined, joined_grouped, joined_swapped, other_total, row_total, run_rows, total_joined, total_times}
use Rattle.float_bits.proofs.sum_laws.tallies_add_up.Goals as goal

pub returns : goal.returns
returns c = record {
  row = row_total;
  other_row = other_total;
  run = run_rows;
  sum = total_joined;
  product = total_times;
  chunks = chunks_joined;
  swapped = joined_swapped;
  grouped = joined_grouped;
}
