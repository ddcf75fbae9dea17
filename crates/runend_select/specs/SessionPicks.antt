-- By what a session picks the strategy that finds the runs of indices.
use Rattle.runend_array.specs.declared.session.Thresholds.{Thresholds}
use Rattle.runend_select.specs.declared.strategy.TakeThresholds.{TakeThresholds}

-- the thresholds of the strategies, among those of a session
abbrev pub picks_of : Thresholds → TakeThresholds
picks_of thresholds = record {
  sorted_runs_per_index = thresholds.sorted_runs_per_index;
  table_len_per_index = thresholds.table_len_per_index;
  unsorted_min_runs = thresholds.unsorted_min_runs;
  unsorted_runs_per_index = thresholds.unsorted_runs_per_index;
}
