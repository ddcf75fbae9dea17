-- What is asked so far is that of the rows so far, each of which has two names.
use Rattle.std.proofs.Common.{◌≡◌, ◌≤◌, None, Some, length, map, take}
use Rattle.std.specs.List.{zip}
use Rattle.std.specs.Vec.{vec_capacity, vec_len}
use Rattle.column_core.specs.Refusal.{first_fault}
use Rattle.runend_array.specs.Array.{rows}
use Rattle.c_columns.specs.Reads.{bytes_of}
use Rattle.c_kernels.specs.Grouped.{fold_numbered}
use Rattle.c_tables.specs.Groups.{two_names_fault}
use Rattle.tables.specs.Grouping.{asked_of}
use Rattle.c_tables.proofs.groups.asked_by.Given as goal

abbrev pub invariant-loop-row : goal.invariant-loop-row
invariant-loop-row l = record {
  named : map (λ a. a.name) (map asked_of l.asked.items) ≡ map bytes_of (take l.row (rows l.answers));
  looked_at : map (λ a. a.column) (map asked_of l.asked.items) ≡ map bytes_of (take l.row (rows l.columns));
  numbered : map (λ a. Some a.fold) (map asked_of l.asked.items) ≡ map fold_numbered (take l.row l.folds);
  fine : first_fault two_names_fault (take l.row (zip (rows l.answers) (rows l.columns))) ≡ None;
  room : length l.folds ≤ vec_capacity l.asked;
  counted : vec_len l.asked ≡ l.row;
}
