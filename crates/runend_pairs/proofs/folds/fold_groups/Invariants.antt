use Rattle.std.proofs.Common.{◌≡◌, ◌≤◌, length, map, vec_capacity}
use Rattle.column_base.specs.Validity.{validity_flags}
use Rattle.runend_windows.specs.Ends.{ends_of}
use Rattle.runend_windows.specs.Window.{run_at}
use Rattle.runend_pairs.specs.Groups.{first_row, group_rows, shown_numbers}
use Rattle.runend_pairs.proofs.Answered.{AreAnswered}
use Rattle.runend_pairs.proofs.folds.fold_groups.Given as goal

abbrev pub invariant-loop-group : goal.invariant-loop-group
invariant-loop-group g l = record {
  at : l.row ≡ first_row (ends_of l.groups) l.group;
  here : l.run ≡ run_at (ends_of l.values.ends.now) l.row;
  room : l.count ≤ vec_capacity l.items;
  answered : AreAnswered g.N.NativePType.number g.S.Fold.gives (λ k. g.S.Fold.answer_of (group_rows (ends_of l.groups)
      (shown_numbers (ends_of l.values.ends.now) (map g.T.NativePType.number l.values.items.now) (validity_flags l.values.validity.now (length l.values.items.now))) k))
      l.group l.items.items l.flags;
}
