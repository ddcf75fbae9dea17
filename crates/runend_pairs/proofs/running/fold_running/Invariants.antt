use Rattle.std.proofs.Common.{◌≡◌, ◌≤◌, length, map, take, vec_capacity}
use Rattle.column_base.specs.Validity.{validity_flags}
use Rattle.runend_windows.specs.Ends.{ends_of}
use Rattle.runend_windows.specs.Window.{last_end, run_at}
use Rattle.runend_pairs.specs.Groups.{first_row, shown_numbers}
use Rattle.runend_pairs.specs.Totals.{rows_through}
use Rattle.runend_pairs.proofs.Answered.{AreAnswered}
use Rattle.runend_pairs.proofs.running.fold_running.Given as goal

abbrev pub invariant-loop-run : goal.invariant-loop-run
invariant-loop-run g l = record {
  at : l.row ≡ first_row (ends_of l.values.ends.now) l.run;
  within : l.row ≤ last_end (ends_of l.values.ends.now);
  here : l.run ≡ run_at (ends_of l.values.ends.now) l.row;
  room : l.count ≤ vec_capacity l.items;
  kept : g.S.Fold.keeps (take l.row (shown_numbers (ends_of l.values.ends.now) (map g.T.NativePType.number l.values.items.now) (validity_flags l.values.validity.now (length l.values.items.now)))) l.fold;
  answered : AreAnswered g.N.NativePType.number g.S.Fold.gives (λ k. g.S.Fold.answer_of (rows_through (ends_of l.values.ends.now)
      (shown_numbers (ends_of l.values.ends.now) (map g.T.NativePType.number l.values.items.now) (validity_flags l.values.validity.now (length l.values.items.now))) k))
      l.run l.items.items l.flags;
}
