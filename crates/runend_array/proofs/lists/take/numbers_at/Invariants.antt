use Rattle.std.proofs.Common.{◌≡◌, map}
use Rattle.std.specs.List.{range_with_len}
use Rattle.column_base.specs.Validity.{form_of}
use Rattle.runend_array.specs.Array.{column_of}
use Rattle.runend_array.specs.Column.{index_of}
use Rattle.runend_array.specs.ListTake.{number_taken}
use Rattle.runend_array.proofs.lists.take.numbers_at.Given as goal

abbrev pub invariant-loop-place : goal.invariant-loop-place
invariant-loop-place g l = l.numbers.items ≡ map (number_taken (index_of (column_of l.index)) l.positions (form_of l.places)) (range_with_len 0 l.place)
