use Rattle.std.proofs.Common.{◌≡◌, map}
use Rattle.std.specs.List.{range_with_len}
use Rattle.column_base.specs.Validity.{form_of}
use Rattle.runend_array.specs.Array.{validity_of}
use Rattle.runend_array.specs.ListTake.{flag_taken}
use Rattle.runend_array.proofs.lists.take.flags_at.Given as goal

abbrev pub invariant-loop-place : goal.invariant-loop-place
invariant-loop-place g l = l.bits ≡ map (flag_taken (validity_of l.validity) l.positions (form_of l.places)) (range_with_len 0 l.place)
