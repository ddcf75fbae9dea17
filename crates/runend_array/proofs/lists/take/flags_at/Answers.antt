use Rattle.column_base.specs.Validity.{form_of}
use Rattle.runend_array.specs.Array.{validity_of}
use Rattle.runend_array.specs.ListTake.{flag_taken}
use Rattle.runend_array.proofs.ListRows.{made-push}
use Rattle.runend_array.proofs.lists.take.flags_at.Goals as goal

pub loop-place-preserved : goal.loop-place-preserved
loop-place-preserved g c =
    made-push (flag_taken (validity_of c.args.validity.now) c.args.positions.now (form_of c.args.places.now)) c.loop-place.bits _ c.loop-place.place c.flag_at_place.result
    c.in_ok-append.ensures.ok c.flag_at_place.ensures c.loop-place.invariant
