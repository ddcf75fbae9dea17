use Rattle.column_base.specs.Validity.{form_of}
use Rattle.runend_array.specs.Array.{column_of}
use Rattle.runend_array.specs.Column.{index_of}
use Rattle.runend_array.specs.ListTake.{number_taken}
use Rattle.runend_array.proofs.ListRows.{made-push}
use Rattle.runend_array.proofs.lists.take.numbers_at.Goals as goal

pub loop-place-preserved : goal.loop-place-preserved
loop-place-preserved g c =
    made-push (number_taken (index_of (column_of c.args.index.now)) c.args.positions.now (form_of c.args.places.now)) c.loop-place.numbers.items _ c.loop-place.place c.number_at.result
    c.in_ok-push.ensures.items c.number_at.ensures c.loop-place.invariant
