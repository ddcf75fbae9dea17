use Rattle.std.proofs.Common.{[], ◌∷◌, length}
use Rattle.column_core.specs.declared.varbinview.View.{View}
use Rattle.runend_array.proofs.WrittenLeaves.{views-of_value, whole-view}
use Rattle.runend_array.proofs.written.write_views.Goals as goal

pub returns-clause-written : goal.returns-clause-written
returns-clause-written g c =
    let bytes = c.args.bytes.now in
    let view : View = record { buffer = 0; start = 0; size = length bytes } in
    views-of_value c.args.kind c.args.nullability bytes c.args.count (bytes ∷ []) view c.new_unchecked.result (whole-view bytes)
    (rw (c.in_ok-views.ensures.items, c.in_ok-push.ensures.items, c.new-buffers.ensures.items, c.in_ok-buffer.ensures, c.no_null.ensures) at c.new_unchecked.ensures)
