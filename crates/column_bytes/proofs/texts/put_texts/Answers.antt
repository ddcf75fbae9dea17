use Rattle.std.proofs.Common.{◌∙◌, ap, arith, refl}
use Rattle.column_bytes.specs.Bytes.{kind_number}
use Rattle.column_bytes.proofs.Writes.{puts_text_rows}
use Rattle.column_fields.proofs.RoomLaws.{counted_refused}
use Rattle.column_bytes.proofs.MessageSizes.{texts_sized}
use Rattle.column_bytes.proofs.texts.put_texts.Goals as goal

pub returns-clause-ok : goal.returns-clause-ok
returns-clause-ok g c =
    puts_text_rows c.args.array.now _ _ _ _ _ (c.number_of_kind.ensures ∙ ap kind_number c.dtype.ensures) c.len.ensures.views c.in_ok-put_header.ensures.ok c.in_ok-put_text_fields.ensures.ok

pub returns-in_err-put_header-clause-room : goal.returns-in_err-put_header-clause-room
returns-in_err-put_header-clause-room g c = counted_refused _ _ _ _ c.from_residual.ensures.0 (omega (arith, texts_sized c.args.array.now _ _ _ _ (c.number_of_kind.ensures ∙ ap kind_number c.dtype.ensures) c.len.ensures.views refl refl, c.in_err-put_header.ensures.room))

pub returns-in_err-put_text_fields-clause-room : goal.returns-in_err-put_text_fields-clause-room
returns-in_err-put_text_fields-clause-room g c = counted_refused _ _ _ _ c.from_residual-in_err-put_text_fields.ensures.0 (omega (arith, texts_sized c.args.array.now _ _ _ _ (c.number_of_kind.ensures ∙ ap kind_number c.dtype.ensures) c.len.ensures.views refl refl, c.in_ok-put_header.ensures.room, (c.in_err-put_text_fields.ensures.room c.in_err-put_text_fields.ensures.only)))

pub returns-clause-room : goal.returns-clause-room
returns-clause-room g c = omega (arith, texts_sized c.args.array.now _ _ _ _ (c.number_of_kind.ensures ∙ ap kind_number c.dtype.ensures) c.len.ensures.views refl refl, c.in_ok-put_header.ensures.room, c.in_ok-put_text_fields.ensures.room)
