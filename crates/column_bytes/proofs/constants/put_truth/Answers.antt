use Rattle.std.proofs.Common.{◌∙◌, ap, ℕ, [], ◌∷◌, ◌++◌, arith, length}
use Rattle.column_fields.specs.Field.{bytes_field}
use Rattle.column_fields.proofs.BitLaws.{byte_is_bit}
use Rattle.column_bytes.proofs.ConstantWrites.{puts_some}
use Rattle.column_fields.proofs.RoomLaws.{refused}
use Rattle.column_bytes.proofs.MessageSizes.{some_long}
use Rattle.column_base.specs.Words.{one_if}
use Rattle.column_bytes.specs.Values.{some_validity}
use Rattle.column_bytes.proofs.constants.put_truth.Goals as goal

pub returns-clause-ok : goal.returns-clause-ok
returns-clause-ok g c =
    puts_some _ _ _ _ _ c.in_ok-put_told.ensures.ok (c.in_ok-put_bytes.ensures.ok ∙ ap (λ (n : ℕ). g.W.BufMut.written c.put_told.new.out ++ bytes_field 7 (n ∷ [])) (c.from.ensures ∙ byte_is_bit c.args.truth))

pub returns-in_err-put_told-clause-room : goal.returns-in_err-put_told-clause-room
returns-in_err-put_told-clause-room g c = refused _ _ _ _ c.from_residual.ensures.0 (omega (arith, some_long (some_validity c.args.nullability) (one_if c.args.truth ∷ []), c.in_err-put_told.ensures.room))

pub returns-in_err-put_bytes-clause-room : goal.returns-in_err-put_bytes-clause-room
returns-in_err-put_bytes-clause-room g c = refused _ _ _ _ c.from_residual-in_err-put_bytes.ensures.0 (omega (arith, some_long (some_validity c.args.nullability) (one_if c.args.truth ∷ []), ap (λ (n : ℕ). length (bytes_field 7 (n ∷ []))) (c.from.ensures ∙ byte_is_bit c.args.truth), c.in_ok-put_told.ensures.room, c.in_err-put_bytes.ensures.room))

pub returns-clause-room : goal.returns-clause-room
returns-clause-room g c = omega (arith, some_long (some_validity c.args.nullability) (one_if c.args.truth ∷ []), ap (λ (n : ℕ). length (bytes_field 7 (n ∷ []))) (c.from.ensures ∙ byte_is_bit c.args.truth), c.in_ok-put_told.ensures.room, c.in_ok-put_bytes.ensures.room)
