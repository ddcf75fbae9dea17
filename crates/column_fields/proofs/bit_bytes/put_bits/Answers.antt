use Rattle.std.proofs.Common.{arith, ℕ}
use Rattle.std.proofs.lemmas.List.{length-take}
use Rattle.column_fields.proofs.BitWords.{put_done, put_none}
use Rattle.column_fields.proofs.RoomLaws.{refused, words_long}
use Rattle.column_fields.proofs.bit_bytes.put_bits.Goals as goal

pub returns-in_default-clause-ok : goal.returns-in_default-clause-ok
returns-in_default-clause-ok g c = put_none _ c.words.result.now c.args.bits.now c.words.ensures c.in_default.ensures.cases

pub returns-clause-ok : goal.returns-clause-ok
returns-clause-ok g c =
    put_done _ _ _ c.words.result.now c.in-Some.whole.now c.to_le_bytes.result c.in-Some.last.now _ c.args.bits.now c.words.ensures c.in-Some.ensures.cases.0 c.to_le_bytes.ensures (omega (arith, c.len.ensures, c.bytes_for.ensures)) c.in_ok-put_words.ensures.ok c.in_ok-put_slice.ensures.ok

pub returns-in_err-put_words-clause-room : goal.returns-in_err-put_words-clause-room
returns-in_err-put_words-clause-room g c = refused _ _ _ _ c.from_residual.ensures.0 (omega (arith, words_long c.words.result.now c.in-Some.whole.now c.in-Some.last.now c.args.bits.now c.words.ensures c.in-Some.ensures.cases.0, c.in_err-put_words.ensures.room))

pub returns-in_err-put_slice-clause-room : goal.returns-in_err-put_slice-clause-room
returns-in_err-put_slice-clause-room g c = refused _ _ _ _ c.from_residual-in_err-put_slice.ensures.0 (omega (arith, words_long c.words.result.now c.in-Some.whole.now c.in-Some.last.now c.args.bits.now c.words.ensures c.in-Some.ensures.cases.0, length-take {A = ℕ}, c.len.ensures, c.bytes_for.ensures, c.in_ok-put_words.ensures.room, c.in_err-put_slice.ensures.spare.0))

pub returns-clause-room : goal.returns-clause-room
returns-clause-room g c = omega (arith, words_long c.words.result.now c.in-Some.whole.now c.in-Some.last.now c.args.bits.now c.words.ensures c.in-Some.ensures.cases.0, length-take {A = ℕ}, c.len.ensures, c.bytes_for.ensures, c.in_ok-put_words.ensures.room, c.in_ok-put_slice.ensures.spare)
