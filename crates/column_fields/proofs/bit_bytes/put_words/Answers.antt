use Rattle.std.proofs.Common.{◌∙◌, ◌++◌, List, ℕ, ap, length, arith}
use Rattle.std.proofs.lemmas.Result.{on_ok_weaker}
use Rattle.column_fields.proofs.EightLaws.{words_numbers}
use Rattle.column_fields.proofs.RoomLaws.{last_part}
use Rattle.column_fields.proofs.bit_bytes.put_words.Goals as goal

pub returns-clause-ok : goal.returns-clause-ok
returns-clause-ok g c = on_ok_weaker c.put_all.result (λ ok. ok ∙ ap (λ (b : List ℕ). g.W.BufMut.written c.args.out.now ++ b) (words_numbers c.args.words.now)) c.put_all.ensures.ok

pub returns-clause-room : goal.returns-clause-room
returns-clause-room g c = last_part _ _ _ _ _ _ (omega (arith, ap length (words_numbers c.args.words.now))) c.put_all.ensures.room
