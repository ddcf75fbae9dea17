use Rattle.std.proofs.Common.{arith}
use Rattle.std.proofs.lemmas.Bool.{eqb-true}
use Rattle.column_fields.proofs.ShortLaws.{word_room, short_word}
use Rattle.column_fields.proofs.ends.are_short.Goals as goal

pub overflow_add-result : goal.overflow_add-result
overflow_add-result c = omega (arith, word_room c.from_le_bytes-word.result c.args.bytes.now c.told-bytes c.fits-bytes c.from_le_bytes-word.ensures c.if-word-eq0.true)

pub returns-then-word-eq0 : goal.returns-then-word-eq0
returns-then-word-eq0 c = λ h. short_word c.from_le_bytes-word.result c.args.bytes.now c.told-bytes c.fits-bytes c.from_le_bytes-word.ensures c.if-word-eq0.true (eqb-true _ _ h)
