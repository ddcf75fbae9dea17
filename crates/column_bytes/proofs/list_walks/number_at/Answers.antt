use Rattle.std.proofs.Common.{◌+◌, ◌*◌, arith, refl}
use Rattle.std.specs.Prelude.{slice_range}
use Rattle.column_bytes.proofs.ListWalks.{bytes_counted, number_read}
use Rattle.column_bytes.proofs.list_walks.number_at.Goals as goal

pub returns-then-place-bytes : goal.returns-then-place-bytes
returns-then-place-bytes c = λ numbers stored spelt lt. absurd (omega (arith, bytes_counted numbers c.args.bytes.now spelt, lt, c.if-place-bytes.true))

pub returns : goal.returns
returns c = λ numbers stored spelt lt.
    number_read numbers c.args.bytes.now c.args.place c.word_of.result (slice_range c.args.bytes.now (c.args.place * 8) (c.args.place * 8 + 8)) stored spelt lt (omega arith) refl c.word_of.ensures
