use Rattle.std.proofs.Common.{◌≡◌, ◌+◌, ◌*◌, ◌/◌, ◌++◌, length, vec_len, vec_capacity}
use Rattle.column_fields.specs.BitBytes.{words_bytes}
use Rattle.column_fields.proofs.bit_bytes.load_words.Given as goal

abbrev pub invariant-loop-rest : goal.invariant-loop-rest
invariant-loop-rest g l = record {
  shows : words_bytes l.words.items ++ l.rest ≡ l.bytes;
  left : length l.rest + vec_len l.words * 8 ≡ length l.bytes;
  room : vec_capacity l.words ≡ (length l.bytes + 7) / 8;
}

abbrev pub decreases-loop-rest : goal.decreases-loop-rest
decreases-loop-rest g l = length l.rest
