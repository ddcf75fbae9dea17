use Rattle.std.proofs.Common.{◌≡◌, take}
use Rattle.std.specs.String.{string_bytes}
use Rattle.column_words.specs.Bytes.{byte_words}
use Rattle.column_words.specs.Refusals.{behind_spaces}
use Rattle.column_words.proofs.bytes.words_of_bytes.Given as goal

abbrev pub invariant-loop-byte : goal.invariant-loop-byte
invariant-loop-byte g l = string_bytes l.words ≡ behind_spaces (byte_words (take l.byte-index l.bytes))
