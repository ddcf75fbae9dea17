use Rattle.std.proofs.Common.{take}
use Rattle.std.specs.List.{AllPass}
use Rattle.column_words.specs.Floats.{is_decimal_byte}
use Rattle.column_words.proofs.floats.is_decimal.Given as goal

abbrev pub invariant-loop-byte : goal.invariant-loop-byte
invariant-loop-byte l = AllPass is_decimal_byte (take l.byte-index l.word)
