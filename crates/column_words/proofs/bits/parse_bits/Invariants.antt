use Rattle.std.proofs.Common.{◌≡◌, take}
use Rattle.std.specs.List.{AllPass}
use Rattle.column_words.specs.Bits.{bit_word, is_bit_digit}
use Rattle.column_words.proofs.bits.parse_bits.Given as goal

abbrev pub invariant-loop-byte : goal.invariant-loop-byte
invariant-loop-byte g l = record {
  bits : bit_word l.bits ≡ take l.byte-index l.word;
  digits : AllPass is_bit_digit (take l.byte-index l.word);
}
