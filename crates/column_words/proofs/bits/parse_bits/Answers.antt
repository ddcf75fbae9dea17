use Rattle.std.proofs.Common.{◌≡◌, ◌+◌, ◌∙◌, ap, take, rules}
use Rattle.column_words.specs.Bits.{bit_word}
use Rattle.column_words.proofs.BitWords.{word_and_digit, digits_of_bits}
use Rattle.column_words.proofs.bits.parse_bits.Goals as goal

pub loop-byte-preserved : goal.loop-byte-preserved
loop-byte-preserved g c =
    let spelled = word_and_digit c.loop-byte.bits c.args.word.now c.loop-byte.byte-index c.in-Some.bit (search rules) c.loop-byte.invariant.bits (search rules) in
    let grown : bit_word c.append.new.self ≡ take (c.loop-byte.byte-index + 1) c.args.word.now = ap bit_word c.in_ok-append.ensures.ok ∙ spelled in record {
      bits = grown;
      digits = digits_of_bits c.append.new.self _ grown;
    }
