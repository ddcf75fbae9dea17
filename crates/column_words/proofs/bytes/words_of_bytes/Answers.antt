use Rattle.std.proofs.Common.{◌≡◌, ◌∙◌, ◌++◌, [], ◌∷◌, get_or, sym, take}
use Rattle.std.specs.Prelude.{codes}
use Rattle.std.specs.String.{string_bytes}
use Rattle.hex.specs.Hex.{encode_upper}
use Rattle.column_words.specs.Bytes.{byte_words}
use Rattle.column_words.specs.Refusals.{behind_spaces}
use Rattle.column_words.proofs.ByteWords.{word_of_next}
use Rattle.column_words.proofs.bytes.words_of_bytes.Goals as goal

pub loop-byte-preserved : goal.loop-byte-preserved
loop-byte-preserved g c =
    let grown = word_of_next c.args.bytes.now c.loop-byte.byte-index c.loop-byte-test.true in
    let step : string_bytes c.push_byte.new.text ≡ (behind_spaces (byte_words (take c.loop-byte.byte-index c.args.bytes.now)) ++ codes " ") ++ encode_upper (get_or c.args.bytes.now c.loop-byte.byte-index 0 ∷ [])
    = cc (c.in_ok-push_byte.ensures.written, c.in_ok-push_str.ensures.bytes, c.loop-byte.invariant) in
    step ∙ sym grown
