use Rattle.std.proofs.Common.{◌∙◌, ap, length}
use Rattle.column_fields.specs.BitBytes.{bit_bytes}
use Rattle.column_fields.proofs.BitWords.{not_padded, read_bits}
use Rattle.column_fields.proofs.bit_bytes.load_bits.Goals as goal

pub returns-then-not-is_padded-clause-bad : goal.returns-then-not-is_padded-clause-bad
returns-then-not-is_padded-clause-bad g c = λ _. not_padded c.args.count c.args.bytes.now (λ h. absurd (cc (c.is_padded.ensures.1 h, c.if-not-is_padded.true)))

pub returns-clause-shows : goal.returns-clause-shows
returns-clause-shows g c =
    ap bit_bytes (c.freeze.ensures ∙ c.from_words.ensures) ∙ (read_bits c.args.count c.in_ok-words.words.items c.args.bytes.now _ c.requires (c.is_padded.ensures.0 c.if-not-is_padded.false) c.in_ok-words.ensures.shows).0

pub returns-clause-counted : goal.returns-clause-counted
returns-clause-counted g c =
    ap length (c.freeze.ensures ∙ c.from_words.ensures) ∙ (read_bits c.args.count c.in_ok-words.words.items c.args.bytes.now _ c.requires (c.is_padded.ensures.0 c.if-not-is_padded.false) c.in_ok-words.ensures.shows).1
