use Rattle.std.proofs.Common.{◌∙◌, length, map}
use Rattle.std.proofs.lemmas.List.{length-map}
use Rattle.column_base.specs.ValidityForm.{flags}
use Rattle.column_base.specs.Validity.{form_of}
use Rattle.column_base.proofs.ValidityRows.{length-flags}
use Rattle.column_base.proofs.WordBits.{bits_of_digits}
use Rattle.column_core.specs.Optionals.{optionals}
use Rattle.column_core.proofs.OptionalRows.{length-optionals}
use Rattle.column_ops.specs.Take.{taken_bit}
use Rattle.column_ops.proofs.WordsAt.{taken_digit}
use Rattle.column_ops.proofs.bits_at.bits_at.Goals as goal

pub returns-clause-bits : goal.returns-clause-bits
returns-clause-bits g c =
    let positions = c.args.positions.now in
    let form = form_of c.args.places.now in
    let marks = flags form (length positions) in
    let long = length-flags form (length positions) c.requires in
    c.freeze.ensures ∙ c.from_words.ensures
    ∙ bits_of_digits (length positions) c.in_ok-words.words.items (map (taken_bit c.args.bits.now) (optionals positions marks))
    (length-map (optionals positions marks) (taken_bit c.args.bits.now) ∙ length-optionals positions marks long)
    (λ i h. c.in_ok-words.ensures.digits i h ∙ taken_digit c.words.result.now c.args.bits.now positions form i h c.requires c.words.ensures)
