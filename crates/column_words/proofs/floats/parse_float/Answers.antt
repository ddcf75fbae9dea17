use Rattle.std.proofs.Common.{◌++◌, ◌∙◌, ap, sym}
use Rattle.std.specs.Prelude.{codes}
use Rattle.column_words.proofs.FloatWords.{of_bits}
use Rattle.column_words.proofs.floats.parse_float.Goals as goal

pub returns-in-Some-clause-float : goal.returns-in-Some-clause-float
returns-in-Some-clause-float c =
    let cut = c.in-Some.ensures.cases in
    of_bits c.args.format c.args.word.now c.in-Some.digits.now c.parse_bits_of.result (cut.1.1 ∙ ap (λ hex. codes "0x" ++ hex) (sym cut.2)) c.parse_bits_of.ensures
