use Rattle.std.proofs.Common.{subst, sym}
use Rattle.std.specs.Prelude.{ℕ}
use Rattle.float_bits.specs.Number.{IsAtMost}
use Rattle.column_floats.proofs.TestMeanings.{at_most_infinity}
use Rattle.column_floats.proofs.key_tests.KeyRange.of_numbers.Goals as goal

pub returns : goal.returns
returns c = λ other pattern.
    let law = c.with.ensures other pattern in
    let numbers = at_most_infinity c.args.format other pattern in
    let same = c.infinity.ensures in (
      (λ passes. numbers.0 (subst (λ (b : ℕ). IsAtMost c.args.format other b) same (law.0 passes))),
      (λ number. law.1 (subst (λ (b : ℕ). IsAtMost c.args.format other b) (sym same) (numbers.1 number))),
    )
