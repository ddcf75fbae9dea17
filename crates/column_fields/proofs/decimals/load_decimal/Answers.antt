use Rattle.std.proofs.Common.{◌≡◌, ℕ, ◌+◌, ◌*◌, ◌^◌, arith}
use Rattle.column_fields.proofs.DecimalLaws.{of_words, signed_again}
use Rattle.column_fields.proofs.decimals.load_decimal.Goals as goal

pub returns-clause-shows : goal.returns-clause-shows
returns-clause-shows c =
    let low : ℕ = c.load_word-low.result in
    let high : ℕ = c.load_word-high.result in
    let u : ℕ = c.from.result * 2 ^ 64 + c.from-2.result in
    let is : u ≡ high * 2 ^ 64 + low = omega (arith, c.from.ensures, c.from-2.ensures) in
    of_words low high u _ c.split_at.result.0.now c.split_at.result.1.now c.args.bytes.now (omega arith) (omega arith) is (signed_again low high u c.cast_signed.result (omega arith) (omega arith) is c.cast_signed.ensures) c.load_word-low.ensures c.load_word-high.ensures c.split_at.ensures.front c.split_at.ensures.back
