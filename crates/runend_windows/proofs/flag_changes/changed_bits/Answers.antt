use Rattle.std.proofs.Common.{◌≢◌, ◌+◌, ◌-◌, ◌*◌, ◌%◌, ◌^◌, ℕ, bit_or, slice_index_or, refl, arith}
use Rattle.std.proofs.lemmas.Nat.Bits.{bit_at_xor}
use Rattle.column_base.specs.Words.{digit_at}
use Rattle.column_base.proofs.WordDigits.{digit_at-le}
use Rattle.runend_windows.proofs.ChangedItems.{bit-before, digit-here}
use Rattle.runend_windows.proofs.flag_changes.changed_bits.Goals as goal

pub returns-clause-same : goal.returns-clause-same
returns-clause-same c = λ lane within same.
    let words = c.args.words.now in
    let index : ℕ = c.args.index in
    let word : ℕ = slice_index_or words index 0 in
    let shifted : ℕ = bit_or (word * 2 ^ 1 % 2 ^ 64) c.bit_before.result in
    let last = bit-before words index word c.bit_before.result lane refl c.bit_before.ensures (omega (arith, c.bit_before.ensures, digit_at-le words (index * 64 - 1))) within in
    omega (arith, bit_at_xor word shifted lane, last, digit-here words index word lane refl within, same)

pub returns-clause-differs : goal.returns-clause-differs
returns-clause-differs c = λ lane within differ.
    let words = c.args.words.now in
    let index : ℕ = c.args.index in
    let word : ℕ = slice_index_or words index 0 in
    let shifted : ℕ = bit_or (word * 2 ^ 1 % 2 ^ 64) c.bit_before.result in
    let last = bit-before words index word c.bit_before.result lane refl c.bit_before.ensures (omega (arith, c.bit_before.ensures, digit_at-le words (index * 64 - 1))) within in
    let here = digit-here words index word lane refl within in
    let two : digit_at words (index * 64 + lane - 1) ≢ digit_at words (index * 64 + lane) = differ in
    omega (arith, bit_at_xor word shifted lane, last, here, two, digit_at-le words (index * 64 + lane - 1), digit_at-le words (index * 64 + lane))
