use Rattle.std.proofs.Common.{◌+◌, ◌*◌, ◌<◌, ◌≤◌, ℕ, sym, subst, arith}
use Rattle.float_bits.specs.Format.{infinity}
use Rattle.exact_numbers.specs.Exact.{exact_of}
use Rattle.exact_numbers.specs.FloatDecisions.{IsGreatestFloat}
use Rattle.exact_numbers.proofs.FloatOrder.{greatest_float, proper_number}
use Rattle.exact_numbers.proofs.numbers.ExactNumber.greatest_float.Goals as goal

pub returns : goal.returns
returns c =
    let f = c.args.format in
    let x = exact_of c.args.self in
    let low = c.loop-high.low in
    let high = c.loop-high.high in
    let known = c.loop-high.invariant in
    let inside : low < 2 * infinity f + 2 = omega (arith, known.some, known.most) in
    let next : high ≤ low + 1 = omega (arith, known.some) in
    subst (λ (b : ℕ). IsGreatestFloat f x b) (sym c.float_at-2.ensures) (greatest_float f x low high (proper_number c.args.self) inside next known.at_most known.past)
