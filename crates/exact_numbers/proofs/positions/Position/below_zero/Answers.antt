use Rattle.std.proofs.Common.{◌≡◌, ◌∙◌, ℤ, negsuc, ◌-ℤ◌, of_z, Bool, true, false, to_z, sym, subst, arith}
use Rattle.std.specs.Int.{w128}
use Rattle.std.proofs.lemmas.Int.{ints}
use Rattle.exact_numbers.specs.Positions.{IsAmongWide}
use Rattle.exact_numbers.specs.Quotients.{IsQuotient}
use Rattle.exact_numbers.specs.declared.positions.Position.TheVariants.{Between}
use Rattle.exact_numbers.proofs.Places.{at_minus, before_all, before_minus, divisor_some, more_than_many}
use Rattle.exact_numbers.proofs.positions.Position.below_zero.Goals as goal

pub returns-then-quotient : goal.returns-then-quotient
returns-then-quotient c = λ number divisor h row fits.
    let q = c.args.quotient in
    at_minus number divisor q.whole (subst (λ (b : Bool). IsQuotient number divisor q.whole b) c.if-quotient.true h) row ∙ c.at_negative.ensures row fits

pub returns-then-quotient-ge-LIMIT : goal.returns-then-quotient-ge-LIMIT
returns-then-quotient-ge-LIMIT c = λ number divisor h.
    let q = c.args.quotient in
    let inexact = subst (λ (b : Bool). IsQuotient number divisor q.whole b) c.if-quotient.false h in
    before_all number divisor (divisor_some number divisor q.whole false inexact) (more_than_many number divisor q.whole inexact c.if-quotient-ge-LIMIT.true)

pub returns : goal.returns
returns c = λ number divisor h.
    let q = c.args.quotient in
    let inexact = subst (λ (b : Bool). IsQuotient number divisor q.whole b) c.if-quotient.false h in
    let small = c.if-quotient-ge-LIMIT.false in
    let is : to_z w128 (of_z w128 (negsuc 0 -ℤ to_z w128 q.whole)) ≡ negsuc q.whole = omega (arith, ints) in
    subst (λ (n : ℤ). IsAmongWide true number divisor (Between n)) (sym is) (before_minus number divisor q.whole inexact)
