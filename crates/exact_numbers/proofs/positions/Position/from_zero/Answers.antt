use Rattle.std.proofs.Common.{ℤ, Bool, false, sym, subst}
use Rattle.std.specs.Int.{w128}
use Rattle.std.proofs.lemmas.Int.{to_z_pos}
use Rattle.exact_numbers.specs.Positions.{IsAmongWide}
use Rattle.exact_numbers.specs.Quotients.{IsQuotient}
use Rattle.exact_numbers.specs.declared.positions.Position.TheVariants.{At, Between}
use Rattle.exact_numbers.proofs.Places.{after_whole, at_whole, divisor_some, many_times, past_all}
use Rattle.exact_numbers.proofs.positions.Position.from_zero.Goals as goal

pub returns-then-quotient-ge-LIMIT : goal.returns-then-quotient-ge-LIMIT
returns-then-quotient-ge-LIMIT c = λ number divisor h.
    let q = c.args.quotient in
    past_all number divisor (divisor_some number divisor q.whole q.is_exact h) (many_times number divisor q.whole q.is_exact h c.if-quotient-ge-LIMIT.true)

pub returns-then-quotient : goal.returns-then-quotient
returns-then-quotient c = λ number divisor h.
    let q = c.args.quotient in
    let whole = to_z_pos w128 q.whole c.if-quotient-ge-LIMIT.false in
    subst (λ (n : ℤ). IsAmongWide false number divisor (At n)) (sym whole)
    (at_whole number divisor q.whole (subst (λ (b : Bool). IsQuotient number divisor q.whole b) c.if-quotient.true h))

pub returns-else-quotient : goal.returns-else-quotient
returns-else-quotient c = λ number divisor h.
    let q = c.args.quotient in
    let whole = to_z_pos w128 q.whole c.if-quotient-ge-LIMIT.false in
    subst (λ (n : ℤ). IsAmongWide false number divisor (Between n)) (sym whole)
    (after_whole number divisor q.whole (subst (λ (b : Bool). IsQuotient number divisor q.whole b) c.if-quotient.false h))
