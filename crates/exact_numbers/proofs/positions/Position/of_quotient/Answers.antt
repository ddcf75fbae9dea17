use Rattle.std.proofs.Common.{◌^◌, ◌≤◌, ◌*◌, Bool, Option, sym, subst, arith}
use Rattle.exact_numbers.specs.Positions.{IsAmongWide}
use Rattle.exact_numbers.specs.Quotients.{IsFound}
use Rattle.exact_numbers.specs.declared.quotients.Quotient.{Quotient}
use Rattle.exact_numbers.specs.declared.positions.Position.TheVariants.{AboveAll, BelowAll}
use Rattle.exact_numbers.proofs.Places.{before_all, past_all}
use Rattle.exact_numbers.proofs.positions.Position.of_quotient.Goals as goal

pub returns-in-None : goal.returns-in-None
returns-in-None c = λ number divisor some h.
    let large : 2 ^ 128 * divisor ≤ number = subst (λ (q : Option Quotient). IsFound number divisor q) c.in-None.is h in
    subst (λ (b : Bool). IsAmongWide b number divisor BelowAll) (sym c.if-is_negative-2.true) (before_all number divisor some (omega arith))

pub returns-in-None-2 : goal.returns-in-None-2
returns-in-None-2 c = λ number divisor some h.
    let large : 2 ^ 128 * divisor ≤ number = subst (λ (q : Option Quotient). IsFound number divisor q) c.in-None-2.is h in
    subst (λ (b : Bool). IsAmongWide b number divisor AboveAll) (sym c.if-is_negative-2.false) (past_all number divisor some (omega arith))
