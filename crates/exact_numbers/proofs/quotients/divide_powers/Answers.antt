use Rattle.std.proofs.Common.{◌∙◌, ◌^◌, ◌&&◌, Bool, ap, sym}
use Rattle.float_bits.specs.Places.{value}
use Rattle.exact_numbers.proofs.QuotientLaws.{both_exact}
use Rattle.exact_numbers.proofs.quotients.divide_powers.Goals as goal

pub returns-then-is_halved-clause-quotient : goal.returns-then-is_halved-clause-quotient
returns-then-is_halved-clause-quotient c =
    both_exact (value c.args.digits.now) (2 ^ c.args.halvings) (10 ^ c.args.tenths) (value c.divide_times-is_halved.new.digits) (value c.divide_times-is_divided.new.digits) c.divide_times-is_halved.result c.divide_times-is_divided.result _
    c.divide_times-is_halved.ensures.quotient c.divide_times-is_divided.ensures.quotient (sym (ap (λ (x : Bool). x && c.divide_times-is_divided.result) c.if-is_halved.true))

pub returns-else-is_halved-clause-quotient : goal.returns-else-is_halved-clause-quotient
returns-else-is_halved-clause-quotient c =
    both_exact (value c.args.digits.now) (2 ^ c.args.halvings) (10 ^ c.args.tenths) (value c.divide_times-is_halved.new.digits) (value c.divide_times-is_divided.new.digits) c.divide_times-is_halved.result c.divide_times-is_divided.result _
    c.divide_times-is_halved.ensures.quotient c.divide_times-is_divided.ensures.quotient (c.if-is_halved.false ∙ sym (ap (λ (x : Bool). x && c.divide_times-is_divided.result) c.if-is_halved.false))
