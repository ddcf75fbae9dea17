use Rattle.std.proofs.Common.{FitsSigned, rules}
use Rattle.std.specs.Int.{w128}
use Rattle.std.proofs.lemmas.Int.{to_z-of_z}
use Rattle.column_core.specs.Value.{DecimalNumber}
use Rattle.runend_array.proofs.WrittenLeaves.{none-seen, some-seen, decimals-of_null, decimals-of_value}
use Rattle.runend_array.proofs.written.write_decimals.Goals as goal

pub returns-in_ok-zeros-in-Null-clause-written : goal.returns-in_ok-zeros-in-Null-clause-written
returns-in_ok-zeros-in-Null-clause-written g c =
    let constant = c.args.constant.now in
    decimals-of_null constant c.args.decimal c.args.nullability c.new_unchecked.result c.requires c.in-Null.ensures.of_type (none-seen constant.value c.in-Null.ensures.value)
    (rw (c.in_ok-zeros-in-Null.ensures.items, c.len.ensures) at c.new_unchecked.ensures)

pub returns-in_ok-numbers-in-Decimal-clause-written : goal.returns-in_ok-numbers-in-Decimal-clause-written
returns-in_ok-numbers-in-Decimal-clause-written g c =
    let constant = c.args.constant.now in
    let number = c.in-Decimal.number in
    let fits : FitsSigned w128 number = search rules in
    decimals-of_value constant c.args.decimal c.args.nullability number c.new_unchecked-in-Decimal.result c.requires (some-seen constant.value (DecimalNumber number) c.in-Decimal.ensures.value)
    (rw (c.in_ok-numbers-in-Decimal.ensures.items, to_z-of_z w128 number fits, c.len-in-Decimal.ensures, c.no_null.ensures) at c.new_unchecked-in-Decimal.ensures)
