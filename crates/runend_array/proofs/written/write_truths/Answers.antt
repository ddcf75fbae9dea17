use Rattle.runend_array.proofs.WrittenLeaves.{none-seen, some-seen, truths-of_null, truths-of_value}
use Rattle.column_core.specs.Value.{Truth}
use Rattle.runend_array.proofs.written.write_truths.Goals as goal

pub returns-in_ok-bits-in-Null-clause-written : goal.returns-in_ok-bits-in-Null-clause-written
returns-in_ok-bits-in-Null-clause-written g c =
    let constant = c.args.constant.now in
    truths-of_null constant c.args.nullability c.new_unchecked.result c.requires c.in-Null.ensures.of_type (none-seen constant.value c.in-Null.ensures.value)
    (rw (c.freeze.ensures, c.in_ok-bits-in-Null.ensures.bits, c.len.ensures) at c.new_unchecked.ensures)

pub returns-in_ok-bits-in-Bool-clause-written : goal.returns-in_ok-bits-in-Bool-clause-written
returns-in_ok-bits-in-Bool-clause-written g c =
    let constant = c.args.constant.now in
    truths-of_value constant c.args.nullability c.in-Bool.truth c.new_unchecked-in-Bool.result c.requires (some-seen constant.value (Truth c.in-Bool.truth) c.in-Bool.ensures.value)
    (rw (c.freeze-in-Bool.ensures, c.in_ok-bits-in-Bool.ensures.bits, c.len-in-Bool.ensures, c.no_null.ensures) at c.new_unchecked-in-Bool.ensures)
