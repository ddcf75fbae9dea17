use Rattle.std.proofs.Common.{arith}
use Rattle.column_fields.proofs.Varints.{if_none}
use Rattle.column_fields.proofs.VarintForms.{nothing_read, not_shortest, is_read}
use Rattle.column_fields.proofs.varint.read_shortest.Goals as goal

pub returns-in_err-number-clause-none : goal.returns-in_err-number-clause-none
returns-in_err-number-clause-none c = if_none _ _ (nothing_read _ c.in_err-number.ensures.none)

pub returns-then-rest-count-clause-none : goal.returns-then-rest-count-clause-none
returns-then-rest-count-clause-none c =
    not_shortest _ c.in_ok-number.rest.now _ _ c.in_ok-number.ensures.found c.varint_len-count.ensures.exact (λ e. c.if-rest-count.true (omega arith))

pub returns-clause-found : goal.returns-clause-found
returns-clause-found c = is_read _ c.in_ok-number.rest.now _ _ c.in_ok-number.ensures.found c.varint_len-count.ensures.exact (omega arith)

pub returns-clause-small : goal.returns-clause-small
returns-clause-small c = c.in_ok-number.ensures.found.spelt.fits
