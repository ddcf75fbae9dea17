use Rattle.std.proofs.Common.{ap, arith, length}
use Rattle.std.proofs.lemmas.List.{nil_from_length}
use Rattle.column_bytes.proofs.decimal_constants.null_decimal.Goals as goal

pub returns-then-bytes-ne0-clause-bad : goal.returns-then-bytes-ne0-clause-bad
returns-then-bytes-ne0-clause-bad g c = λ _ e. c.if-bytes-ne0.true (omega (arith, ap length e))

pub returns-clause-found : goal.returns-clause-found
returns-clause-found g c = record {
  is = rw c.unwrap.ensures at c.try_new.ensures.ok;
  spelt = nil_from_length c.args.bytes.now (omega arith);
}
