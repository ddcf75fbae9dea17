use Rattle.std.proofs.Common.{◌∙◌, ℤ, ap, arith, length}
use Rattle.std.specs.Int.{w128}
use Rattle.std.proofs.lemmas.Int.{to_z-of_z}
use Rattle.column_fields.proofs.DecimalLaws.{length-decimal_bytes}
use Rattle.column_bytes.proofs.DecimalReads.{decimal_scalar}
use Rattle.column_bytes.proofs.decimal_constants.some_decimal.Goals as goal

pub returns-then-bytes-ne-DECIMAL_SIZE-clause-bad : goal.returns-then-bytes-ne-DECIMAL_SIZE-clause-bad
returns-then-bytes-ne-DECIMAL_SIZE-clause-bad g c =
    λ _ z e. c.if-bytes-ne-DECIMAL_SIZE.true (omega (arith, ap length e, length-decimal_bytes z))

pub returns-clause-found : goal.returns-clause-found
returns-clause-found g c = record {
  number = c.load_decimal.result;
  is = (rw c.unwrap.ensures at c.try_new.ensures.ok) ∙ ap (λ (z : ℤ). decimal_scalar c.args.decimal c.args.nullability z) (to_z-of_z w128 c.load_decimal.result c.load_decimal.ensures.fits);
  fits = c.load_decimal.ensures.fits;
  spelt = c.load_decimal.ensures.shows;
}
