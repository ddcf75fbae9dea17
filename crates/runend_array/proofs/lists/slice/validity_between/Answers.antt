use Rattle.std.proofs.Common.{ap}
use Rattle.column_base.specs.Validity.{form_of}
use Rattle.runend_array.specs.Array.{validity_of}
use Rattle.runend_array.proofs.ListSlice.{IsValidityInRange-flags}
use Rattle.runend_array.proofs.lists.slice.validity_between.Goals as goal

pub returns-in_ok-flags-in-Bits-clause-form : goal.returns-in_ok-flags-in-Bits-clause-form
returns-in_ok-flags-in-Bits-clause-form g c =
    IsValidityInRange-flags (validity_of c.args.validity.now) (validity_of c.rows_of_validity.result) _ (form_of c.from_bits.result) c.in_ok-flags-in-Bits.flags c.args.start c.args.stop
    (ap validity_of c.in-Bits.is) c.rows_of_validity.ensures.form c.in_ok-flags-in-Bits.ensures.flags c.from_bits.ensures.flags c.from_bits.ensures.fits c.from_bits.ensures.normal c.from_bits.ensures.all_valid
