use Rattle.column_base.specs.Validity.{form_of}
use Rattle.runend_windows.proofs.NullRows.{nullable-of_bits}
use Rattle.runend_windows.proofs.decode.decode_nullable.Goals as goal

pub returns-clause-nullable : goal.returns-clause-nullable
returns-clause-nullable g c = nullable-of_bits (form_of c.from_bits.result) c.freeze.result c.from_bits.ensures.flags c.from_bits.ensures.all_valid
