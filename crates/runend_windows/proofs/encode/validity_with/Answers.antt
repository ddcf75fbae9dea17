use Rattle.column_base.specs.Validity.{form_of}
use Rattle.column_base.proofs.BitLists.{all_set, count_by-all_true}
use Rattle.std.proofs.Common.{sym, ◌∙◌}
use Rattle.runend_windows.proofs.NullRows.{nullable-of_bits}
use Rattle.runend_windows.proofs.encode.validity_with.Goals as goal

pub returns-in-NonNullable-clause-flags : goal.returns-in-NonNullable-clause-flags
returns-in-NonNullable-clause-flags g c = all_set c.args.bits (count_by-all_true c.args.bits (c.requires c.in-NonNullable.is))

pub returns-in-Nullable-clause-nullability : goal.returns-in-Nullable-clause-nullability
returns-in-Nullable-clause-nullability g c =
    nullable-of_bits (form_of c.from_bits.result) c.args.bits c.from_bits.ensures.flags c.from_bits.ensures.all_valid ∙ sym c.in-Nullable.is
