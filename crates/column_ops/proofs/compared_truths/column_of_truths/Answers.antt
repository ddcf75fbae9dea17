use Rattle.std.proofs.Common.{◌≡◌, ◌∙◌, sym, ap, subst}
use Rattle.column_base.specs.Validity.{form_of}
use Rattle.column_base.specs.ValidityForm.{NeverNull}
use Rattle.column_base.specs.declared.dtype.DType.TheVariants as column
use Rattle.column_base.proofs.ValidityRows.{nullable-of_bits}
use Rattle.column_core.specs.BoolForm.{bool_with}
use Rattle.column_core.specs.Optionals.{optionals}
use Rattle.column_ops.specs.Comparing.{IsStoredComparison}
use Rattle.column_ops.proofs.WrittenTruths.{flags-all_true, IsStoredComparison-never_null}
use Rattle.column_ops.proofs.compared_truths.column_of_truths.Goals as goal

pub returns-in-NonNullable-clause-truths : goal.returns-in-NonNullable-clause-truths
returns-in-NonNullable-clause-truths g c =
    let marks = flags-all_true c.args.bits c.args.flags c.requires.paired (c.requires.typed c.in-NonNullable.is) in
    let made : c.new_unchecked.result ≡ bool_with c.args.bits NeverNull = rw (c.new_unchecked.ensures, c.freeze.ensures) in
    rw made (ap (optionals c.args.bits) marks)

pub returns-in-NonNullable-clause-stored : goal.returns-in-NonNullable-clause-stored
returns-in-NonNullable-clause-stored g c =
    let marks = flags-all_true c.args.bits c.args.flags c.requires.paired (c.requires.typed c.in-NonNullable.is) in
    let made : c.new_unchecked.result ≡ bool_with c.args.bits NeverNull = rw (c.new_unchecked.ensures, c.freeze.ensures) in
    subst IsStoredComparison (sym made) (IsStoredComparison-never_null c.args.bits c.args.flags marks c.requires.blank)

pub returns-in-Nullable-clause-dtype : goal.returns-in-Nullable-clause-dtype
returns-in-Nullable-clause-dtype g c =
    let told = nullable-of_bits (form_of c.from_bits-validity.result) c.freeze-in-Nullable.result c.from_bits-validity.ensures.flags c.from_bits-validity.ensures.all_valid in
    rw c.new_unchecked-in-Nullable.ensures (ap column.Bool (told ∙ sym c.in-Nullable.is))
