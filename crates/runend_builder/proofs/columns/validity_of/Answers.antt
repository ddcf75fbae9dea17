use Rattle.std.proofs.Common.{◌∙◌, List, Bool, sym, subst}
use Rattle.column_base.specs.Validity.{form_of}
use Rattle.column_base.specs.ValidityForm.{NeverNull}
use Rattle.column_base.specs.declared.dtype.Nullability.{Nullability}
use Rattle.column_base.proofs.ValidityRows.{nullable-of_bits}
use Rattle.runend_builder.specs.Items.{IsValidityOf}
use Rattle.runend_builder.proofs.Grown.{never_null}
use Rattle.runend_builder.proofs.columns.validity_of.Goals as goal

pub returns-in-NonNullable-clause-flags : goal.returns-in-NonNullable-clause-flags
returns-in-NonNullable-clause-flags g c =
    subst (λ (n : Nullability). IsValidityOf NeverNull c.args.flags.now n) (sym c.in-NonNullable.is) (never_null c.args.flags.now (c.requires c.in-NonNullable.is))

pub returns-in_ok-packed-in-Nullable-clause-flags : goal.returns-in_ok-packed-in-Nullable-clause-flags
returns-in_ok-packed-in-Nullable-clause-flags g c =
    let form = form_of c.from_bits.result in
    let bits = c.in_ok-packed-in-Nullable.field-0 in
    subst (λ (bs : List Bool). IsValidityOf form bs c.args.nullability) c.in_ok-packed-in-Nullable.ensures.bits (record {
      shows = c.from_bits.ensures.flags;
      normal = c.from_bits.ensures.normal;
      some = λ null. (c.from_bits.ensures.all_null.0 null).0;
      typed = nullable-of_bits form bits c.from_bits.ensures.flags c.from_bits.ensures.all_valid ∙ sym c.in-Nullable.is;
    })
