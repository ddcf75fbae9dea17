use Rattle.std.proofs.Common.{true, false, ap}
use Rattle.column_base.specs.Validity.{validity_flags}
use Rattle.runend_builder.proofs.Lists.{copies_behind}
use Rattle.runend_builder.proofs.bits.append_flags.Goals as goal

pub returns-in-NonNullable-clause-flags : goal.returns-in-NonNullable-clause-flags
returns-in-NonNullable-clause-flags g c =
    copies_behind c.append_copies.result c.append_copies.new.flags.items c.args.flags.now.items (validity_flags c.args.validity.now c.args.count) c.args.start c.args.count true
    (ap (λ validity. validity_flags validity c.args.count) c.in-NonNullable.is) c.append_copies.ensures.flags

pub returns-in-AllValid-clause-flags : goal.returns-in-AllValid-clause-flags
returns-in-AllValid-clause-flags g c =
    copies_behind c.append_copies-in-AllValid.result c.append_copies-in-AllValid.new.flags.items c.args.flags.now.items (validity_flags c.args.validity.now c.args.count) c.args.start c.args.count true
    (ap (λ validity. validity_flags validity c.args.count) c.in-AllValid.is) c.append_copies-in-AllValid.ensures.flags

pub returns-in-AllInvalid-clause-flags : goal.returns-in-AllInvalid-clause-flags
returns-in-AllInvalid-clause-flags g c =
    copies_behind c.append_copies-in-AllInvalid.result c.append_copies-in-AllInvalid.new.flags.items c.args.flags.now.items (validity_flags c.args.validity.now c.args.count) c.args.start c.args.count false
    (ap (λ validity. validity_flags validity c.args.count) c.in-AllInvalid.is) c.append_copies-in-AllInvalid.ensures.flags
