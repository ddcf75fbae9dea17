use Rattle.std.proofs.Common.{length, refl}
use Rattle.column_base.specs.Validity.{form_of}
use Rattle.c_columns.proofs.Served.{all_served, lists_served}
use Rattle.c_columns.proofs.lists.lists.Goals as goal

pub returns-clause-served : goal.returns-clause-served
returns-clause-served c =
    all_served _ c.boxed.result
    (lists_served c.args.offsets.now c.args.sizes.now c.args.nulls c.args.bits.now c.args.first c.args.elements.now c.in_ok-lists.lists (form_of c.in_ok-validity.validity) (length c.args.offsets.now) refl
    c.in_ok-validity.ensures.refused c.in_ok-validity.ensures.validity c.in_ok-lists.ensures.made)
