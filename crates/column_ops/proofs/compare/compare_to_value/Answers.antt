use Rattle.std.proofs.Common.{◌∙◌, ap}
use Rattle.column_base.specs.Validity.{form_of}
use Rattle.column_core.specs.BoolForm.{bool_dtype, bool_with}
use Rattle.column_core.specs.FlatView.{leaf_in}
use Rattle.column_core.specs.ScalarView.{sees}
use Rattle.column_ops.proofs.ConstantBits.{dtype-of_value, flags_of-bits, rows-of_array, stored-of_array}
use Rattle.column_ops.proofs.compare.compare_to_value.Goals as goal

pub returns-clause-rows : goal.returns-clause-rows
returns-clause-rows g c =
    let leaf = leaf_in c.args.column in
    let right = sees c.args.right.now in
    let form = form_of c.in_ok-validity.validity in
    let made = c.new_unchecked.ensures ∙ ap (λ bits. bool_with bits form) c.freeze.ensures in
    rows-of_array c.args.operator leaf right c.new_unchecked.result c.in_ok-bits.bits form c.requires.value made c.in_ok-bits.ensures.bits
    (flags_of-bits leaf c.args.operator right c.in_ok-bits.bits form (form_of c.validity-rows.result.now) c.len.result c.validity-rows.ensures.counted c.validity-rows.ensures.rows c.len.ensures
    c.validity-rows.ensures.form c.in_ok-bits.ensures.bits c.in_ok-validity.ensures.flags)

pub returns-clause-dtype : goal.returns-clause-dtype
returns-clause-dtype g c =
    ap bool_dtype c.new_unchecked.ensures
    ∙ dtype-of_value (leaf_in c.args.column) c.args.dtype (form_of c.in_ok-validity.validity) (form_of c.validity-rows.result.now) c.nullability.result c.validity-rows.ensures.form c.nullability.ensures
    c.in_ok-validity.ensures.nullability

pub returns-clause-stored : goal.returns-clause-stored
returns-clause-stored g c =
    let leaf = leaf_in c.args.column in
    let right = sees c.args.right.now in
    let form = form_of c.in_ok-validity.validity in
    let made = c.new_unchecked.ensures ∙ ap (λ bits. bool_with bits form) c.freeze.ensures in
    let flagged = flags_of-bits leaf c.args.operator right c.in_ok-bits.bits form (form_of c.validity-rows.result.now) c.len.result c.validity-rows.ensures.counted c.validity-rows.ensures.rows c.len.ensures
    c.validity-rows.ensures.form c.in_ok-bits.ensures.bits c.in_ok-validity.ensures.flags in
    stored-of_array c.args.operator leaf right c.new_unchecked.result c.in_ok-bits.bits form c.len.result c.requires.value made c.in_ok-bits.ensures.bits flagged c.len.ensures
    c.in_ok-validity.ensures.normal c.in_ok-validity.ensures.some
