use Rattle.std.proofs.Common.{◌∙◌, ap}
use Rattle.column_base.specs.Validity.{form_of}
use Rattle.column_core.specs.BoolForm.{bool_dtype, bool_with}
use Rattle.column_core.specs.FlatView.{leaf_in}
use Rattle.column_core.specs.Leaf.{leaf_dtype}
use Rattle.column_core.specs.ScalarView.{sees}
use Rattle.column_ops.proofs.ConstantBits.{dtype-of_null, rows-of_nulls, stored-of_nulls}
use Rattle.column_ops.proofs.compare.compare_to_null.Goals as goal

pub returns-clause-rows : goal.returns-clause-rows
returns-clause-rows g c =
    let form = form_of c.validity_of_nulls.result in
    let made = c.new_unchecked.ensures ∙ ap (λ bits. bool_with bits form) (c.freeze.ensures ∙ c.in_ok-bits.ensures.bits) in
    rows-of_nulls c.args.operator (leaf_in c.args.column) (sees c.args.right.now) c.new_unchecked.result form c.len-count.result c.requires.null made c.validity_of_nulls.ensures.flags c.len-count.ensures

pub returns-clause-dtype : goal.returns-clause-dtype
returns-clause-dtype g c =
    ap bool_dtype c.new_unchecked.ensures
    ∙ dtype-of_null (leaf_dtype (leaf_in c.args.column)) c.args.dtype c.args.right.now (form_of c.validity_of_nulls.result) c.requires.null c.requires.of_type c.validity_of_nulls.ensures.nullability

pub returns-clause-stored : goal.returns-clause-stored
returns-clause-stored g c =
    let form = form_of c.validity_of_nulls.result in
    let made = c.new_unchecked.ensures ∙ ap (λ bits. bool_with bits form) (c.freeze.ensures ∙ c.in_ok-bits.ensures.bits) in
    stored-of_nulls c.new_unchecked.result form c.len-count.result made c.validity_of_nulls.ensures.flags c.validity_of_nulls.ensures.normal c.validity_of_nulls.ensures.some
