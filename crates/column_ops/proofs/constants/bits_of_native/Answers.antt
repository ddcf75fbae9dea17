use Rattle.std.proofs.Common.{◌≡◌, ◌∙◌, Bool, List, ℤ, length, ap, subst}
use Rattle.std.specs.Prelude.{IfOk}
use Rattle.std.specs.Int.{w128}
use Rattle.std.specs.Ordering.{int_cmp}
use Rattle.std.proofs.lemmas.Int.{to_z-of_z}
use Rattle.column_base.specs.Validity.{validity_flags}
use Rattle.column_ops.specs.Comparing.{holds_of}
use Rattle.column_ops.proofs.ConstantBits.{is_held-map}
use Rattle.column_ops.proofs.constants.bits_of_native.Goals as goal

pub returns-clause-bits : goal.returns-clause-bits
returns-clause-bits g c =
    let items = c.args.items.now in
    let number = g.T.NativePType.number in
    let right = c.in-Some.right in
    subst (λ (told : List Bool). IfOk c.bits_of_items.result (λ bits. bits ≡ told))
    (is_held-map (λ item. holds_of c.args.operator (g.T.Ord.cmp item right)) (λ (n : ℤ). holds_of c.args.operator (int_cmp n c.args.right)) number
    (λ item. ap (holds_of c.args.operator) (g.met.T.NativePType.law.ordered item right ∙ ap (int_cmp (number item)) (c.in-Some.ensures.1 ∙ to_z-of_z w128 c.args.right c.ranges.right))) items
    (validity_flags c.args.validity.now (length items))) c.bits_of_items.ensures.bits
