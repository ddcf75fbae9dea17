use Rattle.std.proofs.Common.{◌≡◌, ◌∙◌, ℤ, List, map, ap, subst}
use Rattle.std.specs.Prelude.{IfOk}
use Rattle.column_base.specs.declared.dtype.DType.TheVariants as column
use Rattle.column_base.specs.declared.dtype.Nullability.TheVariants.{NonNullable}
use Rattle.column_core.specs.Refusal.{IsRefusedBy}
use Rattle.column_ops.specs.Cast.{number_fault}
use Rattle.column_ops.specs.Fault.{first_fault}
use Rattle.column_ops.proofs.Blanked.{items_or, items_or-mapped}
use Rattle.column_ops.proofs.cast_numbers.cast_shown.Goals as goal

pub returns-clause-refused : goal.returns-clause-refused
returns-clause-refused g c =
    let number = g.S.NativePType.number in
    let shown = ap (map number) (c.deref.ensures.value ∙ c.in_ok-shown.ensures.items) ∙ items_or-mapped number c.args.items.now c.args.bits.now c.default.result
    ∙ ap (items_or (map number c.args.items.now) c.args.bits.now) (g.met.S.NativePType.law.zeroth c.default.result c.default.ensures) in
    subst (λ (numbers : List ℤ). IsRefusedBy (first_fault (number_fault (column.Primitive g.T.NativePType.PTYPE NonNullable)) numbers) c.cast_valid-cast.result) shown c.cast_valid-cast.ensures.refused

pub returns-clause-cast : goal.returns-clause-cast
returns-clause-cast g c =
    let number = g.S.NativePType.number in
    let shown = ap (map number) (c.deref.ensures.value ∙ c.in_ok-shown.ensures.items) ∙ items_or-mapped number c.args.items.now c.args.bits.now c.default.result
    ∙ ap (items_or (map number c.args.items.now) c.args.bits.now) (g.met.S.NativePType.law.zeroth c.default.result c.default.ensures) in
    subst (λ (numbers : List ℤ). IfOk c.cast_valid-cast.result (λ cast. map g.T.NativePType.number cast.items ≡ numbers)) shown c.cast_valid-cast.ensures.cast
