use Rattle.std.proofs.Common.{◌<◌, List, Bool, length, true, false, ap, subst, ◌∙◌}
use Rattle.std.specs.Prelude.{slice_get}
use Rattle.column_base.specs.Mask.{mask_bits}
use Rattle.column_base.proofs.ValidityRows.{copy_at}
use Rattle.column_base.proofs.mask.Mask.value.Goals as goal

pub returns-in-AllTrue : goal.returns-in-AllTrue
returns-in-AllTrue g c =
    let same = ap mask_bits c.in-AllTrue.is in
    let within = subst (λ (bits : List Bool). c.args.index < length bits) same c.requires in
    ap (λ bits. slice_get bits c.args.index) same ∙ copy_at c.in-AllTrue.field-0 c.args.index true within

pub returns-in-AllFalse : goal.returns-in-AllFalse
returns-in-AllFalse g c =
    let same = ap mask_bits c.in-AllFalse.is in
    let within = subst (λ (bits : List Bool). c.args.index < length bits) same c.requires in
    ap (λ bits. slice_get bits c.args.index) same ∙ copy_at c.in-AllFalse.field-0 c.args.index false within

pub value-requires : goal.value-requires
value-requires g c = subst (λ (bits : List Bool). c.args.index < length bits) (ap mask_bits c.in-Values.is) c.requires

pub returns-in-Values : goal.returns-in-Values
returns-in-Values g c = ap (λ own. slice_get (mask_bits own) c.args.index) c.in-Values.is ∙ c.value.ensures
