use Rattle.std.proofs.Common.{◌∙◌, ap, length, subst, sym, List, Option}
use Rattle.std.specs.List.{AllZip}
use Rattle.column_base.specs.Numbers.{numbers, ptype_of}
use Rattle.column_base.specs.Validity.{form_of}
use Rattle.column_base.specs.ValidityForm.{HasLength, ValidityForm}
use Rattle.column_core.specs.Leaf.{OfNumbers, single_rows}
use Rattle.column_core.specs.PrimitiveForm.{PrimitiveForm}
use Rattle.column_core.specs.Value.{Value}
use Rattle.column_floats.specs.Casts.{Becomes, IsCastRow}
use Rattle.column_floats.proofs.CastRows.{cast_form, length-stored}
use Rattle.column_floats.proofs.casts.cast_numbers.Goals as goal

pub new_unchecked-requires : goal.new_unchecked-requires
new_unchecked-requires g c =
    let form = c.args.array.now in
    let becomes = Becomes (g.C.NumberCast.target c.args.cast.now) (g.C.NumberCast.casts c.args.cast.now) in
    let long = length-stored becomes form (numbers c.in_ok-values.values) c.validity.ensures.counted c.in_ok-values.ensures.items in
    subst (λ (v : ValidityForm). HasLength v (length (numbers c.in_ok-values.values))) (sym (c.in_ok-validity.ensures.same ∙ c.validity.ensures.form)) (subst (HasLength form.validity) (sym long) c.validity.ensures.counted)

pub returns-clause-rows : goal.returns-clause-rows
returns-clause-rows g c =
    let form = c.args.array.now in
    let becomes = Becomes (g.C.NumberCast.target c.args.cast.now) (g.C.NumberCast.casts c.args.cast.now) in
    subst (λ (f : PrimitiveForm). AllZip (IsCastRow becomes) (single_rows (OfNumbers form)) (single_rows (OfNumbers f))) (sym c.new_unchecked.ensures)
    (cast_form becomes form (ptype_of c.in_ok-values.values) (numbers c.in_ok-values.values) (form_of c.in_ok-validity.validity) c.validity.ensures.counted (c.in_ok-validity.ensures.same ∙ c.validity.ensures.form) c.in_ok-values.ensures.items)
