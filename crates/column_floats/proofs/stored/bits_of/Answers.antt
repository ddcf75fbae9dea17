use Rattle.std.proofs.Common.{◌≡◌, ◌∙◌, ap, map, pos}
use Rattle.column_base.specs.Numbers.{numbers, ptype_of}
use Rattle.column_base.specs.Validity.{form_of}
use Rattle.column_core.specs.Leaf.{OfNumbers, single_rows}
use Rattle.column_core.specs.PrimitiveForm.{PrimitiveForm}
use Rattle.column_floats.specs.FloatRows.{bits_of_key}
use Rattle.column_floats.specs.Formats.{format_of_width}
use Rattle.column_floats.proofs.StoredRows.{rows_of_bits}
use Rattle.column_floats.proofs.stored.bits_of.Goals as goal

pub returns-clause-rows : goal.returns-clause-rows
returns-clause-rows g c =
    let form = c.args.keys.now in
    let stored : numbers c.in_ok-bits.bits ≡ map (λ n. pos (bits_of_key (format_of_width form.ptype) n)) form.numbers =
    c.in_ok-bits.ensures.bits ∙ (λ i. map (λ n. pos (bits_of_key (format_of_width (c.values.ensures.typed i)) n)) (c.values.ensures.shows i)) in
    ap (λ (f : PrimitiveForm). single_rows (OfNumbers f)) c.new_unchecked.ensures
    ∙ rows_of_bits (format_of_width form.ptype) form (ptype_of c.in_ok-bits.bits) (numbers c.in_ok-bits.bits) (form_of c.in_ok-validity.validity) stored (c.in_ok-validity.ensures.same ∙ c.validity.ensures.form)
