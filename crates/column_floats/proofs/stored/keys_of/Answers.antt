use Rattle.std.proofs.Common.{◌≡◌, ◌∙◌, ap, map}
use Rattle.std.specs.Prelude.{unsigned_abs}
use Rattle.column_base.specs.Numbers.{numbers, ptype_of}
use Rattle.column_base.specs.Validity.{form_of}
use Rattle.column_core.specs.Leaf.{OfNumbers, single_rows}
use Rattle.column_core.specs.PrimitiveForm.{PrimitiveForm}
use Rattle.column_floats.specs.Formats.{format_of_width}
use Rattle.column_floats.specs.Patterns.{stored_key}
use Rattle.column_floats.proofs.StoredRows.{rows_of_keys}
use Rattle.column_floats.proofs.stored.keys_of.Goals as goal

pub returns-clause-rows : goal.returns-clause-rows
returns-clause-rows g c =
    let form = c.args.bits.now in
    let patterns = c.args.patterns in
    let stored : numbers c.in_ok-keys.keys ≡ map (λ n. stored_key patterns (format_of_width form.ptype) (unsigned_abs n)) form.numbers =
    c.in_ok-keys.ensures.keys ∙ (λ i. map (λ n. stored_key patterns (format_of_width (c.values.ensures.typed i)) (unsigned_abs n)) (c.values.ensures.shows i)) in
    ap (λ (f : PrimitiveForm). single_rows (OfNumbers f)) c.new_unchecked.ensures
    ∙ rows_of_keys (stored_key patterns (format_of_width form.ptype)) form (ptype_of c.in_ok-keys.keys) (numbers c.in_ok-keys.keys) (form_of c.in_ok-validity.validity) stored (c.in_ok-validity.ensures.same ∙ c.validity.ensures.form)
