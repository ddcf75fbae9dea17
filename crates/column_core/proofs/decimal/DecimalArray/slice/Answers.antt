use Rattle.std.proofs.Common.{◌≡◌, ℤ, length, ap, refl, arith}
use Rattle.std.specs.Prelude.{slice_range}
use Rattle.column_base.specs.Validity.{form_of}
use Rattle.column_core.specs.Value.{DecimalNumber}
use Rattle.column_core.specs.DecimalForm.{DecimalForm}
use Rattle.column_core.proofs.OptionalRows.{range-of_rows}
use Rattle.column_core.proofs.decimal.DecimalArray.slice.Goals as goal

pub returns-clause-rows : goal.returns-clause-rows
returns-clause-rows g c =
    let numbers = c.self.inside.values.items in
    let part = c.in_ok-values.values.items in
    let same : length numbers ≡ length c.args.self.now.numbers = ap (λ (form : DecimalForm). length form.numbers) c.self.view_is in
    let within = c.len-length.ensures.numbers in
    let stored : part ≡ slice_range numbers c.args.range.start c.args.range.end = c.in_ok-values.ensures in
    rw (← c.self.view_is)
    (range-of_rows (λ (n : ℤ). DecimalNumber n) numbers part (form_of c.self.inside.validity) (form_of c.in_ok-validity.validity) (length numbers) (length part)
    c.args.range.start c.args.range.end refl refl (omega arith) (omega arith) c.self.invariant stored
    (c.in_ok-validity.ensures.flags (length numbers) c.self.invariant (omega arith)))
