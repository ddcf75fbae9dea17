use Rattle.std.proofs.Common.{◌≡◌, length, ap, arith}
use Rattle.column_base.specs.Numbers.{numbers}
use Rattle.column_core.specs.PrimitiveForm.{PrimitiveForm}
use Rattle.column_core.specs.Primitive.{primitive_of}
use Rattle.column_core.proofs.OptionalRows.{rows-of_range}
use Rattle.column_core.proofs.primitive.PrimitiveArray.slice.Goals as goal

pub returns-clause-rows : goal.returns-clause-rows
returns-clause-rows g c =
    let counted : length (numbers c.self.inside.values) ≡ length c.args.self.now.numbers = ap (λ (form : PrimitiveForm). length form.numbers) c.self.view_is in
    let within = c.len-length.ensures.numbers in
    let whole = primitive_of c.self.inside.values c.self.inside.validity in
    rw (← c.self.view_is)
    (rows-of_range whole (primitive_of c.in_ok-values.values c.in_ok-validity.validity) c.args.range.start c.args.range.end (omega arith) (omega arith) c.self.invariant
    c.in_ok-values.ensures.shows (c.in_ok-validity.ensures.flags (length whole.numbers) c.self.invariant (omega arith)))
