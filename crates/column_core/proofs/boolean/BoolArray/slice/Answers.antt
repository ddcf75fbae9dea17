use Rattle.std.proofs.Common.{◌≡◌, Bool, length, ap, refl, arith}
use Rattle.column_base.specs.Validity.{form_of}
use Rattle.column_core.specs.Value.{Truth}
use Rattle.column_core.specs.BoolForm.{BoolForm}
use Rattle.column_core.proofs.OptionalRows.{range-of_rows}
use Rattle.column_core.proofs.boolean.BoolArray.slice.Goals as goal

pub returns-clause-rows : goal.returns-clause-rows
returns-clause-rows g c =
    let bits = c.self.inside.bits in
    let part = c.in_ok-bits.bits in
    let same : length bits ≡ length c.args.self.now.bits = ap (λ (form : BoolForm). length form.bits) c.self.view_is in
    let within = c.len-length.ensures.bits in
    rw (← c.self.view_is)
    (range-of_rows (λ (b : Bool). Truth b) bits part (form_of c.self.inside.validity) (form_of c.in_ok-validity.validity) (length bits) (length part)
    c.args.range.start c.args.range.end refl refl (omega arith) (omega arith) c.self.invariant c.in_ok-bits.ensures.bits
    (c.in_ok-validity.ensures.flags (length bits) c.self.invariant (omega arith)))
