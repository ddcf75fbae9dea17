use Rattle.std.proofs.Common.{◌∙◌, Bool, sym, refl, length}
use Rattle.column_base.specs.Validity.{form_of}
use Rattle.column_core.specs.Value.{Truth}
use Rattle.column_core.proofs.OptionalRows.{valid-row_of, null-row_of}
use Rattle.column_core.proofs.boolean.BoolArray.get.Goals as goal

pub returns-then-is_valid-clause-row : goal.returns-then-is_valid-clause-row
returns-then-is_valid-clause-row g c =
    let bits = c.self.inside.bits in
    rw (← c.self.view_is)
    (valid-row_of (λ (b : Bool). Truth b) bits (form_of c.self.inside.validity) (length bits) c.args.index c.value.result _
    c.self.invariant (rw (← c.self.view_is) at c.requires) (sym c.is_valid.ensures ∙ c.if-is_valid.true) c.value.ensures refl)

pub returns-else-is_valid-clause-row : goal.returns-else-is_valid-clause-row
returns-else-is_valid-clause-row g c =
    let bits = c.self.inside.bits in
    rw (← c.self.view_is)
    (null-row_of (λ (b : Bool). Truth b) bits (form_of c.self.inside.validity) (length bits) c.args.index
    c.self.invariant refl (rw (← c.self.view_is) at c.requires) (sym c.is_valid.ensures ∙ c.if-is_valid.false))
