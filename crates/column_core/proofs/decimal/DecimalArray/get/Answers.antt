use Rattle.std.proofs.Common.{◌≡◌, ◌<◌, ◌∙◌, ℤ, Some, pos, get_or, ap, sym, refl, length}
use Rattle.std.specs.Prelude.{option_map, slice_get}
use Rattle.std.proofs.lemmas.Option.{slice_get-get_or}
use Rattle.column_base.specs.Validity.{form_of}
use Rattle.column_core.specs.Value.{DecimalNumber, Single}
use Rattle.column_core.specs.ScalarView.{sees}
use Rattle.column_core.proofs.OptionalRows.{valid-row_of, null-row_of}
use Rattle.column_core.proofs.decimal.DecimalArray.get.Goals as goal

pub returns-then-is_valid-clause-row : goal.returns-then-is_valid-clause-row
returns-then-is_valid-clause-row g c =
    let numbers = c.self.inside.values.items in
    let within : c.args.index < length numbers = rw (← c.self.view_is) at c.requires in
    let n = get_or numbers c.args.index (pos 0) in
    let number : slice_get numbers c.args.index ≡ Some n = slice_get-get_or numbers c.args.index (pos 0) within in
    let seen = rw c.as_slice.ensures.value at c.decimal_view.ensures.row in
    rw (← c.self.view_is)
    (valid-row_of (λ (m : ℤ). DecimalNumber m) numbers (form_of c.self.inside.validity) (length numbers) c.args.index n (sees c.decimal_view.result)
    c.self.invariant within (sym c.is_valid.ensures ∙ c.if-is_valid.true) number
    (sym (ap (option_map (λ (m : ℤ). Some (Single (DecimalNumber m)))) number) ∙ seen))

pub returns-else-is_valid-clause-row : goal.returns-else-is_valid-clause-row
returns-else-is_valid-clause-row g c =
    let numbers = c.self.inside.values.items in
    rw (← c.self.view_is)
    (null-row_of (λ (n : ℤ). DecimalNumber n) numbers (form_of c.self.inside.validity) (length numbers) c.args.index
    c.self.invariant refl (rw (← c.self.view_is) at c.requires) (sym c.is_valid.ensures ∙ c.if-is_valid.false))
