use Rattle.std.proofs.Common.{◌≡◌, ◌∙◌, ℕ, length, pos, sym, ap, subst}
use Rattle.column_base.specs.Validity.{form_of, validity_flags}
use Rattle.column_core.specs.Optionals.{optionals}
use Rattle.column_ops.specs.Nullable.{either_nullable}
use Rattle.column_ops.specs.Take.{position_numbers}
use Rattle.column_ops.proofs.Made.{IsMade-taken_numbers}
use Rattle.std.proofs.lemmas.List.{length-map}
use Rattle.column_base.specs.ValidityForm.{HasLength, nullability_in}
use Rattle.column_ops.proofs.numbers.take_numbers.Goals as goal

pub returns-clause-made : goal.returns-clause-made
returns-clause-made g c =
    let number = g.T.NativePType.number in
    let zeroth : number c.default.result ≡ pos 0 = g.met.T.NativePType.law.zeroth c.default.result c.default.ensures in
    let indices = position_numbers (optionals c.args.positions.now (validity_flags c.args.places.now (length c.args.positions.now))) in
    rw (c.new_unchecked.ensures, c.wrap.ensures.shows, c.wrap.ensures.typed)
    (IsMade-taken_numbers g.T.NativePType.PTYPE number c.default.result c.args.items.now (form_of c.args.validity.now) indices
    (either_nullable (nullability_in (form_of c.args.validity.now)) (nullability_in (form_of c.args.places.now))) c.in_ok-taken.taken.items (form_of c.in_ok-taken.rows) zeroth c.in_ok-taken.ensures.taken)

pub take_items-requires-clause-fits : goal.take_items-requires-clause-fits
take_items-requires-clause-fits g c = c.requires.fits

pub take_items-requires-clause-counted : goal.take_items-requires-clause-counted
take_items-requires-clause-counted g c = c.requires.counted

pub take_items-requires-clause-within : goal.take_items-requires-clause-within
take_items-requires-clause-within g c = c.requires.within

pub new_unchecked-requires : goal.new_unchecked-requires
new_unchecked-requires g c =
    let long = ap length c.wrap.ensures.shows ∙ length-map c.in_ok-taken.taken.items g.T.NativePType.number in
    subst (λ (n : ℕ). HasLength (form_of c.in_ok-taken.rows) n) (sym long) c.in_ok-taken.ensures.taken.fits
