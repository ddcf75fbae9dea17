use Rattle.std.proofs.Common.{◌≡◌, ◌∙◌, ℕ, length, pos, sym, ap, subst}
use Rattle.column_base.specs.Mask.{mask_bits}
use Rattle.column_base.specs.Validity.{form_of}
use Rattle.column_ops.proofs.Made.{IsMade-filtered_numbers}
use Rattle.std.proofs.lemmas.List.{length-map}
use Rattle.column_base.specs.ValidityForm.{HasLength, nullability_in}
use Rattle.column_ops.proofs.numbers.filter_numbers.Goals as goal

pub returns-clause-made : goal.returns-clause-made
returns-clause-made g c =
    let number = g.T.NativePType.number in
    let zeroth : number c.default.result ≡ pos 0 = g.met.T.NativePType.law.zeroth c.default.result c.default.ensures in
    rw (c.new_unchecked.ensures, c.wrap.ensures.shows, c.wrap.ensures.typed)
    (IsMade-filtered_numbers g.T.NativePType.PTYPE number c.default.result c.args.items.now (form_of c.args.validity.now) (mask_bits c.args.mask.now)
    (nullability_in (form_of c.args.validity.now)) c.in_ok-kept.kept.items (form_of c.in_ok-kept.rows) zeroth c.in_ok-kept.ensures.filtered)

pub filter_items-requires-clause-fits : goal.filter_items-requires-clause-fits
filter_items-requires-clause-fits g c = c.requires.fits

pub filter_items-requires-clause-masked : goal.filter_items-requires-clause-masked
filter_items-requires-clause-masked g c = c.requires.masked

pub new_unchecked-requires : goal.new_unchecked-requires
new_unchecked-requires g c =
    let long = ap length c.wrap.ensures.shows ∙ length-map c.in_ok-kept.kept.items g.T.NativePType.number in
    subst (λ (n : ℕ). HasLength (form_of c.in_ok-kept.rows) n) (sym long) c.in_ok-kept.ensures.filtered.fits
