use Rattle.std.proofs.Common.{◌≡◌, ◌∙◌, ℕ, FitsSigned, length, pos, sym, ap, subst, rules}
use Rattle.std.specs.Int.{w128}
use Rattle.std.proofs.lemmas.Int.{to_z-of_z}
use Rattle.column_base.specs.declared.dtype.Nullability.TheVariants.{NonNullable}
use Rattle.column_base.specs.Validity.{form_of}
use Rattle.column_ops.proofs.Made.{IsMade-filled_numbers}
use Rattle.std.proofs.lemmas.List.{length-map}
use Rattle.column_base.specs.ValidityForm.{HasLength}
use Rattle.column_ops.proofs.numbers.fill_numbers.Goals as goal

pub returns-clause-made : goal.returns-clause-made
returns-clause-made g c =
    let number = g.T.NativePType.number in
    let zeroth : number c.default.result ≡ pos 0 = g.met.T.NativePType.law.zeroth c.default.result c.default.ensures in
    let fits : FitsSigned w128 c.args.number = search rules in
    let same : number c.in-Some.value ≡ c.args.number = c.in-Some.ensures.1 ∙ to_z-of_z w128 c.args.number fits in
    rw (c.new_unchecked.ensures, c.wrap.ensures.shows, c.wrap.ensures.typed)
    (IsMade-filled_numbers g.T.NativePType.PTYPE number c.default.result c.in-Some.value c.args.number c.args.items.now (form_of c.args.validity.now)
    NonNullable c.in_ok-filled.filled.items (form_of c.in_ok-filled.rows) zeroth same c.in_ok-filled.ensures.filled)

pub fill_items-requires : goal.fill_items-requires
fill_items-requires g c = c.requires.fits

pub new_unchecked-requires : goal.new_unchecked-requires
new_unchecked-requires g c =
    let long = ap length c.wrap.ensures.shows ∙ length-map c.in_ok-filled.filled.items g.T.NativePType.number in
    subst (λ (n : ℕ). HasLength (form_of c.in_ok-filled.rows) n) (sym long) c.in_ok-filled.ensures.filled.fits
