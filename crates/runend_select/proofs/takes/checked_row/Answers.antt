use Rattle.std.proofs.Common.{◌∙◌, Err, FitsSigned, None, Some, ap, refl, rules, sym, ⊎_elim}
use Rattle.std.specs.Int.{w128}
use Rattle.std.proofs.lemmas.Int.{to_z-of_z}
use Rattle.column_base.specs.Validity.{form_of}
use Rattle.runend_select.proofs.CheckedIndices.{index-null, index-valid}
use Rattle.runend_select.proofs.takes.checked_row.Goals as goal

pub returns-then-not-is_valid : goal.returns-then-not-is_valid
returns-then-not-is_valid g c =
    (None, index-null g.T.NativePType.number c.args.indices.now (form_of c.args.validity.now) c.args.place c.requires.fits c.requires.there (sym c.is_valid.ensures ∙ c.if-not-is_valid.true), refl, refl)

pub returns-in-Ok : goal.returns-in-Ok
returns-in-Ok g c =
    let number = g.T.NativePType.number in
    let item = c.index-indices-place.result in
    let fits : FitsSigned w128 c.widen.result = search rules in (
      Some (number item),
      index-valid number c.args.indices.now (form_of c.args.validity.now) c.args.place item c.requires.fits c.requires.there (sym c.is_valid.ensures ∙ c.if-not-is_valid.false) c.index-indices-place.is,
      rw (to_z-of_z w128 c.widen.result fits, c.widen.ensures) at c.in-Ok.ensures.refused,
      ap Some (sym (rw (to_z-of_z w128 c.widen.result fits, c.widen.ensures) at c.in-Ok.ensures.same)),
    )

pub returns-in-Err : goal.returns-in-Err
returns-in-Err g c =
    let number = g.T.NativePType.number in
    let item = c.index-indices-place.result in
    let fits : FitsSigned w128 c.widen.result = search rules in
    let told = ⊎_elim (λ memory. absurd (c.in-Err.ensures.no_memory (ap Err memory))) (λ found. found) c.in-Err.ensures.refused in (
      Some (number item),
      index-valid number c.args.indices.now (form_of c.args.validity.now) c.args.place item c.requires.fits c.requires.there (sym c.is_valid.ensures ∙ c.if-not-is_valid.false) c.index-indices-place.is,
      rw (to_z-of_z w128 c.widen.result fits, c.widen.ensures) at told,
      tt,
    )
