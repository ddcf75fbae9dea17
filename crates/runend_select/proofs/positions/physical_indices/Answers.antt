use Rattle.std.proofs.Common.{◌∙◌, ap, length, subst}
use Rattle.column_base.specs.Mask.{mask_bits}
use Rattle.runend_array.specs.SessionForm.{SessionForm}
use Rattle.runend_select.specs.declared.strategy.TakeThresholds.{TakeThresholds}
use Rattle.runend_select.specs.Indices.{optional_indices}
use Rattle.runend_select.specs.Pick.{IsPicked}
use Rattle.runend_select.specs.SessionPicks.{picks_of}
use Rattle.runend_select.proofs.positions.physical_indices.Goals as goal

pub returns-clause-picked : goal.returns-clause-picked
returns-clause-picked g c =
    let places = optional_indices g.T.NativePType.number c.args.indices.now (mask_bits c.args.mask.now) in
    let same = c.take_thresholds-picks.ensures ∙ ap picks_of (c.thresholds.ensures ∙ ap (λ (s : SessionForm). s.thresholds) c.session.ensures) in
    let told = c.physical_indices.ensures.picked in
    (told.0, subst (λ (t : TakeThresholds). IsPicked places (length c.args.ends.now.ends) c.args.length t told.0) same told.1, told.2, told.3)
