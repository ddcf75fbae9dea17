use Rattle.std.proofs.Common.{◌∙◌, Some, length, sym, ap}
use Rattle.column_base.proofs.ValidityRows.{flags-at}
use Rattle.column_base.specs.ValidityForm.{ValidityForm, flag_at, flags}
use Rattle.runend_builder.proofs.Cuts.{nothing_there}
use Rattle.runend_builder.proofs.texts.text_at.Goals as goal

pub returns-else-is_valid-clause-text : goal.returns-else-is_valid-clause-text
returns-else-is_valid-clause-text g c =
    let part = c.args.part.now in
    sym (nothing_there part.buffers part.views (flags part.validity (length part.views)) c.args.row c.requires.within c.requires.blank
    (flags-at part.validity (length part.views) c.args.row c.validity.ensures.counted c.requires.within ∙ ap Some (sym (ap (λ (f : ValidityForm). flag_at f c.args.row) c.validity.ensures.form) ∙ sym c.is_valid.ensures ∙ c.if-is_valid.false)))
