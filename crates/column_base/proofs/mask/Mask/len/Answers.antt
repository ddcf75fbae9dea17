use Rattle.std.proofs.Common.{length, true, false, sym, ap, ◌∙◌}
use Rattle.std.proofs.lemmas.List.{length-replicate}
use Rattle.column_base.specs.Mask.{mask_bits}
use Rattle.column_base.proofs.mask.Mask.len.Goals as goal

pub returns-in-AllTrue : goal.returns-in-AllTrue
returns-in-AllTrue g c = sym (length-replicate c.in-AllTrue.count true) ∙ ap (λ own. length (mask_bits own)) (sym c.in-AllTrue.is)

pub returns-in-AllFalse : goal.returns-in-AllFalse
returns-in-AllFalse g c = sym (length-replicate c.in-AllFalse.count false) ∙ ap (λ own. length (mask_bits own)) (sym c.in-AllFalse.is)

pub returns-in-Values : goal.returns-in-Values
returns-in-Values g c = c.len.ensures ∙ ap (λ own. length (mask_bits own)) (sym c.in-Values.is)
