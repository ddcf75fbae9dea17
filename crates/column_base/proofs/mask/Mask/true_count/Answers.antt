use Rattle.std.proofs.Common.{◌≡◌, Bool, true, false, refl, sym, ap, ◌∙◌}
use Rattle.std.specs.Prelude.{count_by, replicate}
use Rattle.std.proofs.lemmas.List.{length-replicate}
use Rattle.std.proofs.lemmas.List.Elements.{All-replicate}
use Rattle.column_base.specs.Mask.{mask_bits}
use Rattle.column_base.proofs.BitLists.{count_by-all_true, count_by-all_false}
use Rattle.column_base.proofs.mask.Mask.true_count.Goals as goal

pub returns-in-AllTrue : goal.returns-in-AllTrue
returns-in-AllTrue g c =
    let n = c.in-AllTrue.count in
    let counted = count_by-all_true (replicate n true) (All-replicate (λ (bit : Bool). bit ≡ true) n true refl) ∙ length-replicate n true in
    sym counted ∙ ap (λ own. count_by (λ bit. bit) (mask_bits own)) (sym c.in-AllTrue.is)

pub returns-in-AllFalse : goal.returns-in-AllFalse
returns-in-AllFalse g c =
    let n = c.in-AllFalse.field-0 in
    let counted = count_by-all_false (replicate n false) (All-replicate (λ (bit : Bool). bit ≡ false) n false refl) in
    sym counted ∙ ap (λ own. count_by (λ bit. bit) (mask_bits own)) (sym c.in-AllFalse.is)

pub returns-in-Values : goal.returns-in-Values
returns-in-Values g c = c.true_count.ensures ∙ ap (λ own. count_by (λ bit. bit) (mask_bits own)) (sym c.in-Values.is)
