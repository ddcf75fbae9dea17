use Rattle.std.proofs.Common.{◌≡◌, ◌∙◌, Bool, length, replicate, true, sym, ap, subst, arith}
use Rattle.std.proofs.lemmas.Bool.{ltb-false}
use Rattle.std.proofs.lemmas.List.Sums.{count_by-le-length}
use Rattle.column_base.specs.ValidityForm.{ValidityForm, HasLength}
use Rattle.column_base.specs.Validity.{form_of, validity_flags}
use Rattle.column_base.proofs.BitLists.{all_set}
use Rattle.column_ops.proofs.computed_validity.has_null.Goals as goal

pub returns-in-Bits-clause-valid : goal.returns-in-Bits-clause-valid
returns-in-Bits-clause-valid g c = λ full.
    let bits = c.in-Bits.bits in
    let long : length bits ≡ c.args.count = subst (λ (form : ValidityForm). HasLength form c.args.count) (ap form_of c.in-Bits.is) c.requires in
    let most = ltb-false c.true_count.result c.args.count full in
    let all = all_set bits (omega (arith, c.true_count.ensures, count_by-le-length (λ (b : Bool). b) bits)) in
    ap (λ own. validity_flags own c.args.count) c.in-Bits.is ∙ sym all ∙ ap (λ n. replicate n true) long
