use Rattle.std.proofs.Common.{◌≡◌, ◌∙◌, ℤ, List, Some, FitsSigned, slice_get, ap, sym, subst, rules}
use Rattle.std.specs.Prelude.{unsigned_abs}
use Rattle.std.specs.Int.{w128}
use Rattle.std.proofs.lemmas.Int.{to_z-of_z}
use Rattle.column_bytes.proofs.Ends.{first_number}
use Rattle.column_bytes.proofs.runs.first_end.Goals as goal

pub returns : goal.returns
returns g c =
    let fits : FitsSigned w128 c.get.result = search rules in
    c.unsigned_abs.ensures.value ∙ ap unsigned_abs (to_z-of_z w128 c.get.result fits)
    ∙ sym (first_number c.args.ends.now.numbers c.get.result c.requires (subst (λ (ns : List ℤ). slice_get ns 0 ≡ Some c.get.result) c.values.ensures.shows c.get.ensures))
