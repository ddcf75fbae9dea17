use Rattle.std.proofs.Common.{◌≡◌, ap, None, Some}
use Rattle.std.specs.Prelude.{option_map}
use Rattle.runend_pairs.specs.GroupAnswers.{is_at_most}
use Rattle.runend_pairs.proofs.Bounds.{least-next, IsBound-nulls}
use Rattle.runend_pairs.proofs.extremes.LeastFold.add.Goals as goal

pub returns-in-Some : goal.returns-in-Some
returns-in-Some g c = λ before some short kept.
    let number = g.T.NativePType.number in
    let shown : option_map number c.args.value ≡ Some (number c.in-Some.number) = ap (option_map number) c.in-Some.is in
    rw shown (least-next number g.T.Ord.cmp g.met.T.NativePType.law.ordered before c.args.rows some c.args.self.now.found c.in-Some.number c.lesser.result c.lesser.ensures kept)

pub returns-in_default : goal.returns-in_default
returns-in_default g c = λ before some short kept.
    let number = g.T.NativePType.number in
    let shown : option_map number c.args.value ≡ None = ap (option_map number) c.in_default.is in
    rw shown (IsBound-nulls is_at_most before (option_map number c.args.self.now.found) c.args.rows kept)
