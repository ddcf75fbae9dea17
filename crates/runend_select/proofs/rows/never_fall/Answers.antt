use Rattle.std.proofs.Common.{refl, arith}
use Rattle.std.proofs.lemmas.Bool.{false≢true}
use Rattle.column_base.specs.Mask.{mask_bits}
use Rattle.runend_select.specs.Indices.{optional_indices}
use Rattle.runend_select.proofs.Places.{length-optional_indices}
use Rattle.runend_select.proofs.Sorted.{AreSorted-all, AreSorted-not}
use Rattle.runend_select.proofs.rows.never_fall.Goals as goal

pub returns-then-row-last : goal.returns-then-row-last
returns-then-row-last g c =
    let indices = optional_indices g.T.NativePType.number c.args.indices.now (mask_bits c.args.mask.now) in
    (λ h. absurd (false≢true h), λ sorted. absurd (AreSorted-not indices c.loop-place.place c.loop-place.last c.in-Some.row c.in-Some.ensures c.if-row-last.true c.loop-place.invariant sorted))

pub returns : goal.returns
returns g c =
    let indices = optional_indices g.T.NativePType.number c.args.indices.now (mask_bits c.args.mask.now) in
    let counted = length-optional_indices g.T.NativePType.number c.args.indices.now (mask_bits c.args.mask.now) c.requires.masked in
    (λ h. AreSorted-all indices c.loop-place.place c.loop-place.last (omega arith) c.loop-place.invariant, λ sorted. refl)
