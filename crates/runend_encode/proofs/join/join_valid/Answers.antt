use Rattle.std.proofs.Common.{◌≡◌, ◌∙◌, Bool, length, map, refl, sym, true, arith}
use Rattle.std.proofs.lemmas.List.{length-map, length-replicate}
use Rattle.std.proofs.lemmas.List.Elements.{All-replicate}
use Rattle.runend_windows.proofs.ValidRuns.{optionals-all_valid, AreZeroAtNulls-valid}
use Rattle.runend_encode.proofs.join.join_valid.Goals as goal

pub returns-clause-cover : goal.returns-clause-cover
returns-clause-cover g c =
    let number = g.T.NativePType.number in
    let items = c.args.items.now in
    let values = c.in_ok-ends.values.items in
    let stored = length-map values number in
    let count : c.len.result ≡ length (map number values) = omega arith in
    rw (c.in_ok-flags.ensures.bits, optionals-all_valid (map number items) (length items) (sym (length-map items number)), optionals-all_valid (map number values) c.len.result count)
    c.in_ok-ends.ensures.cover

pub returns-clause-zeroed : goal.returns-clause-zeroed
returns-clause-zeroed g c = rw c.in_ok-flags.ensures.bits (AreZeroAtNulls-valid (map g.T.NativePType.number c.in_ok-ends.values.items) c.len.result)

pub returns-clause-paired : goal.returns-clause-paired
returns-clause-paired g c =
    let count : c.len.result ≡ length c.in_ok-ends.values.items = omega arith in
    rw c.in_ok-flags.ensures.bits (length-replicate c.len.result true ∙ count)

pub returns-clause-valid : goal.returns-clause-valid
returns-clause-valid g c = rw c.in_ok-flags.ensures.bits (All-replicate (λ (flag : Bool). flag ≡ true) c.len.result true refl)
