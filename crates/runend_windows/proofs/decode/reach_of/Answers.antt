use Rattle.std.proofs.Common.{◌≡◌, length, map, refl, ◌∙◌, sym, arith}
use Rattle.std.specs.Prelude.{slice_index, unsigned_abs}
use Rattle.std.proofs.lemmas.Option.{slice_get_read}
use Rattle.std.proofs.lemmas.Grind.{common_steps}
use Rattle.runend_windows.proofs.StoredNumbers.{slice_index-naturals}
use Rattle.runend_windows.proofs.decode.reach_of.Goals as goal

pub returns : goal.returns
returns g c =
    let ends = c.args.ends.now in
    let number = g.E.NativePType.number in
    let end = slice_get_read ends (length ends) c.args.run c.index-ends-run.result refl c.requires c.index-ends-run.is in
    let stored : slice_index (map unsigned_abs (map number ends)) c.args.run ≡ c.to_u64.result =
    slice_index-naturals number g.E.UnsignedPType.natural g.met.E.UnsignedPType.natural_law ends c.args.run c.index-ends-run.result end ∙ sym c.to_u64.ensures in
    grind (arith, common_steps)
