use Rattle.std.proofs.Common.{◌≡◌, ◌-◌, ◌≤◌, pos, length, map, min, refl, ◌∙◌, sym, ap, arith}
use Rattle.std.specs.Prelude.{slice_index, unsigned_abs}
use Rattle.std.proofs.lemmas.Option.{slice_get_read}
use Rattle.std.proofs.lemmas.Grind.{common_steps}
use Rattle.runend_windows.proofs.StoredNumbers.{slice_index-naturals}
use Rattle.runend_encode.proofs.Fitting.{fits_below}
use Rattle.runend_encode.proofs.joined.end_in_window.Goals as goal

pub end_of-requires : goal.end_of-requires
end_of-requires g c =
    let ends = c.args.ends.now in
    let number = g.E.NativePType.number in
    let end = slice_get_read ends (length ends) c.args.run c.index-ends-run.result refl c.requires.within c.index-ends-run.is in
    let stored : slice_index (map unsigned_abs (map number ends)) c.args.run ≡ c.to_u64.result =
    slice_index-naturals number g.E.UnsignedPType.natural g.met.E.UnsignedPType.natural_law ends c.args.run c.index-ends-run.result end ∙ sym c.to_u64.ensures in
    let below : c.min.result ≤ slice_index (map unsigned_abs (map number ends)) c.args.run = grind (arith, common_steps) in
    fits_below number g.E.NativePType.PTYPE ends c.args.run c.min.result g.met.E.UnsignedPType.unsigned_law c.requires.fits c.requires.within below

pub returns : goal.returns
returns g c =
    let ends = c.args.ends.now in
    let number = g.E.NativePType.number in
    let end = slice_get_read ends (length ends) c.args.run c.index-ends-run.result refl c.requires.within c.index-ends-run.is in
    let stored : slice_index (map unsigned_abs (map number ends)) c.args.run ≡ c.to_u64.result =
    slice_index-naturals number g.E.UnsignedPType.natural g.met.E.UnsignedPType.natural_law ends c.args.run c.index-ends-run.result end ∙ sym c.to_u64.ensures in
    let reach : c.min.result ≡ min (slice_index (map unsigned_abs (map number ends)) c.args.run - c.args.offset) c.args.count = grind (arith, common_steps) in
    c.end_of.ensures ∙ ap pos reach
