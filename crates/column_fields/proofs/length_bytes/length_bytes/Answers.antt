use Rattle.std.proofs.Common.{◌≡◌, ◌∙◌, ◌-◌, ℕ, min, length, refl, arith}
use Rattle.std.proofs.lemmas.List.{length-replicate, length-set}
use Rattle.column_fields.proofs.BlockLaws.{cut_done, cut_more}
use Rattle.column_fields.proofs.length_bytes.length_bytes.Goals as goal

pub loop-run-init : goal.loop-run-init
loop-run-init g c = record { long = length-replicate {A = ℕ} 64 0; shows = refl }

pub loop-run-preserved : goal.loop-run-preserved
loop-run-preserved g c =
    let natural = g.E.UnsignedPType.natural in
    let run : ℕ = c.loop-run.run in
    let bytes = c.loop-run.bytes in
    let long : length bytes ≡ 64 = c.loop-run.invariant.long in
    let value : c.min.result ≡ min (natural c.index-ends-run.result - natural c.loop-run.begin) 255 = omega (arith, c.min.ensures, c.end.ensures.value, c.length.ensures.rows) in
    record {
      long = length-set bytes run c.min.result ∙ long;
      shows = cut_more natural c.args.ends.now run (natural c.loop-run.begin) c.index-ends-run.result bytes c.min.result _ (omega (arith, c.requires)) c.index-ends-run.is (omega (arith, long)) value c.loop-run.invariant.shows;
    }

pub returns : goal.returns
returns g c = cut_done g.E.UnsignedPType.natural c.args.ends.now c.loop-run.run (g.E.UnsignedPType.natural c.loop-run.begin) c.loop-run.bytes _ (omega (arith, c.requires)) (omega (arith, c.loop-run.invariant.long)) c.loop-run.invariant.shows
