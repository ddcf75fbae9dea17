use Rattle.std.proofs.Common.{sym, subst, take, List, Option, ℤ}
use Rattle.column_core.specs.PrimitiveForm.{optional_numbers}
use Rattle.column_floats.specs.Extremes.{AreEnds}
use Rattle.column_floats.specs.Formats.{format_of_width}
use Rattle.column_floats.proofs.KeyExtremes.{take_more}
use Rattle.column_floats.proofs.extremes.extremes_of.Goals as goal

pub loop-row-preserved : goal.loop-row-preserved
loop-row-preserved g c =
    let keys = optional_numbers c.args.keys.now in
    let row = c.loop-row.row in
    record {
      ends = subst (λ (ks : List (Option ℤ)). AreEnds (g.T.KeyTest.passes c.args.test.now) ks c.with_row-found.result) (sym (take_more keys row c.key_at.result c.key_at.ensures.key))
          (c.with_row-found.ensures.ends (take row keys) c.loop-row.invariant.ends);
      fits = c.with_row-found.ensures.fits (format_of_width c.args.keys.now.ptype) c.loop-row.invariant.fits c.key_at.ensures.fits;
    }
