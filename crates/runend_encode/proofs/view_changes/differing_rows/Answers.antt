use Rattle.std.proofs.Common.{length, arith}
use Rattle.std.specs.Int.{trailing_zeros, w64}
use Rattle.std.proofs.lemmas.Nat.Bits.{bit_at-trailing_zeros}
use Rattle.column_core.specs.Leaf.{single_rows, OfVarBins}
use Rattle.column_core.specs.VarBinForm.{varbin_rows}
use Rattle.runend_encode.proofs.DifferingRows.{left_next}
use Rattle.runend_encode.proofs.view_changes.differing_rows.Goals as goal

pub without-rest-requires : goal.without-rest-requires
without-rest-requires g c = (bit_at-trailing_zeros w64 c.loop-rest.rest (omega (arith, c.loop-rest-test.true)) c.loop-rest.invariant.fits).0

pub without_if-word-requires : goal.without_if-word-requires
without_if-word-requires g c = (bit_at-trailing_zeros w64 c.loop-rest.rest (omega (arith, c.loop-rest-test.true)) c.loop-rest.invariant.fits).0

pub loop-rest-smaller : goal.loop-rest-smaller
loop-rest-smaller g c = c.without-rest.ensures.less (bit_at-trailing_zeros w64 c.loop-rest.rest (omega (arith, c.loop-rest-test.true)) c.loop-rest.invariant.fits).1

pub loop-rest-preserved : goal.loop-rest-preserved
loop-rest-preserved g c =
    let lowest = bit_at-trailing_zeros w64 c.loop-rest.rest (omega (arith, c.loop-rest-test.true)) c.loop-rest.invariant.fits in
    record {
      left = left_next (single_rows (OfVarBins c.args.column.now)) c.args.start (length (varbin_rows c.args.column.now)) c.loop-rest.rest c.loop-rest.word
          c.without-rest.result c.without_if-word.result (trailing_zeros w64 c.loop-rest.rest) c.goes_on_at.result lowest.0 lowest.1 c.without-rest.ensures.here c.without-rest.ensures.others
          c.goes_on_at.ensures c.without_if-word.ensures.cleared c.without_if-word.ensures.kept c.without_if-word.ensures.others c.loop-rest.invariant.left;
      fits = c.without-rest.type_inv;
    }
