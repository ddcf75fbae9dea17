use Rattle.std.proofs.Common.{◌+◌, length, map, sym, arith}
use Rattle.std.proofs.lemmas.List.{length-map}
use Rattle.column_base.specs.Validity.{form_of}
use Rattle.runend_encode.proofs.RunReads.{AllAdjacentBelow-further}
use Rattle.runend_encode.proofs.joined.differ_in.Goals as goal

-- no stored number is that of the run before it
pub loop-start-preserved : goal.loop-start-preserved
loop-start-preserved g c =
    let number = g.T.NativePType.number in
    let items = c.args.items.now in
    let start = c.loop-start.start in
    record {
      later = omega (arith, c.loop-start.invariant.later);
      differ = AllAdjacentBelow-further (map number items) (form_of c.args.validity.now) (length items) start (start + c.min.result) (sym (length-map items number))
          c.requires.counted c.requires.zeroed (omega arith) (c.has_equal.ensures c.if-has_equal.false) c.loop-start.invariant.differ;
    }
