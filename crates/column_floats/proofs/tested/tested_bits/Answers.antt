use Rattle.column_core.specs.PrimitiveForm.{optional_numbers}
use Rattle.column_ops.specs.Comparing.{is_held}
use Rattle.column_floats.proofs.KeyExtremes.{mapped_more}
use Rattle.column_floats.proofs.tested.tested_bits.Goals as goal

pub loop-row-preserved : goal.loop-row-preserved
loop-row-preserved g c =
    mapped_more (is_held (g.T.KeyTest.passes c.args.test.now)) (optional_numbers c.args.keys.now) c.loop-row.row c.key_at.result c.passes.result c.loop-row.bits c.append.new.self c.key_at.ensures.key c.loop-row.invariant
    c.passes.ensures c.in_ok-append.ensures.ok
