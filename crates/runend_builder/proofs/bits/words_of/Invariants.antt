use Rattle.std.specs.Prelude.{◌≡◌}
use Rattle.runend_builder.proofs.Packed.{ArePacked}
use Rattle.runend_builder.proofs.bits.words_of.Given as goal

abbrev pub invariant-loop-chunk : goal.invariant-loop-chunk
invariant-loop-chunk g l = (l.chunk-iterator.size ≡ 64) × ArePacked l.fn.bits l.chunk-iterator.rest.now l.words.items
