use Rattle.std.proofs.Common.{◌≡◌, ◌≢◌, ◌∙◌, ◌/◌, arith, ⊎_elim}
use Rattle.std.proofs.lemmas.Bool.{cases_eq}
use Rattle.column_ops.proofs.item_ends.bytes_of_bits.Goals as goal

pub loop-eight-preserved : goal.loop-eight-preserved
loop-eight-preserved c = record {
  bits = λ k below. ⊎_elim
      (λ (own : k / 8 ≡ c.loop-eight.eight). c.put_eight.ensures.own k own)
      (λ (other : k / 8 ≢ c.loop-eight.eight). c.put_eight.ensures.others k other ∙ c.loop-eight.invariant.bits k (omega arith))
      (cases_eq (k / 8) c.loop-eight.eight);
}
