use Rattle.std.proofs.Common.{◌∙◌, sym, ap, length, arith}
use Rattle.column_base.proofs.WordPlaces.{left_next, left_skip, left_end}
use Rattle.column_base.proofs.bits.set_indices.SetIndicesIterator.next.Goals as goal

pub returns-then-index-self-clause-steps : goal.returns-then-index-self-clause-steps
returns-then-index-self-clause-steps c =
    let none = left_end c.loop-self.self-inside.words.now c.loop-self.self-inside.current c.loop-self.self-inside.index c.loop-self-test.true c.if-index-self.true in
    (sym c.self.view_is ∙ sym c.loop-self.invariant.same_left ∙ none, none)

pub loop-self-preserved : goal.loop-self-preserved
loop-self-preserved c = record {
  same_words = c.loop-self.invariant.same_words;
  same_left = left_skip c.loop-self.self-inside.words.now c.loop-self.self-inside.current c.loop-self.self-inside.index c.loop-self-test.true c.if-index-self.false ∙ c.loop-self.invariant.same_left;
  small = omega (arith, c.loop-self.invariant.few);
  few = c.loop-self.invariant.few;
}

pub returns-clause-steps : goal.returns-clause-steps
returns-clause-steps c =
    sym c.self.view_is ∙ sym c.loop-self.invariant.same_left ∙ left_next c.loop-self.self-inside.words.now c.loop-self.self-inside.current c.loop-self.self-inside.index c.loop-self-test.false (omega arith)

-- an item less is left
pub returns-clause-goes : goal.returns-clause-goes
returns-clause-goes c = record { on = λ _. (tt, tt, omega (arith, ap length (returns-clause-steps c))); keeps = tt; rests = λ _. tt }
