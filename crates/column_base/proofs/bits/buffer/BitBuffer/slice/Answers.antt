use Rattle.std.proofs.Common.{◌∙◌, sym, inl, inr}
use Rattle.std.proofs.lemmas.Bool.{eqb-true}
use Rattle.column_base.proofs.WordDigits.{opened}
use Rattle.column_base.proofs.bits.buffer.BitBuffer.slice.Goals as goal
use Rattle.column_base.proofs.bits.buffer.BitBuffer.slice.Goals.{then-range-eq0, else-range-eq0}

pub whole_words-requires-clause-last_of_word : goal.whole_words-requires-clause-last_of_word
whole_words-requires-clause-last_of_word g c =
    let len = (opened c.self.view_is c.self.invariant).len in
    elim c.if-range-eq0.branch [
      | then-range-eq0 w ↦ inl w.if-range-eq0.true
      | else-range-eq0 w ↦ inr (eqb-true c.args.range.end c.self.inside.count (sym w.ends_whole-is ∙ c.if-ends_whole.true) ∙ sym len)
    ]
