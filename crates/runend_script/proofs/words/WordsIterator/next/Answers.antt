use Rattle.std.proofs.Common.{lit<, Some, None, sym, ◌∙◌, ap, length, rules}
use Rattle.std.proofs.lemmas.Str.Pattern.{split_once_first}
use Rattle.runend_script.proofs.WordSplits.{word_at_space, word_at_end}
use Rattle.runend_script.proofs.words.WordsIterator.next.Goals as goal

pub returns-then-not-is_empty-clause-steps : goal.returns-then-not-is_empty-clause-steps
returns-then-not-is_empty-clause-steps c =
    let cut = split_once_first 32 c.loop-word.self.rest.now (Some (c.in-Some.word, c.in-Some.rest)) c.in-Some.ensures.cases (lit< tt) in
    sym c.loop-word.invariant ∙ word_at_space _ _ _ cut.0 cut.1 cut.2 (sym c.is_empty.ensures ∙ c.if-not-is_empty.true)

pub returns-then-not-is_empty-clause-goes : goal.returns-then-not-is_empty-clause-goes
returns-then-not-is_empty-clause-goes c =
    let fewer = ap length (returns-then-not-is_empty-clause-steps c) in
    search rules

pub returns-else-is_empty-clause-steps : goal.returns-else-is_empty-clause-steps
returns-else-is_empty-clause-steps c =
    let none = split_once_first 32 c.loop-word.self.rest.now None c.in_default.ensures.cases (lit< tt) in
    sym c.loop-word.invariant ∙ word_at_end _ none (sym c.is_empty-2.ensures ∙ c.if-is_empty.false)

pub returns-else-is_empty-clause-goes : goal.returns-else-is_empty-clause-goes
returns-else-is_empty-clause-goes c =
    let fewer = ap length (returns-else-is_empty-clause-steps c) in
    search rules
