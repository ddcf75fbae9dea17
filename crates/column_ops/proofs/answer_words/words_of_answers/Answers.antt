use Rattle.std.proofs.Common.{◌≡◌, length, map, sym, subst}
use Rattle.std.specs.Prelude.{IfOk}
use Rattle.column_base.specs.Words.{first_bits}
use Rattle.column_ops.specs.Comparing.{holds_of}
use Rattle.column_ops.specs.declared.operator.CompareOperator.{CompareOperator}
use Rattle.column_ops.proofs.answer_words.words_of_answers.Goals as goal

pub returns-in-Eq-clause-bits : goal.returns-in-Eq-clause-bits
returns-in-Eq-clause-bits g c = subst (λ (operator : CompareOperator). IfOk c.words_by.result (λ words. first_bits (length c.args.items.now) words.items ≡ map (λ item. holds_of operator (g.T.Ord.cmp item c.args.right)) c.args.items.now))
    (sym c.in-Eq.is) c.words_by.ensures.bits

pub returns-in-NotEq-clause-bits : goal.returns-in-NotEq-clause-bits
returns-in-NotEq-clause-bits g c = subst (λ (operator : CompareOperator). IfOk c.words_by-in-NotEq.result (λ words. first_bits (length c.args.items.now) words.items ≡ map (λ item. holds_of operator (g.T.Ord.cmp item c.args.right)) c.args.items.now))
    (sym c.in-NotEq.is) c.words_by-in-NotEq.ensures.bits

pub returns-in-Gt-clause-bits : goal.returns-in-Gt-clause-bits
returns-in-Gt-clause-bits g c = subst (λ (operator : CompareOperator). IfOk c.words_by-in-Gt.result (λ words. first_bits (length c.args.items.now) words.items ≡ map (λ item. holds_of operator (g.T.Ord.cmp item c.args.right)) c.args.items.now))
    (sym c.in-Gt.is) c.words_by-in-Gt.ensures.bits

pub returns-in-Gte-clause-bits : goal.returns-in-Gte-clause-bits
returns-in-Gte-clause-bits g c = subst (λ (operator : CompareOperator). IfOk c.words_by-in-Gte.result (λ words. first_bits (length c.args.items.now) words.items ≡ map (λ item. holds_of operator (g.T.Ord.cmp item c.args.right)) c.args.items.now))
    (sym c.in-Gte.is) c.words_by-in-Gte.ensures.bits

pub returns-in-Lt-clause-bits : goal.returns-in-Lt-clause-bits
returns-in-Lt-clause-bits g c = subst (λ (operator : CompareOperator). IfOk c.words_by-in-Lt.result (λ words. first_bits (length c.args.items.now) words.items ≡ map (λ item. holds_of operator (g.T.Ord.cmp item c.args.right)) c.args.items.now))
    (sym c.in-Lt.is) c.words_by-in-Lt.ensures.bits

pub returns-in-Lte-clause-bits : goal.returns-in-Lte-clause-bits
returns-in-Lte-clause-bits g c = subst (λ (operator : CompareOperator). IfOk c.words_by-in-Lte.result (λ words. first_bits (length c.args.items.now) words.items ≡ map (λ item. holds_of operator (g.T.Ord.cmp item c.args.right)) c.args.items.now))
    (sym c.in-Lte.is) c.words_by-in-Lte.ensures.bits
