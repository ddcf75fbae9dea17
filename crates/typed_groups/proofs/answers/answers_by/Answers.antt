use Rattle.std.proofs.Common.{◌≡◌, ◌∙◌, ap, Some, subst, sym}
use Rattle.std.specs.Prelude.{IfOk}
use Rattle.std.proofs.lemmas.Result.{IfErr-weaker, IfOk-weaker}
use Rattle.runend_array.specs.Array.{dtype_of, rows}
use Rattle.typed_columns.specs.Typed.{typed_of}
use Rattle.typed_groups.specs.declared.answering.Answering.{Answering}
use Rattle.typed_groups.specs.declared.answering.Answering.TheVariants.{Rows, Numbers, Each}
use Rattle.typed_groups.specs.Answers.{AreAnswersBy, answer_dtype}
use Rattle.typed_groups.proofs.EachAnswered.{none_without}
use Rattle.typed_groups.proofs.Refusals.{none_large_group, refused_answer, refused_each, refused_fold, refused_short}
use Rattle.typed_groups.proofs.answers.answers_by.Goals as goal

pub returns-in-Rows-clause-answers : goal.returns-in-Rows-clause-answers
returns-in-Rows-clause-answers g c =
    subst (λ (by : Answering). IfOk c.counted_rows.result (λ made. AreAnswersBy by c.args.fold c.args.ends.now (rows c.args.column.now.array) (rows made))) (sym c.in-Rows.is) c.counted_rows.ensures.answers

pub returns-in-Rows-clause-dtype : goal.returns-in-Rows-clause-dtype
returns-in-Rows-clause-dtype g c =
    subst (λ (by : Answering). IfOk c.counted_rows.result (λ made. dtype_of made ≡ answer_dtype by c.args.fold (dtype_of c.args.column.now.array))) (sym c.in-Rows.is) c.counted_rows.ensures.dtype

pub returns-in-Rows-clause-fits : goal.returns-in-Rows-clause-fits
returns-in-Rows-clause-fits g c =
    IfOk-weaker c.counted_rows.result _ _ (λ made counted. none_large_group Rows c.args.fold c.args.ends.now (typed_of c.args.column.now) (c.requires.answering ∙ ap (λ (by : Answering). Some by) c.in-Rows.is) (λ group large. large)) c.counted_rows.ensures.counted

pub returns-in-Rows-clause-refused : goal.returns-in-Rows-clause-refused
returns-in-Rows-clause-refused g c =
    IfErr-weaker c.counted_rows.result _ _ (λ error refused. refused_answer Rows c.args.fold c.args.ends.now (typed_of c.args.column.now) error (c.requires.answering ∙ ap (λ (by : Answering). Some by) c.in-Rows.is) (refused_short Rows c.args.fold (dtype_of c.args.column.now.array) c.args.ends.now (rows c.args.column.now.array) error refused)) c.counted_rows.ensures.only

pub returns-in-Numbers-clause-answers : goal.returns-in-Numbers-clause-answers
returns-in-Numbers-clause-answers g c =
    subst (λ (by : Answering). IfOk c.folded_numbers.result (λ made. AreAnswersBy by c.args.fold c.args.ends.now (rows c.args.column.now.array) (rows made))) (sym c.in-Numbers.is) c.folded_numbers.ensures.answers

pub returns-in-Numbers-clause-dtype : goal.returns-in-Numbers-clause-dtype
returns-in-Numbers-clause-dtype g c =
    subst (λ (by : Answering). IfOk c.folded_numbers.result (λ made. dtype_of made ≡ answer_dtype by c.args.fold (dtype_of c.args.column.now.array))) (sym c.in-Numbers.is) c.folded_numbers.ensures.dtype

pub returns-in-Numbers-clause-fits : goal.returns-in-Numbers-clause-fits
returns-in-Numbers-clause-fits g c =
    IfOk-weaker c.folded_numbers.result _ _ (λ made fits. none_large_group Numbers c.args.fold c.args.ends.now (typed_of c.args.column.now) (c.requires.answering ∙ ap (λ (by : Answering). Some by) c.in-Numbers.is) fits) c.folded_numbers.ensures.fits

pub returns-in-Numbers-clause-refused : goal.returns-in-Numbers-clause-refused
returns-in-Numbers-clause-refused g c =
    IfErr-weaker c.folded_numbers.result _ _ (λ error refused. refused_answer Numbers c.args.fold c.args.ends.now (typed_of c.args.column.now) error (c.requires.answering ∙ ap (λ (by : Answering). Some by) c.in-Numbers.is) (refused_fold c.args.fold (dtype_of c.args.column.now.array) c.args.ends.now (rows c.args.column.now.array) error refused)) c.folded_numbers.ensures.refused

pub returns-in-Each-clause-answers : goal.returns-in-Each-clause-answers
returns-in-Each-clause-answers g c =
    subst (λ (by : Answering). IfOk c.answers_of_each.result (λ made. AreAnswersBy by c.args.fold c.args.ends.now (rows c.args.column.now.array) (rows made))) (sym c.in-Each.is) c.answers_of_each.ensures.answers

pub returns-in-Each-clause-dtype : goal.returns-in-Each-clause-dtype
returns-in-Each-clause-dtype g c =
    subst (λ (by : Answering). IfOk c.answers_of_each.result (λ made. dtype_of made ≡ answer_dtype by c.args.fold (dtype_of c.args.column.now.array))) (sym c.in-Each.is) c.answers_of_each.ensures.dtype

pub returns-in-Each-clause-fits : goal.returns-in-Each-clause-fits
returns-in-Each-clause-fits g c =
    IfOk-weaker c.answers_of_each.result _ _ (λ made answers. none_large_group (Each c.in-Each.question) c.args.fold c.args.ends.now (typed_of c.args.column.now) (c.requires.answering ∙ ap (λ (by : Answering). Some by) c.in-Each.is) (none_without c.in-Each.question c.args.ends.now (rows c.args.column.now.array) (rows made) answers)) c.answers_of_each.ensures.answers

pub returns-in-Each-clause-refused : goal.returns-in-Each-clause-refused
returns-in-Each-clause-refused g c =
    IfErr-weaker c.answers_of_each.result _ _ (λ error refused. refused_answer (Each c.in-Each.question) c.args.fold c.args.ends.now (typed_of c.args.column.now) error (c.requires.answering ∙ ap (λ (by : Answering). Some by) c.in-Each.is) (refused_each c.in-Each.question c.args.fold (dtype_of c.args.column.now.array) c.args.ends.now (rows c.args.column.now.array) error refused)) c.answers_of_each.ensures.refused

pub returns-in-Each-clause-counted : goal.returns-in-Each-clause-counted
returns-in-Each-clause-counted g c = IfOk-weaker c.answers_of_each.result _ _ (λ made answers. answers.counted) c.answers_of_each.ensures.answers
