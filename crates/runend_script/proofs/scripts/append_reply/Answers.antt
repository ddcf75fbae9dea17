use Rattle.std.proofs.Common.{◌≡◌, ◌∙◌, None, refl, sym, subst}
use Rattle.std.proofs.lemmas.Iterator.Consumers.{YieldsList-from_first}
use Rattle.column_base.specs.declared.dtype.DType.TheVariants as column
use Rattle.runend_array.specs.Array.{dtype_of, rows}
use Rattle.runend_script.specs.Words.{words_of}
use Rattle.runend_script.specs.Lengthened.{IsAppended, IsLengthened, ListsRows}
use Rattle.runend_script.proofs.RowsBehind.{appended_done, appended_refused, passed_on}
use Rattle.runend_script.proofs.scripts.append_reply.Goals as goal

pub returns-in_default-2-clause-appended : goal.returns-in_default-2-clause-appended
returns-in_default-2-clause-appended g c =
    let words = words_of c.args.words.rest.now in
    let typed : dtype_of c.args.column.now ≡ column.Primitive c.in-Primitive.ptype c.in-Primitive.nullability = sym c.dtype.ensures ∙ c.in-Primitive.is in
    let listed = c.in_ok-batch.ensures.rows words (YieldsList-from_first (λ word. word.now) (λ ws. words_of ws.rest.now) words refl).runs in
    (subst (λ t. ListsRows t words None) (sym typed) (rw c.in_default-2.is at listed), refl)

pub returns-in_err-whole-clause-appended : goal.returns-in_err-whole-clause-appended
returns-in_err-whole-clause-appended g c =
    let words = words_of c.args.words.rest.now in
    let before = c.args.column.now in
    let typed : dtype_of before ≡ column.Primitive c.in-Primitive.ptype c.in-Primitive.nullability = sym c.dtype.ensures ∙ c.in-Primitive.is in
    let listed = c.in_ok-batch.ensures.rows words (YieldsList-from_first (λ word. word.now) (λ ws. words_of ws.rest.now) words refl).runs in
    passed_on (λ result. IsAppended before words result before) c.in_err-whole.field-0.0 c.from_residual-in_err-whole.result c.from_residual-in_err-whole.ensures.1
    (appended_refused before c.in-Some.batch before c.in-Primitive.ptype c.in-Primitive.nullability words c.in_err-whole.field-0.0 typed (rw c.in-Some.is at c.in_ok-batch.ensures.typed)
    (rw c.in-Some.is at listed) c.in_err-whole.ensures.refused)

pub returns-clause-appended : goal.returns-clause-appended
returns-clause-appended g c =
    let words = words_of c.args.words.rest.now in
    let before = c.args.column.now in
    let typed : dtype_of before ≡ column.Primitive c.in-Primitive.ptype c.in-Primitive.nullability = sym c.dtype.ensures ∙ c.in-Primitive.is in
    let listed = c.in_ok-batch.ensures.rows words (YieldsList-from_first (λ word. word.now) (λ ws. words_of ws.rest.now) words refl).runs in
    appended_done before c.in-Some.batch c.replace.new.dest c.in-Primitive.ptype c.in-Primitive.nullability words typed (rw c.in-Some.is at c.in_ok-batch.ensures.typed) (rw c.in-Some.is at listed)
    c.in_ok-whole.ensures.refused (subst (λ after. IsLengthened before (rows c.in-Some.batch) after) (sym c.replace.ensures.after) c.in_ok-whole.ensures.whole)
