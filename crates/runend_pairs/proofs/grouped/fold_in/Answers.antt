use Rattle.std.proofs.Common.{◌≡◌, List, Option, ℤ, map, subst}
use Rattle.std.specs.Prelude.{IfErr, IfOk}
use Rattle.column_base.specs.declared.dtype.DType.{DType}
use Rattle.column_base.specs.declared.dtype.DType.TheVariants as column
use Rattle.column_base.specs.declared.dtype.Nullability.TheVariants.{Nullable}
use Rattle.column_core.specs.Leaf.{OfNumbers}
use Rattle.column_core.specs.PrimitiveForm.{optional_numbers, primitive_dtype}
use Rattle.column_sums.specs.SumAnswer.{number_in}
use Rattle.runend_array.specs.Array.{dtype_of, rows}
use Rattle.runend_windows.specs.Ends.{ends_of}
use Rattle.runend_pairs.specs.GroupAnswers.{answer_of, answer_ptype, IsGiven}
use Rattle.runend_pairs.specs.GroupFaults.{IsFoldRefusal}
use Rattle.runend_pairs.specs.Groups.{AreGroupAnswers}
use Rattle.runend_pairs.proofs.Encoded.{encoded_numbers, encoded_paired, whole_runs}
use Rattle.runend_pairs.proofs.grouped.fold_in.Goals as goal

pub fold_numbers-answers-requires-clause-runs : goal.fold_numbers-answers-requires-clause-runs
fold_numbers-answers-requires-clause-runs g c =
    let values = c.args.values.now in
    whole_runs (rows values) (dtype_of values) c.in_ok-ends.ends (OfNumbers c.in_ok-ends.numbers) c.in_ok-ends.ensures.encoding

pub fold_numbers-answers-requires-clause-paired : goal.fold_numbers-answers-requires-clause-paired
fold_numbers-answers-requires-clause-paired g c =
    let values = c.args.values.now in
    encoded_paired (rows values) (dtype_of values) c.in_ok-ends.ends c.in_ok-ends.numbers c.in_ok-ends.ensures.encoding

pub returns-clause-answers : goal.returns-clause-answers
returns-clause-answers g c =
    let values = c.args.values.now in
    let numbers = c.in_ok-ends.numbers in
    let encoding = c.in_ok-ends.ensures.encoding in
    subst (λ (shown : List (Option ℤ)). IfOk c.fold_numbers-answers.result (λ answers. AreGroupAnswers (answer_of c.args.fold) (ends_of c.args.groups.now) shown (optional_numbers answers)))
    (encoded_numbers (rows values) (dtype_of values) c.in_ok-ends.ends numbers encoding) c.fold_numbers-answers.ensures.answers

pub returns-clause-dtype : goal.returns-clause-dtype
returns-clause-dtype g c =
    let values = c.args.values.now in
    let numbers = c.in_ok-ends.numbers in
    let encoding = c.in_ok-ends.ensures.encoding in
    subst (λ (t : DType). IfOk c.fold_numbers-answers.result (λ answers. primitive_dtype answers ≡ column.Primitive (answer_ptype c.args.fold t) Nullable)) encoding.typed c.fold_numbers-answers.ensures.dtype

pub returns-clause-refused : goal.returns-clause-refused
returns-clause-refused g c =
    let values = c.args.values.now in
    let numbers = c.in_ok-ends.numbers in
    let encoding = c.in_ok-ends.ensures.encoding in
    subst (λ (t : DType). IfErr c.fold_numbers-answers.result (IsFoldRefusal (IsGiven c.args.fold t) (answer_of c.args.fold) (ends_of c.args.groups.now) (map number_in (rows values)))) encoding.typed
    (subst (λ (shown : List (Option ℤ)). IfErr c.fold_numbers-answers.result (IsFoldRefusal (IsGiven c.args.fold (primitive_dtype numbers)) (answer_of c.args.fold) (ends_of c.args.groups.now) shown))
    (encoded_numbers (rows values) (dtype_of values) c.in_ok-ends.ends numbers encoding) c.fold_numbers-answers.ensures.refused)
