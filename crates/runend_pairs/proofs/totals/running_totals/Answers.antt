use Rattle.std.proofs.Common.{◌≡◌, ◌∙◌, List, Option, ℤ, None, map, subst, sym}
use Rattle.column_base.specs.declared.dtype.DType.{DType}
use Rattle.column_base.specs.declared.dtype.DType.TheVariants as column
use Rattle.column_base.specs.declared.dtype.Nullability.TheVariants.{Nullable}
use Rattle.column_base.specs.Types.{HasNumber}
use Rattle.column_core.specs.Leaf.{OfNumbers, single_rows}
use Rattle.column_core.specs.PrimitiveForm.{optional_numbers, primitive_dtype}
use Rattle.column_sums.specs.SumAnswer.{number_in}
use Rattle.runend_array.specs.Array.{dtype_of, rows}
use Rattle.runend_windows.specs.Ends.{ends_of}
use Rattle.runend_pairs.specs.GroupFaults.{numbers_fault}
use Rattle.runend_pairs.specs.Sums.{sum_of, summed_ptype}
use Rattle.runend_pairs.specs.Totals.{AreRunningAnswers, IsRunningRefusal}
use Rattle.runend_pairs.proofs.Encoded.{encoded_numbers, encoded_paired, whole_runs}
use Rattle.runend_pairs.proofs.TotalRefusals.{refused_totals}
use Rattle.runend_pairs.proofs.totals.running_totals.Goals as goal

pub total_numbers-requires-clause-runs : goal.total_numbers-requires-clause-runs
total_numbers-requires-clause-runs g c = whole_runs (rows c.args.array.now) (dtype_of c.args.array.now) c.in_ok-ends.ends (OfNumbers c.in_ok-ends.numbers) c.in_ok-ends.ensures.encoding

pub total_numbers-requires-clause-paired : goal.total_numbers-requires-clause-paired
total_numbers-requires-clause-paired g c =
    let array = c.args.array.now in
    let encoding = c.in_ok-ends.ensures.encoding in
    encoded_paired (rows array) (dtype_of array) c.in_ok-ends.ends c.in_ok-ends.numbers encoding

pub returns-in-Err-clause-refused : goal.returns-in-Err-clause-refused
returns-in-Err-clause-refused g c =
    let array = c.args.array.now in
    let numbers = c.in_ok-ends.numbers in
    let ends = c.in_ok-ends.ends in
    let encoding = c.in_ok-ends.ensures.encoding in
    let none : numbers_fault (dtype_of array) ≡ None = rw c.dtype.ensures at (sym c.fault_of_numbers.ensures ∙ c.in_default.is) in
    let refused = subst (λ (shown : List (Option ℤ)). IsRunningRefusal (HasNumber (summed_ptype (primitive_dtype numbers))) sum_of (ends_of ends) shown c.in-Err.error)
    (encoded_numbers (rows array) (dtype_of array) ends numbers encoding) c.in-Err.ensures.refused in
    let typed = subst (λ (t : DType). IsRunningRefusal (HasNumber (summed_ptype t)) sum_of (ends_of ends) (map number_in (rows array)) c.in-Err.error) encoding.typed refused in
    refused_totals (dtype_of array) (rows array) (ends_of ends) (single_rows (OfNumbers numbers)) c.in-Err.error encoding.cover none typed

pub returns-clause-ends : goal.returns-clause-ends
returns-clause-ends g c = record { values = OfNumbers c.in_ok-ends.numbers; encoding = c.in_ok-ends.ensures.encoding }

pub returns-clause-totals : goal.returns-clause-totals
returns-clause-totals g c =
    let array = c.args.array.now in
    let numbers = c.in_ok-ends.numbers in
    let encoding = c.in_ok-ends.ensures.encoding in
    subst (λ (shown : List (Option ℤ)). AreRunningAnswers sum_of (ends_of c.in_ok-ends.ends) shown (optional_numbers c.in-Ok.totals))
    (encoded_numbers (rows array) (dtype_of array) c.in_ok-ends.ends numbers encoding) c.in-Ok.ensures.totals

pub returns-clause-dtype : goal.returns-clause-dtype
returns-clause-dtype g c =
    let array = c.args.array.now in
    let numbers = c.in_ok-ends.numbers in
    let encoding = c.in_ok-ends.ensures.encoding in
    subst (λ (t : DType). primitive_dtype c.in-Ok.totals ≡ column.Primitive (summed_ptype t) Nullable) encoding.typed c.in-Ok.ensures.dtype
