use Rattle.std.proofs.Common.{◌∙◌, ℤ, Option, Some, FitsSigned, rules, ap, subst, sym}
use Rattle.std.specs.Int.{w8, w128}
use Rattle.std.specs.List.{AllZip}
use Rattle.std.specs.Prelude.{option_map}
use Rattle.std.proofs.lemmas.Int.{to_z-of_z}
use Rattle.column_base.specs.declared.dtype.DType.{DType}
use Rattle.column_base.specs.declared.error.VortexError.{VortexError}
use Rattle.column_core.specs.ScalarForm.{ScalarForm}
use Rattle.column_core.specs.Value.{FlatValue, Single}
use Rattle.column_ops.specs.CompareFault.{compare_scalar_fault}
use Rattle.column_ops.specs.Comparing.{compare_dtype, compare_with}
use Rattle.exact_comparisons.specs.ExactRows.{flat_number, stored_fault, IsExactTruth}
use Rattle.runend_array.specs.Array.{dtype_of, rows}
use Rattle.tables.specs.TableFaults.{IsRefusedFirstBy}
use Rattle.runend_column.proofs.ComputedRows.{ok_then}
use Rattle.typed_kernels.specs.declared.meanings.Served.TheVariants.{Stored}
use Rattle.exact_comparisons.proofs.AnsweredRows.{stored_truths}
use Rattle.exact_comparisons.proofs.NumberTypes.{compared_type, decided_for, no_kind_fault, no_stored_fault}
use Rattle.exact_comparisons.proofs.comparisons.compare_stored.Goals as goal

pub returns-clause-refused : goal.returns-clause-refused
returns-clause-refused g c =
    let t = c.dtype-dtype.result in
    let own = ap (λ (s : ScalarForm). s.dtype) c.scalar_of-value.ensures in
    let kind = ap (λ (u : DType). compare_scalar_fault (dtype_of c.args.column.now) u) own ∙ ap (λ (u : DType). compare_scalar_fault u t) (sym c.dtype-dtype.ensures) ∙ no_kind_fault t c.in-Some.ensures.0 in
    let none = ap stored_fault (sym c.dtype-dtype.ensures) ∙ no_stored_fault t c.in-Some.ensures.0 in
    subst (λ (fault : Option VortexError). IsRefusedFirstBy fault c.compare_value-truths.result) (kind ∙ sym none) c.compare_value-truths.ensures.refused

pub returns-clause-truths : goal.returns-clause-truths
returns-clause-truths g c =
    let t = c.dtype-dtype.result in
    let numbers = c.in-Some.numbers in
    let decision = c.decide-decision.result in
    let scale_fits : FitsSigned w8 numbers.scale = search rules in
    let least_fits : FitsSigned w128 numbers.least = search rules in
    let greatest_fits : FitsSigned w128 numbers.greatest = search rules in
    let number_fits : FitsSigned w128 decision.number = search rules in
    let decided = decided_for c.args.operator c.args.number t numbers decision _ _ _ (to_z-of_z w8 numbers.scale scale_fits) (to_z-of_z w128 numbers.least least_fits) (to_z-of_z w128 numbers.greatest greatest_fits)
    c.in-Some.ensures.1 c.decide-decision.ensures.decided in
    let value = ap (λ (s : ScalarForm). s.value) c.scalar_of-value.ensures in
    ok_then c.compare_value-truths.result _ _ (λ truths shown.
    subst (λ (u : DType). AllZip (IsExactTruth Stored u c.args.operator c.args.number) (rows c.args.column.now) (rows truths)) c.dtype-dtype.ensures
    (stored_truths c.args.operator c.args.number t decision.operator decision.number decided (rows c.args.column.now) (rows truths)
    (shown ∙ ap (λ (v : Option FlatValue). compare_with decision.operator (rows c.args.column.now) (option_map (λ (f : FlatValue). Single f) v)) value
    ∙ ap (λ (n : ℤ). compare_with decision.operator (rows c.args.column.now) (Some (Single (flat_number t n)))) (to_z-of_z w128 decision.number number_fits)))) c.compare_value-truths.ensures.rows

pub returns-clause-dtype : goal.returns-clause-dtype
returns-clause-dtype g c =
    let t = dtype_of c.args.column.now in
    let own = ap (λ (s : ScalarForm). s.dtype) c.scalar_of-value.ensures ∙ c.dtype-dtype.ensures in
    ok_then c.compare_value-truths.result _ _ (λ truths typed. typed ∙ ap (λ (u : DType). compare_dtype t u) own ∙ compared_type t) c.compare_value-truths.ensures.dtype
