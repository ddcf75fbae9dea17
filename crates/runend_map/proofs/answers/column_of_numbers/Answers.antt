use Rattle.std.proofs.Common.{◌≡◌, ◌∙◌, pos, map, ap, subst, sym}
use Rattle.column_base.proofs.ValidityRows.{nullable-of_bits}
use Rattle.column_base.specs.Numbers.{numbers}
use Rattle.column_base.specs.Validity.{form_of}
use Rattle.column_base.specs.declared.dtype.DType.TheVariants as column
use Rattle.column_core.specs.Computed.{IsComputed}
use Rattle.column_core.specs.Leaf.{OfNumbers, single_rows}
use Rattle.column_core.specs.PrimitiveForm.{PrimitiveForm, primitive_dtype}
use Rattle.column_core.specs.Value.{Number}
use Rattle.runend_map.proofs.MapResultRows.{written_computed, written_rows}
use Rattle.runend_column.proofs.PassedOn.{no_value, only_error}
use Rattle.runend_map.proofs.answers.column_of_numbers.Goals as goal

pub returns-clause-rows : goal.returns-clause-rows
returns-clause-rows g c =
    ap (λ (f : PrimitiveForm). single_rows (OfNumbers f)) c.new_unchecked.ensures
    ∙ written_rows (λ n. Number n) g.T.NativePType.number c.default.result c.args.rows.now (numbers c.wrap.result) (form_of c.from_bits-validity.result) c.freeze.result
    (c.wrap.ensures.shows ∙ ap (map g.T.NativePType.number) c.in_ok-items.ensures.items) c.from_bits-validity.ensures.flags (c.freeze.ensures ∙ c.in_ok-flags.ensures.flags)

pub returns-clause-dtype : goal.returns-clause-dtype
returns-clause-dtype g c =
    let nullable = nullable-of_bits (form_of c.from_bits-validity.result) c.freeze.result c.from_bits-validity.ensures.flags c.from_bits-validity.ensures.all_valid in
    ap primitive_dtype c.new_unchecked.ensures ∙ (λ i. column.Primitive (c.wrap.ensures.typed i) (nullable i))

pub returns-clause-computed : goal.returns-clause-computed
returns-clause-computed g c =
    let number = g.T.NativePType.number in
    let zeroth : number c.default.result ≡ pos 0 = g.met.T.NativePType.law.zeroth c.default.result c.default.ensures in
    subst IsComputed (sym c.new_unchecked.ensures)
    (written_computed number c.default.result (pos 0) c.args.rows.now (numbers c.wrap.result) (form_of c.from_bits-validity.result) c.freeze.result zeroth
    (c.wrap.ensures.shows ∙ ap (map number) c.in_ok-items.ensures.items) c.from_bits-validity.ensures.flags (c.freeze.ensures ∙ c.in_ok-flags.ensures.flags)
    c.from_bits-validity.ensures.normal (λ null. (c.from_bits-validity.ensures.all_null.0 null).0))

pub returns-clause-only : goal.returns-clause-only
returns-clause-only g c = tt

pub returns-in_err-flags-clause-computed : goal.returns-in_err-flags-clause-computed
returns-in_err-flags-clause-computed g c = no_value _ c.from_residual-in_err-flags.result c.from_residual-in_err-flags.ensures.0

pub returns-in_err-flags-clause-dtype : goal.returns-in_err-flags-clause-dtype
returns-in_err-flags-clause-dtype g c = no_value _ c.from_residual-in_err-flags.result c.from_residual-in_err-flags.ensures.0

pub returns-in_err-flags-clause-only : goal.returns-in_err-flags-clause-only
returns-in_err-flags-clause-only g c = only_error c.from_residual-in_err-flags.result c.in_err-flags.field-0.0 _ c.from_residual-in_err-flags.ensures.1 c.in_err-flags.ensures.only

pub returns-in_err-flags-clause-rows : goal.returns-in_err-flags-clause-rows
returns-in_err-flags-clause-rows g c = no_value _ c.from_residual-in_err-flags.result c.from_residual-in_err-flags.ensures.0

pub returns-in_err-items-clause-computed : goal.returns-in_err-items-clause-computed
returns-in_err-items-clause-computed g c = no_value _ c.from_residual.result c.from_residual.ensures.0

pub returns-in_err-items-clause-dtype : goal.returns-in_err-items-clause-dtype
returns-in_err-items-clause-dtype g c = no_value _ c.from_residual.result c.from_residual.ensures.0

pub returns-in_err-items-clause-only : goal.returns-in_err-items-clause-only
returns-in_err-items-clause-only g c = only_error c.from_residual.result c.in_err-items.field-0.0 _ c.from_residual.ensures.1 c.in_err-items.ensures.only

pub returns-in_err-items-clause-rows : goal.returns-in_err-items-clause-rows
returns-in_err-items-clause-rows g c = no_value _ c.from_residual.result c.from_residual.ensures.0
