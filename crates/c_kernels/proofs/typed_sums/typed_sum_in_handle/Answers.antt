use Rattle.std.proofs.Common.{◌∙◌, ap, sym, subst, w32, ℤ, Some}
use Rattle.std.proofs.lemmas.Int.{to_z-of_z}
use Rattle.std.specs.Global.{Global}
use Rattle.typed_columns.specs.declared.typed_column.TypedColumn.{TypedColumn}
use Rattle.c_kernels.specs.TypedSums.{IsSumNeverShortOn}
use Rattle.c_kernels.proofs.TypedSumEndings.{never_short}
use Rattle.c_kernels.proofs.typed_sums.typed_sum_in_handle.Goals as goal

pub returns-clause-memory : goal.returns-clause-memory
returns-clause-memory c =
    let back = to_z-of_z w32 c.write_total.result (record { sfits = c.write_total.type_inv }) in
    let lent = c.in-Some.ensures.found ∙ ap (λ (column : TypedColumn Global). Some column) (sym c.deref.ensures) in
    subst (λ (code : ℤ). IsSumNeverShortOn c.args.session.now c.args.column.now.column code) (sym back)
    (never_short c.args.session.now c.args.column.now.column c.deref.result.now c.total_of-outcome.result c.write_total.new.total c.args.total.now c.write_total.result c.write_total.new.error lent c.total_of-outcome.ensures.memory c.write_total.ensures.ok c.write_total.ensures.err)
