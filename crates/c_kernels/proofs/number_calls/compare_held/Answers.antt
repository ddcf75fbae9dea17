use Rattle.std.proofs.Common.{◌∙◌, ap, sym, subst, w32, ℤ, Some}
use Rattle.std.proofs.lemmas.Int.{to_z-of_z}
use Rattle.std.specs.Global.{Global}
use Rattle.typed_columns.specs.declared.typed_column.TypedColumn.{TypedColumn}
use Rattle.c_kernels.specs.Numbers.{EndsOnComparing}
use Rattle.c_kernels.proofs.NumberEndings.{comparing_ends}
use Rattle.c_kernels.proofs.number_calls.compare_held.Goals as goal

pub returns-clause-ended : goal.returns-clause-ended
returns-clause-ended c =
    let back = to_z-of_z w32 c.answer.result (record { sfits = c.answer.type_inv }) in
    let lent = c.in-Some.ensures.found ∙ ap (λ (column : TypedColumn Global). Some column) (sym c.deref.ensures) in
    subst (λ (code : ℤ). EndsOnComparing c.args.value.now c.args.column.now.column code c.answer.new.error) (sym back)
    (comparing_ends c.args.value.now c.args.column.now.column c.deref.result.now c.compared_with-outcome.result (λ made. made.value) c.answer.new.out.column c.args.out.now.column c.answer.result c.answer.new.error lent
    c.compared_with-outcome.ensures.refused c.answer.ensures.ok c.answer.ensures.err)
