use Rattle.std.proofs.Common.{◌∙◌, sym, subst, ℤ, w32}
use Rattle.std.proofs.lemmas.Int.{to_z-of_z}
use Rattle.c_columns.specs.Calls.{compare_with_passed}
use Rattle.c_columns.specs.Ending.{EndsOnGiven, EndsOnPassed}
use Rattle.c_columns.specs.Handle.{array_in}
use Rattle.c_columns.proofs.Endings.{ends_compared}
use Rattle.c_columns.proofs.Held.{lent_array}
use Rattle.hivevigil.proofs.FormatEndings.{format_compared}
use Rattle.hivevigil.proofs.commands.compare_with_value.Goals as goal

pub returns-clause-ended : goal.returns-clause-ended
returns-clause-ended c =
    let back = to_z-of_z w32 c.apply.result (record { sfits = c.apply.type_inv }) in
    let here = c.put.ensures ∙ sym c.in-Some.ensures.found in
    let ended = subst (λ h. EndsOnGiven (array_in h) c.compare_scalar_command-command.result c.apply.result c.apply.new.error) here c.apply.ensures.ended in
    subst (λ (code : ℤ). EndsOnPassed c.args.value.now c.args.text.now (compare_with_passed c.args.operator c.args.value.now c.args.text.now) (array_in c.args.column.now.column) code c.apply.new.error) (sym back)
    (ends_compared c.args.operator c.args.value.now c.args.text.now c.compare_scalar_command-command.result (array_in c.args.column.now.column) c.deref.result.now.array c.apply.result c.apply.new.error (lent_array c.deref.ensures c.in-Some.ensures.array) c.compare_scalar_command-command.ensures ended)

pub returns-clause-untyped : goal.returns-clause-untyped
returns-clause-untyped c = λ zero.
    let back = to_z-of_z w32 c.apply.result (record { sfits = c.apply.type_inv }) in
    c.apply.ensures.typed (sym back ∙ zero)
    ∙ format_compared _ c.args.operator c.args.value.now c.args.text.now c.compare_scalar_command-command.result c.deref.result.now.array _ c.compare_scalar_command-command.ensures
