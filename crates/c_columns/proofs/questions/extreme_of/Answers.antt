use Rattle.std.proofs.Common.{◌≡◌, ◌∙◌, ap, length, rules, subst, Err, None}
use Rattle.std.specs.Global.{Global}
use Rattle.std.specs.declared.cmp.Ordering.{Ordering}
use Rattle.column_core.specs.ScalarView.{sees}
use Rattle.runend_commands.specs.Extremes.{IsExtreme}
use Rattle.runend_commands.specs.Meaning.{plain}
use Rattle.runend_commands.specs.Refusal.{refusal}
use Rattle.runend_commands.specs.declared.command.Command.TheVariants.{MinMax}
use Rattle.c_columns.specs.Values.{side_in}
use Rattle.c_columns.proofs.Short.{passed_short, row_not_short}
use Rattle.c_columns.proofs.Told.{extreme_of, extreme_short}
use Rattle.c_columns.proofs.questions.extreme_of.Goals as goal

pub returns-in-Some-clause-told : goal.returns-in-Some-clause-told
returns-in-Some-clause-told c =
    let before = plain c.args.array.now in
    let scalar = c.in-Some.scalar in
    let told = c.row_value_of-found in
    let found : IsExtreme c.side_of.result before scalar = search rules in
    let extreme : IsExtreme (side_in c.args.greatest) before scalar = subst (λ (side : Ordering). IsExtreme side before scalar) c.side_of.ensures found in
    extreme_of c.args.greatest before told.new.text told.result scalar c.view.result extreme c.view.ensures.value c.view.ensures.of_type told.ensures.told

pub returns-in-Some-clause-refused : goal.returns-in-Some-clause-refused
returns-in-Some-clause-refused c =
    let before = plain c.args.array.now in
    let scalar = c.in-Some.scalar in
    let told = c.row_value_of-found in
    let accepted : refusal {A = Global} before MinMax ≡ None = search rules in
    let found : IsExtreme c.side_of.result before scalar = search rules in
    let extreme : IsExtreme (side_in c.args.greatest) before scalar = subst (λ (side : Ordering). IsExtreme side before scalar) c.side_of.ensures found in
    extreme_short c.args.greatest before (length c.args.text.now) told.result scalar c.view.result accepted extreme c.view.ensures.value told.ensures.room

pub returns-in_err-scalar-clause-memory : goal.returns-in_err-scalar-clause-memory
returns-in_err-scalar-clause-memory c = λ plain read short.
    c.extreme.ensures.in_place plain (read c.context-ctx.result c.context-ctx.ensures) (c.in_err-scalar.was ∙ ap Err (passed_short c.in_err-scalar.field-0.0 c.from_residual.result c.from_residual.ensures.1 short))

pub returns-in-Some-clause-memory : goal.returns-in-Some-clause-memory
returns-in-Some-clause-memory c = λ plain read. row_not_short (sees c.view.result) (length c.args.text.now) c.row_value_of-found.result c.row_value_of-found.ensures.room
