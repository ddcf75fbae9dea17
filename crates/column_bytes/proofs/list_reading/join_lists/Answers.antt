use Rattle.std.proofs.Common.{ap, ◌∙◌}
use Rattle.std.proofs.lemmas.Result.{IfOk-weaker}
use Rattle.runend_array.specs.Column.{OfLists}
use Rattle.column_bytes.proofs.FlatReads.{both_ok}
use Rattle.column_bytes.proofs.ListReads.{faulty, misshaped, shaped}
use Rattle.column_bytes.proofs.list_reading.join_lists.Goals as goal

pub returns-in-Ok-clause-form : goal.returns-in-Ok-clause-form
returns-in-Ok-clause-form g c = IfOk-weaker c.of_shape.result _ _ (λ array is. is ∙ ap OfLists c.in-Ok.ensures.parts.1) c.of_shape.ensures.form

pub returns-in-Ok-clause-bad : goal.returns-in-Ok-clause-bad
returns-in-Ok-clause-bad g c = λ e. misshaped _ c.in-Ok.lists c.args.levels c.args.rows c.in-Ok.ensures.parts.1 (c.of_shape.ensures.bad e)

pub returns-in-Ok-clause-lists : goal.returns-in-Ok-clause-lists
returns-in-Ok-clause-lists g c =
    both_ok c.of_shape.result _ _ _ (λ _ counted shallow. shaped _ c.in-Ok.lists c.args.levels c.args.rows c.in-Ok.ensures.parts.1 c.in-Ok.ensures.parts.0.lists counted shallow) c.of_shape.ensures.counted c.of_shape.ensures.shallow

pub returns-in-Err-clause-bad : goal.returns-in-Err-clause-bad
returns-in-Err-clause-bad g c =
    λ _. faulty c.args.elements.value c.args.offsets c.args.sizes c.args.validity _ c.args.levels c.args.rows c.requires c.in-Err.ensures.parts
