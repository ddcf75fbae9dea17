use Rattle.std.proofs.Common.{◌∙◌, ap, length}
use Rattle.column_base.specs.ValidityForm.{flags}
use Rattle.column_base.specs.Validity.{form_of}
use Rattle.column_core.specs.FlatColumn.{leaf_of}
use Rattle.column_core.specs.Leaf.{single_rows}
use Rattle.column_core.specs.Optionals.{optionals}
use Rattle.column_core.specs.declared.flat.FlatColumn.{FlatColumn}
use Rattle.runend_map.specs.MapResult.{number_row}
use Rattle.runend_map.proofs.KeptRows.{if_ok}
use Rattle.runend_map.proofs.MapResultRows.{asked_each, may_call, rows_of_items}
use Rattle.runend_map.proofs.scalar_fn.answers_to.Goals as goal

pub answers-requires-clause-callable : goal.answers-requires-clause-callable
answers-requires-clause-callable g c =
    let number = g.S.NativePType.number in
    let form = form_of c.validity.result.now in
    let array = c.in-Primitive.array in
    let rows_are = ap (λ (v : FlatColumn _). single_rows (leaf_of v)) c.in-Primitive.is
    ∙ rows_of_items number c.in-Some.items.now form array.validity array.numbers (c.in-Some.ensures.shows ∙ c.values.ensures.shows) c.validity.ensures.form in
    may_call (number_row number) (λ x. g.F.Fn.pre c.args.function.now (x, tt)) (optionals c.in-Some.items.now (flags form (length c.in-Some.items.now))) (single_rows (leaf_of c.args.values.now)) rows_are
    c.requires.callable

pub returns-clause-each : goal.returns-clause-each
returns-clause-each g c =
    let number = g.S.NativePType.number in
    let form = form_of c.validity.result.now in
    let array = c.in-Primitive.array in
    let rows_are = ap (λ (v : FlatColumn _). single_rows (leaf_of v)) c.in-Primitive.is
    ∙ rows_of_items number c.in-Some.items.now form array.validity array.numbers (c.in-Some.ensures.shows ∙ c.values.ensures.shows) c.validity.ensures.form in
    if_ok c.answers.result (λ answers zipped.
    asked_each (number_row number) (λ x y. g.F.Fn.post c.args.function.now (x, tt) y) (optionals c.in-Some.items.now (flags form (length c.in-Some.items.now))) answers.items
    (single_rows (leaf_of c.args.values.now)) rows_are zipped) c.answers.ensures.each

pub returns-clause-only : goal.returns-clause-only
returns-clause-only g c = c.answers.ensures.only
