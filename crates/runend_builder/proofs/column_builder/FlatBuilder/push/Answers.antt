use Rattle.std.proofs.Common.{◌≡◌, ◌∙◌, ◌++◌, [], ◌∷◌, Bool, List, sym, ap}
use Rattle.std.specs.Prelude.{is_some}
use Rattle.column_core.specs.ScalarView.{sees}
use Rattle.column_core.specs.Value.{PlainColumn}
use Rattle.runend_builder.specs.Items.{stored_in}
use Rattle.runend_builder.proofs.OneRow.{GrownRow, grown_row, null_allowed, row_of_view}
use Rattle.runend_builder.proofs.column_builder.FlatBuilder.push.Given as given
use Rattle.runend_builder.proofs.column_builder.FlatBuilder.push.Goals as goal

pub push_item-requires-clause-typed : goal.push_item-requires-clause-typed
push_item-requires-clause-typed g c =
    let own = c.self.inside in
    row_of_view (stored_in own.items) own.nullability c.args.self.now.dtype c.args.row (sym (ap (λ (p : PlainColumn). p.dtype) c.self.view_is)) c.requires

grown : (g : given.Over) (c : goal.After-push_reserved g)
    → GrownRow (stored_in c.self.inside.items) (stored_in c.push_item.new.items) c.self.inside.flags.items c.push_reserved.new.self.items c.self.inside.nullability (sees c.args.row)
grown g c =
    let own = c.self.inside in
    let typed = sym (ap (λ (p : PlainColumn). p.dtype) c.self.view_is) in
    let pushed : c.push_reserved.new.self.items ≡ own.flags.items ++ is_some (sees c.args.row) ∷ [] =
    c.push_reserved.ensures.items ∙ (λ i. c.in_ok-reserve.ensures.items i ++ c.is_valid.ensures i ∷ []) in
    grown_row (stored_in own.items) (stored_in c.push_item.new.items) own.flags.items c.push_reserved.new.self.items own.nullability (sees c.args.row) c.self.invariant c.in_ok-push_item.ensures.items
    c.push_item.ensures.sound (row_of_view (stored_in own.items) own.nullability c.args.self.now.dtype c.args.row typed c.requires)
    (null_allowed (stored_in own.items) own.nullability c.args.self.now.dtype c.args.row typed c.requires) pushed

pub invariant_of-self-2 : goal.invariant_of-self-2
invariant_of-self-2 g c = (grown g c).held

pub returns-clause-rows : goal.returns-clause-rows
returns-clause-rows g c = (grown g c).rows ∙ ap (λ (p : PlainColumn). p.rows ++ sees c.args.row ∷ []) c.self.view_is
