use Rattle.std.proofs.Common.{◌≡◌, ◌∙◌, ap, subst, sym}
use Rattle.std.proofs.lemmas.Result.{IfOk-weaker}
use Rattle.runend_array.specs.Array.{column_of, rows}
use Rattle.runend_array.specs.Column.{IsFlat, OfLists, column_rows}
use Rattle.runend_array.specs.Lists.{list_rows}
use Rattle.runend_array.proofs.ListRows.{length-list_rows}
use Rattle.row_stretches.specs.Pieces.{ArePieces}
use Rattle.row_stretches.specs.Stretches.{stretch_rows}
use Rattle.row_stretches.proofs.Copies.{rows_of_copies}
use Rattle.row_stretches.proofs.lists.lists_in.Goals as goal

pub lists_of_pieces-made-requires : goal.lists_of_pieces-made-requires
lists_of_pieces-made-requires g c =
    let p = c.in_ok-pieces.pieces in
    record { pieces = subst (λ n. ArePieces n p.ends.items p.runs.items p.count) (length-list_rows c.args.lists.now) c.in_ok-pieces.ensures.copies.cut.pieces }

pub returns-clause-rows : goal.returns-clause-rows
returns-clause-rows g c =
    let all = list_rows c.args.lists.now in
    let p = c.in_ok-pieces.pieces in
    IfOk-weaker c.into_array.result (λ made. column_of made ≡ OfLists c.in_ok-made.made) (λ made. rows made ≡ stretch_rows all c.args.order.now)
    (λ made is. ap column_rows is ∙ c.in_ok-made.ensures.rows ∙ rows_of_copies all (stretch_rows all c.args.order.now) p.ends.items p.runs.items p.count c.in_ok-pieces.ensures.copies) c.into_array.ensures.form

pub returns-clause-flat : goal.returns-clause-flat
returns-clause-flat g c =
    IfOk-weaker c.into_array.result (λ made. column_of made ≡ OfLists c.in_ok-made.made) (λ made. IsFlat (column_of made)) (λ made is. subst IsFlat (sym is) tt) c.into_array.ensures.form
