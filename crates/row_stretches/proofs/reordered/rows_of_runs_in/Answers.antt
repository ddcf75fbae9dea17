use Rattle.std.proofs.Common.{◌≡◌, ◌∙◌, ℕ, List, ap, arith, map, subst, sym}
use Rattle.std.specs.Prelude.{All, unsigned_abs}
use Rattle.std.proofs.lemmas.Result.{IfOk-weaker}
use Rattle.column_base.specs.Numbers.{numbers}
use Rattle.runend_array.specs.Array.{rows}
use Rattle.runend_array.specs.Column.{column_of_runs, column_rows}
use Rattle.runend_windows.proofs.RunRows.{length-run_rows}
use Rattle.runend_windows.specs.Window.{IsWindow}
use Rattle.row_stretches.specs.Stretches.{IsWithin, stretch_rows}
use Rattle.row_stretches.proofs.Cuts.{rows_of_cut, same_cut}
use Rattle.row_stretches.proofs.Places.{length-rows}
use Rattle.row_stretches.proofs.reordered.rows_of_runs_in.Goals as goal

pub pieces_among-requires-clause-window : goal.pieces_among-requires-clause-window
pieces_among-requires-clause-window g c =
    let of_ends = subst (λ (ends : List ℕ). IsWindow ends c.args.runs.now.offset c.args.runs.now.count) (sym c.requires.ends) c.requires.window in
    let from = subst (λ (n : ℕ). IsWindow (map unsigned_abs (numbers c.args.ends.now)) n c.args.runs.now.count) (sym c.offset.ensures) of_ends in
    subst (λ (n : ℕ). IsWindow (map unsigned_abs (numbers c.args.ends.now)) c.offset.result n) (sym c.len.ensures) from

pub pieces_among-requires-clause-small : goal.pieces_among-requires-clause-small
pieces_among-requires-clause-small g c =
    let r = c.args.runs.now in
    let all = column_rows (column_of_runs r) in
    let counted = length-run_rows r.ends (column_rows r.values) r.offset r.count in
    let same = length-rows all c.args.order.now (subst (λ n. All (IsWithin n) c.args.order.now) (sym counted) c.requires.within) in
    omega (arith, same, c.requires.small)

pub runs_of_pieces-made-requires : goal.runs_of_pieces-made-requires
runs_of_pieces-made-requires g c =
    let r = c.args.runs.now in
    let p = c.in_ok-pieces.pieces in
    record { pieces = (same_cut (map unsigned_abs (numbers c.args.ends.now)) r.ends c.offset.result r.offset c.len.result r.count c.args.order.now p.ends.items p.runs.items p.count c.requires.ends c.offset.ensures c.len.ensures c.in_ok-pieces.ensures.cut).pieces }

pub returns-clause-rows : goal.returns-clause-rows
returns-clause-rows g c =
    let r = c.args.runs.now in
    let p = c.in_ok-pieces.pieces in
    ap column_rows c.in_ok-made-2.ensures.form ∙ c.in_ok-made.ensures.rows ∙ rows_of_cut r c.args.order.now p.ends.items p.runs.items p.count (same_cut (map unsigned_abs (numbers c.args.ends.now)) r.ends c.offset.result r.offset c.len.result r.count c.args.order.now p.ends.items p.runs.items p.count c.requires.ends c.offset.ensures c.len.ensures c.in_ok-pieces.ensures.cut)

pub returns-then-few-clause-rows : goal.returns-then-few-clause-rows
returns-then-few-clause-rows g c =
    let r = c.args.runs.now in
    let p = c.in_ok-pieces.pieces in
    let shown = ap column_rows c.in_ok-made-2.ensures.form ∙ c.in_ok-made.ensures.rows ∙ rows_of_cut r c.args.order.now p.ends.items p.runs.items p.count (same_cut (map unsigned_abs (numbers c.args.ends.now)) r.ends c.offset.result r.offset c.len.result r.count c.args.order.now p.ends.items p.runs.items p.count c.requires.ends c.offset.ensures c.len.ensures c.in_ok-pieces.ensures.cut) in
    IfOk-weaker c.canonicalize-flat.result (λ flat. rows flat ≡ rows c.in_ok-made-2.made) (λ flat. rows flat ≡ stretch_rows (column_rows (column_of_runs r)) c.args.order.now) (λ flat is. is ∙ shown) c.canonicalize-flat.ensures.rows
