use Rattle.std.proofs.Common.{◌≡◌, ◌∙◌, ◌<◌, ℕ, ap, arith, length, subst, sym}
use Rattle.std.specs.Prelude.{All}
use Rattle.std.proofs.lemmas.Result.{IfOk-weaker}
use Rattle.runend_array.specs.Array.{column_of, rows}
use Rattle.runend_array.specs.Canonical.{canonical_column}
use Rattle.runend_array.specs.Column.{IsFlat, column_rows}
use Rattle.runend_array.specs.declared.canonical.Canonical.{Canonical}
use Rattle.runend_array.specs.declared.canonical.Canonical.TheVariants as canonical
use Rattle.runend_encode.specs.Starts.{rows_at}
use Rattle.row_stretches.specs.Stretches.{stretch_rows}
use Rattle.row_stretches.proofs.Places.{length-rows, places_within, rows_of_places}
use Rattle.row_stretches.proofs.reordered.flat_rows_in.Goals as goal

pub positions_of-requires : goal.positions_of-requires
positions_of-requires g c = record {
  small = let same = length-rows (rows c.args.column.now) c.args.order.now c.requires.within in omega (arith, same, c.requires.small);
}

pub rows_at_positions-taken-requires : goal.rows_at_positions-taken-requires
rows_at_positions-taken-requires g c =
    let count = length (rows c.args.column.now) in
    record {
      within = subst (All (λ (place : ℕ). place < count)) (sym (c.as_slice.ensures.value ∙ c.in_ok-positions.ensures.places)) (places_within count c.args.order.now c.requires.within);
    }

pub returns-clause-rows : goal.returns-clause-rows
returns-clause-rows g c =
    let all = rows c.args.column.now in
    let order = c.args.order.now in
    IfOk-weaker c.into_array.result (λ made. column_of made ≡ canonical_column c.in_ok-taken.taken) (λ made. rows made ≡ stretch_rows all order)
    (λ made form. ap column_rows form ∙ c.in_ok-taken.ensures.rows ∙ ap (rows_at all) (c.as_slice.ensures.value ∙ c.in_ok-positions.ensures.places) ∙ sym (rows_of_places all order c.requires.within))
    c.into_array.ensures.form

flat_form : {A : Type 0} (form : Canonical A) → IsFlat (canonical_column form)
flat_form (canonical.Flat values) = tt
flat_form (canonical.List lists) = tt

pub returns-clause-flat : goal.returns-clause-flat
returns-clause-flat g c =
    IfOk-weaker c.into_array.result (λ made. column_of made ≡ canonical_column c.in_ok-taken.taken) (λ made. IsFlat (column_of made)) (λ made form. subst IsFlat (sym form) (flat_form c.in_ok-taken.taken)) c.into_array.ensures.form
