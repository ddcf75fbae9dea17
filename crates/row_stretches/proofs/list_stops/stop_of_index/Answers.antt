use Rattle.std.proofs.Common.{◌≡◌, ◌∙◌, ◌+◌, ℕ, ap, arith, refl, slice_index, subst, sym}
use Rattle.runend_array.specs.Array.{column_of}
use Rattle.runend_array.specs.Column.{end_numbers, index_of}
use Rattle.runend_array.specs.Lists.{Index, RunIndex, index_at, index_count}
use Rattle.runend_windows.specs.Window.{run_at}
use Rattle.row_stretches.specs.Copies.{StaysUntil}
use Rattle.row_stretches.proofs.Copies.{row_stays, stays_by}
use Rattle.row_stretches.proofs.list_stops.stop_of_index.Goals as goal

pub stop_of_run-requires : goal.stop_of_run-requires
stop_of_run-requires g c =
    let r = c.deref.result.now in
    let own : index_of (column_of c.args.index.now) ≡ RunIndex r.ends_type r.ends (end_numbers r.values) r.offset r.count = rw (c.in-RunEnd.is, c.deref.ensures) refl in
    let counted : r.count ≡ c.args.count = sym (ap index_count own) ∙ c.requires.counted in
    omega (arith, counted, c.requires.there)

pub returns-in-RunEnd : goal.returns-in-RunEnd
returns-in-RunEnd g c =
    let r = c.deref.result.now in
    let row = c.args.row in
    let stop = c.stop_of_run.result in
    let own : index_of (column_of c.args.index.now) ≡ RunIndex r.ends_type r.ends (end_numbers r.values) r.offset r.count = rw (c.in-RunEnd.is, c.deref.ensures) refl in
    let counted : r.count ≡ c.args.count = sym (ap index_count own) ∙ c.requires.counted in
    let stays = stays_by (slice_index (end_numbers r.values)) (λ (k : ℕ). run_at r.ends (r.offset + k)) row stop r.count c.stop_of_run.ensures in
    subst (λ (n : ℕ). StaysUntil (index_at (index_of (column_of c.args.index.now))) row stop n) counted (subst (λ (i : Index). StaysUntil (index_at i) row stop r.count) (sym own) stays)

pub returns-in_default : goal.returns-in_default
returns-in_default g c = row_stays (index_at (index_of (column_of c.args.index.now))) c.args.row c.args.count c.requires.there
