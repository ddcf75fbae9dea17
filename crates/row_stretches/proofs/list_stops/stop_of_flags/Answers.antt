use Rattle.std.proofs.Common.{◌≡◌, ◌+◌, ℕ, arith, false, refl, subst, sym}
use Rattle.std.specs.Prelude.{slice_index_or}
use Rattle.runend_array.specs.Array.{validity_of}
use Rattle.runend_array.specs.Column.{truths_of}
use Rattle.runend_array.specs.Lists.{ByRuns, HasRows, RowValidityForm, row_flag_at}
use Rattle.runend_windows.specs.Window.{run_at}
use Rattle.row_stretches.specs.Copies.{StaysUntil}
use Rattle.row_stretches.proofs.Copies.{all_stay, row_stays, same_flags, stays_by}
use Rattle.row_stretches.proofs.list_stops.stop_of_flags.Goals as goal

pub returns-in-Bits : goal.returns-in-Bits
returns-in-Bits g c = row_stays (row_flag_at (validity_of c.args.validity.now)) c.args.row c.args.count c.requires.there

pub stop_of_run-requires : goal.stop_of_run-requires
stop_of_run-requires g c =
    let r = c.deref.result.now in
    let own : validity_of c.args.validity.now ≡ ByRuns r.ends_type r.ends (truths_of r.values) r.offset r.count = rw (c.in-Runs.is, c.deref.ensures) refl in
    let counted : r.count ≡ c.args.count = subst (λ (form : RowValidityForm). HasRows form c.args.count) own c.requires.counted in
    omega (arith, counted, c.requires.there)

pub returns-in-Runs : goal.returns-in-Runs
returns-in-Runs g c =
    let r = c.deref.result.now in
    let row = c.args.row in
    let stop = c.stop_of_run.result in
    let own : validity_of c.args.validity.now ≡ ByRuns r.ends_type r.ends (truths_of r.values) r.offset r.count = rw (c.in-Runs.is, c.deref.ensures) refl in
    let counted : r.count ≡ c.args.count = subst (λ (form : RowValidityForm). HasRows form c.args.count) own c.requires.counted in
    let stays = stays_by (λ (run : ℕ). slice_index_or (truths_of r.values) run false) (λ (k : ℕ). run_at r.ends (r.offset + k)) row stop r.count c.stop_of_run.ensures in
    subst (λ (n : ℕ). StaysUntil (row_flag_at (validity_of c.args.validity.now)) row stop n) counted (subst (λ (form : RowValidityForm). StaysUntil (row_flag_at form) row stop r.count) (sym own) stays)

pub returns-in_default : goal.returns-in_default
returns-in_default g c =
    all_stay (row_flag_at (validity_of c.args.validity.now)) c.args.row c.args.count c.requires.there (λ k. same_flags c.args.validity.now c.in_default.not-Bits c.in_default.not-Runs k c.args.row)
