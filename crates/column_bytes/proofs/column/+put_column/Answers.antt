use Rattle.std.proofs.Common.{◌≡◌, Err, ap, arith, length}
use Rattle.std.specs.Arc.{arc_value}
use Rattle.column_fields.proofs.RoomLaws.{counted_refused, refused_as}
use Rattle.runend_array.specs.Array.{column_of}
use Rattle.runend_array.specs.Column.{Column, Runs, column_of_runs}
use Rattle.column_bytes.specs.Bytes.{column_bytes}
use Rattle.column_bytes.proofs.MessageSizes.{values_within}
use Rattle.column_bytes.proofs.column.+put_column.Goals as goal

pub returns-in_err-values-in-RunEnd-clause-room : goal.returns-in_err-values-in-RunEnd-clause-room
returns-in_err-values-in-RunEnd-clause-room g t c =
    let whole : length (column_bytes (column_of c.args.array.now)) ≡ length (column_bytes (column_of_runs (arc_value c.in-RunEnd.runs))) = ap (λ x. length (column_bytes (column_of x))) c.in-RunEnd.is in
    let seen = ap (λ (x : Column). length (column_bytes x)) c.values.ensures.form in
    let own = ap (λ (r : Runs). length (column_bytes r.values)) c.deref.ensures in
    refused_as _ _ _ _ _ c.from_residual.ensures.1 (λ e. omega (arith, c.in_err-values-in-RunEnd.ensures.past (ap Err e), seen, own, values_within (arc_value c.in-RunEnd.runs), whole))

pub returns-in_err-put_runs-in-RunEnd-clause-room : goal.returns-in_err-put_runs-in-RunEnd-clause-room
returns-in_err-put_runs-in-RunEnd-clause-room g t c =
    let whole : length (column_bytes (column_of c.args.array.now)) ≡ length (column_bytes (column_of_runs (arc_value c.in-RunEnd.runs))) = ap (λ x. length (column_bytes (column_of x))) c.in-RunEnd.is in
    let lent = ap (λ (r : Runs). length (column_bytes (column_of_runs r))) c.deref-in-RunEnd.ensures in
    counted_refused _ _ _ _ c.from_residual-in_err-put_runs-in-RunEnd.ensures.0 (omega (arith, whole, lent, c.in_err-put_runs-in-RunEnd.ensures.room c.in_err-put_runs-in-RunEnd.ensures.only))

pub returns-in_err-put_column-in-RunEnd-clause-room : goal.returns-in_err-put_column-in-RunEnd-clause-room
returns-in_err-put_column-in-RunEnd-clause-room g t c =
    let whole : length (column_bytes (column_of c.args.array.now)) ≡ length (column_bytes (column_of_runs (arc_value c.in-RunEnd.runs))) = ap (λ x. length (column_bytes (column_of x))) c.in-RunEnd.is in
    let seen = ap (λ (x : Column). length (column_bytes x)) c.values.ensures.form in
    let own = ap (λ (r : Runs). length (column_bytes r.values)) c.deref.ensures in
    let lent = ap (λ (r : Runs). length (column_bytes (column_of_runs r))) c.deref-in-RunEnd.ensures in
    let again = ap (λ (x : Column). length (column_bytes x)) c.values-in-RunEnd.ensures.form in
    let still = ap (λ (r : Runs). length (column_bytes r.values)) c.deref-in-RunEnd-2.ensures in
    refused_as _ _ _ _ _ c.from_residual-in_err-put_column-in-RunEnd.ensures.1 (λ e. omega (arith, c.in_err-put_column-in-RunEnd.ensures.room e, c.in_ok-put_runs-in-RunEnd.ensures.room, c.in_ok-values-in-RunEnd.ensures.size, seen, own, lent, again, still, values_within (arc_value c.in-RunEnd.runs), whole))

pub returns-in_ok-put_column-in-RunEnd-clause-room : goal.returns-in_ok-put_column-in-RunEnd-clause-room
returns-in_ok-put_column-in-RunEnd-clause-room g t c =
    let whole : length (column_bytes (column_of c.args.array.now)) ≡ length (column_bytes (column_of_runs (arc_value c.in-RunEnd.runs))) = ap (λ x. length (column_bytes (column_of x))) c.in-RunEnd.is in
    let seen = ap (λ (x : Column). length (column_bytes x)) c.values.ensures.form in
    let own = ap (λ (r : Runs). length (column_bytes r.values)) c.deref.ensures in
    let lent = ap (λ (r : Runs). length (column_bytes (column_of_runs r))) c.deref-in-RunEnd.ensures in
    let again = ap (λ (x : Column). length (column_bytes x)) c.values-in-RunEnd.ensures.form in
    let still = ap (λ (r : Runs). length (column_bytes r.values)) c.deref-in-RunEnd-2.ensures in
    omega (arith, c.in_ok-put_column-in-RunEnd.ensures.room, c.in_ok-put_runs-in-RunEnd.ensures.room, c.in_ok-values-in-RunEnd.ensures.size, seen, own, lent, again, still, whole)
