use Rattle.std.proofs.Common.{◌≡◌, ◌∙◌, ◌<◌, None, length, ap, map, subst, sym, arith}
use Rattle.column_core.specs.DecimalForm.{optional_decimals}
use Rattle.runend_windows.specs.Ends.{ends_of}
use Rattle.runend_windows.specs.Window.{last_end, run_rows}
use Rattle.runend_decimals.specs.Rescaling.{misfit_at, stored_by}
use Rattle.runend_decimals.specs.Scales.{IsHeldBy, IsRescaleRefusalBy}
use Rattle.runend_decimals.specs.declared.fault.RescaleError.{RescaleError}
use Rattle.runend_decimals.proofs.DecimalRuns.{decimals_long}
use Rattle.runend_decimals.proofs.FirstFaults.{each_next, each_row, refused_at, stored_next, value_held}
use Rattle.runend_decimals.proofs.rescaled.stored_items.Goals as goal

pub returns-in-Err-clause-refused : goal.returns-in-Err-clause-refused
returns-in-Err-clause-refused g c =
    let ends = ends_of c.args.ends.now in
    let values = optional_decimals c.args.values.now in
    let dropped = c.args.rescaling.dropped.places in
    let added = c.args.rescaling.added.places in
    let has = g.L.Limits.has c.args.limits.now in
    let run = c.loop-run.run in
    let within : run < length ends = omega (arith, c.loop-run-test.true, c.len-run-end.ensures.rows, decimals_long c.args.values.now, c.requires.paired) in
    let refused = refused_at dropped added has ends values run c.decimal_at.result c.in-Err.misfit c.requires.runs.window c.requires.paired c.requires.runs.filled within c.decimal_at.ensures
    c.in-Err.ensures.misfit c.loop-run.invariant.held in
    subst (λ (error : RescaleError). IsRescaleRefusalBy None dropped added has (run_rows ends values 0 (last_end ends)) error)
    (sym (c.at.ensures ∙ ap (misfit_at c.in-Err.misfit) c.first_row.ensures)) refused

pub loop-run-preserved : goal.loop-run-preserved
loop-run-preserved g c =
    let values = optional_decimals c.args.values.now in
    let dropped = c.args.rescaling.dropped.places in
    let added = c.args.rescaling.added.places in
    let has = g.L.Limits.has c.args.limits.now in
    record {
      items = ap (map g.L.Limits.integer) c.push_reserved.ensures.items
          ∙ stored_next g.L.Limits.integer (stored_by dropped added) c.loop-run.items.items c.in-Ok.item values c.loop-run.run c.decimal_at.result c.loop-run.invariant.items c.decimal_at.ensures c.in-Ok.ensures.item;
      held = each_next (IsHeldBy dropped added has) values c.loop-run.run c.decimal_at.result c.decimal_at.ensures (value_held dropped added has c.decimal_at.result c.in-Ok.ensures.held) c.loop-run.invariant.held;
    }

pub returns-clause-held : goal.returns-clause-held
returns-clause-held g c =
    let ends = ends_of c.args.ends.now in
    let values = optional_decimals c.args.values.now in
    let held = IsHeldBy c.args.rescaling.dropped.places c.args.rescaling.added.places (g.L.Limits.has c.args.limits.now) in
    let all : c.loop-run.run ≡ length ends = omega (arith, c.loop-run-test.false, c.loop-run.auto.run-end, c.len-run-end.ensures.rows, decimals_long c.args.values.now, c.requires.paired) in
    each_row held ends values c.requires.runs.window c.requires.paired c.loop-run.run all c.loop-run.invariant.held
