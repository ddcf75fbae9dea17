use Rattle.std.proofs.Common.{◌≡◌, map, take}
use Rattle.column_core.specs.DecimalForm.{optional_decimals}
use Rattle.runend_decimals.specs.Rescaling.{stored_by}
use Rattle.runend_decimals.specs.Scales.{IsHeldBy}
use Rattle.runend_decimals.proofs.FirstFaults.{EachBefore}
use Rattle.runend_decimals.proofs.rescaled.stored_items.Given as goal

abbrev pub invariant-loop-run : goal.invariant-loop-run
invariant-loop-run g l = record {
  items : map g.L.Limits.integer l.items.items ≡ map (stored_by l.rescaling.dropped.places l.rescaling.added.places) (take l.run (optional_decimals l.values));
  held : EachBefore (IsHeldBy l.rescaling.dropped.places l.rescaling.added.places (g.L.Limits.has l.limits)) (optional_decimals l.values) l.run;
}
