use Rattle.std.proofs.Common.{◌≡◌, ℕ, List, map, ap, ◌∙◌, sym, subst}
use Rattle.std.specs.Prelude.{unsigned_abs}
use Rattle.column_base.specs.Mask.{mask_bits}
use Rattle.column_core.specs.Counted.{Counted}
use Rattle.runend_windows.specs.Window.{IsWindow}
use Rattle.runend_select.specs.Indices.{optional_indices, runs_of}
use Rattle.runend_select.specs.Pick.{answer_of, run_of_null}
use Rattle.runend_select.specs.RunsOf.{AreRunsOf}
use Rattle.runend_column.proofs.ComputedRows.{ok_then}
use Rattle.runend_encode.proofs.Fitting.{naturals-of}
use Rattle.runend_select.proofs.taken_runs.runs_by.Goals as goal

pub physical_indices-requires-clause-window : goal.physical_indices-requires-clause-window
physical_indices-requires-clause-window g c =
    let same = naturals-of g.E.NativePType.number g.E.UnsignedPType.natural g.met.E.UnsignedPType.natural_law c.args.ends.now in
    let here = ap (λ (counted : Counted). counted.ends) c.new-counted.ensures in
    subst (λ (ends : List ℕ). IsWindow ends c.args.offset c.args.count) (same ∙ sym here) c.requires.window

pub returns-clause-runs : goal.returns-clause-runs
returns-clause-runs g c =
    let same = naturals-of g.E.NativePType.number g.E.UnsignedPType.natural g.met.E.UnsignedPType.natural_law c.args.ends.now in
    let here = ap (λ (counted : Counted). counted.ends) c.new-counted.ensures in
    let picked = c.physical_indices.ensures.picked in
    let null = run_of_null picked.0 c.new-counted.result.ends c.args.offset in
    let places = optional_indices g.T.NativePType.number c.args.indices.now (mask_bits c.args.mask.now) in
    ok_then c.physical_indices.result (λ runs. runs.items ≡ answer_of picked.0 c.new-counted.result.ends c.args.offset places)
    (λ runs. AreRunsOf (map unsigned_abs (map g.E.NativePType.number c.args.ends.now)) c.args.offset places runs.items)
    (λ runs is. record { null = null; answer = is ∙ ap (λ (ends : List ℕ). runs_of ends c.args.offset null places) (here ∙ sym same) }) picked.2

pub physical_indices_linear_sorted-requires-clause-in_window : goal.physical_indices_linear_sorted-requires-clause-in_window
physical_indices_linear_sorted-requires-clause-in_window g c =
    let same = naturals-of g.E.NativePType.number g.E.UnsignedPType.natural g.met.E.UnsignedPType.natural_law c.args.ends.now in
    let here = ap (λ (counted : Counted). counted.ends) c.new-counted.ensures in
    (c.args.count, subst (λ (ends : List ℕ). IsWindow ends c.args.offset c.args.count) (same ∙ sym here) c.requires.window, c.requires.in_bounds)

pub returns-then-merges_sorted-clause-runs : goal.returns-then-merges_sorted-clause-runs
returns-then-merges_sorted-clause-runs g c =
    let same = naturals-of g.E.NativePType.number g.E.UnsignedPType.natural g.met.E.UnsignedPType.natural_law c.args.ends.now in
    let here = ap (λ (counted : Counted). counted.ends) c.new-counted.ensures in
    let places = optional_indices g.T.NativePType.number c.args.indices.now (mask_bits c.args.mask.now) in
    ok_then c.physical_indices_linear_sorted.result (λ runs. runs.items ≡ runs_of c.new-counted.result.ends c.args.offset 0 places)
    (λ runs. AreRunsOf (map unsigned_abs (map g.E.NativePType.number c.args.ends.now)) c.args.offset places runs.items)
    (λ runs is. record { null = 0; answer = is ∙ ap (λ (ends : List ℕ). runs_of ends c.args.offset 0 places) (here ∙ sym same) }) c.physical_indices_linear_sorted.ensures.runs
