use Rattle.std.proofs.Common.{◌≡◌, ◌↔◌, ◌-◌, ◌∙◌, List, Option, true, sym, subst, arith}
use Rattle.std.specs.Prelude.{IsTrue}
use Rattle.std.proofs.lemmas.Bool.{false≢true}
use Rattle.column_core.specs.Value.{Value}
use Rattle.column_ops.specs.OrderFacts.{IsSorted}
use Rattle.runend_array.specs.Array.{column_of}
use Rattle.runend_aggregate.proofs.VisibleFacts.{AreBounds, not_strict, rows_between, sorted_as_visible}
use Rattle.runend_aggregate.proofs.order.is_sorted.Goals as goal
use Rattle.runend_aggregate.proofs.order.is_sorted.Goals.{else-strict-via-then-strict+else-runs-len, else-strict-via-else-strict}

pub returns-then-runs-len-clause-answer : goal.returns-then-runs-len-clause-answer
returns-then-runs-len-clause-answer g c =
    let r = c.args.array.now in
    let runs = c.visible_runs-runs in
    let bounds : AreBounds r runs.result.start runs.result.end =
    record { runs = runs.ensures.valid; begun = runs.ensures.first; ended = runs.ensures.stop; ordered = runs.ensures.ordered; inside = runs.ensures.in_bounds } in (
      λ never. absurd (false≢true never),
      λ sorted. absurd (not_strict c.args.strict r runs.result.start runs.result.end bounds
          c.if-strict.true (λ same. absurd (omega (arith, same, c.if-runs-len.true, c.len.ensures))) sorted),
    )

pub returns-clause-answer : goal.returns-clause-answer
returns-clause-answer g c =
    let r = c.args.array.now in
    let runs = c.visible_runs-runs in
    let first = runs.result.start in
    let stop = runs.result.end in
    let one_each : c.args.strict ≡ true → stop - first ≡ r.count =
    elim c.else-strict.branch [
      | else-strict-via-then-strict+else-runs-len w ↦ λ asked. omega (arith, w.if-runs-len.false, w.len.ensures)
      | else-strict-via-else-strict w ↦ λ asked. absurd (false≢true (sym w.if-strict.false ∙ asked))
    ] in
    let between = rows_between r (column_of c.values.result.now) first stop c.values.ensures.form runs.ensures.first runs.ensures.stop in
    let told = subst (λ (xs : List (Option Value)). IsTrue c.are_sorted.result ↔ IsSorted c.args.strict xs) between c.are_sorted.ensures in
    let bounds : AreBounds r first stop =
    record { runs = runs.ensures.valid; begun = runs.ensures.first; ended = runs.ensures.stop; ordered = runs.ensures.ordered; inside = runs.ensures.in_bounds } in
    let law = sorted_as_visible c.args.strict r first stop bounds one_each in
    (λ h. law.0 (told.0 h), λ h. told.1 (law.1 h))
