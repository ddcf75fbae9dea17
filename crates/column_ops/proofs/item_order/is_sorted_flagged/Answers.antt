use Rattle.std.proofs.Common.{◌≡◌, ◌∙◌, ◌+◌, ◌-◌, ◌<◌, ◌≤◌, ℕ, List, Option, Some, None, true, sym, subst, arith}
use Rattle.std.specs.Prelude.{◌↔◌, slice_get, slice_range, IsTrue}
use Rattle.std.proofs.lemmas.Bool.{false≢true}
use Rattle.column_core.specs.Value.{Value}
use Rattle.column_ops.specs.Items.{flagged_rows}
use Rattle.column_ops.specs.OrderFacts.{IsSorted}
use Rattle.column_ops.proofs.ItemOrder.{null-behind, sorted-behind, two-nulls, AreSteps-sorted}
use Rattle.column_ops.proofs.ItemRows.{copies-valid, length-flagged_rows, null-here, some-here, some-null, valid-range}
use Rattle.column_ops.proofs.item_order.is_sorted_flagged.Goals as goal
use Rattle.column_ops.proofs.item_order.is_sorted_flagged.Goals.{else-strict-via-then-strict+else-from-start-gt1, else-strict-via-else-strict}

pub returns-then-from-start-gt1 : goal.returns-then-from-start-gt1
returns-then-from-start-gt1 g c =
    let value = g.T.FlatItem.value in
    let items = c.args.items.now in
    let marks = c.args.flags.now in
    let rows = flagged_rows value items marks in
    let start = c.args.start in
    let stop = c.args.stop in
    let found = c.first_valid-from.ensures in
    let from = c.first_valid-from.result in
    let low = found.low in
    let high = found.high in
    let long = length-flagged_rows value items marks c.requires.fits in
    let null : (k : ℕ) → start ≤ k → k < from → slice_get rows k ≡ Some None = λ k above below. null-here value items marks k (omega arith) (found.nulls k above below) in (
      λ never. absurd (false≢true never),
      λ sorted. absurd (two-nulls c.args.strict rows start (stop - 1) c.if-strict.true (omega arith) (null start (omega arith) (omega arith)) (null (start + 1) (omega arith) (omega arith))
          (AreSteps-sorted c.args.strict rows start stop c.requires.ordered (omega arith) sorted)),
    )

pub returns-then-count_range-stop : goal.returns-then-count_range-stop
returns-then-count_range-stop g c =
    let value = g.T.FlatItem.value in
    let items = c.args.items.now in
    let marks = c.args.flags.now in
    let rows = flagged_rows value items marks in
    let start = c.args.start in
    let stop = c.args.stop in
    let found = c.first_valid-from.ensures in
    let from = c.first_valid-from.result in
    let low = found.low in
    let high = found.high in
    let long = length-flagged_rows value items marks c.requires.fits in
    let null = some-null marks from stop high (omega arith) (omega arith) in
    let before : from < stop = omega (arith, null.1, null.2) in
    let seen = some-here value items marks from (omega arith) (found.valid before) in (
      λ never. absurd (false≢true never),
      λ sorted. absurd (null-behind c.args.strict rows start from null.0 stop seen.0 low null.1 null.2 (omega arith) seen.1
          (null-here value items marks null.0 (omega (arith, null.2)) null.3) sorted),
    )

pub returns : goal.returns
returns g c =
    let value = g.T.FlatItem.value in
    let items = c.args.items.now in
    let marks = c.args.flags.now in
    let rows = flagged_rows value items marks in
    let start = c.args.start in
    let stop = c.args.stop in
    let found = c.first_valid-from.ensures in
    let from = c.first_valid-from.result in
    let low = found.low in
    let high = found.high in
    let long = length-flagged_rows value items marks c.requires.fits in
    let few : c.args.strict ≡ true → from ≤ start + 1 =
    λ asked. elim c.else-strict.branch [
      | else-strict-via-then-strict+else-from-start-gt1 w ↦ omega (arith, w.if-from-start-gt1.false)
      | else-strict-via-else-strict w ↦ absurd (false≢true (sym w.if-strict.false ∙ asked))
    ] in
    let same = valid-range value items marks from stop c.requires.fits high c.requires.in_bounds (copies-valid marks from stop high (omega arith) (omega arith)) in
    let part : IsTrue c.is_sorted_valid.result ↔ IsSorted c.args.strict (slice_range rows from stop) =
    subst (λ (rs : List (Option Value)). IsTrue c.is_sorted_valid.result ↔ IsSorted c.args.strict rs) (sym same) c.is_sorted_valid.ensures in
    let behind = sorted-behind c.args.strict rows start from stop low high (omega arith) (λ k above below. null-here value items marks k (omega arith) (found.nulls k above below)) few
    (λ before. some-here value items marks from (omega arith) (found.valid before)) in
    (λ yes. behind.0 (part.0 yes), λ sorted. part.1 (behind.1 sorted))
