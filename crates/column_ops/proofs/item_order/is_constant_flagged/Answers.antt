use Rattle.std.proofs.Common.{◌∙◌, List, Option, refl, sym, subst, arith}
use Rattle.std.specs.Prelude.{◌↔◌, false, slice_range, IsTrue}
use Rattle.std.proofs.lemmas.Bool.{false≢true}
use Rattle.column_core.specs.Value.{Value}
use Rattle.column_ops.specs.Items.{flagged_rows}
use Rattle.column_ops.specs.OrderFacts.{IsConstant}
use Rattle.column_ops.proofs.ItemOrder.{mixed-not_constant, IsConstant-nulls}
use Rattle.column_ops.proofs.ItemRows.{copies-null, copies-valid, flag-in_range, length-flagged_rows, null-here, some-here, some-null, some-valid, valid-range, All-null}
use Rattle.column_ops.proofs.item_order.is_constant_flagged.Goals as goal

pub returns-then-valid-eq0 : goal.returns-then-valid-eq0
returns-then-valid-eq0 g c =
    let value = g.T.FlatItem.value in
    let items = c.args.items.now in
    let marks = c.args.flags.now in
    let rows = flagged_rows value items marks in
    let long = length-flagged_rows value items marks c.requires.fits in
    let copies = copies-null marks c.args.start c.args.stop c.requires.ordered (omega arith) (sym c.count_range-valid.ensures ∙ c.if-valid-eq0.true) in (
      λ _. IsConstant-nulls (slice_range rows c.args.start c.args.stop)
          (All-null rows c.args.start c.args.stop c.requires.ordered (omega arith)
          (λ k low high. null-here value items marks k (omega arith) (flag-in_range marks false c.args.start c.args.stop c.requires.ordered (omega arith) copies k low high))),
      λ _. refl,
    )

pub returns-then-valid-stop : goal.returns-then-valid-stop
returns-then-valid-stop g c =
    let value = g.T.FlatItem.value in
    let items = c.args.items.now in
    let marks = c.args.flags.now in
    let long = length-flagged_rows value items marks c.requires.fits in
    let valid = some-valid marks c.args.start c.args.stop c.requires.ordered (omega arith) (omega arith) in
    let null = some-null marks c.args.start c.args.stop c.requires.ordered (omega arith) (omega arith) in
    let seen = some-here value items marks valid.0 (omega (arith, valid.2)) valid.3 in (
      λ never. absurd (false≢true never),
      λ constant. absurd (mixed-not_constant (flagged_rows value items marks) c.args.start c.args.stop valid.0 null.0 seen.0 (omega arith) valid.1 valid.2 null.1 null.2 seen.1
          (null-here value items marks null.0 (omega (arith, null.2)) null.3) constant),
    )

pub returns : goal.returns
returns g c =
    let value = g.T.FlatItem.value in
    let items = c.args.items.now in
    let marks = c.args.flags.now in
    let copies = copies-valid marks c.args.start c.args.stop c.requires.ordered (omega arith) (omega arith) in
    let same = valid-range value items marks c.args.start c.args.stop c.requires.fits c.requires.ordered c.requires.in_bounds copies in
    subst (λ (rows : List (Option Value)). IsTrue c.is_constant_valid.result ↔ IsConstant rows) (sym same) c.is_constant_valid.ensures
