use Rattle.std.proofs.Common.{◌≡◌, Option, arith, subst, sym, false, true}
use Rattle.std.specs.Prelude.{is_none, option_map}
use Rattle.std.proofs.lemmas.Result.{IfOk-weaker}
use Rattle.column_core.specs.ScalarView.{sees}
use Rattle.column_core.specs.Value.{FlatValue, Single}
use Rattle.runend_array.specs.Array.{rows}
use Rattle.typed_groups.specs.Questions.{IsFirst}
use Rattle.typed_groups.proofs.Values.{first_at, null_more}
use Rattle.typed_groups.proofs.row_scalars.first_value.Goals as goal

pub returns-then-not-is_null-clause-first : goal.returns-then-not-is_null-clause-first
returns-then-not-is_null-clause-first g c =
    let view = c.view_at-view.result in
    let told = c.if-not-is_null.ensures in
    let yes = c.if-not-is_null.true in
    let seen = c.is_null.ensures in
    let filled : is_none (sees view) ≡ false = cc in
    IfOk-weaker c.scalar_of.result _ _ (λ scalar is. subst (IsFirst (rows c.args.array.now)) (sym is) (first_at (rows c.args.array.now) c.loop-row.row (sees view) c.view_at-view.ensures.row filled c.loop-row.invariant)) c.scalar_of.ensures.value

pub loop-row-preserved : goal.loop-row-preserved
loop-row-preserved g c =
    let view = c.view_at-view.result in
    let told = c.if-not-is_null.ensures in
    let no = c.if-not-is_null.false in
    let seen = c.is_null.ensures in
    let null : is_none (sees view) ≡ true = cc in
    null_more (rows c.args.array.now) c.loop-row.row (sees view) c.view_at-view.ensures.row null c.loop-row.invariant

pub loop-row-init : goal.loop-row-init
loop-row-init g c = λ k below. absurd (omega (arith, below))

pub returns-clause-first : goal.returns-clause-first
returns-clause-first g c =
    let all = rows c.args.array.now in
    subst (λ (value : Option FlatValue). IsFirst all (option_map Single value)) (sym c.null_of.ensures.value) (λ k below. c.loop-row.invariant k (omega (arith, below, c.len-count.ensures)))
