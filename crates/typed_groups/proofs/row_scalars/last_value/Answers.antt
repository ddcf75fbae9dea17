use Rattle.std.proofs.Common.{◌≡◌, ◌-◌, Option, arith, subst, sym, false, true}
use Rattle.std.specs.Prelude.{is_none, option_map}
use Rattle.std.proofs.lemmas.Result.{IfOk-weaker}
use Rattle.column_core.specs.ScalarView.{sees}
use Rattle.column_core.specs.Value.{FlatValue, Single}
use Rattle.runend_array.specs.Array.{rows}
use Rattle.typed_groups.specs.Questions.{IsLast}
use Rattle.typed_groups.proofs.Values.{last_at, null_past_more}
use Rattle.typed_groups.proofs.row_scalars.last_value.Goals as goal

pub returns-then-not-is_null-clause-last : goal.returns-then-not-is_null-clause-last
returns-then-not-is_null-clause-last g c =
    let all = rows c.args.array.now in
    let back = c.loop-back.back in
    let place = c.len-count.result - 1 - back in
    let view = c.view_at-view.result in
    let told = c.if-not-is_null.ensures in
    let yes = c.if-not-is_null.true in
    let seen = c.is_null.ensures in
    let filled : is_none (sees view) ≡ false = cc in
    let inside = c.loop-back-test.true in
    IfOk-weaker c.scalar_of.result _ _ (λ scalar is. subst (IsLast all) (sym is) (last_at all place (sees view) c.view_at-view.ensures.row filled (λ k past below. c.loop-back.invariant k (omega (arith, past, inside)) below))) c.scalar_of.ensures.value

pub loop-back-preserved : goal.loop-back-preserved
loop-back-preserved g c =
    let all = rows c.args.array.now in
    let back = c.loop-back.back in
    let place = c.len-count.result - 1 - back in
    let view = c.view_at-view.result in
    let told = c.if-not-is_null.ensures in
    let no = c.if-not-is_null.false in
    let seen = c.is_null.ensures in
    let null : is_none (sees view) ≡ true = cc in
    let inside = c.loop-back-test.true in
    λ k from below. null_past_more all place (sees view) c.view_at-view.ensures.row null (λ j past under. c.loop-back.invariant j (omega (arith, past, inside)) under) k (omega (arith, from, inside)) below

pub loop-back-init : goal.loop-back-init
loop-back-init g c = λ k from below. absurd (omega (arith, from, below, c.len-count.ensures))

pub returns-clause-last : goal.returns-clause-last
returns-clause-last g c =
    let all = rows c.args.array.now in
    subst (λ (value : Option FlatValue). IsLast all (option_map Single value)) (sym c.null_of.ensures.value) (λ k below. c.loop-back.invariant k (omega (arith, below, c.len-count.ensures)) below)
