use Rattle.std.proofs.Common.{pos, rules, sym, get_or, arith, ℕ}
use Rattle.std.proofs.lemmas.List.{take_all}
use Rattle.std.proofs.lemmas.List.Elements.{All-more, All-nil, All-same}
use Rattle.std.specs.Int.{w128}
use Rattle.std.specs.Int.RustNames.{FitsSigned}
use Rattle.column_fields.proofs.fitting.decimals_fit.Goals as goal

pub loop-number-init : goal.loop-number-init
loop-number-init c = All-nil (λ n. FitsSigned w128 n)

pub loop-number-preserved : goal.loop-number-preserved
loop-number-preserved c =
    let at : ℕ = c.loop-number.number-index in
    let fits : FitsSigned w128 (get_or c.args.numbers.now at (pos 0)) = search rules in
    All-more (λ n. FitsSigned w128 n) c.args.numbers.now at (pos 0) c.loop-number-test.true c.loop-number.invariant fits

pub returns : goal.returns
returns c = All-same (λ n. FitsSigned w128 n) _ _ (sym (take_all c.loop-number.number-index c.args.numbers.now (omega arith))) c.loop-number.invariant
