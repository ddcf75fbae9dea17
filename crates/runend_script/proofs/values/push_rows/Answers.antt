use Rattle.std.proofs.Common.{List, ℕ, length, map, Bor}
use Rattle.std.proofs.lemmas.Iterator.{YieldsList}
use Rattle.std.proofs.lemmas.Iterator.Consumers.{YieldsList-end, YieldsList-turn}
use Rattle.column_core.specs.Optionals.{optionals}
use Rattle.runend_script.proofs.ListedRows.{all_taken, none_taken, not_each, one_taken, pushed_both, stored_row}
use Rattle.runend_script.proofs.values.push_rows.Goals as goal

pub loop-word-init : goal.loop-word-init
loop-word-init g c =
    (c.requires.counted, none_taken {W = Bor (List ℕ)} g.T.NativePType.number (λ word. word.now) c.args.reading c.args.nullability c.args.items.now.items c.args.valid.now)

pub loop-word-preserved : goal.loop-word-preserved
loop-word-preserved g c =
    let kept = c.loop-word.invariant in
    let is = stored_row g.T.NativePType.number g.T.Default.is_default c.args.reading c.args.nullability c.in-Some.word.now c.in-Some-parse_row.row c.is_some.result c.unwrap_or_default.result
    (c.in-Some-parse_row.ensures) (c.is_some.ensures) (c.unwrap_or_default.ensures) in
    let longer = one_taken g.T.NativePType.number (λ word. word.now) c.args.reading c.args.nullability c.loop-word.yielded (optionals (map g.T.NativePType.number c.args.items.now.items) c.args.valid.now) c.loop-word.items.items c.push.new.self.items c.loop-word.valid c.append.new.self
    c.in-Some.word c.unwrap_or_default.result c.is_some.result kept.0 kept.1 is c.in_ok-push.ensures.items c.in_ok-append.ensures.ok in
    (pushed_both c.loop-word.items.items c.push.new.self.items c.unwrap_or_default.result c.loop-word.valid c.append.new.self c.is_some.result kept.0 c.in_ok-push.ensures.items c.in_ok-append.ensures.ok, longer)

pub returns-in_default-clause-rows : goal.returns-in_default-clause-rows
returns-in_default-clause-rows g c taken given =
    let road : YieldsList g.I.Iterator.next_gives (λ word. word.now) c.into_iter-word-iterator.result taken = record { runs = rw c.into_iter-word-iterator.ensures.into_iter_gives given } in
    let turn = YieldsList-turn road c.loop-word.yielded _ c.loop-word.yielded_by _ _ c.in-Some.word c.in-Some.is c.next.ensures.steps in
    not_each g.T.NativePType.number c.args.reading c.args.nullability taken (length c.loop-word.yielded) c.in-Some.word.now turn c.in_default.ensures

pub returns-clause-rows : goal.returns-clause-rows
returns-clause-rows g c taken given =
    let road : YieldsList g.I.Iterator.next_gives (λ word. word.now) c.into_iter-word-iterator.result taken = record { runs = rw c.into_iter-word-iterator.ensures.into_iter_gives given } in
    let end = YieldsList-end road c.loop-word.yielded _ c.loop-word.yielded_by _ _ c.in-None.is c.next.ensures.steps in
    all_taken g.T.NativePType.number (λ word. word.now) c.args.reading c.args.nullability c.loop-word.yielded taken (optionals (map g.T.NativePType.number c.args.items.now.items) c.args.valid.now) c.loop-word.items.items c.loop-word.valid c.loop-word.invariant.1 end.0
