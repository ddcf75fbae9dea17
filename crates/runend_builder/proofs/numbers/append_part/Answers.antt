use Rattle.std.proofs.Common.{◌∙◌, ◌++◌, ℤ, List, drop, map, sym, ap}
use Rattle.std.proofs.lemmas.List.{drop-map, map-append}
use Rattle.runend_builder.proofs.Lists.{range_is_rest}
use Rattle.runend_builder.proofs.numbers.append_part.Goals as goal

pub returns-clause-numbers : goal.returns-clause-numbers
returns-clause-numbers g c =
    let number = g.T.NativePType.number in
    let stored = c.in-Some.stored.now in
    let old = c.args.items.now.items in
    ap (map number) (c.in_ok-extend_from_slice.ensures.items ∙ ap (λ (ts : List g.row.T.Denot). old ++ ts) (range_is_rest stored c.args.start)) ∙ map-append number old (drop c.args.start stored)
    ∙ ap (λ (ys : List ℤ). map number old ++ ys) (sym (drop-map number c.args.start stored) ∙ ap (drop c.args.start) c.in-Some.ensures.shows)
