use Rattle.std.proofs.Common.{◌≡◌, ◌+◌, ◌∙◌, ◌++◌, [], ◌∷◌, Bool, false, set, take, ap, sym, arith}
use Rattle.std.proofs.lemmas.List.{drop-set-lt, length-set, take_more}
use Rattle.column_base.proofs.BitLists.{fill_one}
use Rattle.runend_encode.proofs.Marked.{rest-first, rest-more}
use Rattle.runend_encode.proofs.joined.put_flag.Goals as goal

pub returns-then-not-flag-clause-rest : goal.returns-then-not-flag-clause-rest
returns-then-not-flag-clause-rest g c =
    let flags = c.args.flags.now in
    let place = c.args.place in
    let written : c.fill_range.new.self ≡ set flags place false = rw (fill_one flags place false c.requires.within) at c.fill_range.ensures in
    rw (written, length-set flags place false, drop-set-lt (place + 1) flags place false (omega arith)) (rest-more flags place c.requires.within c.requires.rest)

pub returns-else-not-flag-clause-put : goal.returns-else-not-flag-clause-put
returns-else-not-flag-clause-put g c =
    let flags = c.args.flags.now in
    let place = c.args.place in
    take_more flags place false c.requires.within
    ∙ ap (λ (flag : Bool). take place flags ++ flag ∷ []) (rest-first flags place c.requires.within c.requires.rest ∙ sym c.if-not-flag.false)

pub returns-else-not-flag-clause-rest : goal.returns-else-not-flag-clause-rest
returns-else-not-flag-clause-rest g c = rest-more c.args.flags.now c.args.place c.requires.within c.requires.rest
