use Rattle.std.proofs.Common.{Some, None, ◌∷◌, lit<}
use Rattle.std.proofs.lemmas.Str.Pattern.{split_parts}
use Rattle.logical_types.proofs.ReadDecimals.{ending_is, if_none, no_width}
use Rattle.logical_types.proofs.formats.read_places.Goals as goal

pub returns-in_err-width-in-Some-clause-none : goal.returns-in_err-width-in-Some-clause-none
returns-in_err-width-in-Some-clause-none c =
    let parts = split_parts 44 c.args.word.now (Some (c.in-Some.places, c.in-Some.bits)) c.in-Some.ensures.cases (lit< tt) in
    if_none _ _ (no_width c.args.word.now c.in-Some.places.now c.in-Some.bits.now parts.0 parts.1 c.in_err-width-in-Some.ensures)

pub returns-in-None-clause-before : goal.returns-in-None-clause-before
returns-in-None-clause-before c = split_parts 44 c.args.word.now None c.in-None.ensures.cases (lit< tt)

pub returns-in_ok-width-in-Some-clause-found : goal.returns-in_ok-width-in-Some-clause-found
returns-in_ok-width-in-Some-clause-found c =
    let parts = split_parts 44 c.args.word.now (Some (c.in-Some.places, c.in-Some.bits)) c.in-Some.ensures.cases (lit< tt) in
    (44 ∷ c.in-Some.bits.now, parts.0, ending_is c.in_ok-width-in-Some.width c.in-Some.bits.now c.in_ok-width-in-Some.ensures)

pub returns-in_ok-width-in-Some-clause-before : goal.returns-in_ok-width-in-Some-clause-before
returns-in_ok-width-in-Some-clause-before c =
    let parts = split_parts 44 c.args.word.now (Some (c.in-Some.places, c.in-Some.bits)) c.in-Some.ensures.cases (lit< tt) in parts.1
