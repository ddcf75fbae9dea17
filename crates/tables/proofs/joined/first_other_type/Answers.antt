use Rattle.std.proofs.Common.{◌≢◌, ◌∙◌, arith, sym, true≢false}
use Rattle.tables.specs.Appended.{type_of}
use Rattle.typed_columns.specs.Typed.{typed_of}
use Rattle.tables.proofs.Appends.{first_other, types_all, types_more}
use Rattle.tables.proofs.joined.first_other_type.Goals as goal

pub loop-place-preserved : goal.loop-place-preserved
loop-place-preserved g c =
    let column = c.index-columns-place.result in
    let other = c.index-others-place.result in
    let within = c.loop-place-test.true in
    types_more c.args.columns.now c.args.others.now c.loop-place.place column other within (omega (arith, within, c.requires)) c.index-columns-place.is c.index-others-place.is
    (c.are_alike.ensures.0 c.if-not-are_alike.false) c.loop-place.invariant

pub returns-then-not-are_alike : goal.returns-then-not-are_alike
returns-then-not-are_alike g c =
    let column = c.index-columns-place.result in
    let other = c.index-others-place.result in
    let within = c.loop-place-test.true in
    let differ : type_of (typed_of column) ≢ type_of (typed_of other) = λ same. true≢false (sym (c.are_alike.ensures.1 same) ∙ c.if-not-are_alike.true) in
    first_other c.args.columns.now c.args.others.now c.loop-place.place column other within (omega (arith, within, c.requires)) c.index-columns-place.is c.index-others-place.is differ c.loop-place.invariant

pub returns : goal.returns
returns g c = types_all c.args.columns.now c.args.others.now c.loop-place.place (omega arith) c.requires c.loop-place.invariant
