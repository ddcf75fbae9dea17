use Rattle.std.proofs.Common.{◌∙◌, ap, arith, length, map, rules, sym}
use Rattle.std.proofs.lemmas.List.{length-map}
use Rattle.runend_array.specs.Array.{rows}
use Rattle.typed_columns.specs.Typed.{typed_of}
use Rattle.tables.proofs.NameLists.{even_more, mapped_at, uneven_at}
use Rattle.tables.proofs.columns.first_uneven.Goals as goal

pub loop-place-preserved : goal.loop-place-preserved
loop-place-preserved g c =
    let column = c.index-columns-place.result in
    even_more (map typed_of c.args.columns.now) c.args.wanted c.loop-place.place (typed_of column)
    (mapped_at typed_of c.args.columns.now c.loop-place.place column c.loop-place-test.true c.index-columns-place.is) (search rules) c.loop-place.invariant

pub returns-then-count-wanted : goal.returns-then-count-wanted
returns-then-count-wanted g c =
    let column = c.index-columns-place.result in
    let counted = c.len-count.ensures ∙ ap (λ held. length (rows held.array)) (sym c.index-columns-place.is) in
    uneven_at (map typed_of c.args.columns.now) c.args.wanted c.loop-place.place c.len-count.result (typed_of column)
    (mapped_at typed_of c.args.columns.now c.loop-place.place column c.loop-place-test.true c.index-columns-place.is) counted (search rules) c.loop-place.invariant

pub returns : goal.returns
returns g c = λ k d within. c.loop-place.invariant k d (omega (arith, within, length-map c.args.columns.now typed_of))
