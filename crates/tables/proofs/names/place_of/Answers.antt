use Rattle.std.proofs.Common.{◌∙◌, map, sym, ap, arith, List, ℕ, Some}
use Rattle.std.specs.Cmp.Lexicographic.{other_text, same_text}
use Rattle.std.proofs.lemmas.List.{length-map}
use Rattle.tables.proofs.NameLists.{mapped_at, other_more}
use Rattle.tables.proofs.names.place_of.Goals as goal

pub returns-then-eq-clause-found : goal.returns-then-eq-clause-found
returns-then-eq-clause-found g c =
    let same = same_text _ _ (sym c.if-eq.true ∙ c.eq.ensures) in
    record {
      within = omega (arith, length-map c.args.names.now g.N.Named.named);
      there = mapped_at g.N.Named.named c.args.names.now c.loop-place.place c.index-names-place.result (omega arith) c.index-names-place.is
          ∙ ap (λ (bytes : List ℕ). Some bytes) (sym c.name.ensures ∙ same);
    }

pub loop-place-preserved : goal.loop-place-preserved
loop-place-preserved g c =
    other_more (map g.N.Named.named c.args.names.now) c.args.name.now c.loop-place.place (g.N.Named.named c.index-names-place.result)
    (mapped_at g.N.Named.named c.args.names.now c.loop-place.place c.index-names-place.result (omega arith) c.index-names-place.is)
    (λ equal. other_text _ _ (sym c.if-eq.false ∙ c.eq.ensures) (c.name.ensures ∙ equal)) c.loop-place.invariant

pub returns-clause-unknown : goal.returns-clause-unknown
returns-clause-unknown g c = λ place at. c.loop-place.invariant place (omega (arith, at.within, length-map c.args.names.now g.N.Named.named)) at.there
