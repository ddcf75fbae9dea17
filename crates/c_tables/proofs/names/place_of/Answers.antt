use Rattle.std.proofs.Common.{List, map, ap, arith, sym, subst, ◌∙◌, ℕ, Some}
use Rattle.std.specs.Cmp.Lexicographic.{other_text, same_text}
use Rattle.std.specs.String.{string_bytes}
use Rattle.std.proofs.lemmas.List.{length-map}
use Rattle.tables.specs.Tables.{IsPlaceOf}
use Rattle.tables.proofs.NameLists.{mapped_at, other_more}
use Rattle.c_tables.proofs.names.place_of.Goals as goal

pub returns-then-eq : goal.returns-then-eq
returns-then-eq c =
    let names = c.names-names.result.now in
    let same = same_text _ _ (sym c.if-eq.true ∙ c.eq.ensures) in
    subst (λ (l : List (List ℕ)). IsPlaceOf l c.args.name.now c.loop-place.place) c.names-names.ensures.names (record {
      within = omega (arith, length-map names string_bytes);
      there = mapped_at string_bytes names c.loop-place.place c.index-names-place.result (omega arith) c.index-names-place.is
          ∙ ap (λ (bytes : List ℕ). Some bytes) (sym c.as_bytes.ensures.value ∙ same);
    })

pub loop-place-preserved : goal.loop-place-preserved
loop-place-preserved c =
    let names = c.names-names.result.now in
    other_more (map string_bytes names) c.args.name.now c.loop-place.place (string_bytes c.index-names-place.result)
    (mapped_at string_bytes names c.loop-place.place c.index-names-place.result (omega arith) c.index-names-place.is)
    (λ equal. other_text _ _ (sym c.if-eq.false ∙ c.eq.ensures) (c.as_bytes.ensures.value ∙ equal)) c.loop-place.invariant
