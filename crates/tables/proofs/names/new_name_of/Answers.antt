use Rattle.std.proofs.Common.{◌<◌, ℕ, List, arith, inl, inr, length, map, refl, subst}
use Rattle.std.specs.String.{string_bytes}
use Rattle.std.proofs.lemmas.List.{length-map}
use Rattle.tables.specs.Tables.{IsPlaceOf, IsUnknown}
use Rattle.tables.proofs.NameLists.{mapped_at}
use Rattle.tables.proofs.names.new_name_of.Goals as goal

pub bounds-new_names-place : goal.bounds-new_names-place
bounds-new_names-place g c = omega (arith, c.in-Some.ensures.found.within, length-map c.args.names.now string_bytes, c.requires.paired)

pub returns-in-Some : goal.returns-in-Some
returns-in-Some g c =
    let place = c.in-Some.place in
    let within : place < length c.args.new_names.now = omega (arith, c.in-Some.ensures.found.within, length-map c.args.names.now string_bytes, c.requires.paired) in
    inl (record {
      place = place;
      there = subst (λ (bytes : List ℕ). IsPlaceOf (map string_bytes c.args.names.now) bytes place) c.as_str.ensures.value c.in-Some.ensures.found;
      new = mapped_at string_bytes c.args.new_names.now place c.index-new_names-place.result within c.index-new_names-place.is;
    })

pub returns-in-None : goal.returns-in-None
returns-in-None g c = inr (subst (λ (bytes : List ℕ). IsUnknown (map string_bytes c.args.names.now) bytes) c.as_str.ensures.value c.in-None.ensures.unknown, refl)
