use Rattle.std.proofs.Common.{inl, inr, sym}
use Rattle.std.specs.String.{string_bytes}
use Rattle.std.proofs.lemmas.List.{length-map}
use Rattle.tables.proofs.names.place_for.Goals as goal

pub returns-in-Some : goal.returns-in-Some
returns-in-Some g c = inl c.in-Some.ensures.found

pub returns-in-None : goal.returns-in-None
returns-in-None g c = inr (c.in-None.ensures.unknown, sym (length-map c.args.names.now string_bytes))
