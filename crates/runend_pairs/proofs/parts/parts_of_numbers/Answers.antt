use Rattle.std.proofs.Common.{◌∙◌, ℕ, ap, map, pos, sym}
use Rattle.std.proofs.lemmas.List.{map-id}
use Rattle.column_base.specs.Numbers.{numbers, ptype_of}
use Rattle.column_sums.specs.SumRange.{sum_range}
use Rattle.runend_pairs.proofs.parts.parts_of_numbers.Goals as goal

pub signed_parts-requires-clause-stored : goal.signed_parts-requires-clause-stored
signed_parts-requires-clause-stored g c = map-id c.as_slice.result.now ∙ c.as_slice.ensures.value ∙ sym (ap numbers c.in-I8.is) ∙ c.values.ensures.shows

pub signed_parts-requires-clause-typed : goal.signed_parts-requires-clause-typed
signed_parts-requires-clause-typed g c = ap sum_range (sym c.values.ensures.typed ∙ ap ptype_of c.in-I8.is)

pub signed_parts-requires-in-I16-clause-stored : goal.signed_parts-requires-in-I16-clause-stored
signed_parts-requires-in-I16-clause-stored g c = map-id c.as_slice-in-I16.result.now ∙ c.as_slice-in-I16.ensures.value ∙ sym (ap numbers c.in-I16.is) ∙ c.values.ensures.shows

pub signed_parts-requires-in-I16-clause-typed : goal.signed_parts-requires-in-I16-clause-typed
signed_parts-requires-in-I16-clause-typed g c = ap sum_range (sym c.values.ensures.typed ∙ ap ptype_of c.in-I16.is)

pub signed_parts-requires-in-I32-clause-stored : goal.signed_parts-requires-in-I32-clause-stored
signed_parts-requires-in-I32-clause-stored g c = map-id c.as_slice-in-I32.result.now ∙ c.as_slice-in-I32.ensures.value ∙ sym (ap numbers c.in-I32.is) ∙ c.values.ensures.shows

pub signed_parts-requires-in-I32-clause-typed : goal.signed_parts-requires-in-I32-clause-typed
signed_parts-requires-in-I32-clause-typed g c = ap sum_range (sym c.values.ensures.typed ∙ ap ptype_of c.in-I32.is)

pub signed_parts-requires-in-I64-clause-stored : goal.signed_parts-requires-in-I64-clause-stored
signed_parts-requires-in-I64-clause-stored g c = map-id c.as_slice-in-I64.result.now ∙ c.as_slice-in-I64.ensures.value ∙ sym (ap numbers c.in-I64.is) ∙ c.values.ensures.shows

pub signed_parts-requires-in-I64-clause-typed : goal.signed_parts-requires-in-I64-clause-typed
signed_parts-requires-in-I64-clause-typed g c = ap sum_range (sym c.values.ensures.typed ∙ ap ptype_of c.in-I64.is)

pub unsigned_parts-requires-clause-stored : goal.unsigned_parts-requires-clause-stored
unsigned_parts-requires-clause-stored g c = ap (map (λ (n : ℕ). pos n)) c.as_slice-in-U8.ensures.value ∙ sym (ap numbers c.in-U8.is) ∙ c.values.ensures.shows

pub unsigned_parts-requires-clause-typed : goal.unsigned_parts-requires-clause-typed
unsigned_parts-requires-clause-typed g c = ap sum_range (sym c.values.ensures.typed ∙ ap ptype_of c.in-U8.is)

pub unsigned_parts-requires-in-U16-clause-stored : goal.unsigned_parts-requires-in-U16-clause-stored
unsigned_parts-requires-in-U16-clause-stored g c = ap (map (λ (n : ℕ). pos n)) c.as_slice-in-U16.ensures.value ∙ sym (ap numbers c.in-U16.is) ∙ c.values.ensures.shows

pub unsigned_parts-requires-in-U16-clause-typed : goal.unsigned_parts-requires-in-U16-clause-typed
unsigned_parts-requires-in-U16-clause-typed g c = ap sum_range (sym c.values.ensures.typed ∙ ap ptype_of c.in-U16.is)

pub unsigned_parts-requires-in-U32-clause-stored : goal.unsigned_parts-requires-in-U32-clause-stored
unsigned_parts-requires-in-U32-clause-stored g c = ap (map (λ (n : ℕ). pos n)) c.as_slice-in-U32.ensures.value ∙ sym (ap numbers c.in-U32.is) ∙ c.values.ensures.shows

pub unsigned_parts-requires-in-U32-clause-typed : goal.unsigned_parts-requires-in-U32-clause-typed
unsigned_parts-requires-in-U32-clause-typed g c = ap sum_range (sym c.values.ensures.typed ∙ ap ptype_of c.in-U32.is)

pub unsigned_parts-requires-in-U64-clause-stored : goal.unsigned_parts-requires-in-U64-clause-stored
unsigned_parts-requires-in-U64-clause-stored g c = ap (map (λ (n : ℕ). pos n)) c.as_slice-in-U64.ensures.value ∙ sym (ap numbers c.in-U64.is) ∙ c.values.ensures.shows

pub unsigned_parts-requires-in-U64-clause-typed : goal.unsigned_parts-requires-in-U64-clause-typed
unsigned_parts-requires-in-U64-clause-typed g c = ap sum_range (sym c.values.ensures.typed ∙ ap ptype_of c.in-U64.is)
