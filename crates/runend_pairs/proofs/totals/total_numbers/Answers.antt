use Rattle.std.proofs.Common.{◌∙◌, ℕ, ap, map, pos, sym}
use Rattle.std.proofs.lemmas.List.{map-id}
use Rattle.column_base.specs.Numbers.{numbers, ptype_of}
use Rattle.runend_pairs.specs.Sums.{sum_ptype}
use Rattle.runend_pairs.proofs.totals.total_numbers.Goals as goal

pub total_signed-requires-clause-stored : goal.total_signed-requires-clause-stored
total_signed-requires-clause-stored g c = map-id c.as_slice.result.now ∙ c.as_slice.ensures.value ∙ sym (ap numbers c.in-I8.is) ∙ c.values.ensures.shows

pub total_signed-requires-clause-typed : goal.total_signed-requires-clause-typed
total_signed-requires-clause-typed g c = ap sum_ptype (sym c.values.ensures.typed ∙ ap ptype_of c.in-I8.is)

pub total_signed-requires-in-I16-clause-stored : goal.total_signed-requires-in-I16-clause-stored
total_signed-requires-in-I16-clause-stored g c = map-id c.as_slice-in-I16.result.now ∙ c.as_slice-in-I16.ensures.value ∙ sym (ap numbers c.in-I16.is) ∙ c.values.ensures.shows

pub total_signed-requires-in-I16-clause-typed : goal.total_signed-requires-in-I16-clause-typed
total_signed-requires-in-I16-clause-typed g c = ap sum_ptype (sym c.values.ensures.typed ∙ ap ptype_of c.in-I16.is)

pub total_signed-requires-in-I32-clause-stored : goal.total_signed-requires-in-I32-clause-stored
total_signed-requires-in-I32-clause-stored g c = map-id c.as_slice-in-I32.result.now ∙ c.as_slice-in-I32.ensures.value ∙ sym (ap numbers c.in-I32.is) ∙ c.values.ensures.shows

pub total_signed-requires-in-I32-clause-typed : goal.total_signed-requires-in-I32-clause-typed
total_signed-requires-in-I32-clause-typed g c = ap sum_ptype (sym c.values.ensures.typed ∙ ap ptype_of c.in-I32.is)

pub total_signed-requires-in-I64-clause-stored : goal.total_signed-requires-in-I64-clause-stored
total_signed-requires-in-I64-clause-stored g c = map-id c.as_slice-in-I64.result.now ∙ c.as_slice-in-I64.ensures.value ∙ sym (ap numbers c.in-I64.is) ∙ c.values.ensures.shows

pub total_signed-requires-in-I64-clause-typed : goal.total_signed-requires-in-I64-clause-typed
total_signed-requires-in-I64-clause-typed g c = ap sum_ptype (sym c.values.ensures.typed ∙ ap ptype_of c.in-I64.is)

pub total_unsigned-requires-clause-stored : goal.total_unsigned-requires-clause-stored
total_unsigned-requires-clause-stored g c = ap (map (λ (n : ℕ). pos n)) c.as_slice-in-U8.ensures.value ∙ sym (ap numbers c.in-U8.is) ∙ c.values.ensures.shows

pub total_unsigned-requires-clause-typed : goal.total_unsigned-requires-clause-typed
total_unsigned-requires-clause-typed g c = ap sum_ptype (sym c.values.ensures.typed ∙ ap ptype_of c.in-U8.is)

pub total_unsigned-requires-in-U16-clause-stored : goal.total_unsigned-requires-in-U16-clause-stored
total_unsigned-requires-in-U16-clause-stored g c = ap (map (λ (n : ℕ). pos n)) c.as_slice-in-U16.ensures.value ∙ sym (ap numbers c.in-U16.is) ∙ c.values.ensures.shows

pub total_unsigned-requires-in-U16-clause-typed : goal.total_unsigned-requires-in-U16-clause-typed
total_unsigned-requires-in-U16-clause-typed g c = ap sum_ptype (sym c.values.ensures.typed ∙ ap ptype_of c.in-U16.is)

pub total_unsigned-requires-in-U32-clause-stored : goal.total_unsigned-requires-in-U32-clause-stored
total_unsigned-requires-in-U32-clause-stored g c = ap (map (λ (n : ℕ). pos n)) c.as_slice-in-U32.ensures.value ∙ sym (ap numbers c.in-U32.is) ∙ c.values.ensures.shows

pub total_unsigned-requires-in-U32-clause-typed : goal.total_unsigned-requires-in-U32-clause-typed
total_unsigned-requires-in-U32-clause-typed g c = ap sum_ptype (sym c.values.ensures.typed ∙ ap ptype_of c.in-U32.is)

pub total_unsigned-requires-in-U64-clause-stored : goal.total_unsigned-requires-in-U64-clause-stored
total_unsigned-requires-in-U64-clause-stored g c = ap (map (λ (n : ℕ). pos n)) c.as_slice-in-U64.ensures.value ∙ sym (ap numbers c.in-U64.is) ∙ c.values.ensures.shows

pub total_unsigned-requires-in-U64-clause-typed : goal.total_unsigned-requires-in-U64-clause-typed
total_unsigned-requires-in-U64-clause-typed g c = ap sum_ptype (sym c.values.ensures.typed ∙ ap ptype_of c.in-U64.is)
