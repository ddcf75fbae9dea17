use Rattle.std.proofs.Common.{◌∙◌, ℕ, map, pos, sym, ap}
use Rattle.column_base.specs.Numbers.{numbers}
use Rattle.runend_windows.proofs.Ends.{numbers_stored}
use Rattle.runend_aggregate.proofs.signed_sums.sum_signed_visible.Goals as goal

pub sum_over-requires-clause-ends : goal.sum_over-requires-clause-ends
sum_over-requires-clause-ends g c =
    let shown = ap (map (λ (n : ℕ). pos n)) c.as_slice.ensures.value ∙ sym (ap numbers c.in-U8-match_each_unsigned.is) ∙ c.values.ensures.shows in
    numbers_stored c.as_slice.result.now c.plain_ends-ends.result.now.numbers shown ∙ c.plain_ends-ends.ensures.ends

pub returns-in-U8-match_each_unsigned : goal.returns-in-U8-match_each_unsigned
returns-in-U8-match_each_unsigned g c = record { answer = c.sum_over.ensures.answer; calls = c.sum_over.ensures.calls; few = c.sum_over.ensures.few; additions = c.sum_over.ensures.additions; valid = c.plain_ends-ends.ensures.valid }

pub sum_over-requires-2-clause-ends : goal.sum_over-requires-2-clause-ends
sum_over-requires-2-clause-ends g c =
    let shown = ap (map (λ (n : ℕ). pos n)) c.as_slice-2.ensures.value ∙ sym (ap numbers c.in-U16-match_each_unsigned.is) ∙ c.values.ensures.shows in
    numbers_stored c.as_slice-2.result.now c.plain_ends-ends.result.now.numbers shown ∙ c.plain_ends-ends.ensures.ends

pub returns-in-U16-match_each_unsigned : goal.returns-in-U16-match_each_unsigned
returns-in-U16-match_each_unsigned g c = record { answer = c.sum_over-2.ensures.answer; calls = c.sum_over-2.ensures.calls; few = c.sum_over-2.ensures.few; additions = c.sum_over-2.ensures.additions; valid = c.plain_ends-ends.ensures.valid }

pub sum_over-requires-3-clause-ends : goal.sum_over-requires-3-clause-ends
sum_over-requires-3-clause-ends g c =
    let shown = ap (map (λ (n : ℕ). pos n)) c.as_slice-3.ensures.value ∙ sym (ap numbers c.in-U32-match_each_unsigned.is) ∙ c.values.ensures.shows in
    numbers_stored c.as_slice-3.result.now c.plain_ends-ends.result.now.numbers shown ∙ c.plain_ends-ends.ensures.ends

pub returns-in-U32-match_each_unsigned : goal.returns-in-U32-match_each_unsigned
returns-in-U32-match_each_unsigned g c = record { answer = c.sum_over-3.ensures.answer; calls = c.sum_over-3.ensures.calls; few = c.sum_over-3.ensures.few; additions = c.sum_over-3.ensures.additions; valid = c.plain_ends-ends.ensures.valid }

pub sum_over-requires-4-clause-ends : goal.sum_over-requires-4-clause-ends
sum_over-requires-4-clause-ends g c =
    let shown = ap (map (λ (n : ℕ). pos n)) c.as_slice-4.ensures.value ∙ sym (ap numbers c.in-U64-match_each_unsigned.is) ∙ c.values.ensures.shows in
    numbers_stored c.as_slice-4.result.now c.plain_ends-ends.result.now.numbers shown ∙ c.plain_ends-ends.ensures.ends

pub returns-in-U64-match_each_unsigned : goal.returns-in-U64-match_each_unsigned
returns-in-U64-match_each_unsigned g c = record { answer = c.sum_over-4.ensures.answer; calls = c.sum_over-4.ensures.calls; few = c.sum_over-4.ensures.few; additions = c.sum_over-4.ensures.additions; valid = c.plain_ends-ends.ensures.valid }
