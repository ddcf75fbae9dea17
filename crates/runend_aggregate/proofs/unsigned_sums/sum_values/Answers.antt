use Rattle.std.proofs.Common.{◌∙◌, ℕ, map, pos, sym, ap}
use Rattle.column_base.specs.Numbers.{numbers}
use Rattle.column_base.specs.Validity.{form_of}
use Rattle.runend_aggregate.proofs.StoredValues.{stored_values}
use Rattle.runend_aggregate.proofs.unsigned_sums.sum_values.Goals as goal

pub sum_items-requires-clause-items : goal.sum_items-requires-clause-items
sum_items-requires-clause-items g c =
    let shown = ap (map (λ (n : ℕ). pos n)) c.as_slice.ensures.value ∙ sym (ap numbers c.in-U8.is) ∙ c.values.ensures.shows in
    let validity = form_of c.validity-validity.result.now in
    stored_values (λ (n : ℕ). pos n) c.as_slice.result.now validity c.args.values.now c.args.array.now.values shown c.validity-validity.ensures.form c.requires.values

pub returns-in-U8 : goal.returns-in-U8
returns-in-U8 g c = record { answer = c.sum_items.ensures.answer; calls = c.sum_items.ensures.calls; few = c.sum_items.ensures.few; additions = c.sum_items.ensures.additions }

pub sum_items-requires-in-U16-clause-items : goal.sum_items-requires-in-U16-clause-items
sum_items-requires-in-U16-clause-items g c =
    let shown = ap (map (λ (n : ℕ). pos n)) c.as_slice-in-U16.ensures.value ∙ sym (ap numbers c.in-U16.is) ∙ c.values.ensures.shows in
    let validity = form_of c.validity-validity.result.now in
    stored_values (λ (n : ℕ). pos n) c.as_slice-in-U16.result.now validity c.args.values.now c.args.array.now.values shown c.validity-validity.ensures.form c.requires.values

pub returns-in-U16 : goal.returns-in-U16
returns-in-U16 g c = record { answer = c.sum_items-in-U16.ensures.answer; calls = c.sum_items-in-U16.ensures.calls; few = c.sum_items-in-U16.ensures.few; additions = c.sum_items-in-U16.ensures.additions }

pub sum_items-requires-in-U32-clause-items : goal.sum_items-requires-in-U32-clause-items
sum_items-requires-in-U32-clause-items g c =
    let shown = ap (map (λ (n : ℕ). pos n)) c.as_slice-in-U32.ensures.value ∙ sym (ap numbers c.in-U32.is) ∙ c.values.ensures.shows in
    let validity = form_of c.validity-validity.result.now in
    stored_values (λ (n : ℕ). pos n) c.as_slice-in-U32.result.now validity c.args.values.now c.args.array.now.values shown c.validity-validity.ensures.form c.requires.values

pub returns-in-U32 : goal.returns-in-U32
returns-in-U32 g c = record { answer = c.sum_items-in-U32.ensures.answer; calls = c.sum_items-in-U32.ensures.calls; few = c.sum_items-in-U32.ensures.few; additions = c.sum_items-in-U32.ensures.additions }

pub sum_items-requires-in-U64-clause-items : goal.sum_items-requires-in-U64-clause-items
sum_items-requires-in-U64-clause-items g c =
    let shown = ap (map (λ (n : ℕ). pos n)) c.as_slice-in-U64.ensures.value ∙ sym (ap numbers c.in-U64.is) ∙ c.values.ensures.shows in
    let validity = form_of c.validity-validity.result.now in
    stored_values (λ (n : ℕ). pos n) c.as_slice-in-U64.result.now validity c.args.values.now c.args.array.now.values shown c.validity-validity.ensures.form c.requires.values

pub returns-in-U64 : goal.returns-in-U64
returns-in-U64 g c = record { answer = c.sum_items-in-U64.ensures.answer; calls = c.sum_items-in-U64.ensures.calls; few = c.sum_items-in-U64.ensures.few; additions = c.sum_items-in-U64.ensures.additions }
