use Rattle.std.proofs.Common.{◌∙◌, ℤ, sym, ap}
use Rattle.std.proofs.lemmas.List.{map-id}
use Rattle.column_base.specs.Numbers.{numbers}
use Rattle.column_base.specs.Validity.{form_of}
use Rattle.runend_aggregate.proofs.StoredValues.{stored_values}
use Rattle.runend_aggregate.proofs.signed_sums.sum_values.Goals as goal

pub sum_items-requires-clause-items : goal.sum_items-requires-clause-items
sum_items-requires-clause-items g c =
    let shown = map-id c.as_slice.result.now ∙ c.as_slice.ensures.value ∙ sym (ap numbers c.in-I8.is) ∙ c.values.ensures.shows in
    let validity = form_of c.validity-validity.result.now in
    stored_values (λ (n : ℤ). n) c.as_slice.result.now validity c.args.values.now c.args.array.now.values shown c.validity-validity.ensures.form c.requires.values

pub returns-in-I8 : goal.returns-in-I8
returns-in-I8 g c = record { answer = c.sum_items.ensures.answer; calls = c.sum_items.ensures.calls; few = c.sum_items.ensures.few; additions = c.sum_items.ensures.additions }

pub sum_items-requires-in-I16-clause-items : goal.sum_items-requires-in-I16-clause-items
sum_items-requires-in-I16-clause-items g c =
    let shown = map-id c.as_slice-in-I16.result.now ∙ c.as_slice-in-I16.ensures.value ∙ sym (ap numbers c.in-I16.is) ∙ c.values.ensures.shows in
    let validity = form_of c.validity-validity.result.now in
    stored_values (λ (n : ℤ). n) c.as_slice-in-I16.result.now validity c.args.values.now c.args.array.now.values shown c.validity-validity.ensures.form c.requires.values

pub returns-in-I16 : goal.returns-in-I16
returns-in-I16 g c = record { answer = c.sum_items-in-I16.ensures.answer; calls = c.sum_items-in-I16.ensures.calls; few = c.sum_items-in-I16.ensures.few; additions = c.sum_items-in-I16.ensures.additions }

pub sum_items-requires-in-I32-clause-items : goal.sum_items-requires-in-I32-clause-items
sum_items-requires-in-I32-clause-items g c =
    let shown = map-id c.as_slice-in-I32.result.now ∙ c.as_slice-in-I32.ensures.value ∙ sym (ap numbers c.in-I32.is) ∙ c.values.ensures.shows in
    let validity = form_of c.validity-validity.result.now in
    stored_values (λ (n : ℤ). n) c.as_slice-in-I32.result.now validity c.args.values.now c.args.array.now.values shown c.validity-validity.ensures.form c.requires.values

pub returns-in-I32 : goal.returns-in-I32
returns-in-I32 g c = record { answer = c.sum_items-in-I32.ensures.answer; calls = c.sum_items-in-I32.ensures.calls; few = c.sum_items-in-I32.ensures.few; additions = c.sum_items-in-I32.ensures.additions }

pub sum_items-requires-in-I64-clause-items : goal.sum_items-requires-in-I64-clause-items
sum_items-requires-in-I64-clause-items g c =
    let shown = map-id c.as_slice-in-I64.result.now ∙ c.as_slice-in-I64.ensures.value ∙ sym (ap numbers c.in-I64.is) ∙ c.values.ensures.shows in
    let validity = form_of c.validity-validity.result.now in
    stored_values (λ (n : ℤ). n) c.as_slice-in-I64.result.now validity c.args.values.now c.args.array.now.values shown c.validity-validity.ensures.form c.requires.values

pub returns-in-I64 : goal.returns-in-I64
returns-in-I64 g c = record { answer = c.sum_items-in-I64.ensures.answer; calls = c.sum_items-in-I64.ensures.calls; few = c.sum_items-in-I64.ensures.few; additions = c.sum_items-in-I64.ensures.additions }
