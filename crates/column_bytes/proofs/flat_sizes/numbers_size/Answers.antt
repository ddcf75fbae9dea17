use Rattle.std.proofs.Common.{◌≡◌, ℕ, arith, refl, rules, subst}
use Rattle.std.specs.Prelude.{IfOk, IfErr}
use Rattle.column_fields.specs.Sizes.{IsPast}
use Rattle.column_bytes.proofs.Writes.{stored_numbers}
use Rattle.column_bytes.proofs.MessageSizes.{not_below, numbers_sized, numbers_past}
use Rattle.column_bytes.proofs.flat_sizes.numbers_size.Goals as goal

pub returns-clause-size : goal.returns-clause-size
returns-clause-size g c =
    let long = numbers_sized c.args.array.now _ _ _ _ c.in-Some.count _ c.ptype-ptype.ensures c.validity-validity.ensures.form c.len-rows.ensures.numbers c.number_of_type.ensures (rw (← c.size_of_type.ensures) (search rules)) c.head_size-head.ensures.size in
    subst (λ (n : ℕ). IfOk c.size_of_total.result (λ size. size ≡ n)) long c.size_of_total.ensures.size

pub returns-clause-past : goal.returns-clause-past
returns-clause-past g c =
    let long = numbers_sized c.args.array.now _ _ _ _ c.in-Some.count _ c.ptype-ptype.ensures c.validity-validity.ensures.form c.len-rows.ensures.numbers c.number_of_type.ensures (rw (← c.size_of_type.ensures) (search rules)) c.head_size-head.ensures.size in
    subst (λ (n : ℕ). IfErr c.size_of_total.result (λ error. IsPast n error)) long c.size_of_total.ensures.past

pub returns-in_default-clause-past : goal.returns-in_default-clause-past
returns-in_default-clause-past g c =
    record { told = refl; past = numbers_past c.args.array.now _ c.len-rows.result c.ptype-ptype.ensures c.len-rows.ensures.numbers (rw (← c.size_of_type.ensures) (not_below _ _ c.in_default.ensures)) }

pub returns-in_default-clause-stored : goal.returns-in_default-clause-stored
returns-in_default-clause-stored g c =
    stored_numbers c.args.array.now _ _ c.len-rows.result c.values.ensures.typed c.values.ensures.shows c.len-rows.ensures.numbers (omega arith) c.values_fit.ensures c.validity-validity.ensures.counted

pub returns-clause-stored : goal.returns-clause-stored
returns-clause-stored g c =
    stored_numbers c.args.array.now _ _ c.len-rows.result c.values.ensures.typed c.values.ensures.shows c.len-rows.ensures.numbers (omega arith) c.values_fit.ensures c.validity-validity.ensures.counted
