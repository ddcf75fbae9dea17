use Rattle.std.proofs.Common.{◌≡◌, ℕ, arith, subst}
use Rattle.std.specs.Prelude.{IfOk, IfErr}
use Rattle.column_fields.specs.Sizes.{IsPast}
use Rattle.column_bytes.proofs.MessageSizes.{truths_sized}
use Rattle.column_bytes.proofs.flat_sizes.truths_size.Goals as goal

pub returns-clause-size : goal.returns-clause-size
returns-clause-size g c =
    let long = truths_sized c.args.array.now _ _ c.bytes_for-count.result _ c.validity.ensures.form c.len-rows.ensures.bits c.bytes_for-count.ensures c.head_size-head.ensures.size in
    subst (λ (n : ℕ). IfOk c.size_of_total.result (λ size. size ≡ n)) long c.size_of_total.ensures.size

pub returns-clause-past : goal.returns-clause-past
returns-clause-past g c =
    let long = truths_sized c.args.array.now _ _ c.bytes_for-count.result _ c.validity.ensures.form c.len-rows.ensures.bits c.bytes_for-count.ensures c.head_size-head.ensures.size in
    subst (λ (n : ℕ). IfErr c.size_of_total.result (λ error. IsPast n error)) long c.size_of_total.ensures.past

pub returns-clause-stored : goal.returns-clause-stored
returns-clause-stored g c = record { counted = c.validity.ensures.counted; small = omega (arith, c.len-rows.ensures.bits) }
