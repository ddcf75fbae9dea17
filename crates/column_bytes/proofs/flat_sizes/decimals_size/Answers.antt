use Rattle.std.proofs.Common.{◌≡◌, ℕ, arith, refl, rules, subst}
use Rattle.std.specs.Prelude.{IfOk, IfErr}
use Rattle.column_fields.specs.Sizes.{IsPast}
use Rattle.column_bytes.proofs.Writes.{stored_decimals}
use Rattle.column_bytes.proofs.MessageSizes.{not_below, decimals_sized, decimals_past}
use Rattle.column_bytes.proofs.flat_sizes.decimals_size.Goals as goal

pub returns-clause-size : goal.returns-clause-size
returns-clause-size g c =
    let long = decimals_sized c.args.array.now _ _ _ c.in-Some.count _ _ c.validity-validity.ensures.form c.decimal_dtype.ensures c.len-rows.ensures.numbers (search rules) c.head_size-head.ensures.size c.decimal_type_size-typed.ensures.size in
    subst (λ (n : ℕ). IfOk c.size_of_total.result (λ size. size ≡ n)) long c.size_of_total.ensures.size

pub returns-clause-past : goal.returns-clause-past
returns-clause-past g c =
    let long = decimals_sized c.args.array.now _ _ _ c.in-Some.count _ _ c.validity-validity.ensures.form c.decimal_dtype.ensures c.len-rows.ensures.numbers (search rules) c.head_size-head.ensures.size c.decimal_type_size-typed.ensures.size in
    subst (λ (n : ℕ). IfErr c.size_of_total.result (λ error. IsPast n error)) long c.size_of_total.ensures.past

pub returns-in_default-clause-past : goal.returns-in_default-clause-past
returns-in_default-clause-past g c = record { told = refl; past = decimals_past c.args.array.now c.len-rows.result c.len-rows.ensures.numbers (not_below _ _ c.in_default.ensures) }

pub returns-in_default-clause-stored : goal.returns-in_default-clause-stored
returns-in_default-clause-stored g c = stored_decimals c.args.array.now _ _ c.len-rows.result c.decimal_dtype.ensures c.values.ensures c.len-rows.ensures.numbers (omega arith) c.decimals_fit.ensures c.decimal_type_size-typed.ensures.typed c.validity-validity.ensures.counted

pub returns-clause-stored : goal.returns-clause-stored
returns-clause-stored g c = stored_decimals c.args.array.now _ _ c.len-rows.result c.decimal_dtype.ensures c.values.ensures c.len-rows.ensures.numbers (omega arith) c.decimals_fit.ensures c.decimal_type_size-typed.ensures.typed c.validity-validity.ensures.counted
