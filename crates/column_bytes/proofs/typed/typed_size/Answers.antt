use Rattle.std.proofs.Common.{◌≡◌, arith, length}
use Rattle.std.proofs.lemmas.Result.{IfOk-weaker, err_from_is_err_and}
use Rattle.column_fields.proofs.Refusals.{same_error}
use Rattle.runend_array.specs.Array.{column_of}
use Rattle.column_bytes.specs.Bytes.{column_bytes}
use Rattle.column_bytes.proofs.TypedMessages.{past_of, typed_counted, typed_more}
use Rattle.column_bytes.proofs.typed.typed_size.Goals as goal

pub returns-in_err-size-clause-past : goal.returns-in_err-size-clause-past
returns-in_err-size-clause-past g c =
    let p = err_from_is_err_and c.from_residual.result c.from_residual.ensures.1 in
    rw (p.1, p.2) (λ e. omega (arith, typed_more c.args.format.now (column_bytes (column_of c.args.array.now)), c.in_err-size.ensures.past (same_error _ _ e)))

pub returns-clause-size : goal.returns-clause-size
returns-clause-size g c =
    let long = typed_counted c.args.format.now (column_bytes (column_of c.args.array.now)) c.in_ok-size.size (omega arith) c.in_ok-size.ensures.size in
    IfOk-weaker c.size_of_total.result _ _ (λ size h. omega (arith, h, long, c.number_size.ensures.size, c.bytes_key_size.ensures.size, c.bytes_key_size-2.ensures.size)) c.size_of_total.ensures.size

pub returns-clause-past : goal.returns-clause-past
returns-clause-past g c =
    let long = typed_counted c.args.format.now (column_bytes (column_of c.args.array.now)) c.in_ok-size.size (omega arith) c.in_ok-size.ensures.size in
    λ h. omega (arith, past_of c.size_of_total.result _ c.size_of_total.ensures.past h, long, c.number_size.ensures.size, c.bytes_key_size.ensures.size, c.bytes_key_size-2.ensures.size)
