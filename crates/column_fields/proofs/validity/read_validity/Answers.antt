use Rattle.std.proofs.Common.{arith, refl, sym, ◌∙◌}
use Rattle.std.proofs.lemmas.Result.{err_from_is_err_and}
use Rattle.column_base.specs.ValidityForm.{NeverNull, NoneNull, AllNull}
use Rattle.column_fields.proofs.ValidityLaws.{no_kind, other_kind, no_content, other_length, no_bits, is_plain, is_bits}
use Rattle.column_fields.proofs.Refusals.{same_error}
use Rattle.column_fields.proofs.validity.read_validity.Goals as goal

pub returns-in_default-clause-bad : goal.returns-in_default-clause-bad
returns-in_default-clause-bad g c = λ _. no_kind _ _ c.in_default.ensures.none

pub returns-in_default-read_bytes-clause-bad : goal.returns-in_default-read_bytes-clause-bad
returns-in_default-read_bytes-clause-bad g c = λ _. no_content _ _ _ c.in-Some.rest.now (omega arith) c.in-4.is c.in-Some.ensures.found c.in_default-read_bytes.ensures.none

pub returns-then-content-bytes_for-clause-bad : goal.returns-then-content-bytes_for-clause-bad
returns-then-content-bytes_for-clause-bad g c =
    λ _. other_length _ _ _ c.in-Some.rest.now c.in-Some-read_bytes.content.now c.in-Some-read_bytes.after.now (omega arith) c.in-4.is c.in-Some.ensures.found c.in-Some-read_bytes.ensures.found c.in-Some-read_bytes.ensures.small (λ e. c.if-content-bytes_for.true (e ∙ sym c.bytes_for.ensures))

pub returns-in_err-bits-in-4-clause-bad : goal.returns-in_err-bits-in-4-clause-bad
returns-in_err-bits-in-4-clause-bad g c =
    let p = err_from_is_err_and c.from_residual.result c.from_residual.ensures.1 in
    rw (p.1, p.2) (λ e. no_bits _ _ _ c.in-Some.rest.now c.in-Some-read_bytes.content.now c.in-Some-read_bytes.after.now (omega arith) c.in-4.is c.in-Some.ensures.found c.in-Some-read_bytes.ensures.found c.in-Some-read_bytes.ensures.small (c.in_err-bits-in-4.ensures.bad (same_error _ _ e)))

pub returns-in-1-clause-found : goal.returns-in-1-clause-found
returns-in-1-clause-found g c = is_plain NeverNull _ _ c.in-Some.rest.now c.in-1.is refl c.in-Some.ensures.found

pub returns-in-2-clause-found : goal.returns-in-2-clause-found
returns-in-2-clause-found g c = is_plain NoneNull _ _ c.in-Some.rest.now c.in-2.is refl c.in-Some.ensures.found

pub returns-in-3-clause-found : goal.returns-in-3-clause-found
returns-in-3-clause-found g c = is_plain AllNull _ _ c.in-Some.rest.now c.in-3.is refl c.in-Some.ensures.found

pub returns-in_ok-bits-in-4-clause-found : goal.returns-in_ok-bits-in-4-clause-found
returns-in_ok-bits-in-4-clause-found g c =
    is_bits _ _ _ c.in-Some.rest.now c.in-Some-read_bytes.content.now c.in-Some-read_bytes.after.now c.in-4.is c.in-Some.ensures.found c.in-Some-read_bytes.ensures.found c.in_ok-bits-in-4.ensures.shows

pub returns-in_default-kind-clause-bad : goal.returns-in_default-kind-clause-bad
returns-in_default-kind-clause-bad g c =
    λ _. other_kind _ _ _ c.in-Some.rest.now c.in-Some.ensures.small c.in-Some.ensures.found (λ e. omega arith) (λ e. omega arith) (λ e. omega arith) (λ e. omega arith)
