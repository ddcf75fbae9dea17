use Rattle.std.proofs.Common.{arith, refl}
use Rattle.column_fields.proofs.Varints.{if_none}
use Rattle.column_base.specs.ValidityForm.{NeverNull, NoneNull, AllNull}
use Rattle.column_fields.proofs.ValidityLaws.{no_kind, other_kind, no_content, no_bits, is_plain, is_bits}
use Rattle.column_fields.proofs.HeldNumbers.{held_long}
use Rattle.column_fields.proofs.validity_views.view_validity.Goals as goal

pub returns-in_err-kind-clause-none : goal.returns-in_err-kind-clause-none
returns-in_err-kind-clause-none c = if_none _ _ (no_kind _ _ c.in_err-kind.ensures.none)

pub returns-in-1-clause-found : goal.returns-in-1-clause-found
returns-in-1-clause-found c = is_plain NeverNull _ _ c.in_ok-kind.rest.now c.in-1.is refl c.in_ok-kind.ensures.found

pub returns-in-2-clause-found : goal.returns-in-2-clause-found
returns-in-2-clause-found c = is_plain NoneNull _ _ c.in_ok-kind.rest.now c.in-2.is refl c.in_ok-kind.ensures.found

pub returns-in-3-clause-found : goal.returns-in-3-clause-found
returns-in-3-clause-found c = is_plain AllNull _ _ c.in_ok-kind.rest.now c.in-3.is refl c.in_ok-kind.ensures.found

pub returns-in_err-content-in-4-clause-none : goal.returns-in_err-content-in-4-clause-none
returns-in_err-content-in-4-clause-none c =
    if_none _ _ (no_content _ _ _ c.in_ok-kind.rest.now (omega arith) c.in-4.is c.in_ok-kind.ensures.found c.in_err-content-in-4.ensures.none)

pub returns-then-not-holds_bits-clause-none : goal.returns-then-not-holds_bits-clause-none
returns-then-not-holds_bits-clause-none c =
    no_bits _ _ _ c.in_ok-kind.rest.now c.in_ok-content-in-4.content.now c.in_ok-content-in-4.after.now (omega arith) c.in-4.is c.in_ok-kind.ensures.found c.in_ok-content-in-4.ensures.found c.in_ok-content-in-4.ensures.small (rw c.if-not-holds_bits.true at c.holds_bits.ensures.no)

pub returns-else-not-holds_bits-clause-found : goal.returns-else-not-holds_bits-clause-found
returns-else-not-holds_bits-clause-found c =
    let h = rw c.if-not-holds_bits.false at c.holds_bits.ensures.yes in
    is_bits _ _ _ c.in_ok-kind.rest.now c.in_ok-content-in-4.content.now c.in_ok-content-in-4.after.now c.in-4.is c.in_ok-kind.ensures.found c.in_ok-content-in-4.ensures.found h.shows

pub returns-in_default-clause-none : goal.returns-in_default-clause-none
returns-in_default-clause-none c =
    other_kind _ _ _ c.in_ok-kind.rest.now c.in_ok-kind.ensures.small c.in_ok-kind.ensures.found (λ e. omega arith) (λ e. omega arith) (λ e. omega arith) (λ e. omega arith)

pub returns-else-not-holds_bits-clause-held : goal.returns-else-not-holds_bits-clause-held
returns-else-not-holds_bits-clause-held c =
    let h = rw c.if-not-holds_bits.false at c.holds_bits.ensures.yes in
    held_long c.args.rows c.in_ok-content-in-4.content.now h
