use Rattle.column_fields.proofs.Varints.{if_none}
use Rattle.column_fields.proofs.HeaderLaws.{no_version, no_kind, no_form, no_rows, is_header}
use Rattle.column_fields.proofs.header.read_header.Goals as goal

pub returns-in_err-after_version-clause-none : goal.returns-in_err-after_version-clause-none
returns-in_err-after_version-clause-none c = if_none _ _ (no_version _ c.in_err-after_version.ensures.none)

pub returns-in_err-kind-clause-none : goal.returns-in_err-kind-clause-none
returns-in_err-kind-clause-none c = if_none _ _ (no_kind _ c.in_ok-after_version.after_version.now c.in_ok-after_version.ensures.found c.in_err-kind.ensures.none)

pub returns-in_err-form-clause-none : goal.returns-in_err-form-clause-none
returns-in_err-form-clause-none c = if_none _ _ (no_form _ _ c.in_ok-after_version.after_version.now c.in_ok-kind.after_kind.now c.in_ok-kind.ensures.small c.in_ok-after_version.ensures.found c.in_ok-kind.ensures.found c.in_err-form.ensures.none)

pub returns-in_err-rows-clause-none : goal.returns-in_err-rows-clause-none
returns-in_err-rows-clause-none c = if_none _ _ (no_rows _ _ _ c.in_ok-after_version.after_version.now c.in_ok-kind.after_kind.now c.in_ok-form.after_form.now c.in_ok-kind.ensures.small c.in_ok-form.ensures.small c.in_ok-after_version.ensures.found c.in_ok-kind.ensures.found c.in_ok-form.ensures.found c.in_err-rows.ensures.none)

pub returns-clause-found : goal.returns-clause-found
returns-clause-found c = is_header _ _ _ _ c.in_ok-after_version.after_version.now c.in_ok-kind.after_kind.now c.in_ok-form.after_form.now c.in_ok-rows.rest.now c.in_ok-after_version.ensures.found c.in_ok-kind.ensures.found c.in_ok-form.ensures.found c.in_ok-rows.ensures.found

pub returns-clause-small : goal.returns-clause-small
returns-clause-small c = (c.in_ok-kind.ensures.small, c.in_ok-form.ensures.small, c.in_ok-rows.ensures.small)
