use Rattle.std.proofs.Common.{◌∙◌, length}
use Rattle.runend_array.specs.Lists.{list_dtype, list_rows}
use Rattle.runend_column.proofs.ListsTaken.{take_dtype-required}
use Rattle.runend_column.proofs.SetPlaces.{positions-places, take_rows-positions}
use Rattle.runend_column.proofs.ComputedRows.{ok_then}
use Rattle.runend_column.proofs.PassedOn.{no_value, only_error}
use Rattle.runend_column.proofs.list_values.lists_at_bits.Goals as goal

pub take_lists-kept-requires-clause-within : goal.take_lists-kept-requires-clause-within
take_lists-kept-requires-clause-within g c =
    positions-places c.args.bits.now (length (list_rows c.args.lists.now)) c.as_slice.result.now c.requires.masked (c.as_slice.ensures.value ∙ c.in_ok-places.ensures.places)

pub returns-in_err-places-clause-only : goal.returns-in_err-places-clause-only
returns-in_err-places-clause-only g c = only_error c.from_residual.result c.in_err-places.field-0.0 _ c.from_residual.ensures.1 c.in_err-places.ensures.only

pub returns-in_err-places-clause-made : goal.returns-in_err-places-clause-made
returns-in_err-places-clause-made g c = no_value _ c.from_residual.result c.from_residual.ensures.0

pub returns-clause-only : goal.returns-clause-only
returns-clause-only g c = c.take_lists-kept.ensures.only

pub returns-clause-made : goal.returns-clause-made
returns-clause-made g c =
    ok_then c.take_lists-kept.result _ _
    (λ kept made. record {
      rows = made.rows ∙ take_rows-positions c.args.bits.now (list_rows c.args.lists.now) c.as_slice.result.now c.requires.masked (c.as_slice.ensures.value ∙ c.in_ok-places.ensures.places);
      dtype = made.dtype ∙ take_dtype-required (list_dtype c.args.lists.now);
      form = made.form;
    }) c.take_lists-kept.ensures.made
