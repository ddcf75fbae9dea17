use Rattle.column_fields.proofs.Varints.{if_none}
use Rattle.column_bytes.proofs.TextLaws.{no_sizes, no_content, are_items}
use Rattle.column_bytes.proofs.text_reading.read_text_items.Goals as goal

pub returns-in_err-sizes-clause-none : goal.returns-in_err-sizes-clause-none
returns-in_err-sizes-clause-none c = if_none _ _ (no_sizes c.args.bytes.now c.in_err-sizes.ensures.none)

pub returns-in_err-content-clause-none : goal.returns-in_err-content-clause-none
returns-in_err-content-clause-none c =
    if_none _ _ (no_content c.args.bytes.now c.in_ok-sizes.rest.now c.in_ok-sizes.sizes.now c.in_ok-sizes.ensures.small c.in_ok-sizes.ensures.found c.in_err-content.ensures.none)

pub returns-clause-found : goal.returns-clause-found
returns-clause-found c = are_items c.args.bytes.now c.in_ok-sizes.rest.now c.in_ok-sizes.sizes.now c.in_ok-content.content.now c.in_ok-sizes.ensures.found c.in_ok-content.ensures.found
