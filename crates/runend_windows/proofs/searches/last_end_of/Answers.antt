use Rattle.std.proofs.Common.{pos, map, sym, ap, ◌∙◌}
use Rattle.column_base.specs.Numbers.{numbers}
use Rattle.runend_windows.specs.Window.{last_end}
use Rattle.runend_windows.proofs.Ends.{numbers_stored}
use Rattle.runend_windows.proofs.searches.last_end_of.Goals as goal

pub returns-in-U8-match_each_unsigned : goal.returns-in-U8-match_each_unsigned
returns-in-U8-match_each_unsigned g c =
    let shown = ap (map pos) c.as_slice.ensures.value ∙ sym (ap numbers c.in-U8-match_each_unsigned.is) ∙ c.values.ensures.shows in
    c.last_item.ensures ∙ ap last_end (numbers_stored c.as_slice.result.now c.args.ends.now.numbers shown)

pub returns-in-U16-match_each_unsigned : goal.returns-in-U16-match_each_unsigned
returns-in-U16-match_each_unsigned g c =
    let shown = ap (map pos) c.as_slice-2.ensures.value ∙ sym (ap numbers c.in-U16-match_each_unsigned.is) ∙ c.values.ensures.shows in
    c.last_item-2.ensures ∙ ap last_end (numbers_stored c.as_slice-2.result.now c.args.ends.now.numbers shown)

pub returns-in-U32-match_each_unsigned : goal.returns-in-U32-match_each_unsigned
returns-in-U32-match_each_unsigned g c =
    let shown = ap (map pos) c.as_slice-3.ensures.value ∙ sym (ap numbers c.in-U32-match_each_unsigned.is) ∙ c.values.ensures.shows in
    c.last_item-3.ensures ∙ ap last_end (numbers_stored c.as_slice-3.result.now c.args.ends.now.numbers shown)

pub returns-in-U64-match_each_unsigned : goal.returns-in-U64-match_each_unsigned
returns-in-U64-match_each_unsigned g c =
    let shown = ap (map pos) c.as_slice-4.ensures.value ∙ sym (ap numbers c.in-U64-match_each_unsigned.is) ∙ c.values.ensures.shows in
    c.last_item-4.ensures ∙ ap last_end (numbers_stored c.as_slice-4.result.now c.args.ends.now.numbers shown)
