use Rattle.std.proofs.Common.{◌≡◌, ◌∙◌, ℕ, List, pos, map, sym, ap, subst}
use Rattle.std.specs.Prelude.{IfOk}
use Rattle.column_base.specs.Numbers.{numbers}
use Rattle.runend_windows.proofs.Ends.{numbers_stored}
use Rattle.runend_encode.specs.Windows.{start_in}
use Rattle.runend_encode.proofs.row_ends.row_ends.Goals as goal

pub returns-in-U8-match_each_unsigned-clause-rows : goal.returns-in-U8-match_each_unsigned-clause-rows
returns-in-U8-match_each_unsigned-clause-rows g c =
    let shown = ap (map pos) c.as_slice.ensures.value ∙ sym (ap numbers c.in-U8-match_each_unsigned.is) ∙ c.values.ensures.shows in
    subst (λ (ends : List ℕ). IfOk c.rows_of.result (λ rows. rows.items ≡ map (start_in ends c.args.offset c.args.count) c.args.runs.now))
    (numbers_stored c.as_slice.result.now c.args.ends.now.numbers shown) c.rows_of.ensures.rows

pub returns-in-U16-match_each_unsigned-clause-rows : goal.returns-in-U16-match_each_unsigned-clause-rows
returns-in-U16-match_each_unsigned-clause-rows g c =
    let shown = ap (map pos) c.as_slice-2.ensures.value ∙ sym (ap numbers c.in-U16-match_each_unsigned.is) ∙ c.values.ensures.shows in
    subst (λ (ends : List ℕ). IfOk c.rows_of-2.result (λ rows. rows.items ≡ map (start_in ends c.args.offset c.args.count) c.args.runs.now))
    (numbers_stored c.as_slice-2.result.now c.args.ends.now.numbers shown) c.rows_of-2.ensures.rows

pub returns-in-U32-match_each_unsigned-clause-rows : goal.returns-in-U32-match_each_unsigned-clause-rows
returns-in-U32-match_each_unsigned-clause-rows g c =
    let shown = ap (map pos) c.as_slice-3.ensures.value ∙ sym (ap numbers c.in-U32-match_each_unsigned.is) ∙ c.values.ensures.shows in
    subst (λ (ends : List ℕ). IfOk c.rows_of-3.result (λ rows. rows.items ≡ map (start_in ends c.args.offset c.args.count) c.args.runs.now))
    (numbers_stored c.as_slice-3.result.now c.args.ends.now.numbers shown) c.rows_of-3.ensures.rows

pub returns-in-U64-match_each_unsigned-clause-rows : goal.returns-in-U64-match_each_unsigned-clause-rows
returns-in-U64-match_each_unsigned-clause-rows g c =
    let shown = ap (map pos) c.as_slice-4.ensures.value ∙ sym (ap numbers c.in-U64-match_each_unsigned.is) ∙ c.values.ensures.shows in
    subst (λ (ends : List ℕ). IfOk c.rows_of-4.result (λ rows. rows.items ≡ map (start_in ends c.args.offset c.args.count) c.args.runs.now))
    (numbers_stored c.as_slice-4.result.now c.args.ends.now.numbers shown) c.rows_of-4.ensures.rows
