use Rattle.std.proofs.Common.{ℕ, pos, List, map, sym, ap, ◌∙◌}
use Rattle.std.specs.Prelude.{count_by, nat_le}
use Rattle.column_base.specs.Numbers.{numbers}
use Rattle.runend_windows.proofs.Ends.{increasing_stored, numbers_stored}
use Rattle.runend_windows.specs.Window.{run_at}
use Rattle.runend_windows.proofs.searches.first_past_among.Goals as goal

pub first_past_in-requires : goal.first_past_in-requires
first_past_in-requires g c = rw c.as_slice.ensures.value (increasing_stored (numbers c.args.ends.now) _ (ap numbers c.in-U8-match_each_unsigned.is) c.requires.increasing)

pub first_past_in-requires-2 : goal.first_past_in-requires-2
first_past_in-requires-2 g c = rw c.as_slice-2.ensures.value (increasing_stored (numbers c.args.ends.now) _ (ap numbers c.in-U16-match_each_unsigned.is) c.requires.increasing)

pub first_past_in-requires-3 : goal.first_past_in-requires-3
first_past_in-requires-3 g c = rw c.as_slice-3.ensures.value (increasing_stored (numbers c.args.ends.now) _ (ap numbers c.in-U32-match_each_unsigned.is) c.requires.increasing)

pub first_past_in-requires-4 : goal.first_past_in-requires-4
first_past_in-requires-4 g c = rw c.as_slice-4.ensures.value (increasing_stored (numbers c.args.ends.now) _ (ap numbers c.in-U64-match_each_unsigned.is) c.requires.increasing)

pub returns-in-U8-match_each_unsigned-clause-place : goal.returns-in-U8-match_each_unsigned-clause-place
returns-in-U8-match_each_unsigned-clause-place g c =
    c.first_past_in.ensures.place ∙ ap (λ (ends : List ℕ). run_at ends c.args.row) (numbers_stored c.as_slice.result.now (numbers c.args.ends.now) (ap (map pos) c.as_slice.ensures.value ∙ sym (ap numbers c.in-U8-match_each_unsigned.is)))

pub returns-in-U8-match_each_unsigned-clause-count : goal.returns-in-U8-match_each_unsigned-clause-count
returns-in-U8-match_each_unsigned-clause-count g c =
    c.first_past_in.ensures.count ∙ ap (λ (ends : List ℕ). count_by (λ e. nat_le e c.args.row) ends) (numbers_stored c.as_slice.result.now (numbers c.args.ends.now) (ap (map pos) c.as_slice.ensures.value ∙ sym (ap numbers c.in-U8-match_each_unsigned.is)))

pub returns-in-U16-match_each_unsigned-clause-place : goal.returns-in-U16-match_each_unsigned-clause-place
returns-in-U16-match_each_unsigned-clause-place g c =
    c.first_past_in-2.ensures.place ∙ ap (λ (ends : List ℕ). run_at ends c.args.row) (numbers_stored c.as_slice-2.result.now (numbers c.args.ends.now) (ap (map pos) c.as_slice-2.ensures.value ∙ sym (ap numbers c.in-U16-match_each_unsigned.is)))

pub returns-in-U16-match_each_unsigned-clause-count : goal.returns-in-U16-match_each_unsigned-clause-count
returns-in-U16-match_each_unsigned-clause-count g c =
    c.first_past_in-2.ensures.count ∙ ap (λ (ends : List ℕ). count_by (λ e. nat_le e c.args.row) ends) (numbers_stored c.as_slice-2.result.now (numbers c.args.ends.now) (ap (map pos) c.as_slice-2.ensures.value ∙ sym (ap numbers c.in-U16-match_each_unsigned.is)))

pub returns-in-U32-match_each_unsigned-clause-place : goal.returns-in-U32-match_each_unsigned-clause-place
returns-in-U32-match_each_unsigned-clause-place g c =
    c.first_past_in-3.ensures.place ∙ ap (λ (ends : List ℕ). run_at ends c.args.row) (numbers_stored c.as_slice-3.result.now (numbers c.args.ends.now) (ap (map pos) c.as_slice-3.ensures.value ∙ sym (ap numbers c.in-U32-match_each_unsigned.is)))

pub returns-in-U32-match_each_unsigned-clause-count : goal.returns-in-U32-match_each_unsigned-clause-count
returns-in-U32-match_each_unsigned-clause-count g c =
    c.first_past_in-3.ensures.count ∙ ap (λ (ends : List ℕ). count_by (λ e. nat_le e c.args.row) ends) (numbers_stored c.as_slice-3.result.now (numbers c.args.ends.now) (ap (map pos) c.as_slice-3.ensures.value ∙ sym (ap numbers c.in-U32-match_each_unsigned.is)))

pub returns-in-U64-match_each_unsigned-clause-place : goal.returns-in-U64-match_each_unsigned-clause-place
returns-in-U64-match_each_unsigned-clause-place g c =
    c.first_past_in-4.ensures.place ∙ ap (λ (ends : List ℕ). run_at ends c.args.row) (numbers_stored c.as_slice-4.result.now (numbers c.args.ends.now) (ap (map pos) c.as_slice-4.ensures.value ∙ sym (ap numbers c.in-U64-match_each_unsigned.is)))

pub returns-in-U64-match_each_unsigned-clause-count : goal.returns-in-U64-match_each_unsigned-clause-count
returns-in-U64-match_each_unsigned-clause-count g c =
    c.first_past_in-4.ensures.count ∙ ap (λ (ends : List ℕ). count_by (λ e. nat_le e c.args.row) ends) (numbers_stored c.as_slice-4.result.now (numbers c.args.ends.now) (ap (map pos) c.as_slice-4.ensures.value ∙ sym (ap numbers c.in-U64-match_each_unsigned.is)))
