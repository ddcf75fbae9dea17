use Rattle.std.proofs.Common.{◌≡◌, ◌∙◌, ◌<◌, ◌-◌, ◌++◌, ℕ, ℤ, List, Option, ap, arith, length, length-take, map, replicate, subst, sym, take}
use Rattle.std.specs.Prelude.{option_map}
use Rattle.std.proofs.lemmas.List.{take_all}
use Rattle.column_base.specs.Validity.{form_of, validity_flags}
use Rattle.column_core.specs.Optionals.{optionals}
use Rattle.runend_windows.specs.Ends.{ends_of}
use Rattle.runend_windows.specs.Window.{last_end, run_at}
use Rattle.runend_windows.proofs.Ends.{length_ends_of}
use Rattle.runend_windows.proofs.RunRows.{length-run_rows}
use Rattle.runend_pairs.specs.Groups.{first_row, shown_numbers}
use Rattle.runend_pairs.proofs.Answered.{first_row-next}
use Rattle.runend_pairs.proofs.PartSums.{first_row-last}
use Rattle.runend_pairs.proofs.WalkedGroups.{le-last_end, paired_values, rows_grown, whole_run_next, whole_run_past}
use Rattle.runend_pairs.proofs.part_sums.parts_in_runs.Goals as goal

pub end-end-requires-clause-there : goal.end-end-requires-clause-there
end-end-requires-clause-there g c = omega (arith, c.loop-run-test.true, c.len-count.ensures.numbers, length_ends_of c.args.values.now.ends.now)

pub value-requires-clause-there : goal.value-requires-clause-there
value-requires-clause-there g c = omega (arith, c.loop-run-test.true, c.len-count.ensures.numbers, length_ends_of c.args.values.now.ends.now)

pub overflow_sub-end : goal.overflow_sub-end
overflow_sub-end g c =
    let own = c.args.values.now in
    let ends = ends_of own.ends.now in
    let marks = validity_flags own.validity.now (length own.items.now) in
    let values = optionals (map g.T.NativePType.number own.items.now) marks in
    let window = c.requires.runs.whole.window in
    let row = c.loop-run.row in
    let run = c.loop-run.run in
    let here = c.loop-run.invariant.here in
    let within : c.loop-run.run < length ends = omega (arith, c.loop-run-test.true, c.len-count.ensures.numbers, length_ends_of own.ends.now) in
    let past = whole_run_past ends values row run window here within in
    omega (arith, past, c.end-end.ensures.end)

pub loop-run-preserved : goal.loop-run-preserved
loop-run-preserved g c =
    let own = c.args.values.now in
    let ends = ends_of own.ends.now in
    let marks = validity_flags own.validity.now (length own.items.now) in
    let values = optionals (map g.T.NativePType.number own.items.now) marks in
    let rows = shown_numbers ends (map g.T.NativePType.number own.items.now) marks in
    let window = c.requires.runs.whole.window in
    let row = c.loop-run.row in
    let run = c.loop-run.run in
    let here = c.loop-run.invariant.here in
    let within : c.loop-run.run < length ends = omega (arith, c.loop-run-test.true, c.len-count.ensures.numbers, length_ends_of own.ends.now) in
    let parts = c.add.new.self in
    let value = option_map g.T.NativePType.number c.value.result in
    let past = whole_run_past ends values row run window here within in
    let paired = paired_values g.T.NativePType.number own.items.now (form_of own.validity.now) ends c.requires.runs.paired c.requires.runs.flagged in
    let long = length-run_rows ends values 0 (last_end ends) in
    let part = length-take row rows in
    let at_most = c.loop-run.invariant.within in
    let is_end = c.end-end.ensures.end in
    let added = c.add.ensures (take row rows) (omega (arith, long, part, at_most, past, is_end, c.end-end.type_inv)) c.loop-run.invariant.kept in
    let whole = subst (λ (n : ℕ). g.P.PartSum.keeps (take row rows ++ replicate (n - row) value) parts) is_end added in
    let kept = subst (λ (xs : List (Option ℤ)). g.P.PartSum.keeps xs parts) (sym (rows_grown ends values row run window here within value paired c.value.ensures)) whole in
    let most = le-last_end ends run window.increasing within in
    record {
      at = is_end ∙ sym (first_row-next ends run);
      within = omega (arith, most, is_end);
      here = whole_run_next ends values row run window here within ∙ ap (run_at ends) (sym is_end);
      kept = subst (λ (k : ℕ). g.P.PartSum.keeps (take k rows) parts) (sym is_end) kept;
    }

pub returns : goal.returns
returns g c =
    let own = c.args.values.now in
    let ends = ends_of own.ends.now in
    let marks = validity_flags own.validity.now (length own.items.now) in
    let values = optionals (map g.T.NativePType.number own.items.now) marks in
    let rows = shown_numbers ends (map g.T.NativePType.number own.items.now) marks in
    let done : c.loop-run.run ≡ length ends = omega (arith, c.loop-run-test.false, c.loop-run.auto.run-end, c.len-count.ensures.numbers, length_ends_of own.ends.now) in
    let last : c.loop-run.row ≡ last_end ends = c.loop-run.invariant.at ∙ ap (first_row ends) done ∙ first_row-last ends in
    let long = length-run_rows ends values 0 (last_end ends) in
    subst (λ (xs : List (Option ℤ)). g.P.PartSum.keeps xs c.loop-run.parts) (take_all c.loop-run.row rows (omega (arith, last, long))) c.loop-run.invariant.kept
