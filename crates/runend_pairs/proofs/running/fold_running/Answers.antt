use Rattle.std.proofs.Common.{◌≡◌, ◌∙◌, ◌<◌, ◌≤◌, ◌-◌, ◌++◌, ℕ, ℤ, List, Option, ap, arith, length, length-take, map, refl, replicate, subst, sym, take}
use Rattle.std.specs.Prelude.{option_map, slice_index}
use Rattle.column_base.specs.Validity.{form_of, validity_flags}
use Rattle.column_core.specs.Optionals.{optionals}
use Rattle.runend_windows.specs.Ends.{ends_of}
use Rattle.runend_windows.specs.Window.{last_end, run_at}
use Rattle.runend_windows.proofs.Ends.{length_ends_of}
use Rattle.runend_windows.proofs.RunRows.{length-run_rows}
use Rattle.runend_pairs.specs.Groups.{shown_numbers, IsAnswerOf}
use Rattle.runend_pairs.specs.Totals.{rows_through}
use Rattle.runend_pairs.proofs.Answered.{AreAnswered, AreAnswered-more, AreAnswered-runs, IsFirstLargeRun-here, first_row-next}
use Rattle.runend_pairs.proofs.WalkedGroups.{le-last_end, paired_values, rows_grown, whole_run_next, whole_run_past}
use Rattle.runend_pairs.proofs.running.fold_running.Goals as goal

pub end-end-requires-clause-there : goal.end-end-requires-clause-there
end-end-requires-clause-there g c = omega (arith, c.loop-run-test.true, c.len-count.ensures.numbers, length_ends_of c.args.values.now.ends.now)

pub value-requires-clause-there : goal.value-requires-clause-there
value-requires-clause-there g c = omega (arith, c.loop-run-test.true, c.len-count.ensures.numbers, length_ends_of c.args.values.now.ends.now)

pub overflow_sub-end : goal.overflow_sub-end
overflow_sub-end g c =
    let own = c.args.values.now in
    let ends = ends_of own.ends.now in
    let marks = validity_flags own.validity.now (length own.items.now) in
    let values = optionals (map g.T.NativePType.number own.items.now) marks in
    let window = c.requires.runs.whole.window in
    let row = c.loop-run.row in
    let run = c.loop-run.run in
    let here = c.loop-run.invariant.here in
    let within : c.loop-run.run < length ends = omega (arith, c.loop-run-test.true, c.len-count.ensures.numbers, length_ends_of own.ends.now) in
    let past = whole_run_past ends values row run window here within in
    omega (arith, past, c.end-end.ensures.end)

pub returns-in_default-clause-refused : goal.returns-in_default-clause-refused
returns-in_default-clause-refused g c =
    let own = c.args.values.now in
    let ends = ends_of own.ends.now in
    let marks = validity_flags own.validity.now (length own.items.now) in
    let values = optionals (map g.T.NativePType.number own.items.now) marks in
    let rows = shown_numbers ends (map g.T.NativePType.number own.items.now) marks in
    let window = c.requires.runs.whole.window in
    let row = c.loop-run.row in
    let run = c.loop-run.run in
    let here = c.loop-run.invariant.here in
    let within : c.loop-run.run < length ends = omega (arith, c.loop-run-test.true, c.len-count.ensures.numbers, length_ends_of own.ends.now) in
    let fold = c.add.new.self in
    let value = option_map g.T.NativePType.number c.value.result in
    let past = whole_run_past ends values row run window here within in
    let paired = paired_values g.T.NativePType.number own.items.now (form_of own.validity.now) ends c.requires.runs.paired c.requires.runs.flagged in
    let long = length-run_rows ends values 0 (last_end ends) in
    let part = length-take row rows in
    let at_most = c.loop-run.invariant.within in
    let is_end = c.end-end.ensures.end in
    let added = c.add.ensures (take row rows) (omega (arith, past, is_end)) (omega (arith, long, part, at_most, past, is_end, c.end-end.type_inv)) c.loop-run.invariant.kept in
    let whole = subst (λ (n : ℕ). g.S.Fold.keeps (take row rows ++ replicate (n - row) value) fold) is_end added in
    let kept = subst (λ (xs : List (Option ℤ)). g.S.Fold.keeps xs fold) (sym (rows_grown ends values row run window here within value paired c.value.ensures)) whole in
    let number = g.N.NativePType.number in
    let has = g.S.Fold.gives in
    let answer_of = g.S.Fold.answer_of in
    let answer = c.finish.ensures (rows_through ends rows run) kept in
    let large = subst (IsAnswerOf number has (answer_of (rows_through ends rows run))) c.in_default.is answer in
    IsFirstLargeRun-here number has answer_of ends rows run c.loop-run.items.items c.loop-run.flags within large c.loop-run.invariant.answered

pub loop-run-preserved : goal.loop-run-preserved
loop-run-preserved g c =
    let own = c.args.values.now in
    let ends = ends_of own.ends.now in
    let marks = validity_flags own.validity.now (length own.items.now) in
    let values = optionals (map g.T.NativePType.number own.items.now) marks in
    let rows = shown_numbers ends (map g.T.NativePType.number own.items.now) marks in
    let window = c.requires.runs.whole.window in
    let row = c.loop-run.row in
    let run = c.loop-run.run in
    let here = c.loop-run.invariant.here in
    let within : c.loop-run.run < length ends = omega (arith, c.loop-run-test.true, c.len-count.ensures.numbers, length_ends_of own.ends.now) in
    let fold = c.add.new.self in
    let value = option_map g.T.NativePType.number c.value.result in
    let past = whole_run_past ends values row run window here within in
    let paired = paired_values g.T.NativePType.number own.items.now (form_of own.validity.now) ends c.requires.runs.paired c.requires.runs.flagged in
    let long = length-run_rows ends values 0 (last_end ends) in
    let part = length-take row rows in
    let at_most = c.loop-run.invariant.within in
    let is_end = c.end-end.ensures.end in
    let added = c.add.ensures (take row rows) (omega (arith, past, is_end)) (omega (arith, long, part, at_most, past, is_end, c.end-end.type_inv)) c.loop-run.invariant.kept in
    let whole = subst (λ (n : ℕ). g.S.Fold.keeps (take row rows ++ replicate (n - row) value) fold) is_end added in
    let kept = subst (λ (xs : List (Option ℤ)). g.S.Fold.keeps xs fold) (sym (rows_grown ends values row run window here within value paired c.value.ensures)) whole in
    let number = g.N.NativePType.number in
    let has = g.S.Fold.gives in
    let answer_of = g.S.Fold.answer_of in
    let answer = c.finish.ensures (rows_through ends rows run) kept in
    let most = le-last_end ends run window.increasing within in
    record {
      at = is_end ∙ sym (first_row-next ends run);
      within = omega (arith, most, is_end);
      here = whole_run_next ends values row run window here within ∙ ap (run_at ends) (sym is_end);
      room = omega (arith, c.push_reserved.ensures.capacity, c.loop-run.invariant.room);
      kept = subst (λ (k : ℕ). g.S.Fold.keeps (take k rows) fold) (sym is_end) kept;
      answered = rw (c.push_reserved.ensures.items, c.in_ok-append.ensures.ok, c.is_some.ensures)
          (AreAnswered-more number has (λ k. answer_of (rows_through ends rows k)) run c.loop-run.items.items c.loop-run.flags c.in-Some.answer c.stored_for.result
          c.stored_for.ensures.shown c.stored_for.ensures.blank (subst (IsAnswerOf number has (answer_of (rows_through ends rows run))) c.in-Some.is answer) c.loop-run.invariant.answered);
    }

pub answer_column-requires-clause-paired : goal.answer_column-requires-clause-paired
answer_column-requires-clause-paired g c = c.loop-run.invariant.answered.paired

pub answer_column-requires-clause-blank : goal.answer_column-requires-clause-blank
answer_column-requires-clause-blank g c = c.loop-run.invariant.answered.blank

pub returns-clause-answers : goal.returns-clause-answers
returns-clause-answers g c =
    let own = c.args.values.now in
    let ends = ends_of own.ends.now in
    let marks = validity_flags own.validity.now (length own.items.now) in
    let values = optionals (map g.T.NativePType.number own.items.now) marks in
    let rows = shown_numbers ends (map g.T.NativePType.number own.items.now) marks in
    let number = g.N.NativePType.number in
    let has = g.S.Fold.gives in
    let answer_of = g.S.Fold.answer_of in
    let items = c.loop-run.items.items in
    let bits = c.loop-run.flags in
    let done : c.loop-run.run ≡ length ends = omega (arith, c.loop-run-test.false, c.loop-run.auto.run-end, c.len-count.ensures.numbers, length_ends_of own.ends.now) in
    let all = subst (λ (k : ℕ). AreAnswered number has (λ n. answer_of (rows_through ends rows n)) k items bits) done c.loop-run.invariant.answered in
    AreAnswered-runs number has answer_of ends rows items bits _ c.answer_column.ensures.shown all
