use Rattle.std.proofs.Common.{◌≡◌, ◌∙◌, ◌<◌, ℕ, arith, length, map, subst, sym}
use Rattle.std.specs.Prelude.{slice_range}
use Rattle.column_base.specs.Validity.{validity_flags}
use Rattle.runend_windows.specs.Ends.{ends_of}
use Rattle.runend_windows.proofs.Ends.{length_ends_of}
use Rattle.runend_pairs.specs.Groups.{first_row, group_rows, shown_numbers, IsAnswerOf}
use Rattle.runend_pairs.proofs.Answered.{AreAnswered, AreAnswered-all, AreAnswered-more, IsFirstLarge-here, first_row-next}
use Rattle.runend_pairs.proofs.WalkedGroups.{le-last_end}
use Rattle.runend_pairs.proofs.folds.fold_groups.Goals as goal

pub fold_between-fold-requires-clause-within : goal.fold_between-fold-requires-clause-within
fold_between-fold-requires-clause-within g c =
    let ends = ends_of c.args.groups.now in
    let within : c.loop-group.group < length ends = omega (arith, c.loop-group-test.true, c.len-count.ensures.numbers, length_ends_of c.args.groups.now) in
    let most = le-last_end ends c.loop-group.group c.requires.groups.window.increasing within in
    omega (arith, most, c.end_of-stop.ensures.end, c.requires.whole)

pub returns-in_default-clause-refused : goal.returns-in_default-clause-refused
returns-in_default-clause-refused g c =
    let own = c.args.values.now in
    let ends = ends_of c.args.groups.now in
    let rows = shown_numbers (ends_of own.ends.now) (map g.T.NativePType.number own.items.now) (validity_flags own.validity.now (length own.items.now)) in
    let group = c.loop-group.group in
    let fold = c.fold_between-fold.result.0 in
    let number = g.N.NativePType.number in
    let has = g.S.Fold.gives in
    let answer_of = g.S.Fold.answer_of in
    let within : c.loop-group.group < length ends = omega (arith, c.loop-group-test.true, c.len-count.ensures.numbers, length_ends_of c.args.groups.now) in
    let begun = subst (λ (k : ℕ). g.S.Fold.keeps (slice_range rows k c.end_of-stop.result) fold) c.loop-group.invariant.at c.fold_between-fold.ensures.kept in
    let kept = subst (λ (k : ℕ). g.S.Fold.keeps (slice_range rows (first_row ends group) k) fold) c.end_of-stop.ensures.end begun in
    let answer = c.finish.ensures (group_rows ends rows group) kept in
    let large = subst (IsAnswerOf number has (answer_of (group_rows ends rows group))) c.in_default.is answer in
    IsFirstLarge-here number has answer_of ends rows group c.loop-group.items.items c.loop-group.flags within large c.loop-group.invariant.answered

pub loop-group-preserved : goal.loop-group-preserved
loop-group-preserved g c =
    let own = c.args.values.now in
    let ends = ends_of c.args.groups.now in
    let rows = shown_numbers (ends_of own.ends.now) (map g.T.NativePType.number own.items.now) (validity_flags own.validity.now (length own.items.now)) in
    let group = c.loop-group.group in
    let fold = c.fold_between-fold.result.0 in
    let number = g.N.NativePType.number in
    let has = g.S.Fold.gives in
    let answer_of = g.S.Fold.answer_of in
    let begun = subst (λ (k : ℕ). g.S.Fold.keeps (slice_range rows k c.end_of-stop.result) fold) c.loop-group.invariant.at c.fold_between-fold.ensures.kept in
    let kept = subst (λ (k : ℕ). g.S.Fold.keeps (slice_range rows (first_row ends group) k) fold) c.end_of-stop.ensures.end begun in
    let answer = subst (IsAnswerOf number has (answer_of (group_rows ends rows group))) c.in-Some.is (c.finish.ensures (group_rows ends rows group) kept) in
    record {
      at = c.end_of-stop.ensures.end ∙ sym (first_row-next ends group);
      here = c.fold_between-fold.ensures.next;
      room = omega (arith, c.push_reserved.ensures.capacity, c.loop-group.invariant.room);
      answered = rw (c.push_reserved.ensures.items, c.in_ok-append.ensures.ok, c.is_some.ensures)
          (AreAnswered-more number has (λ k. answer_of (group_rows ends rows k)) group c.loop-group.items.items c.loop-group.flags c.in-Some.answer c.stored_for.result
          c.stored_for.ensures.shown c.stored_for.ensures.blank answer c.loop-group.invariant.answered);
    }

pub answer_column-requires-clause-paired : goal.answer_column-requires-clause-paired
answer_column-requires-clause-paired g c = c.loop-group.invariant.answered.paired

pub answer_column-requires-clause-blank : goal.answer_column-requires-clause-blank
answer_column-requires-clause-blank g c = c.loop-group.invariant.answered.blank

pub returns-clause-answers : goal.returns-clause-answers
returns-clause-answers g c =
    let own = c.args.values.now in
    let ends = ends_of c.args.groups.now in
    let rows = shown_numbers (ends_of own.ends.now) (map g.T.NativePType.number own.items.now) (validity_flags own.validity.now (length own.items.now)) in
    let number = g.N.NativePType.number in
    let has = g.S.Fold.gives in
    let answer_of = g.S.Fold.answer_of in
    let items = c.loop-group.items.items in
    let bits = c.loop-group.flags in
    let done : c.loop-group.group ≡ length ends = omega (arith, c.loop-group-test.false, c.loop-group.auto.group-end, c.len-count.ensures.numbers, length_ends_of c.args.groups.now) in
    let all = subst (λ (k : ℕ). AreAnswered number has (λ n. answer_of (group_rows ends rows n)) k items bits) done c.loop-group.invariant.answered in
    AreAnswered-all number has answer_of ends rows items bits _ c.answer_column.ensures.shown all
