use Rattle.std.proofs.Common.{◌≡◌, ◌∙◌, ℕ, List, Option, sym, ap, subst}
use Rattle.column_base.specs.declared.dtype.DType.{DType}
use Rattle.column_core.specs.FlatColumn.{leaf_of}
use Rattle.column_core.specs.Leaf.{leaf_dtype}
use Rattle.column_core.specs.Value.{Value}
use Rattle.column_ops.specs.Comparing.{compare_dtype, compare_rows}
use Rattle.runend_array.specs.Column.{column_dtype, column_of_runs, column_rows}
use Rattle.runend_map.specs.ShownRuns.{AreShownRuns, rows_shown}
use Rattle.runend_map.proofs.OneKind.{no_column_fault, no_lists, no_lists_beside}
use Rattle.runend_map.proofs.pairs.compare_runs.Goals as goal

pub of-requires : goal.of-requires
of-requires g c =
    let l = c.args.left.now in
    let r = c.args.right.now in
    record { single = no_lists (column_dtype l.values) (column_dtype r.values) (no_column_fault (column_dtype l.values) (column_dtype r.values) l.count r.count c.requires.kind).0 }

pub of-requires-2 : goal.of-requires-2
of-requires-2 g c =
    let l = c.args.left.now in
    let r = c.args.right.now in
    record { single = no_lists_beside (column_dtype l.values) (column_dtype r.values) (no_column_fault (column_dtype l.values) (column_dtype r.values) l.count r.count c.requires.kind).0 }

pub truths_of_pairs-truths-requires : goal.truths_of_pairs-truths-requires
truths_of_pairs-truths-requires g c =
    let l = c.args.left.now in
    let r = c.args.right.now in
    let as_many = (no_column_fault (column_dtype l.values) (column_dtype r.values) l.count r.count c.requires.kind).1 in
    let left = c.in_ok-left.left in
    let right = c.in-Ok.right in
    record {
      left = subst (λ (n : ℕ). AreShownRuns left.ends left.offset (leaf_of left.values) n) (sym c.len-count.ensures) c.in_ok-left.ensures.shown;
      right = subst (λ (n : ℕ). AreShownRuns right.ends right.offset (leaf_of right.values) n) (sym (c.len-count.ensures ∙ as_many)) c.in-Ok.ensures.shown;
    }

pub returns-clause-rows : goal.returns-clause-rows
returns-clause-rows g c =
    let l = c.args.left.now in
    let r = c.args.right.now in
    let as_many = (no_column_fault (column_dtype l.values) (column_dtype r.values) l.count r.count c.requires.kind).1 in
    let left = c.in_ok-left.left in
    let right = c.in-Ok.right in
    let lefts : rows_shown left.ends left.offset (leaf_of left.values) c.len-count.result ≡ column_rows (column_of_runs l) =
    ap (λ (n : ℕ). rows_shown left.ends left.offset (leaf_of left.values) n) c.len-count.ensures ∙ c.in_ok-left.ensures.rows in
    let rights : rows_shown right.ends right.offset (leaf_of right.values) c.len-count.result ≡ column_rows (column_of_runs r) =
    ap (λ (n : ℕ). rows_shown right.ends right.offset (leaf_of right.values) n) (c.len-count.ensures ∙ as_many) ∙ c.in-Ok.ensures.rows in
    c.in_ok-truths.ensures.rows
    ∙ ap (λ (xs : List (Option Value)). compare_rows c.args.operator xs (rows_shown right.ends right.offset (leaf_of right.values) c.len-count.result)) lefts
    ∙ ap (λ (xs : List (Option Value)). compare_rows c.args.operator (column_rows (column_of_runs l)) xs) rights

pub returns-clause-dtype : goal.returns-clause-dtype
returns-clause-dtype g c =
    c.in_ok-truths.ensures.dtype ∙ ap (λ (t : DType). compare_dtype t (leaf_dtype (leaf_of c.in-Ok.right.values))) c.in_ok-left.ensures.dtype
    ∙ ap (λ (t : DType). compare_dtype (column_dtype c.args.left.now.values) t) c.in-Ok.ensures.dtype
