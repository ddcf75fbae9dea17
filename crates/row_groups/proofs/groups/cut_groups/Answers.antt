use Rattle.std.proofs.Common.{◌++◌, ℕ, ℤ, List, [], ◌∷◌, length, map, subst, sym}
use Rattle.std.specs.Prelude.{unsigned_abs}
use Rattle.std.proofs.lemmas.Result.{IfOk-weaker}
use Rattle.column_base.specs.Numbers.{numbers}
use Rattle.column_core.specs.FlatColumn.{leaf_of}
use Rattle.column_core.specs.Leaf.{single_rows}
use Rattle.runend_array.specs.Array.{dtype_of, rows}
use Rattle.runend_windows.specs.Ends.{ends_of}
use Rattle.row_groups.specs.Groups.{AreCommonEnds, AreEndsOf, AreGroupEnds}
use Rattle.row_groups.proofs.Cuts.{ends_of_encoding, groups_cut}
use Rattle.row_groups.proofs.groups.cut_groups.Goals as goal

pub common_ends-made-requires-clause-others : goal.common_ends-made-requires-clause-others
common_ends-made-requires-clause-others g c =
    let all = rows c.args.key.now in
    let whole = ends_of_encoding all (dtype_of c.args.key.now) c.in_ok-key_ends.key_ends (leaf_of c.in_ok-key_ends.values) c.in_ok-key_ends.ensures.encoding in
    subst (λ (n : ℕ). AreEndsOf n (map unsigned_abs (numbers c.values.result.now))) (sym c.len.ensures)
    (subst (λ (ends : List ℤ). AreEndsOf (length all) (map unsigned_abs ends)) (sym c.values.ensures.shows) whole)

pub returns-clause-ends : goal.returns-clause-ends
returns-clause-ends g c =
    let all = rows c.args.key.now in
    IfOk-weaker c.common_ends-made.result (λ made. AreCommonEnds c.args.ends.now (map unsigned_abs (numbers c.values.result.now)) c.len.result made.items) (λ made. AreEndsOf (length all) made.items)
    (λ made common. subst (λ (n : ℕ). AreEndsOf n made.items) c.len.ensures common.whole) c.common_ends-made.ensures.common

pub returns-clause-groups : goal.returns-clause-groups
returns-clause-groups g c = λ columns groups.
    let all = rows c.args.key.now in
    let ends = c.args.ends.now in
    IfOk-weaker c.common_ends-made.result (λ made. AreCommonEnds ends (map unsigned_abs (numbers c.values.result.now)) c.len.result made.items) (λ made. AreGroupEnds (columns ++ all ∷ []) (length all) made.items)
    (λ made common. groups_cut columns all ends (ends_of c.in_ok-key_ends.key_ends) made.items (single_rows (leaf_of c.in_ok-key_ends.values)) c.in_ok-key_ends.ensures.encoding.cover
    (subst (λ (others : List ℤ). AreCommonEnds ends (map unsigned_abs others) (length all) made.items) c.values.ensures.shows
    (subst (λ (n : ℕ). AreCommonEnds ends (map unsigned_abs (numbers c.values.result.now)) n made.items) c.len.ensures common)) groups) c.common_ends-made.ensures.common
