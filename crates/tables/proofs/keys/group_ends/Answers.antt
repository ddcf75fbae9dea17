use Rattle.std.proofs.Common.{ℕ, List, Option, ap, arith, length, map, subst, sym}
use Rattle.std.proofs.lemmas.List.{take_all}
use Rattle.column_core.specs.Value.{Value}
use Rattle.runend_array.specs.Array.{rows}
use Rattle.row_groups.specs.Groups.{AreEndsOf, AreGroupEnds}
use Rattle.typed_columns.specs.declared.typed_column.TypedColumn.{TypedColumn}
use Rattle.tables.proofs.Keyed.{group_more, single_of}
use Rattle.tables.proofs.Worked.{count_of}
use Rattle.tables.proofs.keys.group_ends.Goals as goal

pub cut_groups-requires-clause-single : goal.cut_groups-requires-clause-single
cut_groups-requires-clause-single g c = single_of c.args.columns.now c.loop-column.column-index c.column-item.result c.requires.single (omega arith) c.column-item.is

pub cut_groups-requires-clause-ends : goal.cut_groups-requires-clause-ends
cut_groups-requires-clause-ends g c =
    let counted = count_of c.args.columns.now c.args.count c.loop-column.column-index c.column-item.result c.requires.even (omega arith) c.column-item.is in
    subst (AreEndsOf (length (rows c.column-item.result.array))) (sym c.deref.ensures.value) (subst (λ (n : ℕ). AreEndsOf n c.loop-column.ends.items) (sym counted) c.loop-column.invariant.whole)

pub loop-column-preserved : goal.loop-column-preserved
loop-column-preserved g c =
    let column = c.column-item.result in
    let k = c.loop-column.column-index in
    let counted = count_of c.args.columns.now c.args.count k column c.requires.even (omega arith) c.column-item.is in
    record {
      whole = subst (λ (n : ℕ). AreEndsOf n c.in_ok-cut.cut.items) counted c.in_ok-cut.ensures.ends;
      groups = group_more c.args.columns.now c.args.count k column c.loop-column.ends.items c.in_ok-cut.cut.items counted (omega arith) c.column-item.is
          (λ all groups. c.in_ok-cut.ensures.groups all (subst (AreGroupEnds all (length (rows column.array))) (sym c.deref.ensures.value) groups)) c.loop-column.invariant.groups;
    }

pub returns-clause-groups : goal.returns-clause-groups
returns-clause-groups g c =
    let whole = ap (map (λ (column : TypedColumn _). rows column.array)) (take_all c.loop-column.column-index c.args.columns.now (omega arith)) in
    subst (λ (all : List (List (Option Value))). AreGroupEnds all c.args.count c.loop-column.ends.items) whole c.loop-column.invariant.groups
