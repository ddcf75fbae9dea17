use Rattle.std.proofs.Common.{◌∙◌, ℕ, ap, arith, refl, subst, sym}
use Rattle.std.specs.Prelude.{All}
use Rattle.runend_array.specs.Array.{dtype_of, rows}
use Rattle.row_stretches.specs.Stretches.{IsWithin, stretch_rows}
use Rattle.row_stretches.proofs.Places.{length-rows}
use Rattle.tables.proofs.Worked.{all_worked, count_of, none_worked, worked_more}
use Rattle.tables.proofs.columns.stretches_of_each.Goals as goal

pub loop-column-init : goal.loop-column-init
loop-column-init g c = record {
  worked = none_worked (λ t. t) (λ all. stretch_rows all c.args.order.now) c.args.columns.now c.in_ok-kept.kept.items c.in_ok-kept.ensures.items;
  room = c.in_ok-kept.ensures.capacity;
  counted = c.in_ok-kept.ensures.len;
  session = refl;
}

pub loop-column-preserved : goal.loop-column-preserved
loop-column-preserved g c =
    let l = c.loop-column in
    let column = c.column-item.result in
    let part = c.in_ok-part.part in
    record {
      worked = worked_more (λ t. t) (λ all. stretch_rows all c.args.order.now) c.args.columns.now l.kept.items c.push_reserved.new.self.items l.column-index column part (omega arith) c.column-item.is
          (ap rows c.in_ok-part.ensures.array ∙ c.in_ok-array.ensures.rows) (ap dtype_of c.in_ok-part.ensures.array ∙ c.in_ok-array.ensures.dtype) (c.in_ok-part.ensures.format ∙ c.as_str.ensures.value) l.invariant.worked c.push_reserved.ensures.items;
      room = omega (arith, c.push_reserved.ensures.capacity, l.invariant.room);
      counted = omega (arith, c.push_reserved.ensures.len, l.invariant.counted);
      session = c.in_ok-array.ensures.session ∙ l.invariant.session;
    }

pub returns-clause-rows : goal.returns-clause-rows
returns-clause-rows g c = (all_worked (λ t. t) (λ all. stretch_rows all c.args.order.now) c.args.columns.now c.loop-column.kept.items c.loop-column.column-index (omega arith) c.loop-column.invariant.worked).shown

pub returns-clause-dtypes : goal.returns-clause-dtypes
returns-clause-dtypes g c = (all_worked (λ t. t) (λ all. stretch_rows all c.args.order.now) c.args.columns.now c.loop-column.kept.items c.loop-column.column-index (omega arith) c.loop-column.invariant.worked).dtypes

pub returns-clause-formats : goal.returns-clause-formats
returns-clause-formats g c = (all_worked (λ t. t) (λ all. stretch_rows all c.args.order.now) c.args.columns.now c.loop-column.kept.items c.loop-column.column-index (omega arith) c.loop-column.invariant.worked).formats

pub rows_in-requires-clause-within : goal.rows_in-requires-clause-within
rows_in-requires-clause-within g c =
    let counted = count_of c.args.columns.now c.args.count c.loop-column.column-index c.column-item.result c.requires.even (omega arith) c.column-item.is in
    subst (λ (n : ℕ). All (IsWithin n) c.args.order.now) (sym counted) c.requires.within

pub rows_in-requires-clause-small : goal.rows_in-requires-clause-small
rows_in-requires-clause-small g c =
    let counted = count_of c.args.columns.now c.args.count c.loop-column.column-index c.column-item.result c.requires.even (omega arith) c.column-item.is in
    let within = subst (λ (n : ℕ). All (IsWithin n) c.args.order.now) (sym counted) c.requires.within in
    let same = length-rows (rows c.column-item.result.array) c.args.order.now within in
    omega (arith, same, c.requires.small)
