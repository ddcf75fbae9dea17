use Rattle.std.proofs.Common.{◌∙◌, ap, arith, refl, sym}
use Rattle.column_base.specs.Mask.{mask_bits}
use Rattle.column_ops.specs.Filter.{filter_rows}
use Rattle.runend_array.specs.Array.{dtype_of, rows}
use Rattle.tables.proofs.Worked.{all_worked, count_of, none_worked, worked_more}
use Rattle.tables.proofs.columns.selected_of_each.Goals as goal

pub loop-column-init : goal.loop-column-init
loop-column-init g c = record {
  worked = none_worked (λ t. t) (filter_rows (mask_bits c.args.mask.now)) c.args.columns.now c.in_ok-kept.kept.items c.in_ok-kept.ensures.items;
  room = c.in_ok-kept.ensures.capacity;
  counted = c.in_ok-kept.ensures.len;
  session = refl;
}

pub loop-column-preserved : goal.loop-column-preserved
loop-column-preserved g c =
    let l = c.loop-column in
    let column = c.column-item.result in
    let part = c.in_ok-part.part in
    record {
      worked = worked_more (λ t. t) (filter_rows (mask_bits c.args.mask.now)) c.args.columns.now l.kept.items c.push_reserved.new.self.items l.column-index column part (omega arith) c.column-item.is
          (ap rows c.in_ok-part.ensures.array ∙ c.in_ok-array.ensures.rows) (ap dtype_of c.in_ok-part.ensures.array ∙ c.in_ok-array.ensures.dtype) (c.in_ok-part.ensures.format ∙ c.as_str.ensures.value) l.invariant.worked c.push_reserved.ensures.items;
      room = omega (arith, c.push_reserved.ensures.capacity, l.invariant.room);
      counted = omega (arith, c.push_reserved.ensures.len, l.invariant.counted);
      session = c.in_ok-array.ensures.session ∙ l.invariant.session;
    }

pub returns-clause-rows : goal.returns-clause-rows
returns-clause-rows g c = (all_worked (λ t. t) (filter_rows (mask_bits c.args.mask.now)) c.args.columns.now c.loop-column.kept.items c.loop-column.column-index (omega arith) c.loop-column.invariant.worked).shown

pub returns-clause-dtypes : goal.returns-clause-dtypes
returns-clause-dtypes g c = (all_worked (λ t. t) (filter_rows (mask_bits c.args.mask.now)) c.args.columns.now c.loop-column.kept.items c.loop-column.column-index (omega arith) c.loop-column.invariant.worked).dtypes

pub returns-clause-formats : goal.returns-clause-formats
returns-clause-formats g c = (all_worked (λ t. t) (filter_rows (mask_bits c.args.mask.now)) c.args.columns.now c.loop-column.kept.items c.loop-column.column-index (omega arith) c.loop-column.invariant.worked).formats

pub selected-requires : goal.selected-requires
selected-requires g c =
    let counted = count_of c.args.columns.now c.args.count c.loop-column.column-index c.column-item.result c.requires.even (omega arith) c.column-item.is in
    record { fits = c.requires.fits ∙ sym counted }
