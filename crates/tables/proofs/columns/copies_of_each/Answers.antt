use Rattle.std.proofs.Common.{◌∙◌, ap, arith, map}
use Rattle.std.proofs.lemmas.List.{take_all}
use Rattle.typed_columns.specs.Typed.{typed_of}
use Rattle.tables.proofs.Worked.{mapped_more}
use Rattle.tables.proofs.columns.copies_of_each.Goals as goal

pub loop-column-preserved : goal.loop-column-preserved
loop-column-preserved g c =
    let l = c.loop-column in
    record {
      same = mapped_more typed_of typed_of c.args.columns.now l.copies.items c.push_reserved.new.self.items l.column-index c.column-item.result c.in_ok-copy.copy (omega arith) c.column-item.is
          c.in_ok-copy.ensures.form l.invariant.same c.push_reserved.ensures.items;
      room = omega (arith, c.push_reserved.ensures.capacity, l.invariant.room);
      counted = omega (arith, c.push_reserved.ensures.len, l.invariant.counted);
      session = c.in_ok-copy.ensures.session ∙ l.invariant.session;
    }

pub returns-clause-same : goal.returns-clause-same
returns-clause-same g c = c.loop-column.invariant.same ∙ ap (map typed_of) (take_all c.loop-column.column-index c.args.columns.now (omega arith))
