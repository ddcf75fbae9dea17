use Rattle.std.proofs.Common.{◌∙◌, ap, arith, map}
use Rattle.std.specs.String.{string_bytes}
use Rattle.std.proofs.lemmas.List.{take_all}
use Rattle.tables.proofs.Worked.{mapped_more}
use Rattle.tables.proofs.names.copies_of.Goals as goal

pub loop-name-preserved : goal.loop-name-preserved
loop-name-preserved g c =
    let l = c.loop-name in
    record {
      same = mapped_more string_bytes string_bytes c.args.names.now l.copies.items c.push_reserved.new.self.items l.name-index c.name-item.result c.in_ok-copy.copy (omega arith) c.name-item.is
          (c.in_ok-copy.ensures.ok ∙ c.as_str.ensures.value) l.invariant.same c.push_reserved.ensures.items;
      room = omega (arith, c.push_reserved.ensures.capacity, l.invariant.room);
      counted = omega (arith, c.push_reserved.ensures.len, l.invariant.counted);
    }

pub returns-clause-names : goal.returns-clause-names
returns-clause-names g c = c.loop-name.invariant.same ∙ ap (map string_bytes) (take_all c.loop-name.name-index c.args.names.now (omega arith))
