use Rattle.std.proofs.Common.{◌∙◌, ℕ, List, ap, arith, map, subst, sym}
use Rattle.std.specs.List.{AllZip}
use Rattle.std.specs.String.{string_bytes}
use Rattle.std.proofs.lemmas.List.{take_all}
use Rattle.tables.specs.Tables.{IsRenamedTo}
use Rattle.tables.proofs.Selections.{zipped_more}
use Rattle.tables.proofs.names.renamed.Goals as goal

pub loop-name-init : goal.loop-name-init
loop-name-init g c = record {
  renamed = rw c.in_ok-made.ensures.items tt;
  room = c.in_ok-made.ensures.capacity;
  counted = c.in_ok-made.ensures.len;
}

pub loop-name-preserved : goal.loop-name-preserved
loop-name-preserved g c =
    let l = c.loop-name in
    let R = IsRenamedTo (map string_bytes c.args.names.now) (map string_bytes c.args.new_names.now) in
    let same = c.in_ok-copy.ensures.ok ∙ c.as_str.ensures.value in
    record {
      renamed = zipped_more R string_bytes string_bytes c.args.own.now l.made.items c.push_reserved.new.self.items l.name-index c.name-item.result c.in_ok-copy.copy (omega arith) c.name-item.is
          (subst (λ (bytes : List ℕ). R (string_bytes c.name-item.result) bytes) (sym same) c.new_name_of.ensures) l.invariant.renamed c.push_reserved.ensures.items;
      room = omega (arith, c.push_reserved.ensures.capacity, l.invariant.room);
      counted = omega (arith, c.push_reserved.ensures.len, l.invariant.counted);
    }

pub returns-clause-renamed : goal.returns-clause-renamed
returns-clause-renamed g c =
    let R = IsRenamedTo (map string_bytes c.args.names.now) (map string_bytes c.args.new_names.now) in
    let whole = ap (map string_bytes) (take_all c.loop-name.name-index c.args.own.now (omega arith)) in
    subst (λ (l : List (List ℕ)). AllZip R l (map string_bytes c.loop-name.made.items)) whole c.loop-name.invariant.renamed
