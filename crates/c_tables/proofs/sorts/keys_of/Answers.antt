use Rattle.std.proofs.Common.{◌∙◌, ap, arith, map, sym}
use Rattle.std.specs.String.{string_bytes}
use Rattle.std.proofs.lemmas.List.{map-append}
use Rattle.runend_array.specs.Array.{dtype_of, rows}
use Rattle.c_tables.specs.TableCalls.{row_name_fault}
use Rattle.c_tables.proofs.NameRows.{faults_more, names_more}
use Rattle.c_tables.proofs.SortKeys.{key_refused, one_flag_each, orders_more}
use Rattle.c_tables.proofs.sorts.keys_of.Goals as goal

pub returns-in_err-name-clause-refused : goal.returns-in_err-name-clause-refused
returns-in_err-name-clause-refused c =
    key_refused c.args.names.now c.args.flags.now c.loop-row.row c.in_err-name.ensures.0 c.in_err-name.field-0.0 c.from_residual-in_err-name.result (sym c.in_default.ensures) c.in_err-name.ensures.1 c.loop-row.invariant.named
    c.in_err-name.ensures.2 c.from_residual-in_err-name.ensures.1

pub loop-row-preserved : goal.loop-row-preserved
loop-row-preserved c =
    let l = c.loop-row in
    let all = rows c.args.names.now in
    let flags = c.args.flags.now in
    let item = c.in_ok-name.ensures.0 in
    let there = c.in_ok-name.ensures.1 in
    let each = one_flag_each (dtype_of c.args.names.now) _ _ (sym c.in_default.ensures) in
    record {
      names_so_far = ap (map (λ key. string_bytes key.name)) c.push_reserved.ensures.items ∙ map-append (λ key. string_bytes key.name) l.keys.items _
          ∙ names_more all l.row item (map (λ key. string_bytes key.name) l.keys.items) (string_bytes c.in_ok-name.name) (omega (arith, each)) there l.invariant.names_so_far c.in_ok-name.ensures.3;
      orders_so_far = ap (map (λ key. key.order)) c.push_reserved.ensures.items ∙ map-append (λ key. key.order) l.keys.items _
          ∙ orders_more flags l.row (map (λ key. key.order) l.keys.items) c.order_of.result (omega arith) l.invariant.orders_so_far c.order_of.ensures;
      named = faults_more row_name_fault all l.row item (omega (arith, each)) there l.invariant.named c.in_ok-name.ensures.2;
      room = omega (arith, c.push_reserved.ensures.capacity, l.invariant.room);
      counted = omega (arith, c.push_reserved.ensures.len, l.invariant.counted);
    }
