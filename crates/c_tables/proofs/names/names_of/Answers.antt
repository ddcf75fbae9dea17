use Rattle.std.proofs.Common.{◌∙◌, ap, arith, map, sym}
use Rattle.std.specs.String.{string_bytes}
use Rattle.std.proofs.lemmas.List.{map-append}
use Rattle.runend_array.specs.Array.{rows}
use Rattle.c_tables.specs.TableCalls.{row_name_fault, text_fault}
use Rattle.c_tables.proofs.NameRows.{faults_more, names_more, row_refused}
use Rattle.c_tables.proofs.names.names_of.Goals as goal

pub returns-in_err-name-clause-refused : goal.returns-in_err-name-clause-refused
returns-in_err-name-clause-refused c =
    row_refused c.args.array.now c.loop-row.row c.in_err-name.ensures.0 c.in_err-name.field-0.0 c.from_residual-in_err-name.result (ap text_fault (sym c.dtype.ensures) ∙ sym c.in_default.ensures) c.in_err-name.ensures.1
    c.loop-row.invariant.named c.in_err-name.ensures.2 c.from_residual-in_err-name.ensures.1

pub loop-row-preserved : goal.loop-row-preserved
loop-row-preserved c =
    let l = c.loop-row in
    let all = rows c.args.array.now in
    let item = c.in_ok-name.ensures.0 in
    let there = c.in_ok-name.ensures.1 in
    record {
      same = ap (map string_bytes) c.push_reserved.ensures.items ∙ map-append string_bytes l.names.items _
          ∙ names_more all l.row item (map string_bytes l.names.items) (string_bytes c.in_ok-name.name) (omega arith) there l.invariant.same c.in_ok-name.ensures.3;
      named = faults_more row_name_fault all l.row item (omega arith) there l.invariant.named c.in_ok-name.ensures.2;
      room = omega (arith, c.push_reserved.ensures.capacity, l.invariant.room);
      counted = omega (arith, c.push_reserved.ensures.len, l.invariant.counted);
    }
