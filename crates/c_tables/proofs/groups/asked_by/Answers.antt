use Rattle.std.proofs.Common.{◌∙◌, Some, ap, arith, map, sym}
use Rattle.c_tables.proofs.AskedNames.{all_asked, all_fine, answers_long, columns_long, columns_so_far, fine_more, folds_so_far, names_so_far, row_refused}
use Rattle.tables.specs.Grouping.{asked_of}
use Rattle.c_tables.proofs.groups.asked_by.Goals as goal

pub asked_at-requires-clause-within : goal.asked_at-requires-clause-within
asked_at-requires-clause-within c =
    let long = answers_long c.args.answers.now c.args.columns.now c.args.folds.now (sym c.in_default.ensures) in
    omega (arith, long)

pub asked_at-requires-clause-column_within : goal.asked_at-requires-clause-column_within
asked_at-requires-clause-column_within c =
    let long = columns_long c.args.answers.now c.args.columns.now c.args.folds.now (sym c.in_default.ensures) in
    omega (arith, long)

pub returns-in_err-one-clause-refused : goal.returns-in_err-one-clause-refused
returns-in_err-one-clause-refused c =
    row_refused c.args.answers.now c.args.columns.now c.args.folds.now (sym c.in_default.ensures) c.loop-row.row c.in_err-one.field-0.0 c.from_residual-in_err-one.result (omega arith) c.loop-row.invariant.fine c.in_err-one.ensures.refused
    c.from_residual-in_err-one.ensures.1

pub loop-row-preserved : goal.loop-row-preserved
loop-row-preserved c =
    let l = c.loop-row in
    let answers = c.args.answers.now in
    let columns = c.args.columns.now in
    let folds = c.args.folds.now in
    let shaped = sym c.in_default.ensures in
    let one = c.in_ok-one.one in
    let pushed = ap (map asked_of) c.push_reserved.ensures.items in
    let fold = ap Some c.in_ok-one.ensures.fold ∙ sym c.fold_of.ensures in
    record {
      named = ap (map (λ a. a.name)) pushed ∙ names_so_far answers columns folds shaped l.asked.items one l.row (omega arith) l.invariant.named c.in_ok-one.ensures.name;
      looked_at = ap (map (λ a. a.column)) pushed ∙ columns_so_far answers columns folds shaped l.asked.items one l.row (omega arith) l.invariant.looked_at c.in_ok-one.ensures.column;
      numbered = ap (map (λ a. Some a.fold)) pushed ∙ folds_so_far answers columns folds shaped l.asked.items one l.row (omega arith) l.invariant.numbered fold;
      fine = fine_more answers columns folds shaped l.row (omega arith) l.invariant.fine c.in_ok-one.ensures.refused;
      room = omega (arith, c.push_reserved.ensures.capacity, l.invariant.room);
      counted = omega (arith, c.push_reserved.ensures.len, l.invariant.counted);
    }

pub returns-clause-asked : goal.returns-clause-asked
returns-clause-asked c =
    let l = c.loop-row in
    all_asked c.args.answers.now c.args.columns.now c.args.folds.now (sym c.in_default.ensures) l.asked.items l.row (omega arith) l.invariant.named l.invariant.looked_at l.invariant.numbered

pub returns-clause-refused : goal.returns-clause-refused
returns-clause-refused c =
    all_fine c.args.answers.now c.args.columns.now c.args.folds.now (sym c.in_default.ensures) c.loop-row.row (omega arith) c.loop-row.invariant.fine
