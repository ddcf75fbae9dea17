use Rattle.column_base.specs.Validity.{form_of}
use Rattle.runend_windows.specs.Ends.{ends_of}
use Rattle.runend_pairs.proofs.Encoded.{items_shown, runs_of_items}
use Rattle.runend_pairs.proofs.totals.total_items.Goals as goal

pub fold_running-requires : goal.fold_running-requires
fold_running-requires g c = record {
  runs = runs_of_items g.T.NativePType.number c.args.items.now (form_of c.validity.result.now) c.args.ends.now c.args.numbers.now c.requires.runs c.requires.paired c.requires.stored
      c.validity.ensures.form c.validity.ensures.counted;
}

pub returns-clause-totals : goal.returns-clause-totals
returns-clause-totals g c =
    rw (items_shown g.T.NativePType.number c.args.items.now (form_of c.validity.result.now) (ends_of c.args.ends.now) c.args.numbers.now c.requires.stored c.validity.ensures.form) at
    c.fold_running.ensures.answers

pub returns-clause-refused : goal.returns-clause-refused
returns-clause-refused g c =
    rw (items_shown g.T.NativePType.number c.args.items.now (form_of c.validity.result.now) (ends_of c.args.ends.now) c.args.numbers.now c.requires.stored c.validity.ensures.form) at
    c.fold_running.ensures.refused
