use Rattle.std.proofs.Common.{subst, List, Option, ℤ}
use Rattle.column_base.specs.Validity.{form_of}
use Rattle.runend_windows.specs.Ends.{ends_of}
use Rattle.runend_pairs.proofs.Encoded.{items_shown, runs_of_items}
use Rattle.runend_pairs.proofs.parts.parts_of_items.Goals as goal

pub parts_in_runs-requires : goal.parts_in_runs-requires
parts_in_runs-requires g c = record {
  runs = runs_of_items g.T.NativePType.number c.args.items.now (form_of c.validity.result.now) c.args.ends.now c.args.numbers.now c.requires.runs c.requires.paired c.requires.stored
      c.validity.ensures.form c.validity.ensures.counted;
}

pub returns : goal.returns
returns g c = subst (λ (rows : List (Option ℤ)). g.P.PartSum.keeps rows c.parts_in_runs.result)
    (items_shown g.T.NativePType.number c.args.items.now (form_of c.validity.result.now) (ends_of c.args.ends.now) c.args.numbers.now c.requires.stored c.validity.ensures.form)
    c.parts_in_runs.ensures
