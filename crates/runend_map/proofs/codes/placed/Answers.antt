use Rattle.std.proofs.Common.{◌∙◌, ap, length, subst, sym}
use Rattle.std.specs.Prelude.{option_map}
use Rattle.std.proofs.lemmas.List.{length-map}
use Rattle.column_core.specs.Leaf.{OfNumbers, OfTruths, leaf_rows}
use Rattle.column_core.specs.Value.{Single}
use Rattle.runend_array.specs.Array.{column_of, dtype_of, rows}
use Rattle.runend_array.specs.Encoding.{IsComputedFlat}
use Rattle.runend_map.proofs.KeptRows.{if_ok}
use Rattle.runend_map.proofs.TakenForms.{others_flat}
use Rattle.runend_map.proofs.codes.placed.Goals as goal

pub with_minimal_runs-requires : goal.with_minimal_runs-requires
with_minimal_runs-requires g c =
    let numbers = c.in-Primitive.numbers in
    record {
      paired = sym (length-map (leaf_rows (OfNumbers numbers)) (option_map Single)) ∙ sym (ap (λ taken. length (rows taken)) c.in-Primitive.is) ∙ c.requires.paired;
      computed = rw c.in-Primitive.is at c.requires.computed;
    }

pub over_visible_runs-requires : goal.over_visible_runs-requires
over_visible_runs-requires g c =
    let truths = c.in-Bool.truths in
    record {
      paired = sym (length-map (leaf_rows (OfTruths truths)) (option_map Single)) ∙ sym (ap (λ taken. length (rows taken)) c.in-Bool.is) ∙ c.requires.paired;
      computed = rw c.in-Bool.is at c.requires.computed;
    }

pub returns-in_default-clause-form : goal.returns-in_default-clause-form
returns-in_default-clause-form g c =
    if_ok c.shown_values.result (λ part flat. others_flat c.args.taken c.args.codes.now (column_of part) c.in_default.not-Primitive c.in_default.not-Bool c.requires.computed flat) c.shown_values.ensures.flat
