use Rattle.std.proofs.Common.{length, sym, ap, ◌∙◌}
use Rattle.std.specs.Prelude.{option_map}
use Rattle.std.proofs.lemmas.List.{length-map}
use Rattle.column_core.specs.FlatColumn.{leaf_of}
use Rattle.column_core.specs.Leaf.{leaf_rows}
use Rattle.column_core.specs.Value.{Single}
use Rattle.runend_array.specs.Column.{column_rows}
use Rattle.runend_array.specs.Canonical.{canonical_column}
use Rattle.runend_array.proofs.ListRows.{length-list_rows}
use Rattle.runend_array.proofs.canonical.Canonical.decode_with.Goals as goal

pub decode_with-made-requires-clause-plain : goal.decode_with-made-requires-clause-plain
decode_with-made-requires-clause-plain g c = c.requires.plain

pub decode_with-made-requires-clause-window : goal.decode_with-made-requires-clause-window
decode_with-made-requires-clause-window g c = c.requires.window

pub decode_with-made-requires-clause-paired : goal.decode_with-made-requires-clause-paired
decode_with-made-requires-clause-paired g c =
    sym (length-list_rows c.in-List.lists) ∙ sym (ap (λ flat. length (column_rows (canonical_column flat))) c.in-List.is) ∙ c.requires.paired

pub decode_flat-array-requires-clause-paired : goal.decode_flat-array-requires-clause-paired
decode_flat-array-requires-clause-paired g c =
    ap (λ leaf. length (leaf_rows leaf)) c.view.ensures
    ∙ sym (length-map (leaf_rows (leaf_of c.in-Flat.values)) (option_map Single))
    ∙ sym (ap (λ flat. length (column_rows (canonical_column flat))) c.in-Flat.is)
    ∙ c.requires.paired

pub returns-in_ok-array-in-Flat-clause-rows : goal.returns-in_ok-array-in-Flat-clause-rows
returns-in_ok-array-in-Flat-clause-rows g c = rw (c.in-Flat.is, ← c.view.ensures) c.in_ok-array-in-Flat.ensures.flat.rows

pub returns-in_ok-array-in-Flat-clause-dtype : goal.returns-in_ok-array-in-Flat-clause-dtype
returns-in_ok-array-in-Flat-clause-dtype g c = rw (c.in-Flat.is, ← c.view.ensures) c.in_ok-array-in-Flat.ensures.flat.dtype

pub returns-in_ok-array-in-Flat-clause-form : goal.returns-in_ok-array-in-Flat-clause-form
returns-in_ok-array-in-Flat-clause-form g c = c.in_ok-array-in-Flat.ensures.flat.computed

pub returns-in_ok-shown-in-List-clause-rows : goal.returns-in_ok-shown-in-List-clause-rows
returns-in_ok-shown-in-List-clause-rows g c = rw c.in-List.is c.in_ok-shown-in-List.ensures.rows

pub returns-in_ok-shown-in-List-clause-dtype : goal.returns-in_ok-shown-in-List-clause-dtype
returns-in_ok-shown-in-List-clause-dtype g c = rw c.in-List.is c.in_ok-shown-in-List.ensures.dtype

pub returns-in_ok-shown-in-List-clause-form : goal.returns-in_ok-shown-in-List-clause-form
returns-in_ok-shown-in-List-clause-form g c = tt
