use Rattle.std.proofs.Common.{ap, length, sym, ◌∙◌}
use Rattle.std.specs.Prelude.{option_map, unsigned_abs}
use Rattle.std.proofs.lemmas.List.{length-map}
use Rattle.column_core.specs.FlatColumn.{leaf_of}
use Rattle.column_core.specs.Leaf.{leaf_rows}
use Rattle.column_core.specs.Value.{Single}
use Rattle.runend_windows.specs.Ends.{ends_of}
use Rattle.column_core.specs.Leaf.{single_rows}
use Rattle.runend_windows.proofs.FlatColumns.{run_rows-of_nulls}
use Rattle.runend_windows.proofs.NullRows.{may_be_null-of_nulls}
use Rattle.runend_array.proofs.compress.decode_column.Goals as goal

pub null_constant-nulls-requires : goal.null_constant-nulls-requires
null_constant-nulls-requires g c =
    let nulls = c.has_nulls_alone.ensures.nulls.0 c.if-has_nulls_alone.true in
    rw c.dtype.ensures (may_be_null-of_nulls (leaf_of c.args.values) c.has_nulls_alone.ensures.fits nulls)

pub returns-then-has_nulls_alone-clause-rows : goal.returns-then-has_nulls_alone-clause-rows
returns-then-has_nulls_alone-clause-rows g c =
    let nulls = c.has_nulls_alone.ensures.nulls.0 c.if-has_nulls_alone.true in
    let values = leaf_of c.args.values in
    let paired = length-map (leaf_rows values) (option_map Single) ∙ c.requires.paired ∙ sym (length-map c.args.ends.now.numbers unsigned_abs) in
    rw c.null_constant-nulls.ensures
    (run_rows-of_nulls (ends_of c.args.ends.now) (single_rows values) c.args.offset c.args.count c.requires.window paired nulls)

pub decode_flat-array-requires-clause-paired : goal.decode_flat-array-requires-clause-paired
decode_flat-array-requires-clause-paired g c = ap (λ leaf. length (leaf_rows leaf)) c.view.ensures ∙ c.requires.paired
