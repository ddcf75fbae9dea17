use Rattle.std.proofs.Common.{◌∙◌, List, Option, length, ap, subst, sym}
use Rattle.std.specs.Prelude.{IfOk}
use Rattle.std.proofs.lemmas.List.{length-map}
use Rattle.column_base.specs.declared.dtype.DType.{DType}
use Rattle.column_core.specs.FlatColumn.{leaf_of}
use Rattle.column_core.specs.Leaf.{OfNumbers, single_rows}
use Rattle.column_core.specs.PrimitiveForm.{primitive_dtype}
use Rattle.column_core.specs.Value.{Value}
use Rattle.runend_encode.specs.Encoding.{IsRowEncoding}
use Rattle.runend_encode.proofs.Starts.{length-single}
use Rattle.runend_windows.specs.Ends.{ends_of}
use Rattle.runend_windows.specs.Window.{run_rows}
use Rattle.column_floats.specs.FloatRows.{key_row}
use Rattle.column_floats.specs.Formats.{format_of_width, keys_dtype}
use Rattle.column_floats.specs.Patterns.{stored_key}
use Rattle.runend_floats.proofs.encoding.keyed_runs.Goals as goal

pub encode_runs-parts-requires-clause-paired : goal.encode_runs-parts-requires-clause-paired
encode_runs-parts-requires-clause-paired g c =
    sym (length-single (OfNumbers c.in_ok-keys.keys)) ∙ ap length c.in_ok-keys.ensures.rows
    ∙ length-map (single_rows (OfNumbers c.args.bits.now)) (key_row (stored_key c.args.patterns (format_of_width c.args.bits.now.ptype))) ∙ c.requires.paired

pub returns-clause-encoding : goal.returns-clause-encoding
returns-clause-encoding g c =
    let keys = c.in_ok-keys.keys in
    let ends = ends_of c.args.ends.now in
    subst (λ (values : List (Option Value)). IfOk c.encode_runs-parts.result (λ parts. IsRowEncoding (run_rows ends values 0 c.args.count) (keys_dtype (primitive_dtype c.args.bits.now)) parts.0 (leaf_of parts.1))) c.in_ok-keys.ensures.rows
    (subst (λ (t : DType). IfOk c.encode_runs-parts.result (λ parts. IsRowEncoding (run_rows ends (single_rows (OfNumbers keys)) 0 c.args.count) t parts.0 (leaf_of parts.1))) c.in_ok-keys.ensures.dtype c.encode_runs-parts.ensures.encoding)
