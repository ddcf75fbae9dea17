use Rattle.std.proofs.Common.{◌∙◌, List, Option, ap, length, subst, sym}
use Rattle.std.proofs.lemmas.List.{length-map}
use Rattle.column_base.specs.declared.dtype.DType.{DType}
use Rattle.column_base.specs.declared.dtype.DType.TheVariants as types
use Rattle.column_base.specs.ValidityForm.{nullability_in}
use Rattle.column_core.specs.FlatColumn.{leaf_of}
use Rattle.column_core.specs.Leaf.{OfTruths, single_rows}
use Rattle.column_core.specs.PrimitiveForm.{optional_numbers}
use Rattle.column_core.specs.Value.{Value}
use Rattle.column_floats.specs.Comparisons.{tested_row}
use Rattle.runend_encode.specs.Encoding.{IsRowEncoding}
use Rattle.runend_encode.proofs.Starts.{length-single}
use Rattle.runend_windows.specs.Ends.{ends_of}
use Rattle.runend_windows.specs.Window.{run_rows}
use Rattle.runend_floats.proofs.CastLists.{if_ok}
use Rattle.runend_floats.proofs.comparisons.tested_shown.Goals as goal

pub encode_runs-parts-requires-clause-paired : goal.encode_runs-parts-requires-clause-paired
encode_runs-parts-requires-clause-paired g c =
    let keys = optional_numbers c.args.keys.now in
    let truths = c.in_ok-truths.truths in
    sym (length-single (OfTruths truths)) ∙ ap length c.in_ok-truths.ensures.rows ∙ length-map keys (tested_row (g.T.KeyTest.passes c.args.test.now)) ∙ c.requires.paired

pub returns-clause-tested : goal.returns-clause-tested
returns-clause-tested g c =
    let ends = ends_of c.args.ends.now in
    let truths = c.in_ok-truths.truths in
    if_ok c.encode_runs-parts.result (λ parts encoding.
    subst (λ (values : List (Option Value)). IsRowEncoding (run_rows ends values 0 c.args.count) (types.Bool (nullability_in c.args.keys.now.validity)) parts.0 (leaf_of parts.1)) c.in_ok-truths.ensures.rows
    (subst (λ (t : DType). IsRowEncoding (run_rows ends (single_rows (OfTruths truths)) 0 c.args.count) t parts.0 (leaf_of parts.1)) c.in_ok-truths.ensures.dtype encoding)) c.encode_runs-parts.ensures.encoding
