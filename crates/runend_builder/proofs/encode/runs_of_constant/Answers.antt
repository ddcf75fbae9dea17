use Rattle.std.proofs.Common.{◌≡◌, ◌∙◌, ◌<◌, ◌^◌, List, Option, min, sym, subst, arith}
use Rattle.std.specs.Prelude.{IfOk, slice_range}
use Rattle.column_base.specs.declared.dtype.DType.{DType}
use Rattle.column_base.specs.Numbers.{numbers, ptype_of}
use Rattle.column_core.specs.FlatColumn.{leaf_of}
use Rattle.column_core.specs.Leaf.{leaf_dtype, single_rows}
use Rattle.column_core.specs.Value.{Value}
use Rattle.runend_windows.specs.Ends.{ends_of}
use Rattle.runend_windows.specs.Window.{run_rows}
use Rattle.runend_array.specs.Array.{column_of, dtype_of, rows}
use Rattle.runend_encode.specs.Encoding.{IsRowEncoding}
use Rattle.runend_encode.proofs.Starts.{length-single}
use Rattle.runend_builder.proofs.Constants.{constant_parts}
use Rattle.runend_builder.proofs.encode.runs_of_constant.Goals as goal

pub encode_runs-made-requires-clause-paired : goal.encode_runs-made-requires-clause-paired
encode_runs-made-requires-clause-paired g c =
    let array = c.args.array.now in
    let count = c.len-count.result in
    let runs = c.min-runs.result in
    let values = leaf_of c.in-Flat.values in
    let few : runs ≡ min count 1 = omega (arith, c.min-runs.ensures) in
    let small : count < 2 ^ 64 = omega arith in
    let part : single_rows values ≡ slice_range (rows array) 0 runs = rw c.in-Flat.is at c.in-Ok.ensures.part.rows in
    let parts = constant_parts (column_of array) count runs (ptype_of c.wrap.result) (numbers c.wrap.result) c.in_ok-ends.ends.items c.new_unchecked-ends.result values c.requires.constant c.len-count.ensures small few
    c.wrap.ensures.typed c.wrap.ensures.shows (c.in_ok-ends.ensures.items_if_clones_equal (λ y e. e)) c.new_unchecked-ends.ensures part in
    sym (length-single values) ∙ parts.paired

pub encode_runs-made-requires-clause-shown : goal.encode_runs-made-requires-clause-shown
encode_runs-made-requires-clause-shown g c =
    let array = c.args.array.now in
    let count = c.len-count.result in
    let runs = c.min-runs.result in
    let values = leaf_of c.in-Flat.values in
    let few : runs ≡ min count 1 = omega (arith, c.min-runs.ensures) in
    let small : count < 2 ^ 64 = omega arith in
    let part : single_rows values ≡ slice_range (rows array) 0 runs = rw c.in-Flat.is at c.in-Ok.ensures.part.rows in
    let parts = constant_parts (column_of array) count runs (ptype_of c.wrap.result) (numbers c.wrap.result) c.in_ok-ends.ends.items c.new_unchecked-ends.result values c.requires.constant c.len-count.ensures small few
    c.wrap.ensures.typed c.wrap.ensures.shows (c.in_ok-ends.ensures.items_if_clones_equal (λ y e. e)) c.new_unchecked-ends.ensures part in
    parts.shown

pub returns-clause-encoding : goal.returns-clause-encoding
returns-clause-encoding g c =
    let array = c.args.array.now in
    let count = c.len-count.result in
    let runs = c.min-runs.result in
    let values = leaf_of c.in-Flat.values in
    let few : runs ≡ min count 1 = omega (arith, c.min-runs.ensures) in
    let small : count < 2 ^ 64 = omega arith in
    let part : single_rows values ≡ slice_range (rows array) 0 runs = rw c.in-Flat.is at c.in-Ok.ensures.part.rows in
    let parts = constant_parts (column_of array) count runs (ptype_of c.wrap.result) (numbers c.wrap.result) c.in_ok-ends.ends.items c.new_unchecked-ends.result values c.requires.constant c.len-count.ensures small few
    c.wrap.ensures.typed c.wrap.ensures.shows (c.in_ok-ends.ensures.items_if_clones_equal (λ y e. e)) c.new_unchecked-ends.ensures part in
    let typed : leaf_dtype values ≡ dtype_of array = rw c.in-Flat.is at c.in-Ok.ensures.part.dtype in
    subst (λ (rows : List (Option Value)). IfOk c.encode_runs-made.result (λ parts. IsRowEncoding rows (dtype_of array) parts.0 (leaf_of parts.1))) parts.rows
    (subst (λ (t : DType). IfOk c.encode_runs-made.result (λ parts. IsRowEncoding (run_rows (ends_of c.new_unchecked-ends.result) (single_rows values) 0 count) t parts.0 (leaf_of parts.1))) typed c.encode_runs-made.ensures.encoding)
