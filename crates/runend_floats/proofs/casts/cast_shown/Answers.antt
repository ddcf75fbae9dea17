use Rattle.std.proofs.Common.{◌∙◌, subst, sym}
use Rattle.std.proofs.lemmas.Slice.Zip.{AllZip-long}
use Rattle.column_base.specs.declared.dtype.DType.{DType}
use Rattle.column_core.specs.FlatColumn.{leaf_of}
use Rattle.column_core.specs.Leaf.{OfNumbers, single_rows}
use Rattle.column_core.specs.PrimitiveForm.{optional_numbers}
use Rattle.runend_encode.specs.Encoding.{IsRowEncoding}
use Rattle.runend_encode.proofs.Starts.{length-single}
use Rattle.runend_windows.specs.Ends.{ends_of}
use Rattle.runend_windows.specs.Window.{run_rows}
use Rattle.column_floats.specs.Casts.{Becomes, IsCastRow}
use Rattle.runend_floats.proofs.CastLists.{if_ok, only_memory, shown_cast}
use Rattle.runend_floats.proofs.casts.cast_shown.Goals as goal

pub encode_runs-parts-requires-clause-paired : goal.encode_runs-parts-requires-clause-paired
encode_runs-parts-requires-clause-paired g c =
    let becomes = Becomes (g.C.NumberCast.target c.args.cast.now) (g.C.NumberCast.casts c.args.cast.now) in
    let made = c.in_ok-made.made in
    sym (length-single (OfNumbers made)) ∙ AllZip-long (IsCastRow becomes) (single_rows (OfNumbers c.args.array.now)) (single_rows (OfNumbers made)) c.in_ok-made.ensures.rows ∙ c.requires.paired

pub returns-clause-refused : goal.returns-clause-refused
returns-clause-refused g c =
    let becomes = Becomes (g.C.NumberCast.target c.args.cast.now) (g.C.NumberCast.casts c.args.cast.now) in
    only_memory becomes (optional_numbers c.args.array.now) c.encode_runs-parts.result c.encode_runs-parts.ensures.only

pub returns-clause-cast : goal.returns-clause-cast
returns-clause-cast g c =
    let becomes = Becomes (g.C.NumberCast.target c.args.cast.now) (g.C.NumberCast.casts c.args.cast.now) in
    let ends = ends_of c.args.ends.now in
    let values = single_rows (OfNumbers c.args.array.now) in
    let made = single_rows (OfNumbers c.in_ok-made.made) in
    if_ok c.encode_runs-parts.result (λ parts encoding. record {
      cast = run_rows ends made 0 c.args.count;
      each = shown_cast becomes ends values made c.args.count c.in_ok-made.ensures.rows;
      encoding = subst (λ (t : DType). IsRowEncoding (run_rows ends made 0 c.args.count) t parts.0 (leaf_of parts.1)) c.in_ok-made.ensures.dtype encoding;
    }) c.encode_runs-parts.ensures.encoding
