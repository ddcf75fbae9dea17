use Rattle.std.proofs.Common.{◌≡◌, map, subst, sym, true}
use Rattle.column_base.specs.declared.dtype.DType.{DType}
use Rattle.column_core.specs.Leaf.{OfNumbers}
use Rattle.column_core.specs.PrimitiveForm.{optional_numbers}
use Rattle.column_sums.specs.SumAnswer.{number_in}
use Rattle.runend_array.specs.Array.{dtype_of, rows}
use Rattle.runend_encode.specs.Encoding.{IsRowEncoding}
use Rattle.column_floats.specs.Extremes.{AreKeysIn}
use Rattle.column_floats.specs.Formats.{format_of, is_floats}
use Rattle.column_floats.proofs.KeyExtremes.{same_ends}
use Rattle.runend_floats.proofs.CoveredRows.{same_keys}
use Rattle.runend_floats.proofs.extremes.extreme_keys.Goals as goal

pub extremes_of-extremes-requires : goal.extremes_of-extremes-requires
extremes_of-extremes-requires g c =
    let array = c.args.column.now in
    let numbers = c.in-Primitive.keys in
    let e : IsRowEncoding (rows array) (dtype_of array) c.in_ok-_ends._ends (OfNumbers numbers) = rw c.in-Primitive.is at c.in_ok-_ends.ensures.encoding in
    subst (λ (t : DType). is_floats t ≡ true) (sym e.typed) c.requires

pub returns-clause-ends : goal.returns-clause-ends
returns-clause-ends g c =
    let array = c.args.column.now in
    let numbers = c.in-Primitive.keys in
    let e : IsRowEncoding (rows array) (dtype_of array) c.in_ok-_ends._ends (OfNumbers numbers) = rw c.in-Primitive.is at c.in_ok-_ends.ensures.encoding in
    same_ends (g.T.KeyTest.passes c.args.test.now) (optional_numbers numbers) (map number_in (rows array)) c.extremes_of-extremes.result (same_keys (rows array) (dtype_of array) c.in_ok-_ends._ends numbers e) c.extremes_of-extremes.ensures.ends

pub returns-clause-fits : goal.returns-clause-fits
returns-clause-fits g c =
    let array = c.args.column.now in
    let numbers = c.in-Primitive.keys in
    let e : IsRowEncoding (rows array) (dtype_of array) c.in_ok-_ends._ends (OfNumbers numbers) = rw c.in-Primitive.is at c.in_ok-_ends.ensures.encoding in
    subst (λ (t : DType). AreKeysIn (format_of t) c.extremes_of-extremes.result) e.typed c.extremes_of-extremes.ensures.fits
