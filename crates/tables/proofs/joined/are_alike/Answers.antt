use Rattle.std.proofs.Common.{◌≡◌, ◌∙◌, ℕ, List, ap, sym}
use Rattle.std.specs.String.{string_bytes}
use Rattle.std.proofs.lemmas.Slice.Eq.{bytes_eq-Decides}
use Rattle.column_base.specs.declared.dtype.DType.{DType}
use Rattle.column_core.specs.SameType.{same_dtype-decides}
use Rattle.runend_array.specs.Array.{dtype_of}
use Rattle.tables.proofs.joined.are_alike.Goals as goal

pub returns-then-eq : goal.returns-then-eq
returns-then-eq g c =
    let column = c.args.column.now in
    let other = c.args.other.now in
    let texts = bytes_eq-Decides c.as_str.result.now c.as_str-then-eq.result.now in
    let dtypes : dtype_of column.array ≡ dtype_of other.array = sym c.dtype.ensures ∙ (same_dtype-decides c.dtype.result c.dtype-2.result).0 (sym c.eq.ensures ∙ c.if-eq.true) ∙ c.dtype-2.ensures in (
      λ equal. let formats : string_bytes column.format ≡ string_bytes other.format = sym c.as_str.ensures.value ∙ texts.0 (sym c.eq-then-eq.ensures ∙ equal) ∙ c.as_str-then-eq.ensures.value in (λ i. (formats i, dtypes i)),
      λ same. c.eq-then-eq.ensures ∙ texts.1 (c.as_str.ensures.value ∙ ap (λ (p : List ℕ × DType). p.0) same ∙ sym c.as_str-then-eq.ensures.value),
    )
