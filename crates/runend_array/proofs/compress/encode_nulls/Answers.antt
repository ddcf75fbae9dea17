use Rattle.std.proofs.Common.{ℕ, List, map, pos, ◌∙◌, ap, arith}
use Rattle.column_base.specs.declared.dtype.PType.TheVariants.{U64}
use Rattle.column_base.specs.ValidityForm.{NeverNull}
use Rattle.column_core.specs.PrimitiveForm.{primitive_with}
use Rattle.runend_array.proofs.Encodings.{IsEncoding-of_nulls}
use Rattle.runend_array.proofs.FlatForms.{of_u64}
use Rattle.runend_array.proofs.compress.encode_nulls.Goals as goal

pub returns-clause-encoding : goal.returns-clause-encoding
returns-clause-encoding g c =
    let one = ap (λ (ends : List ℕ). primitive_with U64 (map (λ n. pos n) ends) NeverNull) c.in_ok-ends.ensures.items in
    rw (c.null_constant-values.ensures, c.dtype.ensures)
    (IsEncoding-of_nulls c.args.array.now c.new_unchecked-ends.result c.len.result c.requires c.len.ensures.numbers (omega arith) (c.new_unchecked-ends.ensures ∙ of_u64 c.from_vec.result c.in_ok-ends.ends.items c.from_vec.ensures.shows c.from_vec.ensures.typed ∙ one))
