use Rattle.std.proofs.Common.{◌≡◌, ◌∙◌, ◌∷◌, [], ◌<◌, ◌^◌, ℕ, List, map, pos, ap, arith}
use Rattle.column_base.specs.declared.dtype.PType.TheVariants.{U64}
use Rattle.column_base.specs.ValidityForm.{NeverNull}
use Rattle.column_core.specs.PrimitiveForm.{primitive_with}
use Rattle.runend_array.proofs.FlatForms.{of_u64}
use Rattle.runend_commands.proofs.VisibleEncodings.{null_parts, null_runs}
use Rattle.runend_commands.proofs.compute.encodings.run_of_nulls.Goals as goal

pub new_unchecked-requires : goal.new_unchecked-requires
new_unchecked-requires g c =
    let one = ap (λ (ends : List ℕ). primitive_with U64 (map (λ n. pos n) ends) NeverNull) c.in_ok-ends.ensures.items in
    let made : c.new_unchecked-ends.result ≡ primitive_with U64 (pos c.args.count ∷ []) NeverNull =
    c.new_unchecked-ends.ensures ∙ of_u64 c.from_vec.result c.in_ok-ends.ends.items c.from_vec.ensures.shows c.from_vec.ensures.typed ∙ one in
    let small : c.args.count < 2 ^ 64 = omega arith in
    null_parts c.args.dtype c.args.count c.new_unchecked-ends.result c.null_constant-nulls.result made c.null_constant-nulls.ensures c.requires.some small

pub returns-clause-made : goal.returns-clause-made
returns-clause-made g c =
    let one = ap (λ (ends : List ℕ). primitive_with U64 (map (λ n. pos n) ends) NeverNull) c.in_ok-ends.ensures.items in
    let made : c.new_unchecked-ends.result ≡ primitive_with U64 (pos c.args.count ∷ []) NeverNull =
    c.new_unchecked-ends.ensures ∙ of_u64 c.from_vec.result c.in_ok-ends.ends.items c.from_vec.ensures.shows c.from_vec.ensures.typed ∙ one in
    c.new_unchecked.ensures ∙ null_runs c.args.dtype c.args.count c.new_unchecked-ends.result c.null_constant-nulls.result made c.null_constant-nulls.ensures
