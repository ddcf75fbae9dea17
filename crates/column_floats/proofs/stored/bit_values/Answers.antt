use Rattle.std.proofs.Common.{◌≡◌, ◌∙◌, ℤ, List, ap, map, pos, subst, sym}
use Rattle.std.specs.Prelude.{IfOk}
use Rattle.std.proofs.lemmas.List.{map-id}
use Rattle.column_base.specs.Numbers.{numbers, ptype_of}
use Rattle.column_base.specs.declared.values.PrimitiveValues.{PrimitiveValues}
use Rattle.column_floats.specs.FloatRows.{bits_of_key}
use Rattle.column_floats.specs.Formats.{format_of_width}
use Rattle.float_bits.specs.declared.formats.FloatFormat.TheVariants.{F16, F32, F64}
use Rattle.column_floats.proofs.stored.bit_values.Goals as goal

-- the bits of stored keys
abbrev bits_in : {A : Type 0} → PrimitiveValues A → List ℤ
bits_in values = map (λ n. pos (bits_of_key (format_of_width (ptype_of values)) n)) (numbers values)

pub returns-in-I16-clause-bits : goal.returns-in-I16-clause-bits
returns-in-I16-clause-bits g c =
    let bits : ℤ → ℤ = λ n. pos (bits_of_key F16 n) in
    let same = ap (map bits) (map-id c.as_slice.result.now ∙ c.as_slice.ensures.value) ∙ ap bits_in (sym c.in-I16.is) in
    subst (λ (ks : List ℤ). IfOk c.bits_from.result (λ bits. numbers bits ≡ ks)) same c.bits_from.ensures.bits

pub returns-in-I32-clause-bits : goal.returns-in-I32-clause-bits
returns-in-I32-clause-bits g c =
    let bits : ℤ → ℤ = λ n. pos (bits_of_key F32 n) in
    let same = ap (map bits) (map-id c.as_slice-in-I32.result.now ∙ c.as_slice-in-I32.ensures.value) ∙ ap bits_in (sym c.in-I32.is) in
    subst (λ (ks : List ℤ). IfOk c.bits_from-in-I32.result (λ bits. numbers bits ≡ ks)) same c.bits_from-in-I32.ensures.bits

pub returns-in-I64-clause-bits : goal.returns-in-I64-clause-bits
returns-in-I64-clause-bits g c =
    let bits : ℤ → ℤ = λ n. pos (bits_of_key F64 n) in
    let same = ap (map bits) (map-id c.as_slice-in-I64.result.now ∙ c.as_slice-in-I64.ensures.value) ∙ ap bits_in (sym c.in-I64.is) in
    subst (λ (ks : List ℤ). IfOk c.bits_from-in-I64.result (λ bits. numbers bits ≡ ks)) same c.bits_from-in-I64.ensures.bits
