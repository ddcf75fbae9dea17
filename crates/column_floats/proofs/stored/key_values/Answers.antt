use Rattle.std.proofs.Common.{◌≡◌, ◌∙◌, ℤ, List, ap, map, pos, subst, sym}
use Rattle.std.specs.Prelude.{IfOk, unsigned_abs}
use Rattle.column_base.specs.Numbers.{numbers, ptype_of}
use Rattle.column_base.specs.declared.values.PrimitiveValues.{PrimitiveValues}
use Rattle.column_floats.specs.Formats.{format_of_width}
use Rattle.column_floats.specs.Patterns.{stored_key}
use Rattle.column_floats.specs.declared.patterns.FloatPatterns.{FloatPatterns}
use Rattle.float_bits.specs.declared.formats.FloatFormat.TheVariants.{F16, F32, F64}
use Rattle.column_floats.proofs.stored.key_values.Goals as goal

-- the keys of stored numbers
abbrev keys_in : {A : Type 0} → FloatPatterns → PrimitiveValues A → List ℤ
keys_in patterns values = map (λ n. stored_key patterns (format_of_width (ptype_of values)) (unsigned_abs n)) (numbers values)

pub returns-in-U16-clause-keys : goal.returns-in-U16-clause-keys
returns-in-U16-clause-keys g c =
    let key : ℤ → ℤ = λ n. stored_key c.args.patterns F16 (unsigned_abs n) in
    let same = ap (λ ns. map key (map (λ n. pos n) ns)) c.as_slice.ensures.value ∙ ap (keys_in c.args.patterns) (sym c.in-U16.is) in
    subst (λ (ks : List ℤ). IfOk c.keys_from.result (λ keys. numbers keys ≡ ks)) same c.keys_from.ensures.keys

pub returns-in-U32-clause-keys : goal.returns-in-U32-clause-keys
returns-in-U32-clause-keys g c =
    let key : ℤ → ℤ = λ n. stored_key c.args.patterns F32 (unsigned_abs n) in
    let same = ap (λ ns. map key (map (λ n. pos n) ns)) c.as_slice-in-U32.ensures.value ∙ ap (keys_in c.args.patterns) (sym c.in-U32.is) in
    subst (λ (ks : List ℤ). IfOk c.keys_from-in-U32.result (λ keys. numbers keys ≡ ks)) same c.keys_from-in-U32.ensures.keys

pub returns-in-U64-clause-keys : goal.returns-in-U64-clause-keys
returns-in-U64-clause-keys g c =
    let key : ℤ → ℤ = λ n. stored_key c.args.patterns F64 (unsigned_abs n) in
    let same = ap (λ ns. map key (map (λ n. pos n) ns)) c.as_slice-in-U64.ensures.value ∙ ap (keys_in c.args.patterns) (sym c.in-U64.is) in
    subst (λ (ks : List ℤ). IfOk c.keys_from-in-U64.result (λ keys. numbers keys ≡ ks)) same c.keys_from-in-U64.ensures.keys
