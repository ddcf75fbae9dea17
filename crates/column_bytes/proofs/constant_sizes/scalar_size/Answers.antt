use Rattle.std.proofs.Common.{◌≡◌, ◌∙◌, ◌∷◌, [], ap, arith, length, refl, subst, List, ℕ, ℤ, FitsSigned, rules}
use Rattle.std.specs.Int.{w128}
use Rattle.std.specs.Prelude.{IfOk, IfErr}
use Rattle.std.specs.Str.{IsUtf8}
use Rattle.column_base.specs.Types.{nullability_of}
use Rattle.column_base.specs.Words.{one_if}
use Rattle.column_fields.specs.DecimalBytes.{decimal_bytes}
use Rattle.std.proofs.lemmas.Int.{to_z-of_z}
use Rattle.column_core.specs.ScalarView.{sees}
use Rattle.column_core.specs.Value.{Number}
use Rattle.column_fields.specs.FlatFields.{flat_fields}
use Rattle.column_fields.specs.Sizes.{IsPast}
use Rattle.column_fields.proofs.DecimalLaws.{length-decimal_bytes}
use Rattle.column_bytes.specs.Values.{some_bytes, some_validity}
use Rattle.column_bytes.proofs.MessageSizes.{flat_long, null_long}
use Rattle.column_bytes.proofs.Shown.{single_is_no_list, null_told, truth_told, text_told, bytes_told, decimal_told, natural_told}
use Rattle.column_bytes.proofs.constant_sizes.scalar_size.Goals as goal

pub returns-in-Null-clause-size : goal.returns-in-Null-clause-size
returns-in-Null-clause-size g c =
    let p = null_told c.args.scalar.now c.view.result c.in-Null.is c.view.ensures.value c.view.ensures.of_type in
    omega (arith, null_long, c.number_size.ensures.size, c.bytes_key_size.ensures.size, ap length p.fields_are)

pub returns-in-Null-clause-typed : goal.returns-in-Null-clause-typed
returns-in-Null-clause-typed g c =
    let p = null_told c.args.scalar.now c.view.result c.in-Null.is c.view.ensures.value c.view.ensures.of_type in
    p.typed

pub returns-in-Bool-clause-size : goal.returns-in-Bool-clause-size
returns-in-Bool-clause-size g c =
    let p = truth_told c.args.scalar.now c.view.result c.in-Bool.field-0 c.nullability.result c.in-Bool.is c.view.ensures.value c.view.ensures.of_type (c.nullability.ensures ∙ ap nullability_of c.dtype-dtype.ensures) in
    let long = flat_long (some_validity c.nullability.result) (one_if c.in-Bool.field-0 ∷ []) 1 refl ∙ ap length p.fields_are in
    subst (λ (n : ℕ). IfOk c.some_size.result (λ size. size ≡ n)) long c.some_size.ensures.size

pub returns-in-Bool-clause-past : goal.returns-in-Bool-clause-past
returns-in-Bool-clause-past g c =
    let p = truth_told c.args.scalar.now c.view.result c.in-Bool.field-0 c.nullability.result c.in-Bool.is c.view.ensures.value c.view.ensures.of_type (c.nullability.ensures ∙ ap nullability_of c.dtype-dtype.ensures) in
    let long = flat_long (some_validity c.nullability.result) (one_if c.in-Bool.field-0 ∷ []) 1 refl ∙ ap length p.fields_are in
    subst (λ (n : ℕ). IfErr c.some_size.result (λ error. IsPast n error)) long c.some_size.ensures.past

pub returns-in-Bool-clause-typed : goal.returns-in-Bool-clause-typed
returns-in-Bool-clause-typed g c =
    let p = truth_told c.args.scalar.now c.view.result c.in-Bool.field-0 c.nullability.result c.in-Bool.is c.view.ensures.value c.view.ensures.of_type (c.nullability.ensures ∙ ap nullability_of c.dtype-dtype.ensures) in
    p.typed

pub returns-in-Unsigned-clause-size : goal.returns-in-Unsigned-clause-size
returns-in-Unsigned-clause-size g c =
    let fits : FitsSigned w128 c.from.result = search rules in
    let same = ap (λ (z : ℤ). length (flat_fields (some_validity (nullability_of c.dtype-dtype.result)) (some_bytes c.dtype-dtype.result (Number z)))) (to_z-of_z w128 c.from.result fits) in
    let p = (natural_told c.args.scalar.now c.view.result c.in-Unsigned.number c.dtype-dtype.result c.from.result c.from.ensures c.in-Unsigned.is c.view.ensures.value c.view.ensures.of_type c.dtype-dtype.ensures).told in
    subst (λ (n : ℕ). IfOk c.whole_size.result (λ size. size ≡ n)) (same ∙ ap length p.fields_are) c.whole_size.ensures.size

pub returns-in-Unsigned-clause-past : goal.returns-in-Unsigned-clause-past
returns-in-Unsigned-clause-past g c =
    let fits : FitsSigned w128 c.from.result = search rules in
    let same = ap (λ (z : ℤ). length (flat_fields (some_validity (nullability_of c.dtype-dtype.result)) (some_bytes c.dtype-dtype.result (Number z)))) (to_z-of_z w128 c.from.result fits) in
    let p = (natural_told c.args.scalar.now c.view.result c.in-Unsigned.number c.dtype-dtype.result c.from.result c.from.ensures c.in-Unsigned.is c.view.ensures.value c.view.ensures.of_type c.dtype-dtype.ensures).told in
    subst (λ (n : ℕ). IfErr c.whole_size.result (λ error. IsPast n error)) (same ∙ ap length p.fields_are) c.whole_size.ensures.past

pub returns-in-Unsigned-clause-typed : goal.returns-in-Unsigned-clause-typed
returns-in-Unsigned-clause-typed g c =
    let p = natural_told c.args.scalar.now c.view.result c.in-Unsigned.number c.dtype-dtype.result c.from.result c.from.ensures c.in-Unsigned.is c.view.ensures.value c.view.ensures.of_type c.dtype-dtype.ensures in
    p.told.typed

pub returns-in-Utf8-clause-size : goal.returns-in-Utf8-clause-size
returns-in-Utf8-clause-size g c =
    let utf8 : IsUtf8 c.in-Utf8.text.now = subst (λ (x : List ℕ). IsUtf8 x) c.as_bytes.ensures.value c.as_bytes.ensures.utf8 in
    let p = text_told c.args.scalar.now c.view.result c.in-Utf8.text c.as_bytes.result.now c.nullability-in-Utf8.result utf8 c.as_bytes.ensures.value c.in-Utf8.is c.view.ensures.value c.view.ensures.of_type (c.nullability-in-Utf8.ensures ∙ ap nullability_of c.dtype-dtype.ensures) in
    let long = flat_long (some_validity c.nullability-in-Utf8.result) c.as_bytes.result.now _ refl ∙ ap length p.fields_are in
    subst (λ (n : ℕ). IfOk c.some_size-in-Utf8.result (λ size. size ≡ n)) long c.some_size-in-Utf8.ensures.size

pub returns-in-Utf8-clause-past : goal.returns-in-Utf8-clause-past
returns-in-Utf8-clause-past g c =
    let utf8 : IsUtf8 c.in-Utf8.text.now = subst (λ (x : List ℕ). IsUtf8 x) c.as_bytes.ensures.value c.as_bytes.ensures.utf8 in
    let p = text_told c.args.scalar.now c.view.result c.in-Utf8.text c.as_bytes.result.now c.nullability-in-Utf8.result utf8 c.as_bytes.ensures.value c.in-Utf8.is c.view.ensures.value c.view.ensures.of_type (c.nullability-in-Utf8.ensures ∙ ap nullability_of c.dtype-dtype.ensures) in
    let long = flat_long (some_validity c.nullability-in-Utf8.result) c.as_bytes.result.now _ refl ∙ ap length p.fields_are in
    subst (λ (n : ℕ). IfErr c.some_size-in-Utf8.result (λ error. IsPast n error)) long c.some_size-in-Utf8.ensures.past

pub returns-in-Binary-clause-size : goal.returns-in-Binary-clause-size
returns-in-Binary-clause-size g c =
    let p = bytes_told c.args.scalar.now c.view.result c.in-Binary.bytes c.nullability-in-Binary.result c.in-Binary.is c.view.ensures.value c.view.ensures.of_type (c.nullability-in-Binary.ensures ∙ ap nullability_of c.dtype-dtype.ensures) in
    let long = flat_long (some_validity c.nullability-in-Binary.result) c.in-Binary.bytes.now _ refl ∙ ap length p.fields_are in
    subst (λ (n : ℕ). IfOk c.some_size-in-Binary.result (λ size. size ≡ n)) long c.some_size-in-Binary.ensures.size

pub returns-in-Binary-clause-past : goal.returns-in-Binary-clause-past
returns-in-Binary-clause-past g c =
    let p = bytes_told c.args.scalar.now c.view.result c.in-Binary.bytes c.nullability-in-Binary.result c.in-Binary.is c.view.ensures.value c.view.ensures.of_type (c.nullability-in-Binary.ensures ∙ ap nullability_of c.dtype-dtype.ensures) in
    let long = flat_long (some_validity c.nullability-in-Binary.result) c.in-Binary.bytes.now _ refl ∙ ap length p.fields_are in
    subst (λ (n : ℕ). IfErr c.some_size-in-Binary.result (λ error. IsPast n error)) long c.some_size-in-Binary.ensures.past

pub returns-in-Decimal-clause-size : goal.returns-in-Decimal-clause-size
returns-in-Decimal-clause-size g c =
    let fits : FitsSigned w128 c.in-Decimal.field-0 = search rules in
    let p = decimal_told c.args.scalar.now c.view.result c.in-Decimal.field-0 c.nullability-in-Decimal.result fits c.in-Decimal.is c.view.ensures.value c.view.ensures.of_type (c.nullability-in-Decimal.ensures ∙ ap nullability_of c.dtype-dtype.ensures) in
    let long = flat_long (some_validity c.nullability-in-Decimal.result) (decimal_bytes c.in-Decimal.field-0) 16 (length-decimal_bytes c.in-Decimal.field-0) ∙ ap length p.fields_are in
    subst (λ (n : ℕ). IfOk c.some_size-in-Decimal.result (λ size. size ≡ n)) long c.some_size-in-Decimal.ensures.size

pub returns-in-Decimal-clause-past : goal.returns-in-Decimal-clause-past
returns-in-Decimal-clause-past g c =
    let fits : FitsSigned w128 c.in-Decimal.field-0 = search rules in
    let p = decimal_told c.args.scalar.now c.view.result c.in-Decimal.field-0 c.nullability-in-Decimal.result fits c.in-Decimal.is c.view.ensures.value c.view.ensures.of_type (c.nullability-in-Decimal.ensures ∙ ap nullability_of c.dtype-dtype.ensures) in
    let long = flat_long (some_validity c.nullability-in-Decimal.result) (decimal_bytes c.in-Decimal.field-0) 16 (length-decimal_bytes c.in-Decimal.field-0) ∙ ap length p.fields_are in
    subst (λ (n : ℕ). IfErr c.some_size-in-Decimal.result (λ error. IsPast n error)) long c.some_size-in-Decimal.ensures.past

pub returns-in-Decimal-clause-typed : goal.returns-in-Decimal-clause-typed
returns-in-Decimal-clause-typed g c =
    let fits : FitsSigned w128 c.in-Decimal.field-0 = search rules in
    let p = decimal_told c.args.scalar.now c.view.result c.in-Decimal.field-0 c.nullability-in-Decimal.result fits c.in-Decimal.is c.view.ensures.value c.view.ensures.of_type (c.nullability-in-Decimal.ensures ∙ ap nullability_of c.dtype-dtype.ensures) in
    p.typed

pub unreachable-requires : goal.unreachable-requires
unreachable-requires g c = single_is_no_list c.args.scalar.now.value (sees c.view.result) _ (ap sees c.in-List.is) c.view.ensures.value
