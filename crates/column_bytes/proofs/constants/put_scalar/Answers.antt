use Rattle.std.proofs.Common.{◌≡◌, ◌∙◌, ap, subst, List, ℕ, ℤ, ◌++◌, FitsSigned, rules, length}
use Rattle.std.specs.Int.{w128}
use Rattle.std.proofs.lemmas.Int.{to_z-of_z}
use Rattle.std.specs.Prelude.{OnOk}
use Rattle.std.specs.Str.{IsUtf8}
use Rattle.column_base.specs.Types.{nullability_of}
use Rattle.column_core.specs.ScalarView.{sees}
use Rattle.column_fields.specs.DecimalBytes.{decimal_bytes}
use Rattle.column_fields.specs.FlatFields.{flat_fields}
use Rattle.column_bytes.specs.Values.{some_validity}
use Rattle.column_bytes.proofs.Shown.{single_is_no_list, null_told, truth_told, text_told, bytes_told, decimal_told, natural_told}
use Rattle.column_fields.specs.Room.{UsesRoom}
use Rattle.column_bytes.proofs.constants.put_scalar.Goals as goal

pub returns-in-Null-clause-ok : goal.returns-in-Null-clause-ok
returns-in-Null-clause-ok g c =
    let p = null_told c.args.scalar.now c.view.result c.in-Null.is c.view.ensures.value c.view.ensures.of_type in
    subst (λ (x : List ℕ). OnOk c.put_null.result (g.W.BufMut.written c.put_null.new.out ≡ g.W.BufMut.written c.args.out.now ++ x)) p.fields_are c.put_null.ensures.ok

pub returns-in-Null-clause-typed : goal.returns-in-Null-clause-typed
returns-in-Null-clause-typed g c = (null_told c.args.scalar.now c.view.result c.in-Null.is c.view.ensures.value c.view.ensures.of_type).typed

pub returns-in-Bool-clause-ok : goal.returns-in-Bool-clause-ok
returns-in-Bool-clause-ok g c =
    let p = truth_told c.args.scalar.now c.view.result c.in-Bool.truth c.nullability.result c.in-Bool.is c.view.ensures.value c.view.ensures.of_type (c.nullability.ensures ∙ ap nullability_of c.dtype-dtype.ensures) in
    subst (λ (x : List ℕ). OnOk c.put_truth.result (g.W.BufMut.written c.put_truth.new.out ≡ g.W.BufMut.written c.args.out.now ++ x)) p.fields_are c.put_truth.ensures.ok

pub returns-in-Bool-clause-typed : goal.returns-in-Bool-clause-typed
returns-in-Bool-clause-typed g c = (truth_told c.args.scalar.now c.view.result c.in-Bool.truth c.nullability.result c.in-Bool.is c.view.ensures.value c.view.ensures.of_type (c.nullability.ensures ∙ ap nullability_of c.dtype-dtype.ensures)).typed

pub returns-in-Unsigned-clause-typed : goal.returns-in-Unsigned-clause-typed
returns-in-Unsigned-clause-typed g c =
    (natural_told c.args.scalar.now c.view.result c.in-Unsigned.number c.dtype-dtype.result c.from.result c.from.ensures c.in-Unsigned.is c.view.ensures.value c.view.ensures.of_type c.dtype-dtype.ensures).told.typed

pub returns-in-Utf8-clause-ok : goal.returns-in-Utf8-clause-ok
returns-in-Utf8-clause-ok g c =
    let utf8 : IsUtf8 c.in-Utf8.text.now = subst (λ (x : List ℕ). IsUtf8 x) c.as_bytes.ensures.value c.as_bytes.ensures.utf8 in
    let p = text_told c.args.scalar.now c.view.result c.in-Utf8.text c.as_bytes.result.now c.nullability-in-Utf8.result utf8 c.as_bytes.ensures.value c.in-Utf8.is c.view.ensures.value c.view.ensures.of_type (c.nullability-in-Utf8.ensures ∙ ap nullability_of c.dtype-dtype.ensures) in
    subst (λ (x : List ℕ). OnOk c.put_some.result (g.W.BufMut.written c.put_some.new.out ≡ g.W.BufMut.written c.args.out.now ++ x)) p.fields_are c.put_some.ensures.ok

pub returns-in-Binary-clause-ok : goal.returns-in-Binary-clause-ok
returns-in-Binary-clause-ok g c =
    let p = bytes_told c.args.scalar.now c.view.result c.in-Binary.bytes c.nullability-in-Binary.result c.in-Binary.is c.view.ensures.value c.view.ensures.of_type (c.nullability-in-Binary.ensures ∙ ap nullability_of c.dtype-dtype.ensures) in
    subst (λ (x : List ℕ). OnOk c.put_some-in-Binary.result (g.W.BufMut.written c.put_some-in-Binary.new.out ≡ g.W.BufMut.written c.args.out.now ++ x)) p.fields_are c.put_some-in-Binary.ensures.ok

pub returns-in-Decimal-clause-ok : goal.returns-in-Decimal-clause-ok
returns-in-Decimal-clause-ok g c =
    let fits : FitsSigned w128 c.in-Decimal.number = search rules in
    let same = ap (λ (z : ℤ). flat_fields (some_validity c.nullability-in-Decimal.result) (decimal_bytes z)) (to_z-of_z w128 c.in-Decimal.number fits) in
    let p = decimal_told c.args.scalar.now c.view.result c.in-Decimal.number c.nullability-in-Decimal.result fits c.in-Decimal.is c.view.ensures.value c.view.ensures.of_type (c.nullability-in-Decimal.ensures ∙ ap nullability_of c.dtype-dtype.ensures) in
    subst (λ (x : List ℕ). OnOk c.put_number_of.result (g.W.BufMut.written c.put_number_of.new.out ≡ g.W.BufMut.written c.args.out.now ++ x)) (same ∙ p.fields_are) c.put_number_of.ensures.ok

pub returns-in-Decimal-clause-typed : goal.returns-in-Decimal-clause-typed
returns-in-Decimal-clause-typed g c =
    let fits : FitsSigned w128 c.in-Decimal.number = search rules in
    (decimal_told c.args.scalar.now c.view.result c.in-Decimal.number c.nullability-in-Decimal.result fits c.in-Decimal.is c.view.ensures.value c.view.ensures.of_type (c.nullability-in-Decimal.ensures ∙ ap nullability_of c.dtype-dtype.ensures)).typed

pub unreachable-requires : goal.unreachable-requires
unreachable-requires g c = single_is_no_list c.args.scalar.now.value (sees c.view.result) _ (ap sees c.in-List.is) c.view.ensures.value

pub returns-in-Null-clause-room : goal.returns-in-Null-clause-room
returns-in-Null-clause-room g c =
    let p = null_told c.args.scalar.now c.view.result c.in-Null.is c.view.ensures.value c.view.ensures.of_type in
    subst (λ (x : List ℕ). UsesRoom c.put_null.result (g.W.BufMut.spare c.args.out.now) (g.W.BufMut.spare c.put_null.new.out) (length x)) p.fields_are c.put_null.ensures.room

pub returns-in-Bool-clause-room : goal.returns-in-Bool-clause-room
returns-in-Bool-clause-room g c =
    let p = truth_told c.args.scalar.now c.view.result c.in-Bool.truth c.nullability.result c.in-Bool.is c.view.ensures.value c.view.ensures.of_type (c.nullability.ensures ∙ ap nullability_of c.dtype-dtype.ensures) in
    subst (λ (x : List ℕ). UsesRoom c.put_truth.result (g.W.BufMut.spare c.args.out.now) (g.W.BufMut.spare c.put_truth.new.out) (length x)) p.fields_are c.put_truth.ensures.room

pub returns-in-Utf8-clause-room : goal.returns-in-Utf8-clause-room
returns-in-Utf8-clause-room g c =
    let utf8 : IsUtf8 c.in-Utf8.text.now = subst (λ (x : List ℕ). IsUtf8 x) c.as_bytes.ensures.value c.as_bytes.ensures.utf8 in
    let p = text_told c.args.scalar.now c.view.result c.in-Utf8.text c.as_bytes.result.now c.nullability-in-Utf8.result utf8 c.as_bytes.ensures.value c.in-Utf8.is c.view.ensures.value c.view.ensures.of_type (c.nullability-in-Utf8.ensures ∙ ap nullability_of c.dtype-dtype.ensures) in
    subst (λ (x : List ℕ). UsesRoom c.put_some.result (g.W.BufMut.spare c.args.out.now) (g.W.BufMut.spare c.put_some.new.out) (length x)) p.fields_are c.put_some.ensures.room

pub returns-in-Binary-clause-room : goal.returns-in-Binary-clause-room
returns-in-Binary-clause-room g c =
    let p = bytes_told c.args.scalar.now c.view.result c.in-Binary.bytes c.nullability-in-Binary.result c.in-Binary.is c.view.ensures.value c.view.ensures.of_type (c.nullability-in-Binary.ensures ∙ ap nullability_of c.dtype-dtype.ensures) in
    subst (λ (x : List ℕ). UsesRoom c.put_some-in-Binary.result (g.W.BufMut.spare c.args.out.now) (g.W.BufMut.spare c.put_some-in-Binary.new.out) (length x)) p.fields_are c.put_some-in-Binary.ensures.room

pub returns-in-Decimal-clause-room : goal.returns-in-Decimal-clause-room
returns-in-Decimal-clause-room g c =
    let fits : FitsSigned w128 c.in-Decimal.number = search rules in
    let same = ap (λ (z : ℤ). flat_fields (some_validity c.nullability-in-Decimal.result) (decimal_bytes z)) (to_z-of_z w128 c.in-Decimal.number fits) in
    let p = decimal_told c.args.scalar.now c.view.result c.in-Decimal.number c.nullability-in-Decimal.result fits c.in-Decimal.is c.view.ensures.value c.view.ensures.of_type (c.nullability-in-Decimal.ensures ∙ ap nullability_of c.dtype-dtype.ensures) in
    subst (λ (x : List ℕ). UsesRoom c.put_number_of.result (g.W.BufMut.spare c.args.out.now) (g.W.BufMut.spare c.put_number_of.new.out) (length x)) (same ∙ p.fields_are) c.put_number_of.ensures.room
