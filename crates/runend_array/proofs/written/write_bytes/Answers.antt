use Rattle.std.proofs.Common.{◌≡◌, ◌≢◌, ℕ, List, Option, Some, refl, rules}
use Rattle.std.specs.Borrow.{Bor}
use Rattle.std.proofs.lemmas.Result.{IfOk-weaker}
use Rattle.column_base.specs.declared.dtype.DType.{DType}
use Rattle.column_base.specs.declared.dtype.DType.TheVariants as column
use Rattle.column_base.specs.declared.dtype.Nullability.{Nullability}
use Rattle.column_core.specs.declared.varbinview.VarBinKind.{VarBinKind}
use Rattle.column_core.specs.declared.varbinview.VarBinKind.TheVariants.{Utf8, Binary}
use Rattle.column_core.specs.declared.view.ScalarView.{ScalarView}
use Rattle.column_core.specs.declared.view.ScalarView.TheVariants as view
use Rattle.column_core.specs.Leaf.{Leaf, OfVarBins}
use Rattle.column_core.specs.ScalarView.{IsViewOf}
use Rattle.column_core.specs.Value.{FlatValue, Text, Bytes}
use Rattle.column_core.specs.VarBinForm.{kind_dtype, zero_view}
use Rattle.runend_array.specs.Canonical.{IsConstantLeaf}
use Rattle.runend_array.specs.Column.{Constant}
use Rattle.runend_array.proofs.WrittenLeaves.{none-seen, some-seen, views-of_null}
use Rattle.runend_array.proofs.written.write_bytes.Goals as goal

-- the kind of a constant that shows a text, or bytes
kind-of_text : {A : Type 0} (kind : VarBinKind) (nullability : Nullability) (dtype : DType) (shown : ScalarView A) (text : Bor (List ℕ)) → dtype ≡ kind_dtype kind nullability → IsViewOf dtype shown
    → shown ≡ view.Utf8 text → kind ≡ Utf8
kind-of_text Utf8 nullability dtype shown text typed of_type is = refl
kind-of_text Binary nullability dtype shown text typed of_type is = absurd (rw (typed, is) at of_type)

kind-of_bytes : {A : Type 0} (kind : VarBinKind) (nullability : Nullability) (dtype : DType) (shown : ScalarView A) (bytes : Bor (List ℕ)) → dtype ≡ kind_dtype kind nullability → IsViewOf dtype shown
    → shown ≡ view.Binary bytes → kind ≡ Binary
kind-of_bytes Utf8 nullability dtype shown bytes typed of_type is = absurd (rw (typed, is) at of_type)
kind-of_bytes Binary nullability dtype shown bytes typed of_type is = refl

-- a constant, given by its parts
constant-of : (constant : Constant) (dtype : DType) (value : Option FlatValue) (leaf : Leaf) → constant.dtype ≡ dtype → constant.value ≡ value
    → IsConstantLeaf (record { dtype = dtype; value = value; count = constant.count }) leaf → IsConstantLeaf constant leaf
constant-of constant dtype value leaf typed valued written = rw (← typed, ← valued) at written

-- no other view is of these types
no-other : {A : Type 0} (kind : VarBinKind) (nullability : Nullability) (dtype : DType) (shown : ScalarView A) → dtype ≡ kind_dtype kind nullability → IsViewOf dtype shown
    → shown ≢ view.Null → ((text : Bor (List ℕ)) → shown ≢ view.Utf8 text) → ((bytes : Bor (List ℕ)) → shown ≢ view.Binary bytes) → ⊥
no-other kind nullability dtype view.Null typed of_type null text bytes = null refl
no-other kind nullability dtype (view.Utf8 s) typed of_type null text bytes = text s refl
no-other kind nullability dtype (view.Binary s) typed of_type null text bytes = bytes s refl
no-other Utf8 nullability dtype (view.Bool b) typed of_type null text bytes = absurd (rw typed at of_type)
no-other Binary nullability dtype (view.Bool b) typed of_type null text bytes = absurd (rw typed at of_type)
no-other Utf8 nullability dtype (view.Unsigned n) typed of_type null text bytes = absurd (rw typed at of_type)
no-other Binary nullability dtype (view.Unsigned n) typed of_type null text bytes = absurd (rw typed at of_type)
no-other Utf8 nullability dtype (view.Signed n) typed of_type null text bytes = absurd (rw typed at of_type)
no-other Binary nullability dtype (view.Signed n) typed of_type null text bytes = absurd (rw typed at of_type)
no-other Utf8 nullability dtype (view.Decimal n) typed of_type null text bytes = absurd (rw typed at of_type)
no-other Binary nullability dtype (view.Decimal n) typed of_type null text bytes = absurd (rw typed at of_type)
no-other Utf8 nullability dtype (view.List elements start size) typed of_type null text bytes = absurd (rw typed at of_type)
no-other Binary nullability dtype (view.List elements start size) typed of_type null text bytes = absurd (rw typed at of_type)

pub returns-in_ok-views-in-Null-clause-written : goal.returns-in_ok-views-in-Null-clause-written
returns-in_ok-views-in-Null-clause-written g c =
    let constant = c.args.constant.now in
    let blank : c.default.result ≡ zero_view = search rules in
    views-of_null constant c.args.kind c.args.nullability c.new-buffers.result.items c.new_unchecked.result c.requires c.in-Null.ensures.of_type (none-seen constant.value c.in-Null.ensures.value)
    (rw (c.in_ok-views-in-Null.ensures.items, blank, c.len.ensures) at c.new_unchecked.ensures)

pub write_views-requires : goal.write_views-requires
write_views-requires g c =
    let constant = c.args.constant.now in
    rw (kind-of_text c.args.kind c.args.nullability constant.dtype c.scalar_view.result c.in-Utf8.text c.requires c.scalar_view.ensures.of_type c.in-Utf8.is) c.as_bytes.ensures.utf8

pub write_views-requires-in-Binary : goal.write_views-requires-in-Binary
write_views-requires-in-Binary g c =
    let constant = c.args.constant.now in
    rw (kind-of_bytes c.args.kind c.args.nullability constant.dtype c.scalar_view.result c.in-Binary.bytes c.requires c.scalar_view.ensures.of_type c.in-Binary.is) tt

pub returns-in-Utf8 : goal.returns-in-Utf8
returns-in-Utf8 g c =
    let constant = c.args.constant.now in
    let kind = kind-of_text c.args.kind c.args.nullability constant.dtype c.scalar_view.result c.in-Utf8.text c.requires c.scalar_view.ensures.of_type c.in-Utf8.is in
    let value = some-seen constant.value (Text c.in-Utf8.text.now) c.in-Utf8.ensures.value in
    record {
      only = c.write_views.ensures.only;
      written = IfOk-weaker c.write_views.result _ _ (λ array written. constant-of constant (column.Utf8 c.args.nullability) (Some (Text c.in-Utf8.text.now)) (OfVarBins array) (rw kind at c.requires) value
          (rw (kind, c.as_bytes.ensures.value, c.len-in-Utf8.ensures) at written)) c.write_views.ensures.written;
    }

pub returns-in-Binary-clause-written : goal.returns-in-Binary-clause-written
returns-in-Binary-clause-written g c =
    let constant = c.args.constant.now in
    let kind = kind-of_bytes c.args.kind c.args.nullability constant.dtype c.scalar_view.result c.in-Binary.bytes c.requires c.scalar_view.ensures.of_type c.in-Binary.is in
    let value = some-seen constant.value (Bytes c.in-Binary.bytes.now) c.in-Binary.ensures.value in
    IfOk-weaker c.write_views-in-Binary.result _ _ (λ array written. constant-of constant (column.Binary c.args.nullability) (Some (Bytes c.in-Binary.bytes.now)) (OfVarBins array) (rw kind at c.requires) value
    (rw (kind, c.len-in-Binary.ensures) at written)) c.write_views-in-Binary.ensures.written

pub unreachable-unreachable : goal.unreachable-unreachable
unreachable-unreachable g c =
    no-other c.args.kind c.args.nullability c.args.constant.now.dtype c.scalar_view.result c.requires c.scalar_view.ensures.of_type c.in_default.not-Null c.in_default.not-Utf8 c.in_default.not-Binary
