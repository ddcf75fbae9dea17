-- Rows of a column filled, and when they are refused.
use Rattle.std.proofs.Common.{◌≡◌, Bool, true, false, List, [], ◌∷◌, Option, Some, None, map, cond, refl, sym, ap, subst, ◌∙◌}
use Rattle.std.specs.Prelude.{IfSome, is_some, option_map}
use Rattle.column_base.specs.declared.dtype.DType.{DType}
use Rattle.column_base.specs.declared.dtype.DType.TheVariants as column
use Rattle.column_base.specs.declared.error.VortexError.TheVariants.{NullFill, TypeMismatch, Unsupported}
use Rattle.column_core.specs.Value.{FlatValue, IsLists, Single, Value}
use Rattle.column_core.specs.Computed.{IsComputedLeaf}
use Rattle.column_core.specs.Leaf.{Leaf, leaf_dtype, leaf_rows, single_rows}
use Rattle.column_core.specs.ScalarForm.{ScalarForm}
use Rattle.column_ops.specs.Computed.{IsMade}
use Rattle.column_ops.specs.Fill.{fill_dtype, fill_fault, fill_rows, is_list, same_kind}

null_refused : (lists same : Bool) → ¬ (cond lists (Some Unsupported) (cond same (Some NullFill) (Some TypeMismatch)) ≡ None)
null_refused true same h = cc
null_refused false true h = cc
null_refused false false h = cc

-- lists are not filled
pub lists_refused : (dtype : DType) (scalar : ScalarForm) → IsLists dtype → fill_fault dtype scalar ≡ Some Unsupported
lists_refused (column.Bool n) scalar lists = absurd lists
lists_refused (column.Primitive t n) scalar lists = absurd lists
lists_refused (column.Decimal d n) scalar lists = absurd lists
lists_refused (column.Utf8 n) scalar lists = absurd lists
lists_refused (column.Binary n) scalar lists = absurd lists
lists_refused (column.List e n) scalar lists = refl

-- a scalar that fills is not null
pub filling : (dtype : DType) (scalar : ScalarForm) (P : FlatValue → Type 0) → fill_fault dtype scalar ≡ None → IfSome scalar.value P → (v : FlatValue) × (scalar.value ≡ Some v) × P v
filling dtype scalar P none made = elim (scalar.value) as (λ o. scalar.value ≡ o → (v : FlatValue) × (scalar.value ≡ Some v) × P v) [
  | None ↦ λ null.
      absurd (null_refused (is_list dtype) (same_kind dtype scalar.dtype)
      (subst (λ (o : Option FlatValue). cond (is_list dtype) (Some Unsupported) (cond (same_kind dtype scalar.dtype) (cond (is_some o) None (Some NullFill)) (Some TypeMismatch)) ≡ None) null none))
  | Some v ↦ λ some. (v, some, subst (λ (o : Option FlatValue). IfSome o P) some made)
] refl

-- a filled value is a filled row
pub single-filled : (rows : List (Option FlatValue)) (value : FlatValue) → map (option_map (λ (v : FlatValue). Single v)) (fill_rows rows value) ≡ fill_rows (map (option_map (λ (v : FlatValue). Single v)) rows) (Single value)
single-filled [] value = refl
single-filled (None ∷ rows) value = ap (λ (xs : List (Option Value)). Some (Single value) ∷ xs) (single-filled rows value)
single-filled (Some x ∷ rows) value = ap (λ (xs : List (Option Value)). Some (Single x) ∷ xs) (single-filled rows value)

module _ (values filled : Leaf) (scalar : ScalarForm) (none : fill_fault (leaf_dtype values) scalar ≡ None)
    (made : IfSome scalar.value (λ value. IsMade (fill_rows (leaf_rows values) value) (fill_dtype (leaf_dtype values)) filled)) where
  abbrev made_by : (v : FlatValue) × (scalar.value ≡ Some v) × IsMade (fill_rows (leaf_rows values) v) (fill_dtype (leaf_dtype values)) filled
  made_by = filling (leaf_dtype values) scalar (λ value. IsMade (fill_rows (leaf_rows values) value) (fill_dtype (leaf_dtype values)) filled) none made

  -- in the form that a call computes
  pub flat_computed : IsComputedLeaf filled
  flat_computed = made_by.2.computed

  -- the type and the rows, filled, of rows that are written one by one
  pub flat_dtype : (dtype : DType) → leaf_dtype values ≡ dtype → leaf_dtype filled ≡ fill_dtype dtype
  flat_dtype dtype same = made_by.2.dtype ∙ ap fill_dtype same

  pub flat_filled : (rows : List (Option Value)) → single_rows values ≡ rows → IfSome scalar.value (λ flat. single_rows filled ≡ fill_rows rows (Single flat))
  flat_filled rows shown =
      subst (λ (o : Option FlatValue). IfSome o (λ flat. single_rows filled ≡ fill_rows rows (Single flat))) (sym made_by.1)
      (ap (map (option_map (λ (v : FlatValue). Single v))) made_by.2.rows ∙ single-filled (leaf_rows values) made_by.0
      ∙ ap (λ (xs : List (Option Value)). fill_rows xs (Single made_by.0)) shown)
