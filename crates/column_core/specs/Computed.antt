-- Flat columns as a call computes them.
use Rattle.std.specs.Prelude.{◌≡◌, ℕ, ◌<◌, pos, List, false, length}
use Rattle.column_base.specs.declared.dtype.Nullability.{Nullability}
use Rattle.column_base.specs.declared.dtype.Nullability.TheVariants.{NonNullable, Nullable}
use Rattle.column_base.specs.ValidityForm.{ValidityForm, NeverNull, NoneNull, AllNull, IsNormal, flags}
use Rattle.column_core.specs.Optionals.{AreBlankAtNulls}
use Rattle.column_core.specs.PrimitiveForm.{PrimitiveForm}
use Rattle.column_core.specs.VarBinForm.{zero_view}
use Rattle.column_core.specs.Leaf.{Leaf, OfNumbers, OfTruths, OfDecimals, OfVarBins}

-- rows are all null by their validity's form only where there is a row
abbrev pub HasRowIfAllNull : ValidityForm → ℕ → Type 0
HasRowIfAllNull form count = form ≡ AllNull → 0 < count

-- items as a call computes them: the blank one is stored under null, there are bits only for rows of both kinds, and no
-- rows are not all null
pub record AreComputed {B : Type 0} (blank : B) (items : List B) (validity : ValidityForm) : Type 0 where
  pub blanked : AreBlankAtNulls blank items (flags validity (length items))
  pub normal : IsNormal validity
  pub some : HasRowIfAllNull validity (length items)

-- items as a constant is written out; there may be none
pub record AreWrittenOut {B : Type 0} (blank : B) (items : List B) (validity : ValidityForm) : Type 0 where
  pub blanked : AreBlankAtNulls blank items (flags validity (length items))
  pub normal : IsNormal validity

-- a flat column of integers as a call computes it: 0 is stored under null
abbrev pub IsComputed : PrimitiveForm → Type 0
IsComputed form = AreComputed (pos 0) form.numbers form.validity

-- a flat column as a call computes it: 0, false or the view of nothing is stored under null
abbrev pub IsComputedLeaf : Leaf → Type 0
IsComputedLeaf (OfNumbers form) = IsComputed form
IsComputedLeaf (OfTruths form) = AreComputed false form.bits form.validity
IsComputedLeaf (OfDecimals form) = AreComputed (pos 0) form.numbers form.validity
IsComputedLeaf (OfVarBins form) = AreComputed zero_view form.views form.validity

-- a flat column as a constant is written out
abbrev pub IsWrittenLeaf : Leaf → Type 0
IsWrittenLeaf (OfNumbers form) = AreWrittenOut (pos 0) form.numbers form.validity
IsWrittenLeaf (OfTruths form) = AreWrittenOut false form.bits form.validity
IsWrittenLeaf (OfDecimals form) = AreWrittenOut (pos 0) form.numbers form.validity
IsWrittenLeaf (OfVarBins form) = AreWrittenOut zero_view form.views form.validity

-- the validity of rows none of which is null
abbrev pub without_nulls : Nullability → ValidityForm
without_nulls NonNullable = NeverNull
without_nulls Nullable = NoneNull
