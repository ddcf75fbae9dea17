-- Columns without rows make a run column without rows.
use Rattle.std.proofs.Common.{◌≡◌, [], refl, subst, sym}
use Rattle.column_base.specs.ValidityForm.{NeverNull}
use Rattle.column_base.specs.declared.dtype.PType.TheVariants.{U8}
use Rattle.column_core.specs.Leaf.{OfNumbers}
use Rattle.column_core.specs.PrimitiveForm.{primitive_with}
use Rattle.runend_array.specs.Column.{AreParts, Column, OfLeaf}
use Rattle.runend_windows.proofs.SlicedRuns.{IsWindow-of_none}

abbrev empty : Column
empty = OfLeaf (OfNumbers (primitive_with U8 [] NeverNull))

pub no_parts : (ends values : Column) → ends ≡ empty → values ≡ empty → AreParts ends values 0 0
no_parts ends values none bare =
    subst (λ (c : Column). AreParts c values 0 0) (sym none) (subst (λ (c : Column). AreParts empty c 0 0) (sym bare) (record {
      plain = tt;
      runs = record { window = IsWindow-of_none; paired = refl };
    }))
