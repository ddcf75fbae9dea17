-- What a filter answers, and indices that are tested, in plain variables.
use Rattle.std.proofs.Common.{◌≡◌, ◌<◌, ◌≤◌, ◌⊎◌, inl, inr, ℕ, ℤ, pos, negsuc, List, Bool, true, false, cond, Some, None, refl, arith}
use Rattle.std.specs.Prelude.{◌≤ℤ◌, ◌<ℤ◌, ◌↔◌, nat_lt}
use Rattle.std.proofs.lemmas.Bool.Decides.{Decides-ltb}
use Rattle.std.proofs.lemmas.Int.{ints}
use Rattle.column_base.specs.declared.error.VortexError.TheVariants.{OutOfBounds}
use Rattle.column_ops.specs.Take.{index_fault}
use Rattle.runend_array.specs.declared.session.Thresholds.{Thresholds}
use Rattle.runend_array.specs.Column.{Column, OfLeaf, OfConstant, OfLists, OfRuns, Runs}
use Rattle.runend_array.specs.Encoding.{IsComputedFlat}
use Rattle.runend_select.specs.FilterForm.{IsSelectedForm, TakesDirectly}

-- rows that are taken one by one are flat
pub flat-selected : (directly : Type 0) (whole : Runs) (bits : List Bool) (column : Column) → IsComputedFlat column → directly → IsSelectedForm directly whole bits column
flat-selected directly whole bits (OfLeaf leaf) flat few = (few, flat)
flat-selected directly whole bits (OfConstant constant) flat few = absurd flat
flat-selected directly whole bits (OfLists lists) flat few = few
flat-selected directly whole bits (OfRuns ends_type ends values offset count) flat few = absurd flat

-- the choice depends only on these numbers
pub takes_directly-same : (selected runs : ℕ) (thresholds : Thresholds) (selected′ runs′ : ℕ) (thresholds′ : Thresholds) → selected ≡ selected′ → runs ≡ runs′ → thresholds ≡ thresholds′
    → TakesDirectly selected runs thresholds ↔ TakesDirectly selected′ runs′ thresholds′
takes_directly-same selected runs thresholds selected′ runs′ thresholds′ same_selected same_runs same_thresholds = rw (same_selected, same_runs, same_thresholds) ((λ h. h), (λ h. h))

fault-past : (k count : ℕ) (b : Bool) → nat_lt k count ≡ b → count ≤ k → cond b None (Some (OutOfBounds (pos k) count)) ≡ Some (OutOfBounds (pos k) count)
fault-past k count true is past = let less = (Decides-ltb k count).0 is in absurd (omega (arith, less))
fault-past k count false is past = refl

fault-below : (k count : ℕ) (b : Bool) → nat_lt k count ≡ b → k < count → cond b None (Some (OutOfBounds (pos k) count)) ≡ None
fault-below k count true is below = refl
fault-below k count false is below = let yes = (Decides-ltb k count).1 below in let no = is in absurd (cc)

-- an index that is negative or not below the number of rows is at fault
pub index-outside : (index : ℤ) (count : ℕ) → ((index <ℤ pos 0) ⊎ (pos count ≤ℤ index)) → index_fault count (Some index) ≡ Some (OutOfBounds index count)
index-outside (pos k) count (inl low) = absurd (omega (arith, ints, low))
index-outside (pos k) count (inr high) = fault-past k count (nat_lt k count) refl (omega (arith, ints, high))
index-outside (negsuc k) count outside = refl

-- and another one is not
pub index-within : (index : ℤ) (count : ℕ) → pos 0 ≤ℤ index → index <ℤ pos count → index_fault count (Some index) ≡ None
index-within (pos k) count low high = fault-below k count (nat_lt k count) refl (omega (arith, ints, high))
index-within (negsuc k) count low high = absurd (omega (arith, ints, low))
