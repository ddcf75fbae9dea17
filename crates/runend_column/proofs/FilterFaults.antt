-- When a filter is refused, and what it is where the mask is all true or all false.
use Rattle.std.proofs.Common.{◌≡◌, ◌≢◌, ◌∙◌, ℕ, zero, suc, List, [], ◌∷◌, Bool, true, false, Option, Some, None, Ok, Err, inl, length, take, drop, ◌-◌, replicate, arith, ap, refl, sym, inr, cond}
use Rattle.std.specs.Prelude.{◌==◌, IsOkUnless, Result, option_map, slice_range}
use Rattle.std.proofs.lemmas.Bool.Decides.{Decides-eqb}
use Rattle.std.proofs.lemmas.List.{length-map, length-replicate, take_all}
use Rattle.column_base.specs.declared.error.VortexError.{VortexError}
use Rattle.column_base.specs.declared.error.VortexError.TheVariants.{MaskLength, OutOfMemory}
use Rattle.column_core.specs.Refusal.{IsErrorFor, IsRefusedBy}
use Rattle.column_core.specs.Leaf.{Leaf, leaf_rows, single_rows}
use Rattle.column_core.specs.Value.{FlatValue, Single}
use Rattle.column_ops.specs.Filter.{filter_fault, filter_rows}

pub no_fault : (mask rows : ℕ) → mask ≡ rows → filter_fault mask rows ≡ None
no_fault mask rows same = let equal : (mask == rows) ≡ true = (Decides-eqb mask rows).1 same in rw equal refl

-- what is refused by no fault is refused only for memory
pub only_memory : {T : Type 0} (fault : Option VortexError) (result : Result T VortexError) → fault ≡ None → IsRefusedBy fault result → IsOkUnless result OutOfMemory
only_memory fault (Ok value) none told = tt
only_memory fault (Err error) none told = elim told [
  | inl short ↦ short
  | inr has ↦ let never : ◌≡◌ {A = Option VortexError} None (Some error) = sym none ∙ has in absurd (cc)
]

-- a mask as long as the rows of a flat column has no fault
pub no_fault-single : (mask : ℕ) (leaf : Leaf) → mask ≡ length (single_rows leaf) → filter_fault mask (length (leaf_rows leaf)) ≡ None
no_fault-single mask leaf long = no_fault mask (length (leaf_rows leaf)) (long ∙ length-map (leaf_rows leaf) (option_map (λ (v : FlatValue). Single v)))

fault_by : (mask rows : ℕ) (b : Bool) → (mask == rows) ≡ b → mask ≢ rows → cond b None (Some (MaskLength mask rows)) ≡ Some (MaskLength mask rows)
fault_by mask rows true is other = absurd (other ((Decides-eqb mask rows).0 is))
fault_by mask rows false is other = refl

pub fault_told : (mask rows x y : ℕ) → mask ≢ rows → x ≡ mask → y ≡ rows → filter_fault mask rows ≡ Some (MaskLength x y)
fault_told mask rows x y other left right = fault_by mask rows (mask == rows) refl other ∙ (λ i. Some (MaskLength (sym left i) (sym right i)))

pub fault_here : (mask rows x y : ℕ) → mask ≢ rows → x ≡ mask → y ≡ rows → IsErrorFor (filter_fault mask rows) (MaskLength x y)
fault_here mask rows x y other left right = inr (fault_told mask rows x y other left right)

pub all_selected : {B : Type 0} (n : ℕ) (rows : List B) → n ≡ length rows → rows ≡ filter_rows (replicate n true) rows
all_selected zero [] h = refl
all_selected zero (x ∷ rows) h = cc
all_selected (suc n) [] h = cc
all_selected (suc n) (x ∷ rows) h = ap (λ xs. x ∷ xs) (all_selected n rows (omega arith))

pub none_selected : {B : Type 0} (n : ℕ) (rows : List B) → [] ≡ filter_rows (replicate n false) rows
none_selected zero rows = refl
none_selected (suc n) [] = refl
none_selected (suc n) (x ∷ rows) = none_selected n rows

pub rows-unchanged : {B : Type 0} (bits : List Bool) (n : ℕ) (rows : List B) → bits ≡ replicate n true → length bits ≡ length rows → rows ≡ filter_rows bits rows
rows-unchanged bits n rows is long =
    all_selected n rows (sym (length-replicate n true) ∙ ap length (sym is) ∙ long) ∙ ap (λ (bs : List Bool). filter_rows bs rows) (sym is)

drop-zero : {B : Type 0} (rows : List B) → drop 0 rows ≡ rows
drop-zero [] = refl
drop-zero (x ∷ rows) = refl

-- the first rows, where the mask selects all of them, and none, where it selects none
pub first-all_selected : {B : Type 0} (bits : List Bool) (n count : ℕ) (rows : List B) → bits ≡ replicate n true → length bits ≡ length rows → count ≡ length rows → slice_range rows 0 count ≡ filter_rows bits rows
first-all_selected bits n count rows is long all =
    ap (take (count - 0)) (drop-zero rows) ∙ take_all (count - 0) rows (omega arith) ∙ rows-unchanged bits n rows is long

pub first-none_selected : {B : Type 0} (bits : List Bool) (n : ℕ) (rows : List B) → bits ≡ replicate n false → slice_range rows 0 0 ≡ filter_rows bits rows
first-none_selected bits n rows is = none_selected n rows ∙ ap (λ (bs : List Bool). filter_rows bs rows) (sym is)
