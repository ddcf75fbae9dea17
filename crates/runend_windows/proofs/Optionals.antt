-- Optional values out of values and flags, and values and flags that are decoded apart.
use Rattle.std.proofs.Common.{◌≡◌, ℕ, zero, suc, ◌+◌, List, [], ◌∷◌, Bool, Option, Some, None, if◌then◌else◌, length, refl, ◌∙◌, arith}
use Rattle.std.specs.List.{slice_get}
use Rattle.column_core.specs.Optionals.{optionals}
use Rattle.runend_windows.specs.Cover.{Covers}
use Rattle.runend_windows.specs.Window.{run_at}

-- the optional value of a value and a flag that may both be missing
abbrev optional_of : {B : Type 0} → Option B → Option Bool → Option (Option B)
optional_of None flag = None
optional_of (Some number) None = None
optional_of (Some number) (Some flag) = Some (if flag then Some number else None)

pub length-optionals : {B : Type 0} (numbers : List B) (flags : List Bool) → length flags ≡ length numbers → length (optionals numbers flags) ≡ length numbers
length-optionals [] flags paired = refl
length-optionals (number ∷ numbers) [] paired = cc
length-optionals (number ∷ numbers) (flag ∷ flags) paired = let rest = length-optionals numbers flags (omega arith) in omega arith

slice_get-optionals : {B : Type 0} (numbers : List B) (flags : List Bool) (i : ℕ) → slice_get (optionals numbers flags) i ≡ optional_of (slice_get numbers i) (slice_get flags i)
slice_get-optionals [] flags i = refl
slice_get-optionals (number ∷ numbers) [] zero = refl
slice_get-optionals (number ∷ numbers) [] (suc i) = elim (slice_get numbers i) as (λ o. None ≡ optional_of o None) [ None ↦ refl | Some other ↦ refl ]
slice_get-optionals (number ∷ numbers) (flag ∷ flags) zero = refl
slice_get-optionals (number ∷ numbers) (flag ∷ flags) (suc i) = slice_get-optionals numbers flags i

-- values and flags covered by the same ends are optional values covered by them
pub Covers-optionals : {B : Type 0} (numbers : List B) (flags : List Bool) (ends : List ℕ) (run_numbers : List B) (run_flags : List Bool) (offset count : ℕ)
    → Covers numbers ends run_numbers offset count → Covers flags ends run_flags offset count
    → Covers (optionals numbers flags) ends (optionals run_numbers run_flags) offset count
Covers-optionals numbers flags ends run_numbers run_flags offset count c d =
    let paired = c.paired in
    let flags_paired = d.paired in
    let counted = c.counted in
    let flags_counted = d.counted in
    record {
      window = c.window;
      paired = length-optionals run_numbers run_flags (omega arith) ∙ paired;
      counted = length-optionals numbers flags (omega arith) ∙ counted;
      each = λ i h.
          let number = c.each i h in
          let flag = d.each i h in
          let row = slice_get-optionals numbers flags i in
          let value = slice_get-optionals run_numbers run_flags (run_at ends (offset + i)) in
          cc;
    }
