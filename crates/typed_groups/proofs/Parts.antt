-- The rows of a group lie within those of the column.
use Rattle.std.proofs.Common.{◌≡◌, ◌+◌, ◌<◌, ◌∷◌, ℕ, zero, suc, false, List, None, Option, Some, arith, length, refl, slice_index, sym, ◌∙◌, inl, inr}
use Rattle.std.specs.Prelude.{Err, IsOkUnless, Ok, Result, nat_lt}
use Rattle.std.proofs.lemmas.Bool.{le-ltb}
use Rattle.column_base.specs.declared.error.VortexError.{VortexError}
use Rattle.column_base.specs.declared.error.VortexError.TheVariants.{OutOfMemory}
use Rattle.column_core.specs.Refusal.{IsRefusedBy, range_fault}
use Rattle.row_groups.specs.Groups.{AreEndsOf}
use Rattle.row_groups.proofs.Changes.{begins_before, end_within}
use Rattle.runend_pairs.specs.Groups.{first_row}

-- where a group begins, by the ends before it
begins_at : (ends : List ℕ) (group : ℕ) → first_row ends group ≡ slice_index (0 ∷ ends) group
begins_at ends zero = refl
begins_at ends (suc group) = refl

-- a range of rows has no fault
pub no_range_fault : (start stop count : ℕ) → start < stop → stop < count + 1 → range_fault start stop count ≡ None
no_range_fault start stop count ordered inside =
    let first : nat_lt stop start ≡ false = le-ltb stop start (omega (arith, ordered)) in
    let second : nat_lt count stop ≡ false = le-ltb count stop (omega (arith, inside)) in
    rw first (rw second refl)

-- nor has that of a group
pub group_within : (count : ℕ) (ends : List ℕ) (group start : ℕ) → AreEndsOf count ends → group < length ends → start ≡ first_row ends group → range_fault start (slice_index ends group) count ≡ None
group_within count ends group start whole within begins =
    let first = begins_at ends group in
    let before = begins_before count ends group whole within in
    let inside = end_within count ends group whole within in
    no_range_fault start (slice_index ends group) count (omega (arith, before, begins, first)) (omega (arith, inside))

-- what is refused by no fault is refused only for memory
pub only_memory : {T : Type 0} (fault : Option VortexError) (result : Result T VortexError) → fault ≡ None → IsRefusedBy fault result → IsOkUnless result OutOfMemory
only_memory fault (Ok value) none told = tt
only_memory fault (Err error) none told = elim told [
  | inl short ↦ short
  | inr has ↦ let never : ◌≡◌ {A = Option VortexError} None (Some error) = sym none ∙ has in absurd (cc)
]
