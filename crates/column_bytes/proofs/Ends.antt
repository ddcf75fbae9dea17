-- Ends and the windows over them.
use Rattle.std.proofs.Common.{◌≡◌, ℕ, ℤ, zero, suc, ◌+◌, ◌^◌, ◌<◌, ◌≤◌, ◌∙◌, Bool, true, false, Some, List, [], ◌∷◌, length, map, pos, refl, ap, subst, slice_get, arith}
use Rattle.std.specs.Prelude.{slice_index, unsigned_abs}
use Rattle.std.specs.List.{AllByRecursion}
use Rattle.std.specs.List.Sorted.{IsStrictlyIncreasing}
use Rattle.std.proofs.lemmas.Int.{ints}
use Rattle.std.proofs.lemmas.List.{get_or-map, length-map}
use Rattle.std.proofs.lemmas.Option.{get_or_from_slice_get}
use Rattle.std.proofs.lemmas.List.Elements.{recursion_from_All}
use Rattle.column_base.specs.declared.dtype.PType.{PType}
use Rattle.column_base.specs.declared.dtype.PType.TheVariants.{U8, U16, U32, U64, I8, I16, I32, I64}
use Rattle.column_base.specs.Types.{HasNumber, IsUnsigned}
use Rattle.column_fields.specs.Lengths.{Rises, AreEndsOf}
use Rattle.runend_windows.proofs.RunAt.{IsStrictlyIncreasing-tail}
use Rattle.runend_windows.specs.Window.{IsWindow, last_end}
use Rattle.runend_array.specs.Column.{Column, AreRuns, runs_with}

rises_none : (first : Bool) (start : ℕ) → Rises first start []
unfolding Rises
rises_none first start = tt

rises_cons : (first : Bool) (start end : ℕ) (tail : List ℕ) → start ≤ end → end < 2 ^ 64 → (first ≡ false → start < end) → Rises false end tail → Rises first start (end ∷ tail)
unfolding Rises
rises_cons first start end tail a b c d = (a, b, c, d)

rises_at : (first : Bool) (start : ℕ) (ends : List ℕ) → (0 < length ends → start ≤ slice_index ends 0) → (first ≡ false → 0 < length ends → start < slice_index ends 0) → IsStrictlyIncreasing ends → AllByRecursion (λ end. end < 2 ^ 64) ends → Rises first start ends
rises_at first start [] le lt increasing small = rises_none first start
rises_at first start (end ∷ ends) le lt increasing small =
    let next : 0 < length ends → end < slice_index ends 0 = λ some. increasing 0 (omega arith) in
    rises_cons first start end ends (le (omega arith)) small.0 (λ later. lt later (omega arith)) (rises_at false end ends (λ some. let l : end < slice_index ends 0 = next some in omega arith) (λ later some. next some) (IsStrictlyIncreasing-tail end ends increasing) small.1)

unsigned_small : (t : PType) (end : ℕ) → IsUnsigned t → HasNumber t (pos end) → end < 2 ^ 64
unsigned_small U8 end u h = omega (arith, ints, h.1)
unsigned_small U16 end u h = omega (arith, ints, h.1)
unsigned_small U32 end u h = omega (arith, ints, h.1)
unsigned_small U64 end u h = omega (arith, ints, h.1)
unsigned_small I8 end u h = absurd u
unsigned_small I16 end u h = absurd u
unsigned_small I32 end u h = absurd u
unsigned_small I64 end u h = absurd u

ends_small : (t : PType) (ends : List ℕ) → IsUnsigned t → AllByRecursion (λ end. HasNumber t (pos end)) ends → AllByRecursion (λ end. end < 2 ^ 64) ends
ends_small t [] u h = tt
ends_small t (end ∷ ends) u h = (unsigned_small t end u h.0, ends_small t ends u h.1)

-- the ends of a run column rise
pub ends_rise : (t : PType) (ends : List ℕ) (values : Column) (offset count : ℕ) → AreEndsOf t ends → AreRuns (runs_with t ends values offset count) → Rises true 0 ends
ends_rise t ends values offset count fit runs =
    rises_at true 0 ends (λ some. omega arith) (λ e. absurd cc) runs.window.increasing (ends_small t ends fit.unsigned (recursion_from_All (λ end. HasNumber t (pos end)) ends fit.fit))

rises_next : (first : Bool) (start end next : ℕ) (ends : List ℕ) → Rises first start (end ∷ next ∷ ends) → (end < next) × Rises false end (next ∷ ends)
unfolding Rises
rises_next first start end next ends h = (h.3.2 refl, h.3)

-- ends that rise increase strictly
rises_increasing : (first : Bool) (start : ℕ) (ends : List ℕ) → Rises first start ends → IsStrictlyIncreasing ends
rises_increasing first start [] h k lt = absurd (omega arith)
rises_increasing first start (end ∷ []) h k lt = absurd (omega arith)
rises_increasing first start (end ∷ next ∷ ends) h zero lt = (rises_next first start end next ends h).0
rises_increasing first start (end ∷ next ∷ ends) h (suc k) lt =
    let place : suc (k + 1) ≡ suc k + 1 = omega arith in
    subst (λ (j : ℕ). slice_index (next ∷ ends) k < slice_index (end ∷ next ∷ ends) j) place (rises_increasing false end (next ∷ ends) (rises_next first start end next ends h).1 k (omega arith))

-- a window over ends that rise
pub rising_window : (ends : List ℕ) (offset count : ℕ) → Rises true 0 ends → (length ends ≡ 0 → (offset ≡ 0) × (count ≡ 0)) → (0 < count → offset ≤ slice_index ends 0) → (0 < count → offset + count ≤ last_end ends) → offset + count < 2 ^ 64 → IsWindow ends offset count
rising_window ends offset count rises none first last small = record {
  increasing = rises_increasing true 0 ends rises;
  none = none;
  first = first;
  last = last;
  small = small;
}

-- as many values as there are ends
pub paired : (ns : List ℤ) (len values : ℕ) → len ≡ length ns → len ≡ values → values ≡ length (map unsigned_abs ns)
paired ns len values l v = omega (arith, length-map ns unsigned_abs)

pub first_number : (ns : List ℤ) (n : ℤ) → 0 < length ns → slice_get ns 0 ≡ Some n → slice_index (map unsigned_abs ns) 0 ≡ unsigned_abs n
first_number ns n some e = get_or-map unsigned_abs ns 0 n 0 some ∙ ap unsigned_abs (get_or_from_slice_get ns 0 n n e)
