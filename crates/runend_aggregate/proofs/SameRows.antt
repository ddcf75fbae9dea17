-- Rows that are all the same, as a constant column has them.
use Rattle.std.proofs.Common.{◌≡◌, ◌≢◌, ◌↔◌, ◌∙◌, ◌+◌, ◌<◌, ◌≤◌, ℕ, zero, suc, Bool, true, false, not, Option, replicate, refl, sym, subst, ap, arith, inl, inr}
use Rattle.std.specs.Prelude.{Contains, IsSome, IsTrue, nat_lt, slice_index_or}
use Rattle.std.specs.Ordering.{is_le, is_lt}
use Rattle.std.specs.declared.cmp.Ordering.{Ordering}
use Rattle.std.specs.declared.cmp.Ordering.TheVariants.{Equal}
use Rattle.std.proofs.lemmas.Bool.{cases_lt, false≢true}
use Rattle.std.proofs.lemmas.Bool.Decides.{Decides-ltb}
use Rattle.std.proofs.lemmas.Cmp.{tied_itself}
use Rattle.std.proofs.lemmas.List.{get_or-replicate, length-replicate}
use Rattle.column_core.specs.ScalarView.{sees}
use Rattle.column_core.specs.Value.{Value}
use Rattle.column_core.specs.declared.view.ScalarView.{ScalarView}
use Rattle.column_core.specs.declared.view.ScalarView.TheVariants as view
use Rattle.column_ops.specs.Order.{row_cmp}
use Rattle.column_ops.specs.OrderFacts.{IsConstant, IsFurthest, IsSorted}
use Rattle.column_ops.proofs.OrderLaws.{row_total}

-- each of them is the row
the_row : (row other : Option Value) (count : ℕ) → Contains (replicate count row) other → other ≡ row
the_row row other count has =
    let long = length-replicate count row in
    sym has.2 ∙ get_or-replicate count has.0 row other (omega (arith, has.1))

-- any two of them are equal
pub IsConstant-replicate : (row : Option Value) (count : ℕ) → IsConstant (replicate count row)
IsConstant-replicate row count a b left right = the_row row a count left ∙ sym (the_row row b count right)

-- where there is one, it is the furthest to each side
pub IsFurthest-replicate : (side : Ordering) (row : Option Value) (count : ℕ) → side ≢ Equal → IsSome row → 0 < count → IsFurthest side (replicate count row) row
IsFurthest-replicate side row count sided some shown =
    let long = length-replicate count row in
    record {
      value = some;
      among = (0, omega arith, get_or-replicate count 0 row row shown);
      none_past = λ other has is_value same. sided (sym same ∙ ap (λ (o : Option Value). row_cmp o row) (the_row row other count has) ∙ tied_itself row_total row);
    }

above_zero : (count : ℕ) → ¬ (count ≡ 0) → 0 < count
above_zero zero some = absurd (some refl)
above_zero (suc n) some = omega arith

-- a view that is not null shows a value
some_seen : {A : Type 0} (seen : ScalarView A) → ¬ (seen ≡ view.Null) → IsSome (sees seen)
some_seen view.Null other = absurd (other refl)
some_seen (view.Bool b) other = refl
some_seen (view.Unsigned n) other = refl
some_seen (view.Signed n) other = refl
some_seen (view.Decimal n) other = refl
some_seen (view.Utf8 text) other = refl
some_seen (view.Binary bytes) other = refl
some_seen (view.List elements start size) other = refl

-- so where there are rows, what each of them shows is the furthest to each side
pub IsFurthest-seen : {A : Type 0} (side : Ordering) (seen : ScalarView A) (row : Option Value) (count : ℕ) → side ≢ Equal → ¬ (seen ≡ view.Null) → ¬ (count ≡ 0) → sees seen ≡ row
    → IsFurthest side (replicate count row) (sees seen)
IsFurthest-seen side seen row count sided other some same =
    subst (λ (r : Option Value). IsFurthest side (replicate count r) (sees seen)) same (IsFurthest-replicate side (sees seen) count sided (some_seen seen other) (above_zero count some))

-- a row is not above itself, nor below
pub not_above : (row : Option Value) → IsTrue (is_le (row_cmp row row))
not_above row = ap is_le (tied_itself row_total row)

pub not_below : (row : Option Value) → ¬ IsTrue (is_lt (row_cmp row row))
not_below row h = let e : is_lt (row_cmp row row) ≡ false = ap is_lt (tied_itself row_total row) in cc

-- they are in order
pub IsInOrder-replicate : (row : Option Value) (count : ℕ) → IsSorted false (replicate count row)
IsInOrder-replicate row count k d h =
    let long = length-replicate count row in
    rw (get_or-replicate count k row d (omega arith), get_or-replicate count (k + 1) row d (omega arith)) (not_above row)

-- in strict order where there are fewer than two of them
pub IsInStrictOrder-few : (row : Option Value) (count : ℕ) → count < 2 → IsSorted true (replicate count row)
IsInStrictOrder-few row count few k d h = let long = length-replicate count row in absurd (omega arith)

-- and not where there are more
pub IsInStrictOrder-more : (row : Option Value) (count : ℕ) → 2 ≤ count → ¬ IsSorted true (replicate count row)
IsInStrictOrder-more row count more sorted =
    let long = length-replicate count row in
    let step : IsTrue (is_lt (row_cmp (slice_index_or (replicate count row) 0 row) (slice_index_or (replicate count row) 1 row))) = sorted 0 row (omega arith) in
    not_below row (rw (get_or-replicate count 0 row row (omega arith), get_or-replicate count 1 row row (omega arith)) at step)

-- in order they are sorted, however many there are
pub sorted_loosely : (strict : Bool) (row : Option Value) (count : ℕ) → strict ≡ false → IsTrue (not strict) ↔ IsSorted strict (replicate count row)
sorted_loosely true row count loose = absurd (false≢true (sym loose))
sorted_loosely false row count loose = (λ _. IsInOrder-replicate row count, λ _. refl)

-- in strict order where there are fewer than two
pub sorted_strictly : (strict : Bool) (row : Option Value) (count rows : ℕ) → strict ≡ true → rows ≡ count → IsTrue (nat_lt rows 2) ↔ IsSorted strict (replicate count row)
sorted_strictly true row count rows asked same = (
  λ few. IsInStrictOrder-few row count (let below = (Decides-ltb rows 2).0 few in omega arith),
  λ sorted. elim (cases_lt rows 2) [
    | inl few ↦ (Decides-ltb rows 2).1 few
    | inr more ↦ absurd (IsInStrictOrder-more row count (omega arith) sorted)
  ],
)
sorted_strictly false row count rows asked same = absurd (false≢true asked)
