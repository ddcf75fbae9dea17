-- The first and the last value of rows.
use Rattle.std.proofs.Common.{◌≡◌, ◌∙◌, ◌+◌, ◌<◌, ℕ, true, List, None, Option, Some, ap, arith, false, inl, inr, length, refl}
use Rattle.std.specs.Prelude.{is_none, slice_get}
use Rattle.std.proofs.lemmas.Bool.{cases_lt}
use Rattle.column_core.specs.Value.{Value}
use Rattle.typed_groups.specs.Questions.{AreNullBefore, AreNullPast, IsFirst, IsLast}

null_is : (row : Option Value) → is_none row ≡ true → row ≡ None
null_is None null = refl
null_is (Some value) null = absurd (cc)

-- a null more
pub null_more : (rows : List (Option Value)) (place : ℕ) (row : Option Value) → slice_get rows place ≡ Some row → is_none row ≡ true → AreNullBefore rows place → AreNullBefore rows (place + 1)
null_more rows place row there null before k below = elim (cases_lt k place) [
  | inl under ↦ before k under
  | inr past ↦
      let at : k ≡ place = omega (arith, past, below) in
      ap (slice_get rows) at ∙ there ∙ ap (λ (r : Option Value). Some r) (null_is row null)
]

pub first_at : (rows : List (Option Value)) (place : ℕ) (row : Option Value) → slice_get rows place ≡ Some row → is_none row ≡ false → AreNullBefore rows place → IsFirst rows row
first_at rows place None there value before = absurd (cc)
first_at rows place (Some value) there filled before = record { place = place; there = there; nulls = before }

-- a null more, from the back: `place` is the last row that was not looked at
pub null_past_more : (rows : List (Option Value)) (place : ℕ) (row : Option Value) → slice_get rows place ≡ Some row → is_none row ≡ true → AreNullPast rows place → (k : ℕ) → place < k + 1 → k < length rows → slice_get rows k ≡ Some None
null_past_more rows place row there null past k from below = elim (cases_lt place k) [
  | inl over ↦ past k over below
  | inr upto ↦
      let at : k ≡ place = omega (arith, upto, from) in
      ap (slice_get rows) at ∙ there ∙ ap (λ (r : Option Value). Some r) (null_is row null)
]

pub last_at : (rows : List (Option Value)) (place : ℕ) (row : Option Value) → slice_get rows place ≡ Some row → is_none row ≡ false → AreNullPast rows place → IsLast rows row
last_at rows place None there value past = absurd (cc)
last_at rows place (Some value) there filled past = record { place = place; there = there; nulls = past }
