-- Runs in lanes of their own, up to the addition of what these come to.
use Rattle.std.proofs.Common.{◌≡◌, ◌∙◌, ℕ, ◌+◌, ◌<◌, ◌≤◌, ◌++◌, ℤ, pos, ◌+ℤ◌, ◌*ℤ◌, ◌&&◌, Bool, true, false, Option, Some, None, List, [], ◌∷◌, length, drop, refl, sym, ap, arith, length-append}
use Rattle.std.specs.Prelude.{is_none, slice_get}
use Rattle.std.proofs.lemmas.Int.{ints}
use Rattle.std.proofs.Math.IntN.{+ℤ_idr}
use Rattle.column_sums.specs.SumRange.{SumRange, is_within}
use Rattle.column_sums.specs.RowSum.{sum_from}
use Rattle.column_sums.specs.RunSum.{rows_of_runs, valid_runs, through_first_leaving}
use Rattle.column_sums.specs.SumState.{IsCounted, SumState, lanes_with, with_lanes, with_listed}
use Rattle.column_sums.specs.Reach.{IsSized, StaysWithin}
use Rattle.column_sums.specs.Summed.{IsSummed, IsSummedOn}
use Rattle.column_sums.specs.Lanes.{AreInLanes}
use Rattle.column_sums.proofs.RunSums.{all_or, none_after, null_run, valid_run}
use Rattle.column_sums.proofs.Reaches.{run-addable, run-stays, stays-alone, stays-is_within}

-- the runs are summed by each sum that has this value and these calls
same_sum : (range : SumRange) (before : List (ℤ × ℕ)) (runs : List (Option ℤ × ℕ)) (run : ℕ) (sum same : SumState) (is_empty : Bool)
    → same.value ≡ sum.value → same.calls ≡ sum.calls → IsSummed range before runs run sum is_empty → IsSummed range before runs run same is_empty
same_sum range before runs run sum same is_empty value calls summed = record {
  within = ap (is_within range) value ∙ summed.within;
  value = ap (λ (s : ℤ). sum_from range s (rows_of_runs (drop run runs))) value ∙ summed.value;
  calls = ap (λ (s : ℤ). same.calls ++ through_first_leaving range s (valid_runs (drop run runs))) value
      ∙ ap (λ (cs : List (ℤ × ℕ)). cs ++ through_first_leaving range sum.value (valid_runs (drop run runs))) calls ∙ summed.calls;
  empty = summed.empty;
}

-- no run is in lanes yet
pub begun_lanes : (range : SumRange) (size : ℕ) (runs : List (Option ℤ × ℕ)) (from : ℕ) (sum : SumState) (is_empty : Bool)
    → StaysWithin range size sum.value (length (rows_of_runs (drop from runs))) → AreInLanes range size runs from sum is_empty from sum (pos 0) true
begun_lanes range size runs from sum is_empty stays = record {
  own = stays-alone range size sum.value (length (rows_of_runs (drop from runs))) stays;
  stays = rw (+ℤ_idr sum.value) stays;
  summed = λ before h. rw (all_or is_empty) (same_sum range before runs from sum (with_lanes sum (pos 0)) is_empty (+ℤ_idr sum.value) refl h);
  value = refl;
  additions = refl;
  nothing = λ e. refl;
  listed = omega arith;
}

shifted : (sum lanes product : ℤ) → sum +ℤ (lanes +ℤ product) ≡ (sum +ℤ lanes) +ℤ product
shifted sum lanes product = omega (arith, ints)

-- one run more, whose value and rows were read
pub one_lane : (range : SumRange) (size : ℕ) (runs : List (Option ℤ × ℕ)) (from : ℕ) (old : SumState) (was_empty : Bool) (run : ℕ) (sum : SumState) (lanes : ℤ) (all_null : Bool)
    (value : Option ℤ) (count : ℕ) → slice_get runs run ≡ Some (value, count) → 0 < count → ((n : ℤ) → value ≡ Some n → IsSized range size n)
    → AreInLanes range size runs from old was_empty run sum lanes all_null
    → AreInLanes range size runs from old was_empty (run + 1) (with_listed sum value count) (lanes_with lanes value count) (all_null && is_none value)
one_lane range size runs from old was_empty run sum lanes all_null None count at shown sized now = rw (all_or all_null) (record {
  own = run-stays range size lanes runs run None count at sized now.own;
  stays = run-stays range size (old.value +ℤ lanes) runs run None count at sized now.stays;
  summed = λ before h. null_run range before runs run count (with_lanes sum lanes) (was_empty && all_null) at (now.summed before h);
  value = now.value;
  additions = now.additions;
  nothing = now.nothing;
  listed = now.listed;
})
one_lane range size runs from old was_empty run sum lanes all_null (Some n) count at shown sized now =
    let product = n *ℤ pos count in
    let next = with_lanes (with_listed sum (Some n) count) (lanes +ℤ product) in
    let addable = run-addable range size (old.value +ℤ lanes) runs run (Some n) count at sized now.stays in
    let inside : is_within range ((sum.value +ℤ lanes) +ℤ product) ≡ true = ap (λ (v : ℤ). is_within range ((v +ℤ lanes) +ℤ product)) now.value ∙ addable.0 in
    rw (none_after all_null) (record {
      own = run-stays range size lanes runs run (Some n) count at sized now.own;
      stays = rw (shifted old.value lanes product) (run-stays range size (old.value +ℤ lanes) runs run (Some n) count at sized now.stays);
      summed = λ before h. rw (none_after was_empty) (valid_run range before runs run n count (with_lanes sum lanes) next (was_empty && all_null) at shown (sym inside)
          (shifted sum.value lanes product) refl (now.summed before h));
      value = now.value;
      additions = now.additions;
      nothing = λ e. absurd (cc);
      listed = omega (arith, length-append sum.calls ((n, count) ∷ []), now.listed);
    })

-- what lanes come to leaves the sum in the range
pub lanes-is_within : (range : SumRange) (size : ℕ) (runs : List (Option ℤ × ℕ)) (from : ℕ) (old : SumState) (was_empty : Bool) (to : ℕ) (sum : SumState) (lanes : ℤ) (all_null : Bool)
    → AreInLanes range size runs from old was_empty to sum lanes all_null → is_within range (sum.value +ℤ lanes) ≡ true
lanes-is_within range size runs from old was_empty to sum lanes all_null now =
    ap (λ (v : ℤ). is_within range (v +ℤ lanes)) now.value ∙ stays-is_within range size (old.value +ℤ lanes) (length (rows_of_runs (drop to runs))) now.stays

-- once it is added, where a run is valid, the runs are summed, by one addition and one call at least
pub lanes_added : (range : SumRange) (size : ℕ) (runs : List (Option ℤ × ℕ)) (from : ℕ) (old : SumState) (was_empty : Bool) (to : ℕ) (sum : SumState) (lanes : ℤ) (all_null : Bool)
    → all_null ≡ false → AreInLanes range size runs from old was_empty to sum lanes all_null
    → StaysWithin range size (with_lanes sum lanes).value (length (rows_of_runs (drop to runs))) × IsCounted old (with_lanes sum lanes)
lanes_added range size runs from old was_empty to sum lanes all_null some now =
    let listed : (length old.calls + 1) ≤ length sum.calls = rw some at now.listed in
    (rw now.value now.stays, omega (arith, listed, now.additions))

-- and where none is valid there is nothing to add
pub lanes_of_nulls : (range : SumRange) (size : ℕ) (runs : List (Option ℤ × ℕ)) (from : ℕ) (old : SumState) (was_empty : Bool) (to : ℕ) (sum : SumState) (lanes : ℤ) (all_null : Bool)
    → all_null ≡ true → AreInLanes range size runs from old was_empty to sum lanes all_null
    → StaysWithin range size sum.value (length (rows_of_runs (drop to runs))) × (IsSummedOn range runs from old was_empty to sum (was_empty && all_null) × IsCounted old sum)
lanes_of_nulls range size runs from old was_empty to sum lanes all_null none now =
    let nothing : lanes ≡ pos 0 = now.nothing none in
    let value : sum.value ≡ sum.value +ℤ lanes = omega (arith, ints) in
    let whole : sum.value ≡ old.value +ℤ lanes = value ∙ ap (λ (v : ℤ). v +ℤ lanes) now.value in
    let listed = now.listed in (
      rw whole now.stays,
      (
        λ before h. same_sum range before runs to (with_lanes sum lanes) sum (was_empty && all_null) value refl (now.summed before h),
        omega (arith, now.additions),
      ),
    )
