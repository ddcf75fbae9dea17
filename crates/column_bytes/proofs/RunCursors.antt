-- Run lengths that are read up to a run: what the cursor knows of it.
use Rattle.std.proofs.Common.{◌≡◌, ℕ, suc, ◌+◌, ◌-◌, ◌^◌, ◌<◌, ◌≤◌, Bool, false, List, [], ◌∷◌, ◌++◌, length, drop, min, get_or, refl, sym, ap, subst, ◌∙◌, arith, inl, inr}
use Rattle.std.specs.Prelude.{slice_index}
use Rattle.std.proofs.lemmas.Bool.{cases_lt}
use Rattle.std.proofs.Math.Seq.{drop-cons}
use Rattle.column_fields.specs.Varint.{varint, BeginsWithNoShortest}
use Rattle.column_fields.proofs.VarintForms.{varint_same}
use Rattle.column_fields.specs.Lengths.{lengths_bytes, Rises}
use Rattle.column_fields.proofs.LengthLaws.{lengths_cons}
use Rattle.runend_windows.specs.Window.{IsWindow, IsRunAt, last_end, run_at}
use Rattle.runend_windows.proofs.RunAt.{run_at-from_IsRunAt}
use Rattle.runend_array.specs.Lists.{run_stop}
use Rattle.column_bytes.specs.ListViews.{IsReadTo}
use Rattle.column_bytes.specs.declared.run_cursors.RunCursor.{RunCursor}

-- the next run of those that rise
record NextRun (first : Bool) (start end : ℕ) (tail : List ℕ) : Type 0 where
  pub le : start ≤ end
  pub small : end < 2 ^ 64
  pub rest : Rises false end tail

next_run : (first : Bool) (start end : ℕ) (tail : List ℕ) → Rises first start (end ∷ tail) → NextRun first start end tail
unfolding Rises
next_run first start end tail h = record { le = h.0; small = h.1; rest = h.3 }

no_end : (ends : List ℕ) (position : ℕ) → length ends ≡ 0 → position < last_end ends → ⊥
no_end [] position none lt = let z : last_end [] ≡ 0 = refl in omega (arith, lt, z)
no_end (e ∷ ends) position none lt = omega (arith, none)

-- a position before the last end, when the runs so far end at or before it, leaves a run
pub run_left : (ends : List ℕ) (position : ℕ) (c : RunCursor) → IsReadTo ends position c → c.end ≤ position → position < last_end ends → c.count < length ends
run_left ends position c h ended before = elim (cases_lt c.count (length ends)) [
  | inl lt ↦ lt
  | inr le ↦
      let all : c.count ≡ length ends = omega (arith, le, h.within) in
      elim (cases_lt 0 c.count) [
        | inl some ↦
            let is : slice_index ends (length ends - 1) ≡ c.end = ap (λ (n : ℕ). slice_index ends (n - 1)) (sym all) ∙ h.last some in
            absurd (omega (arith, is, ended, before))
        | inr none ↦ absurd (no_end ends position (omega (arith, all, none)) before)
      ]
]

-- the lengths from a run on begin with its length
pub record Ahead (ends : List ℕ) (c : RunCursor) : Type 0 where
  pub end : ℕ
  pub is : end ≡ slice_index ends c.count
  pub le : c.end ≤ end
  pub small : end < 2 ^ 64
  pub rise : Rises false end (drop (c.count + 1) ends)
  pub spelt : c.rest.now ≡ varint (end - c.end) ++ lengths_bytes end (drop (c.count + 1) ends)

pub run_ahead : (ends : List ℕ) (position : ℕ) (c : RunCursor) → IsReadTo ends position c → c.count < length ends → Ahead ends c
run_ahead ends position c h lt =
    let end : ℕ = get_or ends c.count 0 in
    let next : suc c.count ≡ c.count + 1 = omega arith in
    let tail : drop c.count ends ≡ end ∷ drop (c.count + 1) ends = drop-cons ends c.count 0 lt ∙ ap (λ (n : ℕ). end ∷ drop n ends) next in
    let r = next_run h.first c.end end (drop (c.count + 1) ends) (subst (λ (x : List ℕ). Rises h.first c.end x) tail h.rise) in
    record {
      end = end;
      is = refl;
      le = r.le;
      small = r.small;
      rise = r.rest;
      spelt = h.spelt ∙ ap (lengths_bytes c.end) tail ∙ lengths_cons c.end end (drop (c.count + 1) ends);
    }

pub not_over : (ends : List ℕ) (position : ℕ) (c : RunCursor) → BeginsWithNoShortest c.rest.now → IsReadTo ends position c → c.end ≤ position → position < last_end ends → ⊥
not_over ends position c absent h ended before =
    let a = run_ahead ends position c h (run_left ends position c h ended before) in
    absent.none (a.end - c.end) (lengths_bytes a.end (drop (c.count + 1) ends)) (omega (arith, a.small)) a.spelt

-- the length that is read is that of the next run
pub record Reads (ends : List ℕ) (c : RunCursor) (len : ℕ) (after : List ℕ) : Type 0 where
  pub few : c.count + 1 < 2 ^ 64
  pub end_is : c.end + len ≡ slice_index ends c.count
  pub small : c.end + len < 2 ^ 64
  pub rise : Rises false (c.end + len) (drop (c.count + 1) ends)
  pub spelt : after ≡ lengths_bytes (c.end + len) (drop (c.count + 1) ends)
  pub within : c.count + 1 ≤ length ends

pub reads : (ends : List ℕ) (position : ℕ) (c : RunCursor) (len : ℕ) (after : List ℕ) → len < 2 ^ 64 → c.rest.now ≡ varint len ++ after → IsReadTo ends position c → c.end ≤ position → position < last_end ends → Reads ends c len after
reads ends position c len after short b h ended before =
    let left = run_left ends position c h ended before in
    let a = run_ahead ends position c h left in
    let same = varint_same len (a.end - c.end) after (lengths_bytes a.end (drop (c.count + 1) ends)) short (omega (arith, a.small)) (sym b ∙ a.spelt) in
    let end_is : a.end ≡ c.end + len = omega (arith, same.0, a.le) in
    record {
      few = omega (arith, left, h.few);
      end_is = sym end_is ∙ a.is;
      small = omega (arith, end_is, a.small);
      rise = subst (λ (n : ℕ). Rises false n (drop (c.count + 1) ends)) end_is a.rise;
      spelt = same.1 ∙ ap (λ (n : ℕ). lengths_bytes n (drop (c.count + 1) ends)) end_is;
      within = omega (arith, left);
    }

-- no run that is read ends past the position
ended_at : (ends : List ℕ) (position : ℕ) (c : RunCursor) → IsReadTo ends position c → c.end ≤ position → (run : ℕ) → run < c.count → slice_index ends run ≤ position
ended_at ends position c h ended run lt = elim (cases_lt (run + 1) c.count) [
  | inl earlier ↦ h.passed run earlier
  | inr le ↦
      let is : run ≡ c.count - 1 = omega (arith, lt, le) in
      omega (arith, ap (slice_index ends) is, h.last (omega (arith, lt)), ended)
]

-- the cursor after it
pub read_more : (ends : List ℕ) (position len : ℕ) (c d : RunCursor) → Reads ends c len d.rest.now → IsReadTo ends position c → c.end ≤ position → d.count ≡ c.count + 1 → d.end ≡ c.end + len → IsReadTo ends position d
read_more ends position len c d r h ended count end =
    let next : c.count ≡ d.count - 1 = omega (arith, count) in
    record {
      first = false;
      rise = subst (λ (n : ℕ). Rises false n (drop d.count ends)) (sym end) (subst (λ (n : ℕ). Rises false (c.end + len) (drop n ends)) (sym count) r.rise);
      spelt = r.spelt ∙ ap (λ (n : ℕ). lengths_bytes n (drop (c.count + 1) ends)) (sym end) ∙ ap (λ (n : ℕ). lengths_bytes d.end (drop n ends)) (sym count);
      few = h.few;
      within = omega (arith, count, r.within);
      last = λ some. ap (slice_index ends) (sym next) ∙ sym r.end_is ∙ sym end;
      none = λ z. absurd (omega (arith, z, count));
      passed = λ run lt. ended_at ends position c h ended run (omega (arith, lt, count));
    }

-- a later position
pub read_later : (ends : List ℕ) (p q : ℕ) (c : RunCursor) → p ≤ q → IsReadTo ends p c → IsReadTo ends q c
read_later ends p q c le h = record {
  first = h.first;
  rise = h.rise;
  spelt = h.spelt;
  few = h.few;
  within = h.within;
  last = h.last;
  none = h.none;
  passed = λ run lt. omega (arith, h.passed run lt, le);
}

-- where the last run ends past a row, it holds it
pub holds_row : (ends : List ℕ) (offset row : ℕ) (c : RunCursor) → IsReadTo ends (offset + row) c → row < c.end - offset → IsRunAt ends (offset + row) (c.count - 1)
holds_row ends offset row c h past = elim (cases_lt 0 c.count) [
  | inl some ↦ record {
    within = omega (arith, some, h.within);
    past = omega (arith, h.last some, past);
    least = λ j lt. h.passed j (omega (arith, lt, some));
  }
  | inr none ↦ absurd (omega (arith, h.none (omega (arith, none)), past))
]

-- and its stretch ends where the run does
pub stop_reached : (ends : List ℕ) (offset rows row : ℕ) (c : RunCursor) → IsReadTo ends (offset + row) c → IsRunAt ends (offset + row) (c.count - 1) → row < c.end - offset → min (c.end - offset) rows ≡ run_stop ends offset rows row
stop_reached ends offset rows row c h at past =
    let run : run_at ends (offset + row) ≡ c.count - 1 = run_at-from_IsRunAt ends (offset + row) (c.count - 1) at in
    let some : 0 < c.count = elim (cases_lt 0 c.count) [ inl some ↦ some | inr none ↦ absurd (omega (arith, h.none (omega (arith, none)), past)) ] in
    let end : slice_index ends (run_at ends (offset + row)) ≡ c.end = ap (slice_index ends) run ∙ h.last some in
    ap (λ (n : ℕ). min (n - offset) rows) (sym end)

-- rows of a window are before the last end
pub row_before : (ends : List ℕ) (offset rows row : ℕ) → IsWindow ends offset rows → row < rows → offset + row < last_end ends
row_before ends offset rows row w lt = omega (arith, w.last (omega (arith, lt)), lt)
