-- Flat columns of numbers that an encoder or a decoder has computed.
use Rattle.std.proofs.Common.{◌≡◌, ℕ, ℤ, pos, zero, suc, ◌+◌, ◌<◌, List, [], ◌∷◌, Bool, Option, Some, None, length, map, replicate, refl, sym, subst, ◌∙◌, ap, arith}
use Rattle.std.specs.Prelude.{unsigned_abs}
use Rattle.std.specs.List.{slice_get}
use Rattle.std.specs.Option.{option_map}
use Rattle.std.proofs.lemmas.List.{length-map, length-replicate}
use Rattle.std.proofs.lemmas.Option.{slice_get-map, get_or_from_slice_get}
use Rattle.column_base.specs.Types.{IsLeastFor}
use Rattle.column_base.specs.ValidityForm.{NeverNull, IsNormal, flags, nullability_in}
use Rattle.column_core.specs.Value.{FlatValue, Number, Value, Single}
use Rattle.column_core.specs.PrimitiveForm.{PrimitiveForm, optionals, optional_numbers, row_flags, AreZeroAtNulls}
use Rattle.column_core.specs.Computed.{HasRowIfAllNull}
use Rattle.runend_windows.specs.Window.{run_at, last_end, IsWindow}
use Rattle.runend_windows.specs.Cover.{Covers, IsTightCover}
use Rattle.runend_windows.specs.Ends.{ends_of}
use Rattle.runend_windows.specs.Window.{run_rows}
use Rattle.runend_windows.specs.Encoding.{IsFlatEncoding, HasNullsAlone}
use Rattle.runend_windows.proofs.Lists.{slice_get-replicate}
use Rattle.runend_windows.proofs.RunAt.{run_of_row_within}
use Rattle.runend_windows.proofs.ShownRuns.{equal_from_Covers}
use Rattle.runend_windows.proofs.Decoded.{Covers-map}
use Rattle.runend_windows.proofs.RunRows.{Covers-run_rows}
use Rattle.runend_windows.proofs.StoredNumbers.{naturals-of_pos}
use Rattle.runend_windows.proofs.NullRows.{values_of, null-at_each}

-- optional numbers as values are equal only where they are
option_map-one : {X Y : Type 0} (f : X → Y) → ((x y : X) → f x ≡ f y → x ≡ y) → (a b : Option X) → option_map f a ≡ option_map f b → a ≡ b
option_map-one f one None None e = refl
option_map-one f one None (Some y) e = cc
option_map-one f one (Some x) None e = cc
option_map-one f one (Some x) (Some y) e = let same : f x ≡ f y = cc in ap Some (one x y same)

-- the item at an index
item_at : {X : Type 0} (xs : List X) (k : ℕ) → k < length xs → (x : X) × (slice_get xs k ≡ Some x)
item_at [] k h = absurd (omega arith)
item_at (x ∷ xs) zero h = (x, refl)
item_at (x ∷ xs) (suc k) h = item_at xs k (omega arith)

-- a tight cover stays one under a function that distinguishes all values
pub IsTightCover-map : {X Y : Type 0} (f : X → Y) → ((x y : X) → f x ≡ f y → x ≡ y) → (rows : List X) (ends : List ℕ) (values : List X)
    → IsTightCover rows ends values → IsTightCover (map f rows) ends (map f values)
IsTightCover-map {X} {Y} f one rows ends values c =
    let long : length (map f rows) ≡ length rows = length-map rows f in
    let counted : length (map f values) ≡ length values = length-map values f in
    record {
      covers = subst (λ (n : ℕ). Covers (map f rows) ends (map f values) 0 n) (sym long) (Covers-map f rows ends values 0 (length rows) c.covers);
      exact = record { start = refl; stop = c.exact.stop ∙ sym long };
      tight = record {
        filled = c.tight.filled;
        differ = λ k d h same.
            let first = item_at values k (omega arith) in
            let next = item_at values (k + 1) (omega arith) in
            let first_mapped = get_or_from_slice_get (map f values) k (f first.0) d (slice_get-map f values k ∙ ap (option_map f) first.1) in
            let next_mapped = get_or_from_slice_get (map f values) (k + 1) (f next.0) d (slice_get-map f values (k + 1) ∙ ap (option_map f) next.1) in
            let equal : first.0 ≡ next.0 = one first.0 next.0 (sym first_mapped ∙ same ∙ next_mapped) in
            c.tight.differ k first.0 (omega arith)
            (get_or_from_slice_get values k first.0 first.0 first.1 ∙ equal ∙ sym (get_or_from_slice_get values (k + 1) next.0 first.0 next.1));
      };
    }

IsTightCover-values_of : (rows : List (Option ℤ)) (ends : List ℕ) (values : List (Option ℤ)) → IsTightCover rows ends values → IsTightCover (values_of rows) ends (values_of values)
IsTightCover-values_of rows ends values c =
    IsTightCover-map (option_map (λ (v : FlatValue). Single v)) (option_map-one (λ (v : FlatValue). Single v) (λ x y e. cc)) _ ends _
    (IsTightCover-map (option_map (λ (n : ℤ). Number n)) (option_map-one (λ (n : ℤ). Number n) (λ x y e. cc)) rows ends values c)

-- the parts that an encoder makes are an encoding
pub IsFlatEncoding-made : (array ends values : PrimitiveForm) (rows : List (Option ℤ)) (es : List ℕ) (numbers : List ℤ) (bits : List Bool)
    → optional_numbers array ≡ rows → IsTightCover rows es (optionals numbers bits) → ends.numbers ≡ map (λ (end : ℕ). pos end) es → ends.validity ≡ NeverNull
    → IsLeastFor (last_end es) ends.ptype → values.ptype ≡ array.ptype → values.numbers ≡ numbers → length bits ≡ length numbers
    → flags values.validity (length bits) ≡ bits → IsNormal values.validity → nullability_in values.validity ≡ nullability_in array.validity
    → HasRowIfAllNull values.validity (length bits) → AreZeroAtNulls numbers bits → IsFlatEncoding array ends values
IsFlatEncoding-made array ends values rows es numbers bits rows_are cover ends_are required least typed plain paired flagged normal nullable some zeroed =
    let back : ends_of ends ≡ es = ap (map unsigned_abs) ends_are ∙ naturals-of_pos es in
    let marks : row_flags values ≡ bits = ap (λ (ns : List ℤ). flags values.validity (length ns)) plain ∙ ap (flags values.validity) (sym paired) ∙ flagged in
    let shown : optional_numbers values ≡ optionals numbers bits = ap (λ (ns : List ℤ). optionals ns (row_flags values)) plain ∙ ap (optionals numbers) marks in
    record {
      cover = rw (back, shown, rows_are) (IsTightCover-values_of rows es (optionals numbers bits) cover);
      dtype = rw (typed, nullable) refl;
      required = required;
      narrow = rw back least;
      computed = record { blanked = rw (marks, plain) zeroed; normal = normal; some = subst (HasRowIfAllNull values.validity) (paired ∙ sym (ap length plain)) some };
    }

-- a list of copies is covered by copies
pub Covers-copies : {X : Type 0} (x : X) (ends : List ℕ) (offset count runs : ℕ) → IsWindow ends offset count → runs ≡ length ends
    → Covers (replicate count x) ends (replicate runs x) offset count
Covers-copies x ends offset count runs window all = record {
  window = window;
  paired = length-replicate runs x ∙ all;
  counted = length-replicate count x;
  each = λ i h.
      let within = run_of_row_within ends offset count i window h in
      slice_get-replicate count i x h ∙ sym (slice_get-replicate runs (run_at ends (offset + i)) x (omega arith));
}

-- where each value is null, each row is
pub run_rows-of_nulls : (ends : List ℕ) (values : List (Option Value)) (offset count : ℕ) → IsWindow ends offset count → length values ≡ length ends
    → HasNullsAlone values → replicate count None ≡ run_rows ends values offset count
run_rows-of_nulls ends values offset count window paired nulls =
    equal_from_Covers (replicate count None) (run_rows ends values offset count) ends values offset count
    (record {
      window = window;
      paired = paired;
      counted = length-replicate count None;
      each = λ i h.
          let within = run_of_row_within ends offset count i window h in
          slice_get-replicate count i None h ∙ sym (null-at_each values (run_at ends (offset + i)) nulls.1 (omega arith));
    })
    (Covers-run_rows ends values offset count window paired)
