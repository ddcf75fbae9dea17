-- Rows and the values of their runs, where the runs are the tight exact cover of the rows.
use Rattle.std.proofs.Common.{◌≡◌, ◌∙◌, ℕ, ◌+◌, ◌-◌, ◌<◌, ◌≤◌, zero, suc, List, [], ◌∷◌, Option, Some, None, ℤ, length, map, slice_index, get_or, refl, sym, ap, subst, arith, inl, inr, zero-add}
use Rattle.std.specs.Prelude.{option_map, slice_get, Contains, ◌↔◌, All}
use Rattle.std.proofs.lemmas.Bool.{cases_lt}
use Rattle.std.proofs.lemmas.List.{length-map}
use Rattle.std.proofs.lemmas.List.Kept.{AllPairs-from_increasing}
use Rattle.std.proofs.lemmas.Option.{slice_get-get_or, slice_get-map, get_or_from_slice_get}
use Rattle.std.specs.List.Sorted.{IsStrictlyIncreasing}
use Rattle.column_base.specs.declared.dtype.DType.{DType}
use Rattle.column_core.specs.Leaf.{Leaf, OfNumbers, single_rows}
use Rattle.column_core.specs.PrimitiveForm.{PrimitiveForm, optional_numbers}
use Rattle.column_core.specs.Value.{Value}
use Rattle.column_sums.specs.SumAnswer.{number_in}
use Rattle.column_sums.proofs.SingleRows.{numbers-of_rows}
use Rattle.runend_windows.specs.Cover.{Covers, IsTightCover}
use Rattle.runend_windows.specs.Ends.{ends_of}
use Rattle.runend_windows.specs.Visible.{HasRow}
use Rattle.runend_windows.specs.Window.{IsWindow, last_end, run_at, run_rows}
use Rattle.runend_windows.proofs.Decoded.{Covers-map}
use Rattle.runend_windows.proofs.RunAt.{run_at_is, run_of_row_within}
use Rattle.runend_windows.proofs.RunRows.{Covers_iff_run_rows}
use Rattle.runend_array.specs.Column.{OfLeaf}
use Rattle.runend_encode.specs.Encoding.{IsRowEncoding}
use Rattle.runend_builder.proofs.Parts.{parts_of_rows}
use Rattle.runend_floats.specs.Runs.{AreWholeRuns, first_row}

-- the last end is not before any end
pub within_last : (ends : List ℕ) (run : ℕ) → IsStrictlyIncreasing ends → run < length ends → slice_index ends run ≤ last_end ends
within_last ends run increasing within = elim (cases_lt run (length ends - 1)) [
  | inl before ↦ let order = AllPairs-from_increasing ends increasing run (length ends - 1) 0 before (omega arith) in omega arith
  | inr last ↦ let same : run ≡ length ends - 1 = omega arith in rw same (omega arith)
]

-- a run begins before it ends
pub run_is_filled : (ends : List ℕ) (run : ℕ) → IsStrictlyIncreasing ends → (0 < length ends → 0 < slice_index ends 0) → run < length ends → first_row ends run < slice_index ends run
run_is_filled ends zero increasing filled within = filled (omega arith)
run_is_filled ends (suc run) increasing filled within =
    let order = increasing run (omega arith) in
    let next : run + 1 ≡ suc run = omega arith in
    rw next at order

-- the rows from its first one on, and before its end, are in it
pub run_of_its_rows : (ends : List ℕ) (run row : ℕ) → IsStrictlyIncreasing ends → run < length ends → first_row ends run ≤ row → row < slice_index ends run → run_at ends row ≡ run
run_of_its_rows ends zero row increasing within from before = run_at_is ends row 0 (omega arith) (λ k h. absurd (omega arith)) (λ h. before)
run_of_its_rows ends (suc run) row increasing within from before =
    run_at_is ends row (suc run) (omega arith)
    (λ k h. elim (cases_lt k run) [
      | inl earlier ↦ let order = AllPairs-from_increasing ends increasing k run 0 earlier (omega arith) in omega arith
      | inr last ↦ let same : k ≡ run = omega arith in rw same from
    ])
    (λ h. before)

-- over the values of the runs of a tight cover, what is made of rows is made of values
pub shown_mapped : {A B : Type 0} (f : Option A → Option B) (rows : List (Option A)) (ends : List ℕ) (values : List (Option A)) (count : ℕ) → Covers rows ends values 0 (length rows) → length rows ≡ count
    → run_rows ends (map f values) 0 count ≡ map f rows
shown_mapped f rows ends values count cover counted =
    let mapped = Covers-map f rows ends values 0 (length rows) cover in
    ap (run_rows ends (map f values) 0) (sym counted) ∙ sym ((Covers_iff_run_rows (map f rows) ends (map f values) 0 (length rows) mapped.window mapped.paired).0 mapped)

module _ {X : Type 0} (rows : List X) (ends : List ℕ) (values : List X) (cover : IsTightCover rows ends values) where
  -- each run has a row
  pub each_has_row : (run : ℕ) → run < length ends → HasRow ends 0 (length rows) run
  each_has_row run within =
      let increasing = cover.covers.window.increasing in
      let filled = run_is_filled ends run increasing cover.tight.filled within in
      let last = within_last ends run increasing within in
      let stop = cover.exact.stop in
      record { row = first_row ends run; within = omega arith; holds = ap (run_at ends) (zero-add (first_row ends run)) ∙ run_of_its_rows ends run (first_row ends run) increasing within (omega arith) filled }

  -- a value is in a row, and a row has a value
  pub row_of_value : (k : ℕ) → k < length values → (i : ℕ) × (i < length rows) × (slice_get rows i ≡ slice_get values k)
  row_of_value k within =
      let paired = cover.covers.paired in
      let row = each_has_row k (omega arith) in
      (row.row, row.within, cover.covers.each row.row row.within ∙ ap (slice_get values) row.holds)

  pub value_of_row : (i : ℕ) → i < length rows → (k : ℕ) × (k < length values) × (slice_get rows i ≡ slice_get values k)
  value_of_row i within =
      let paired = cover.covers.paired in
      let there = run_of_row_within ends 0 (length rows) i cover.covers.window within in
      (run_at ends (0 + i), omega arith, cover.covers.each i within)

  -- rows and values have the same items
  pub same_items : (x : X) → Contains rows x ↔ Contains values x
  same_items x = (
    (λ h.
        let within = h.1 in
        let at = value_of_row h.0 within in
        let there = at.1 in
        let is = sym at.2 ∙ slice_get-get_or rows h.0 x within ∙ ap Some h.2 in
        (at.0, there, get_or_from_slice_get values at.0 x x is)),
    (λ h.
        let within = h.1 in
        let at = row_of_value h.0 within in
        let there = at.1 in
        let is = at.2 ∙ slice_get-get_or values h.0 x within ∙ ap Some h.2 in
        (at.0, there, get_or_from_slice_get rows at.0 x x is)),
  )

-- there is an item within a list
some_there : {X : Type 0} (xs : List X) (k : ℕ) → k < length xs → ¬ (slice_get xs k ≡ None)
some_there [] k within e = omega arith
some_there (x ∷ xs) zero within e = cc
some_there (x ∷ xs) (suc k) within e = some_there xs k (omega arith) e

-- what is made of items is made of lists with the same items
contained : {X Y : Type 0} (f : X → Y) (xs ys : List X) (y : Y) → ((x : X) → Contains xs x → Contains ys x) → Contains (map f xs) y → Contains (map f ys) y
contained f xs ys y same h =
    let long = length-map xs f in
    let within : h.0 < length xs = let inside = h.1 in omega arith in
    let at = slice_get-get_or (map f xs) h.0 y h.1 ∙ ap Some h.2 in
    elim (slice_get xs h.0) as (λ o. slice_get xs h.0 ≡ o → Contains (map f ys) y) [
      | None ↦ λ e. absurd (some_there xs h.0 within e)
      | Some x ↦ λ e.
          let made : Some (f x) ≡ Some y = ap (option_map f) (sym e) ∙ sym (slice_get-map f xs h.0) ∙ at in
          let there = same x (h.0, within, get_or_from_slice_get xs h.0 x x e) in
          let found = there.1 in
          let more = length-map ys f in
          let is = slice_get-map f ys there.0 ∙ ap (option_map f) (slice_get-get_or ys there.0 x found ∙ ap Some there.2) ∙ made in
          (there.0, omega arith, get_or_from_slice_get (map f ys) there.0 y y is)
    ] refl

module _ (rows : List (Option Value)) (dtype : DType) (ends : PrimitiveForm) where
  -- the ends of an encoding are those of whole runs
  pub whole_runs : (values : Leaf) → IsRowEncoding rows dtype ends values → AreWholeRuns ends
  whole_runs values e = record {
    plain = (parts_of_rows rows dtype ends values (length rows) (OfLeaf values) e refl refl).plain;
    window = subst (λ (n : ℕ). IsWindow (ends_of ends) 0 n) (sym e.cover.exact.stop) e.cover.covers.window;
    filled = e.cover.tight.filled;
  }

  -- its keys cover the keys of the rows
  pub keys_cover : (form : PrimitiveForm) → IsRowEncoding rows dtype ends (OfNumbers form) → Covers (map number_in rows) (ends_of ends) (optional_numbers form) 0 (length (map number_in rows))
  keys_cover form e =
      subst (λ (n : ℕ). Covers (map number_in rows) (ends_of ends) (optional_numbers form) 0 n) (sym (length-map rows number_in))
      (subst (λ (ns : List (Option ℤ)). Covers (map number_in rows) (ends_of ends) ns 0 (length rows)) (numbers-of_rows (optional_numbers form))
      (Covers-map number_in rows (ends_of ends) (single_rows (OfNumbers form)) 0 (length rows) e.cover.covers))

  -- and are shown in them
  pub keys_shown : (form : PrimitiveForm) → IsRowEncoding rows dtype ends (OfNumbers form) → run_rows (ends_of ends) (optional_numbers form) 0 (last_end (ends_of ends)) ≡ map number_in rows
  keys_shown form e =
      let cover = keys_cover form e in
      let same = (Covers_iff_run_rows (map number_in rows) (ends_of ends) (optional_numbers form) 0 (length (map number_in rows)) cover.window cover.paired).0 cover in
      ap (run_rows (ends_of ends) (optional_numbers form) 0) (e.cover.exact.stop ∙ sym (length-map rows number_in)) ∙ sym same

  -- and the rows have the same keys
  pub same_keys : (form : PrimitiveForm) → IsRowEncoding rows dtype ends (OfNumbers form) → (key : Option ℤ) → Contains (map number_in rows) key ↔ Contains (optional_numbers form) key
  same_keys form e key =
      let values = single_rows (OfNumbers form) in
      let law = same_items rows (ends_of ends) values e.cover in
      let numbers = numbers-of_rows (optional_numbers form) in (
        (λ h. subst (λ (ks : List (Option ℤ)). Contains ks key) numbers (contained number_in rows values key (λ x. (law x).0) h)),
        (λ h. contained number_in values rows key (λ x. (law x).1) (subst (λ (ks : List (Option ℤ)). Contains ks key) (sym numbers) h)),
      )
