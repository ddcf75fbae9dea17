-- Flat columns whose items and flags are decoded apart.
use Rattle.std.proofs.Common.{◌≡◌, ℕ, ◌+◌, List, Bool, Option, length, map, sym, subst, ◌∙◌, arith}
use Rattle.std.specs.Option.{option_map}
use Rattle.std.proofs.lemmas.Option.{slice_get_within}
use Rattle.std.proofs.lemmas.List.{length-map}
use Rattle.column_base.specs.ValidityForm.{ValidityForm, HasLength, flags}
use Rattle.column_base.proofs.ValidityRows.{length-flags}
use Rattle.column_core.specs.Value.{FlatValue, Single}
use Rattle.column_core.specs.Optionals.{optionals, AreBlankAtNulls}
use Rattle.runend_windows.specs.Window.{run_at, IsWindow}
use Rattle.runend_windows.specs.Cover.{Covers}
use Rattle.runend_windows.specs.Window.{run_rows}
use Rattle.runend_windows.specs.Encoding.{blanked}
use Rattle.column_core.specs.Computed.{AreComputed, HasRowIfAllNull}
use Rattle.runend_windows.specs.Decoding.{AreDecoded}
use Rattle.runend_windows.proofs.ShownRuns.{equal_from_Covers}
use Rattle.runend_windows.proofs.Decoded.{Covers-map}
use Rattle.runend_windows.proofs.Optionals.{Covers-optionals}
use Rattle.runend_windows.proofs.RunRows.{Covers-run_rows}
use Rattle.runend_windows.proofs.Blanked.{optionals-blanked, AreBlankAtNulls-blanked, AreBlankAtNulls-at, AreBlankAtNulls-from_each, map-blanked}

-- items and their flags, as rows
abbrev pub rows_of : {B : Type 0} → (B → FlatValue) → List B → ValidityForm → List (Option FlatValue)
rows_of value items form = map (option_map value) (optionals items (flags form (length items)))

-- what is stored in rows that are covered by stored values, and by their flags
AreBlankAtNulls-covered : {B : Type 0} (blank : B) (items : List B) (bits : List Bool) (ends : List ℕ) (run_items : List B) (run_bits : List Bool) (offset count : ℕ)
    → Covers items ends run_items offset count → Covers bits ends run_bits offset count → AreBlankAtNulls blank run_items run_bits → AreBlankAtNulls blank items bits
AreBlankAtNulls-covered blank items bits ends run_items run_bits offset count c d stored = AreBlankAtNulls-from_each blank items bits (λ i x here flag.
    let counted = c.counted in
    let within = slice_get_within items i x here in
    AreBlankAtNulls-at blank run_items run_bits (run_at ends (offset + i)) x stored (sym (c.each i (omega arith)) ∙ here) (sym (d.each i (omega arith)) ∙ flag))

-- the flags of the values and of the rows
covered_flags : {B : Type 0} (blank : B) (ends : List ℕ) (values : List B) (values_validity : ValidityForm) (offset count : ℕ) (items : List B) (validity : ValidityForm)
    → length values ≡ length ends → AreDecoded blank ends values values_validity offset count items validity
    → Covers (flags validity (length items)) ends (flags values_validity (length values)) offset count
covered_flags blank ends values values_validity offset count items validity paired d =
    let counted = d.covered.counted in
    rw (paired, counted) d.flagged

-- the rows are those that the runs show
pub rows-from_AreDecoded : {B : Type 0} (value : B → FlatValue) (blank : B) (ends : List ℕ) (values : List B) (values_validity : ValidityForm) (offset count : ℕ) (items : List B) (validity : ValidityForm)
    → IsWindow ends offset count → length values ≡ length ends → HasLength values_validity (length values) → AreDecoded blank ends values values_validity offset count items validity
    → map (option_map Single) (rows_of value items validity) ≡ run_rows ends (map (option_map Single) (rows_of value values values_validity)) offset count
rows-from_AreDecoded value blank ends values values_validity offset count items validity window paired fits d =
    let run_flags = flags values_validity (length values) in
    let row_flags = flags validity (length items) in
    let covered = covered_flags blank ends values values_validity offset count items validity paired d in
    let flagged = length-flags values_validity (length values) fits in
    let shown : Covers (optionals items row_flags) ends (optionals values run_flags) offset count =
    rw (optionals-blanked blank values run_flags flagged) at
    (Covers-optionals items row_flags ends (blanked blank (optionals values run_flags)) run_flags offset count d.covered covered) in
    let rows = Covers-map (option_map Single) _ ends _ offset count (Covers-map (option_map value) (optionals items row_flags) ends (optionals values run_flags) offset count shown) in
    equal_from_Covers (map (option_map Single) (rows_of value items validity)) (run_rows ends (map (option_map Single) (rows_of value values values_validity)) offset count) ends
    (map (option_map Single) (rows_of value values values_validity)) offset count rows
    (Covers-run_rows ends (map (option_map Single) (rows_of value values values_validity)) offset count window rows.paired)

-- and they are stored as a call computes them
pub AreComputed-from_AreDecoded : {B : Type 0} (blank : B) (ends : List ℕ) (values : List B) (values_validity : ValidityForm) (offset count : ℕ) (items : List B) (validity : ValidityForm)
    → length values ≡ length ends → AreDecoded blank ends values values_validity offset count items validity → AreComputed blank items validity
AreComputed-from_AreDecoded blank ends values values_validity offset count items validity paired d =
    let run_flags = flags values_validity (length values) in
    let covered = covered_flags blank ends values values_validity offset count items validity paired d in
    record {
      blanked = AreBlankAtNulls-covered blank items (flags validity (length items)) ends (blanked blank (optionals values run_flags)) run_flags offset count d.covered covered
          (AreBlankAtNulls-blanked blank values run_flags);
      normal = d.normal;
      some = subst (HasRowIfAllNull validity) (sym d.covered.counted) d.some;
    }

-- items under a function of items
pub AreDecoded-map : {B C : Type 0} (f : B → C) (blank : B) (ends : List ℕ) (values : List B) (values_validity : ValidityForm) (offset count : ℕ) (items : List B) (validity : ValidityForm)
    → AreDecoded blank ends values values_validity offset count items validity → AreDecoded (f blank) ends (map f values) values_validity offset count (map f items) validity
AreDecoded-map {B} {C} f blank ends values values_validity offset count items validity d =
    let long = length-map values f in
    record {
      covered = rw (long, ← map-blanked f blank values (flags values_validity (length values))) (Covers-map f items ends _ offset count d.covered);
      flagged = d.flagged;
      fits = d.fits;
      normal = d.normal;
      nullability = d.nullability;
      some = d.some;
    }
