-- What the encodings of keys and values are to their groups.
use Rattle.std.proofs.Common.{◌≡◌, ◌∙◌, ℕ, ℤ, List, Option, length, map, refl, sym, ap, subst}
use Rattle.column_base.specs.declared.dtype.DType.{DType}
use Rattle.column_base.specs.ValidityForm.{ValidityForm, HasLength, flags}
use Rattle.column_base.proofs.ValidityRows.{length-flags}
use Rattle.column_core.specs.Leaf.{Leaf, OfNumbers, single_rows}
use Rattle.column_core.specs.PrimitiveForm.{PrimitiveForm, optional_numbers, optionals}
use Rattle.column_core.specs.Value.{Value}
use Rattle.column_core.proofs.OptionalRows.{length-optionals}
use Rattle.column_sums.specs.SumAnswer.{number_in}
use Rattle.column_sums.proofs.SingleRows.{numbers-of_rows}
use Rattle.runend_windows.specs.Cover.{Covers}
use Rattle.runend_windows.specs.Ends.{ends_of}
use Rattle.runend_windows.specs.Window.{IsWindow, last_end, run_rows}
use Rattle.runend_windows.proofs.Arms.{HasLength-arm, length-arm}
use Rattle.runend_windows.proofs.Decoded.{Covers-map}
use Rattle.runend_windows.proofs.RunRows.{Covers_iff_run_rows}
use Rattle.runend_array.specs.Column.{OfLeaf}
use Rattle.runend_encode.specs.Encoding.{IsRowEncoding}
use Rattle.runend_builder.proofs.Parts.{parts_of_rows}
use Rattle.runend_pairs.specs.Groups.{shown_numbers, AreValueRuns, AreWholeRuns}
use Rattle.runend_pairs.proofs.WalkedGroups.{begins}

-- the ends of an encoding are those of whole runs
pub whole_runs : (rows : List (Option Value)) (dtype : DType) (ends : PrimitiveForm) (values : Leaf) → IsRowEncoding rows dtype ends values → AreWholeRuns ends
whole_runs rows dtype ends values e = record {
  plain = (parts_of_rows rows dtype ends values (length rows) (OfLeaf values) e refl refl).plain;
  window = subst (λ (n : ℕ). IsWindow (ends_of ends) 0 n) (sym e.cover.exact.stop) e.cover.covers.window;
  begun = begins (ends_of ends) e.cover.tight.filled;
}

-- the values of an encoding of integers cover the numbers of the rows
encoded_cover : (rows : List (Option Value)) (dtype : DType) (ends form : PrimitiveForm) → IsRowEncoding rows dtype ends (OfNumbers form)
    → Covers (map number_in rows) (ends_of ends) (optional_numbers form) 0 (length rows)
encoded_cover rows dtype ends form e =
    subst (λ (ns : List (Option ℤ)). Covers (map number_in rows) (ends_of ends) ns 0 (length rows)) (numbers-of_rows (optional_numbers form))
    (Covers-map number_in rows (ends_of ends) (single_rows (OfNumbers form)) 0 (length rows) e.cover.covers)

-- and are as many as the runs
pub encoded_paired : (rows : List (Option Value)) (dtype : DType) (ends form : PrimitiveForm) → IsRowEncoding rows dtype ends (OfNumbers form) → length (optional_numbers form) ≡ length (ends_of ends)
encoded_paired rows dtype ends form e = (encoded_cover rows dtype ends form e).paired

-- which show those numbers
pub encoded_numbers : (rows : List (Option Value)) (dtype : DType) (ends form : PrimitiveForm) → IsRowEncoding rows dtype ends (OfNumbers form)
    → run_rows (ends_of ends) (optional_numbers form) 0 (last_end (ends_of ends)) ≡ map number_in rows
encoded_numbers rows dtype ends form e =
    let cover = encoded_cover rows dtype ends form e in
    let same = (Covers_iff_run_rows (map number_in rows) (ends_of ends) (optional_numbers form) 0 (length rows) cover.window cover.paired).0 cover in
    ap (run_rows (ends_of ends) (optional_numbers form) 0) e.cover.exact.stop ∙ sym same

-- items of a flat column of integers, as runs
pub runs_of_items : {S : Type 0} (number : S → ℤ) (items : List S) (validity : ValidityForm) (ends form : PrimitiveForm) → AreWholeRuns ends → length (optional_numbers form) ≡ length (ends_of ends)
    → map number items ≡ form.numbers → validity ≡ form.validity → HasLength form.validity (length form.numbers) → AreValueRuns ends (length items) validity
runs_of_items number items validity ends form whole paired stored same counted =
    let long = length-arm number items form.numbers stored in
    record {
      whole = whole;
      paired = long ∙ sym (length-optionals form.numbers (flags form.validity (length form.numbers)) (length-flags form.validity (length form.numbers) counted)) ∙ paired;
      flagged = HasLength-arm validity form.validity (length items) (length form.numbers) same long counted;
    }

-- and what they show
pub items_shown : {S : Type 0} (number : S → ℤ) (items : List S) (validity : ValidityForm) (ends : List ℕ) (form : PrimitiveForm) → map number items ≡ form.numbers → validity ≡ form.validity
    → shown_numbers ends (map number items) (flags validity (length items)) ≡ run_rows ends (optional_numbers form) 0 (last_end ends)
items_shown number items validity ends form stored same =
    ap (λ (values : List (Option ℤ)). run_rows ends values 0 (last_end ends))
    (ap (λ (numbers : List ℤ). optionals numbers (flags validity (length items))) stored
    ∙ ap (λ (own : ValidityForm). optionals form.numbers (flags own (length items))) same
    ∙ ap (λ (n : ℕ). optionals form.numbers (flags form.validity n)) (length-arm number items form.numbers stored))
