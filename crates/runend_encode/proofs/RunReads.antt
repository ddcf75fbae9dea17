-- What single runs show, read by number and flag.
use Rattle.std.proofs.Common.{◌≡◌, ◌≢◌, ◌+◌, ◌-◌, ◌<◌, ◌≤◌, ℕ, ℤ, pos, List, Bool, true, false, Option, Some, None, get_or, length, map, refl, sym, subst, ◌∙◌, ap, arith, inl, inr, if◌then◌else◌}
use Rattle.std.specs.List.{slice_get, AllAdjacentBelow}
use Rattle.std.specs.Option.{option_map}
use Rattle.std.proofs.lemmas.Bool.{cases_lt}
use Rattle.std.proofs.lemmas.Option.{slice_get-get_or, slice_get-map, slice_get_read, get_or_from_slice_get}
use Rattle.column_base.specs.declared.dtype.PType.{PType}
use Rattle.column_base.specs.declared.dtype.Nullability.TheVariants.{NonNullable}
use Rattle.column_base.specs.declared.dtype.DType.TheVariants as column
use Rattle.column_base.specs.ValidityForm.{ValidityForm, NeverNull, NoneNull, AllNull, ByBits, HasLength, flags, flag_at, nullability_in}
use Rattle.column_core.specs.PrimitiveForm.{AreZeroAtNulls, optionals}
use Rattle.column_core.proofs.OptionalRows.{optionals-at}
use Rattle.runend_windows.specs.Ends.{IsEndsType}
use Rattle.runend_windows.proofs.Arms.{length-arm}
use Rattle.runend_windows.proofs.Blanked.{AreBlankAtNulls-at}
use Rattle.runend_windows.proofs.StoredNumbers.{flags-read}

-- the number, or null
abbrev pub optional_of : Bool → ℤ → Option ℤ
optional_of valid number = if valid then Some number else None

-- a run shows the number that is read, or null by the flag that is read
pub shown-read : {S : Type 0} (number : S → ℤ) (items : List S) (form : ValidityForm) (run : ℕ) (x : S) (valid : Bool) → HasLength form (length items) → run < length items
    → x ≡ get_or items run x → valid ≡ flag_at form run → slice_get (optionals (map number items) (flags form (length items))) run ≡ Some (optional_of valid (number x))
shown-read number items form run x valid fits within read flag =
    optionals-at (map number items) (flags form (length items)) run (number x) valid
    (slice_get-map number items run ∙ ap (option_map number) (slice_get_read items (length items) run x refl within read))
    (flags-read form (length items) run valid fits within flag)

-- the number of a null is 0
pub blank-read : {S : Type 0} (number : S → ℤ) (items : List S) (form : ValidityForm) (run : ℕ) (x : S) (valid : Bool) → HasLength form (length items) → run < length items
    → x ≡ get_or items run x → valid ≡ flag_at form run → AreZeroAtNulls (map number items) (flags form (length items)) → valid ≡ false → number x ≡ pos 0
blank-read number items form run x valid fits within read flag zeroed null =
    AreBlankAtNulls-at (pos 0) (map number items) (flags form (length items)) run (number x) zeroed
    (slice_get-map number items run ∙ ap (option_map number) (slice_get_read items (length items) run x refl within read))
    (flags-read form (length items) run valid fits within flag ∙ ap Some null)

-- a run without null shows the number that is read
pub valid-read : {S : Type 0} (number : S → ℤ) (items : List S) (run : ℕ) (x : S) → run < length items → x ≡ get_or items run x
    → slice_get (map (λ (n : ℤ). Some n) (map number items)) run ≡ Some (Some (number x))
valid-read number items run x within read =
    slice_get-map (λ (n : ℤ). Some n) (map number items) run
    ∙ ap (option_map (λ (n : ℤ). Some n)) (slice_get-map number items run ∙ ap (option_map number) (slice_get_read items (length items) run x refl within read))

-- optional numbers are equal exactly where flags and numbers are, if the number of a null is 0
pub flags-equal : (v w : Bool) (a b : ℤ) → optional_of v a ≡ optional_of w b → v ≡ w
flags-equal true true a b e = refl
flags-equal true false a b e = cc
flags-equal false true a b e = cc
flags-equal false false a b e = refl

pub numbers-equal : (v w : Bool) (a b : ℤ) → (v ≡ false → a ≡ pos 0) → (w ≡ false → b ≡ pos 0) → optional_of v a ≡ optional_of w b → a ≡ b
numbers-equal true true a b z z' e = cc
numbers-equal true false a b z z' e = cc
numbers-equal false true a b z z' e = cc
numbers-equal false false a b z z' e = z refl ∙ sym (z' refl)

pub equal-optionals : (v w : Bool) (a b : ℤ) → v ≡ w → a ≡ b → optional_of v a ≡ optional_of w b
equal-optionals v w a b e f = cc

-- one more run differs from the one before it
pub AllAdjacentBelow-more : {X : Type 0} (R : X → X → Type 0) (xs : List X) (run : ℕ) (x y : X) → 0 < run → slice_get xs (run - 1) ≡ Some x → slice_get xs run ≡ Some y → R x y
    → AllAdjacentBelow R xs run → AllAdjacentBelow R xs (run + 1)
AllAdjacentBelow-more R xs run x y later first second related before = λ k d h. elim (cases_lt (k + 1) run) [
  | inl below ↦ before k d below
  | inr last ↦
      let at : k + 1 ≡ run = omega arith in
      let ahead : k ≡ run - 1 = omega arith in
      let left : get_or xs k d ≡ x = ap (λ (n : ℕ). get_or xs n d) ahead ∙ get_or_from_slice_get xs (run - 1) x d first in
      let right : get_or xs (k + 1) d ≡ y = ap (λ (n : ℕ). get_or xs n d) at ∙ get_or_from_slice_get xs run y d second in
      rw (left, right) related
]

-- where the stored numbers differ from those before, so do the runs
pub AllAdjacentBelow-further : (numbers : List ℤ) (form : ValidityForm) (size start stop : ℕ) → size ≡ length numbers → HasLength form size → AreZeroAtNulls numbers (flags form size) → stop ≤ size
    → ((run : ℕ) → start ≤ run → run < stop → slice_get numbers (run - 1) ≢ slice_get numbers run)
    → AllAdjacentBelow (λ x y. x ≢ y) (optionals numbers (flags form size)) start → AllAdjacentBelow (λ x y. x ≢ y) (optionals numbers (flags form size)) stop
AllAdjacentBelow-further numbers form size start stop long fits zeroed within apart before = λ k d h. elim (cases_lt (k + 1) start) [
  | inl below ↦ before k d below
  | inr from ↦ λ same.
      let values = optionals numbers (flags form size) in
      let n = get_or numbers k (pos 0) in
      let m = get_or numbers (k + 1) (pos 0) in
      let v = flag_at form k in
      let w = flag_at form (k + 1) in
      let first : slice_get numbers k ≡ Some n = slice_get-get_or numbers k (pos 0) (omega arith) in
      let second : slice_get numbers (k + 1) ≡ Some m = slice_get-get_or numbers (k + 1) (pos 0) (omega arith) in
      let flag = flags-read form size k v fits (omega arith) refl in
      let next = flags-read form size (k + 1) w fits (omega arith) refl in
      let left = get_or_from_slice_get values k (optional_of v n) d (optionals-at numbers (flags form size) k n v first flag) in
      let right = get_or_from_slice_get values (k + 1) (optional_of w m) d (optionals-at numbers (flags form size) (k + 1) m w second next) in
      let equal = numbers-equal v w n m (λ null. AreBlankAtNulls-at (pos 0) numbers (flags form size) k n zeroed first (flag ∙ ap Some null))
      (λ null. AreBlankAtNulls-at (pos 0) numbers (flags form size) (k + 1) m zeroed second (next ∙ ap Some null)) (sym left ∙ same ∙ right) in
      let place : k + 1 - 1 ≡ k = omega arith in
      apart (k + 1) from h (ap (slice_get numbers) place ∙ first ∙ ap Some equal ∙ sym second)
]

-- a column of ends has no null by its form
pub never-of_ends : (ptype : PType) (form : ValidityForm) → IsEndsType (column.Primitive ptype (nullability_in form)) → form ≡ NeverNull
never-of_ends ptype NeverNull e = refl
never-of_ends ptype NoneNull e = absurd e
never-of_ends ptype AllNull e = absurd e
never-of_ends ptype (ByBits bits) e = absurd e

-- a type without null has no null by its form
pub never-from_required : (form : ValidityForm) → nullability_in form ≡ NonNullable → form ≡ NeverNull
never-from_required NeverNull e = refl
never-from_required NoneNull e = cc
never-from_required AllNull e = cc
never-from_required (ByBits bits) e = cc

-- the numbers of an arm are 0 under null
pub zeroed-arm : {S : Type 0} (number : S → ℤ) (items : List S) (numbers : List ℤ) (form own : ValidityForm) → map number items ≡ numbers → form ≡ own
    → AreZeroAtNulls numbers (flags own (length numbers)) → AreZeroAtNulls (map number items) (flags form (length items))
zeroed-arm number items numbers form own shown same zeroed =
    let long = length-arm number items numbers shown in
    subst (λ (n : ℕ). AreZeroAtNulls (map number items) (flags form n)) (sym long)
    (subst (λ (v : ValidityForm). AreZeroAtNulls (map number items) (flags v (length numbers))) (sym same)
    (subst (λ (ns : List ℤ). AreZeroAtNulls ns (flags own (length numbers))) (sym shown) zeroed))

-- values of an arm differ from the next where those of the column do
pub differ-arm : {S : Type 0} (number : S → ℤ) (items : List S) (numbers : List ℤ) (form own : ValidityForm) → map number items ≡ numbers → form ≡ own
    → AllAdjacentBelow (λ x y. x ≢ y) (optionals (map number items) (flags form (length items))) (length items)
    → AllAdjacentBelow (λ x y. x ≢ y) (optionals numbers (flags own (length numbers))) (length numbers)
differ-arm number items numbers form own shown same differ =
    let long = length-arm number items numbers shown in
    subst (λ (n : ℕ). AllAdjacentBelow (λ x y. x ≢ y) (optionals numbers (flags own n)) n) long
    (subst (λ (v : ValidityForm). AllAdjacentBelow (λ x y. x ≢ y) (optionals numbers (flags v (length items))) (length items)) same
    (subst (λ (ns : List ℤ). AllAdjacentBelow (λ x y. x ≢ y) (optionals ns (flags form (length items))) (length items)) shown differ))
