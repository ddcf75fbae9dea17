-- A filter of a constant, by the number of rows at which the mask is true.
use Rattle.std.proofs.Common.{◌≡◌, ◌≢◌, ◌∙◌, inl, inr, refl, sym, ap, subst, ℕ, List, [], ◌∷◌, zero, suc, Bool, true, false, cond, length, map}
use Rattle.std.specs.Prelude.{◌==◌, Option, Some, None, option_map, slice_index_or}
use Rattle.std.specs.Option.{option_or}
use Rattle.std.specs.Global.{Global}
use Rattle.std.proofs.lemmas.Bool.Decides.{Decides-eqb}
use Rattle.std.proofs.lemmas.List.{length-map, length-replicate}
use Rattle.column_base.specs.declared.error.VortexError.{VortexError}
use Rattle.column_base.specs.declared.error.VortexError.TheVariants.{MaskLength}
use Rattle.column_base.specs.declared.mask.Mask.TheVariants.{Values}
use Rattle.column_core.specs.Refusal.{IsErrorFor}
use Rattle.column_core.specs.Value.{FlatValue, Single}
use Rattle.column_ops.specs.Filter.{filter_fault}
use Rattle.runend_column.proofs.ConstantRows.{selected-constant}
use Rattle.runend_column.proofs.FilterFaults.{fault_here, no_fault}
use Rattle.runend_array.specs.Array.{dtype_of, rows}
use Rattle.runend_array.specs.Column.{Constant, repeated}
use Rattle.runend_array.specs.SessionForm.{SessionForm}
use Rattle.runend_array.specs.declared.array_ref.ArrayRef.{ArrayRef}
use Rattle.runend_array.specs.declared.array_ref.ArrayRef.TheVariants as array
use Rattle.runend_array.specs.SessionForm.{kernel_index}
use Rattle.c_columns.specs.Flags.{flag_of}
use Rattle.c_columns.specs.Sessions.{IsSessionOf, thresholds_in}
use Rattle.runend_select.specs.MaskRuns.{is_true, mask_fault}
use Rattle.c_columns.specs.TwoColumns.{HasPlain, IsFilteredIn, filtered_by, mask_filter_fault, true_rows}
use Rattle.c_columns.specs.declared.sessions.Session.{Session}

-- the session of flags and thresholds
flags_are : (bytes : List ℕ) (i : ℕ) → slice_index_or (map flag_of bytes) i false ≡ flag_of (slice_index_or bytes i 0)
flags_are [] i = refl
flags_are (byte ∷ bytes) zero = refl
flags_are (byte ∷ bytes) (suc i) = flags_are bytes i

abbrev session_in : Session → SessionForm
session_in s = record { flags = map flag_of s.kernels; thresholds = thresholds_in s }

session_is : (s : Session) → IsSessionOf s (session_in s)
session_is s = record { kernels = λ k. flags_are s.kernels (kernel_index k); thresholds = refl }

-- a constant as a column, and how many rows it has
abbrev held : Constant → ArrayRef Global
held k = array.Constant k

rows_counted : (k : Constant) → length (rows (held k)) ≡ k.count
rows_counted k = length-replicate k.count (option_map (λ (v : FlatValue). Single v) k.value)

-- the mask is of another type
pub type_refused : (mask : ArrayRef Global) (k : Constant) (error : VortexError) → IsErrorFor (mask_fault (dtype_of mask)) error → IsErrorFor (mask_filter_fault mask (array.Constant k)) error
type_refused mask k error (inl short) = inl short
type_refused mask k error (inr fault) = inr (ap (λ (f : Option VortexError). option_or f (filter_fault (length (map is_true (rows mask))) (length (rows (held k))))) fault)

-- a mask of booleans: its length decides
counted_fault : (mask : ArrayRef Global) (k : Constant) → mask_fault (dtype_of mask) ≡ None → filter_fault (length (rows mask)) k.count ≡ mask_filter_fault mask (array.Constant k)
counted_fault mask k none =
    ap (λ (n : ℕ). filter_fault n k.count) (sym (length-map (rows mask) is_true))
    ∙ ap (λ (n : ℕ). filter_fault (length (map is_true (rows mask))) n) (sym (rows_counted k))
    ∙ sym (ap (λ (f : Option VortexError). option_or f (filter_fault (length (map is_true (rows mask))) (length (rows (held k))))) none)

pub counted_refused : (mask : ArrayRef Global) (k : Constant) (x y : ℕ) → mask_fault (dtype_of mask) ≡ None → length (rows mask) ≢ k.count → x ≡ length (rows mask) → y ≡ k.count
    → IsErrorFor (mask_filter_fault mask (array.Constant k)) (MaskLength x y)
counted_refused mask k x y none other left right =
    subst (λ (f : Option VortexError). IsErrorFor f (MaskLength x y)) (counted_fault mask k none) (fault_here (length (rows mask)) k.count x y other left right)

pub counted_done : (mask : ArrayRef Global) (k : Constant) → mask_fault (dtype_of mask) ≡ None → length (rows mask) ≡ k.count → mask_filter_fault mask (array.Constant k) ≡ None
counted_done mask k none same = sym (counted_fault mask k none) ∙ no_fault (length (rows mask)) k.count same

-- without a fault, the mask is as long
no_other_fault : (fault other : Option VortexError) → option_or fault other ≡ None → other ≡ None
no_other_fault None other none = none
no_other_fault (Some error) other none = absurd (cc)

same_by : (m n : ℕ) (b : Bool) → (m == n) ≡ b → cond b None (Some (MaskLength m n)) ≡ None → m ≡ n
same_by m n true is none = (Decides-eqb m n).0 is
same_by m n false is none = absurd (cc)

as_long : (mask : ArrayRef Global) (k : Constant) → mask_filter_fault mask (array.Constant k) ≡ None → length (map is_true (rows mask)) ≡ k.count
as_long mask k none =
    let n = length (map is_true (rows mask)) in
    let m = length (rows (held k)) in
    same_by n m (n == m) refl (no_other_fault (mask_fault (dtype_of mask)) (filter_fault n m) none) ∙ rows_counted k

-- a constant whose rows were counted
pub constant_left : (s : Session) (mask c d : ArrayRef Global) (k kept : Constant) → c ≡ array.Constant k → mask_filter_fault mask (array.Constant k) ≡ None → kept ≡ repeated k (true_rows (rows mask))
    → d ≡ array.Constant kept → HasPlain (filtered_by mask c) (IsFilteredIn s mask c) d
constant_left s mask c d k kept is none counted made =
    let value = option_map (λ (v : FlatValue). Single v) k.value in
    let bits = map is_true (rows mask) in
    let left : HasPlain (filtered_by mask (array.Constant k)) (IsFilteredIn s mask (array.Constant k)) (array.Constant (repeated k (true_rows (rows mask)))) = record {
      rows = sym (selected-constant value k.count bits (as_long mask k none));
      dtype = refl;
      form = record { selected = Values bits; bits = refl; form = record { session = session_in s; set = session_is s; left = record { constant = λ keeps. tt; by_kernel = λ not. absurd (not tt) } } };
      least = tt;
    } in
    subst (λ (a : ArrayRef Global). HasPlain (filtered_by mask a) (IsFilteredIn s mask a) d) (sym is)
    (subst (HasPlain (filtered_by mask (array.Constant k)) (IsFilteredIn s mask (array.Constant k))) (sym (made ∙ ap array.Constant counted)) left)
