-- Rows that are cast, as runs show them.
use Rattle.std.proofs.Common.{◌≡◌, ◌∙◌, ℕ, zero, suc, ℤ, inl, inr, List, [], ◌∷◌, Option, Some, None, true, length, map, get_or, refl, ap, sym}
use Rattle.std.specs.Prelude.{Contains, IfErr, IfOk, IsOkUnless, Result, Ok, Err, slice_index_or}
use Rattle.std.specs.List.{AllZip, range_with_len}
use Rattle.column_base.specs.declared.dtype.DType.{DType}
use Rattle.column_base.specs.declared.dtype.DType.TheVariants as column
use Rattle.column_base.specs.declared.dtype.PType.TheVariants.{U8, U16, U32, U64, I8, I16, I32, I64}
use Rattle.column_base.specs.declared.error.VortexError.{VortexError}
use Rattle.column_base.specs.declared.error.VortexError.TheVariants.{OutOfMemory}
use Rattle.column_core.specs.Refusal.{IsRefusedBy}
use Rattle.column_core.specs.Value.{Value}
use Rattle.runend_windows.specs.Cover.{Covers}
use Rattle.runend_windows.specs.Window.{run_at, run_rows}
use Rattle.runend_windows.proofs.RunRows.{Covers_iff_run_rows}
use Rattle.column_floats.specs.Casts.{IsCastRefusal, IsCastRow}
use Rattle.column_floats.specs.Formats.{floats_fault, format_of, is_floats, keys_of_format}
use Rattle.runend_floats.specs.CastRuns.{integers_fault, is_integers, number_type}

zip_at : {X Y : Type 0} (R : X → Y → Type 0) (xs : List X) (ys : List Y) (d : X) (e : Y) → AllZip R xs ys → R d e → (k : ℕ) → R (get_or xs k d) (get_or ys k e)
zip_at R [] [] d e each past k = past
zip_at R [] (y ∷ ys) d e each past k = absurd each
zip_at R (x ∷ xs) [] d e each past k = absurd each
zip_at R (x ∷ xs) (y ∷ ys) d e each past zero = each.0
zip_at R (x ∷ xs) (y ∷ ys) d e each past (suc k) = zip_at R xs ys d e each.1 past k

zip_of_maps : {X Y Z : Type 0} (R : X → Y → Type 0) (f : Z → X) (g : Z → Y) (zs : List Z) → ((z : Z) → R (f z) (g z)) → AllZip R (map f zs) (map g zs)
zip_of_maps R f g [] each = tt
zip_of_maps R f g (z ∷ zs) each = (each z, zip_of_maps R f g zs each)

-- what is cast of values is shown for what is shown of them
pub shown_cast : (R : ℤ → ℤ → Type 0) (ends : List ℕ) (values made : List (Option Value)) (count : ℕ) → AllZip (IsCastRow R) values made → AllZip (IsCastRow R) (run_rows ends values 0 count) (run_rows ends made 0 count)
shown_cast R ends values made count each =
    zip_of_maps (IsCastRow R) (λ (p : ℕ). slice_index_or values (run_at ends p) None) (λ (p : ℕ). slice_index_or made (run_at ends p) None) (range_with_len 0 count)
    (λ p. zip_at (IsCastRow R) values made None None each refl (run_at ends p))

-- the rows of a cover
pub shown_rows : (rows : List (Option Value)) (ends : List ℕ) (values : List (Option Value)) (count : ℕ) → Covers rows ends values 0 (length rows) → length rows ≡ count → run_rows ends values 0 count ≡ rows
shown_rows rows ends values count cover counted =
    ap (run_rows ends values 0) (sym counted) ∙ sym ((Covers_iff_run_rows rows ends values 0 (length rows) cover.window cover.paired).0 cover)

-- what holds of the value of an answer, by what else holds of it
pub if_ok : {T E : Type 0} {P Q : T → Type 0} (result : Result T E) → ((value : T) → P value → Q value) → IfOk result P → IfOk result Q
if_ok (Ok value) f p = f value p
if_ok (Err error) f p = tt

-- refusals
pub if_err : {T E : Type 0} {P Q : E → Type 0} (result : Result T E) → ((error : E) → P error → Q error) → IfErr result P → IfErr result Q
if_err (Ok value) f p = tt
if_err (Err error) f p = f error p

pub only_memory : {T : Type 0} (R : ℤ → ℤ → Type 0) (xs : List (Option ℤ)) (result : Result T VortexError) → IsOkUnless result OutOfMemory → IfErr result (IsCastRefusal R xs)
only_memory R xs (Ok value) h = tt
only_memory R xs (Err error) h = inl h

pub refusal_shown : (R : ℤ → ℤ → Type 0) (xs ys : List (Option ℤ)) (error : VortexError) → ((x : Option ℤ) → Contains xs x → Contains ys x) → IsCastRefusal R xs error → IsCastRefusal R ys error
refusal_shown R xs ys error same (inl memory) = inl memory
refusal_shown R xs ys error same (inr h) = let n = h.1.0 in inr (h.0, (n, same (Some n) h.1.1, h.1.2))

-- the integers that hold keys
pub floats_number_type : (t : DType) → is_floats t ≡ true → number_type t ≡ Some (keys_of_format (format_of t))
floats_number_type (column.Primitive I16 n) e = refl
floats_number_type (column.Primitive I32 n) e = refl
floats_number_type (column.Primitive I64 n) e = refl
floats_number_type (column.Primitive I8 n) e = absurd (cc)
floats_number_type (column.Primitive U8 n) e = absurd (cc)
floats_number_type (column.Primitive U16 n) e = absurd (cc)
floats_number_type (column.Primitive U32 n) e = absurd (cc)
floats_number_type (column.Primitive U64 n) e = absurd (cc)
floats_number_type (column.Bool n) e = absurd (cc)
floats_number_type (column.Decimal d n) e = absurd (cc)
floats_number_type (column.Utf8 n) e = absurd (cc)
floats_number_type (column.Binary n) e = absurd (cc)
floats_number_type (column.List d n) e = absurd (cc)

-- refused for memory only, where the type is the one that is needed
pub refused_floats : {T : Type 0} (t : DType) → is_floats t ≡ true → (result : Result T VortexError) → IsOkUnless result OutOfMemory → IsRefusedBy (floats_fault t) result
refused_floats t floats (Ok value) only = rw floats refl
refused_floats t floats (Err error) only = inl only

pub refused_integers : {T : Type 0} (t : DType) → is_integers t ≡ true → (result : Result T VortexError) → IsOkUnless result OutOfMemory → IsRefusedBy (integers_fault t) result
refused_integers t integers (Ok value) only = rw integers refl
refused_integers t integers (Err error) only = inl only
