-- Lemmas on texts and bytes that are cast.
use Rattle.std.proofs.Common.{◌≡◌, ◌∙◌, ℕ, List, Some, None, false, true, map, refl, sym, ap}
use Rattle.std.specs.Prelude.{option_map}
use Rattle.column_base.specs.declared.dtype.Nullability.{Nullability}
use Rattle.column_base.specs.declared.dtype.DType.{DType}
use Rattle.column_base.specs.Types.{nullability_of, with_nullability}
use Rattle.column_base.specs.ValidityForm.{ValidityForm, nullability_in}
use Rattle.column_core.specs.declared.varbinview.View.{View}
use Rattle.column_core.specs.declared.varbinview.VarBinKind.{VarBinKind}
use Rattle.column_core.specs.declared.varbinview.VarBinKind.TheVariants.{Utf8, Binary}
use Rattle.column_core.specs.Leaf.{OfVarBins, single_rows}
use Rattle.column_core.specs.Value.{FlatValue, Single}
use Rattle.column_core.specs.VarBinForm.{AreVarBins, VarBinForm, kind_dtype, varbin_dtype, varbin_rows, varbin_value, varbin_with, view_bytes, zero_view}
use Rattle.column_ops.specs.Cast.{can_cast, cast_row_fault, is_numbers, null_row_fault}
use Rattle.column_ops.specs.Computed.{IsMade}
use Rattle.column_ops.specs.Fault.{first_fault}
use Rattle.column_ops.specs.Written.{AreStoredAs}
use Rattle.column_ops.proofs.CastRows.{dtype-of_cast, first_fault-kept, first_fault-mapped}
use Rattle.column_ops.proofs.Columns.{AreVarBins-sound, IsMade-varbins, optional_views, sound_views, varbin_rows-of_views}

-- a text or bytes are a value of each type that they are cast to
no_fault : (kind : VarBinKind) (dtype : DType) (bytes : List ℕ) → cast_row_fault dtype (Some (Single (varbin_value kind bytes))) ≡ None
no_fault Utf8 dtype bytes = refl
no_fault Binary dtype bytes = refl

-- of texts and bytes only null is a fault
pub first_fault-views : (own : VarBinForm) (dtype : DType)
    → first_fault (cast_row_fault dtype) (single_rows (OfVarBins own)) ≡ first_fault (null_row_fault (nullability_of dtype)) (optional_views own)
first_fault-views own dtype =
    let bytes = map (option_map (view_bytes own.buffers)) (optional_views own) in
    ap (λ rows. first_fault (cast_row_fault dtype) (map (option_map (λ (v : FlatValue). Single v)) rows)) (varbin_rows-of_views own)
    ∙ first_fault-kept (varbin_value own.kind) dtype bytes (no_fault own.kind dtype)
    ∙ first_fault-mapped (view_bytes own.buffers) (nullability_of dtype) (optional_views own)

-- kept views are sound, and show the rows of the column
pub kept_views_sound : (own : VarBinForm) (wanted : Nullability) (items : List View) (form : ValidityForm) → AreVarBins own
    → AreStoredAs zero_view (optional_views own) wanted items form → AreVarBins (varbin_with own.kind items own.buffers form)
kept_views_sound own wanted items form are written =
    AreVarBins-sound own.kind own.buffers items form written.fits (rw (written.shown) (sound_views own.kind own.buffers own.views own.validity are))

-- texts and bytes are not numbers
pub no_numbers : (kind : VarBinKind) (n : Nullability) → is_numbers (kind_dtype kind n) ≡ false
no_numbers Utf8 n = refl
no_numbers Binary n = refl

-- the type of texts or bytes with another nullability
kind_dtype-with : (kind : VarBinKind) (n m : Nullability) → with_nullability (kind_dtype kind n) m ≡ kind_dtype kind m
kind_dtype-with Utf8 n m = refl
kind_dtype-with Binary n m = refl

pub IsMade-kept_views : (own : VarBinForm) (dtype : DType) (items : List View) (form : ValidityForm) → can_cast (varbin_dtype own) dtype ≡ true
    → AreStoredAs zero_view (optional_views own) (nullability_of dtype) items form → IsMade (varbin_rows own) dtype (OfVarBins (varbin_with own.kind items own.buffers form))
IsMade-kept_views own dtype items form can written =
    let made = IsMade-varbins own.kind own.buffers (optional_views own) (nullability_of dtype) items form written in
    let nullability = nullability_in own.validity in
    let same : dtype ≡ kind_dtype own.kind (nullability_of dtype) =
    dtype-of_cast (varbin_dtype own) dtype (no_numbers own.kind nullability) can ∙ kind_dtype-with own.kind nullability (nullability_of dtype) in
    record {
      rows = made.rows ∙ sym (varbin_rows-of_views own);
      dtype = made.dtype ∙ sym same;
      computed = made.computed;
    }
