-- Lemmas on the rows of a column of texts or of bytes.
use Rattle.std.proofs.Common.{◌≡◌, ◌∙◌, ◌+◌, ◌-◌, ◌<◌, ◌≤◌, ℕ, List, Bool, true, false, Some, None, length, map, refl, sym, ap, subst, inl, inr, arith, get_or}
use Rattle.std.specs.Prelude.{◌⊎◌, slice_get, slice_range, option_map}
use Rattle.std.proofs.lemmas.Bool.{cases_lt, false≢true}
use Rattle.std.proofs.lemmas.List.{length-map}
use Rattle.std.proofs.lemmas.Option.{slice_get-map, slice_get-get_or, slice_get_read}
use Rattle.column_base.specs.ValidityForm.{ValidityForm, NeverNull, NoneNull, AllNull, ByBits, HasLength, length_of, flag_at, flags}
use Rattle.column_base.proofs.Ranges.{length-slice_range, get_or-slice_range, slice_range_of_map}
use Rattle.column_base.proofs.ValidityRows.{flags-at, length-flags}
use Rattle.std.specs.Str.{IsUtf8}
use Rattle.column_core.specs.declared.varbinview.View.{View}
use Rattle.column_core.specs.declared.varbinview.VarBinKind.TheVariants.{Utf8}
use Rattle.column_core.specs.Value.{FlatValue, Single}
use Rattle.column_core.specs.VarBinForm.{VarBinForm, AreVarBins, IsValidRow, IsWithinBuffer, varbin_flags, varbin_rows, varbin_value, view_bytes, zero_view}
use Rattle.column_core.proofs.OptionalRows.{valid-row_of, null-row_of, flags-of_range, range-of_rows}

-- the flag of a row of those that a validity speaks of
pub flag-of_row : (form : ValidityForm) (n k : ℕ) → HasLength form n → k < n → get_or (flags form n) k false ≡ flag_at form k
flag-of_row form n k has within =
    let counted : length (flags form n) ≡ n = length-flags form n has in
    let inside : k < length (flags form n) = omega arith in
    let shown = flags-at form n k has within in
    let read = slice_get-get_or (flags form n) k false inside in
    cc

-- the view at a row, with any default
view-of_row : (views : List View) (k : ℕ) (view : View) → k < length views → slice_get views k ≡ Some view → get_or views k zero_view ≡ view
view-of_row views k view within here = let read = slice_get-get_or views k zero_view within in cc

-- a row is valid where the validity says so
pub valid-where_told : (form : ValidityForm) (n k : ℕ) (told : Bool) → HasLength form n → k < n → told ≡ flag_at form k → told ≡ true → get_or (flags form n) k false ≡ true
valid-where_told form n k told has within is set = flag-of_row form n k has within ∙ sym is ∙ set

-- and only there
pub null-where_told : (form : ValidityForm) (n k : ℕ) (told : Bool) → HasLength form n → k < n → told ≡ flag_at form k → told ≡ false → ¬ (get_or (flags form n) k false ≡ true)
null-where_told form n k told has within is unset valid = false≢true (sym unset ∙ is ∙ sym (flag-of_row form n k has within) ∙ valid)

-- a validity that has a number of rows is one of that number
pub has-length-told : (form : ValidityForm) (n count : ℕ) → length_of form ≡ Some count → count ≡ n → HasLength form n
has-length-told NeverNull n count told same = tt
has-length-told NoneNull n count told same = tt
has-length-told AllNull n count told same = tt
has-length-told (ByBits bits) n count told same = let long : length bits ≡ count = cc in long ∙ same

-- and one that has none is one of any number
pub has-length-untold : (form : ValidityForm) (n : ℕ) → ((count : ℕ) → ¬ (length_of form ≡ Some count)) → HasLength form n
has-length-untold NeverNull n untold = tt
has-length-untold NoneNull n untold = tt
has-length-untold AllNull n untold = tt
has-length-untold (ByBits bits) n untold = absurd (untold (length bits) refl)

-- what holds of each place below one, and there, holds up to it
next-of : (P : ℕ → Type 0) (n k : ℕ) → (k < n) ⊎ (n ≤ k) → ((j : ℕ) → j < n → P j) → P n → k < n + 1 → P k
next-of P n k (inl below) old new within = old k below
next-of P n k (inr above) old new within = let same : n ≡ k = omega arith in subst P same new

-- what holds of each valid row before one, and of that one if it is valid, holds of each valid row up to it
pub next-row : (form : VarBinForm) (P : ℕ → Type 0) (row : ℕ) → ((k : ℕ) → k < row → IsValidRow form k → P k) → (IsValidRow form row → P row)
    → (k : ℕ) → k < row + 1 → IsValidRow form k → P k
next-row form P row old new k within = next-of (λ (j : ℕ). IsValidRow form j → P j) row k (cases_lt k row) old new within

-- row k is valid, and this is its view
pub record HasView (f : VarBinForm) (k : ℕ) (view : View) : Type 0 where
  pub are : AreVarBins f
  pub within : k < length f.views
  pub flag : flag_at f.validity k ≡ true
  pub here : slice_get f.views k ≡ Some view

-- it is where the validity says so, and the view is read there
pub has-view : (f : VarBinForm) (k : ℕ) (view : View) (valid : Bool) → AreVarBins f → k < length f.views → valid ≡ flag_at f.validity k → valid ≡ true
    → view ≡ get_or f.views k view → HasView f k view
has-view f k view valid are within told set read =
    record { are = are; within = within; flag = sym told ∙ set; here = slice_get_read f.views (length f.views) k view refl within read }

-- the view of a valid row lies within its buffer
pub valid-view : (f : VarBinForm) (k : ℕ) (view : View) → HasView f k view → IsWithinBuffer f.buffers view
valid-view f k view has =
    subst (IsWithinBuffer f.buffers) (view-of_row f.views k view has.within has.here)
    (has.are.within k has.within (flag-of_row f.validity (length f.views) k has.are.counted has.within ∙ has.flag))

-- and its bytes are a text, where texts are wanted
pub valid-text : (f : VarBinForm) (k : ℕ) (view : View) → HasView f k view → f.kind ≡ Utf8 → IsUtf8 (view_bytes f.buffers view)
valid-text f k view has kind =
    let valid = flag-of_row f.validity (length f.views) k has.are.counted has.within ∙ has.flag in
    let text = rw (kind, view-of_row f.views k view has.within has.here) at (has.are.texts k has.within valid) in
    text

-- a valid row shows the bytes of its view
pub valid-bytes : (f : VarBinForm) (k : ℕ) (view : View) (value : FlatValue) → HasView f k view → varbin_value f.kind (view_bytes f.buffers view) ≡ value
    → slice_get (map (option_map (λ (v : FlatValue). Single v)) (varbin_rows f)) k ≡ Some (Some (Single value))
valid-bytes f k view value has shown =
    let cut : slice_get (map (view_bytes f.buffers) f.views) k ≡ Some (view_bytes f.buffers view) =
    slice_get-map (view_bytes f.buffers) f.views k ∙ ap (option_map (view_bytes f.buffers)) has.here in
    valid-row_of (varbin_value f.kind) (map (view_bytes f.buffers) f.views) f.validity (length f.views) k (view_bytes f.buffers view) (Some (Single value))
    has.are.counted has.within has.flag cut (ap (λ (v : FlatValue). Some (Some (Single v))) shown)

-- a null row shows null
pub null-bytes : (f : VarBinForm) (k : ℕ) → AreVarBins f → k < length f.views → flag_at f.validity k ≡ false
    → slice_get (map (option_map (λ (v : FlatValue). Single v)) (varbin_rows f)) k ≡ Some None
null-bytes f k are within flag =
    null-row_of (varbin_value f.kind) (map (view_bytes f.buffers) f.views) f.validity (length f.views) k are.counted (length-map f.views (view_bytes f.buffers)) within flag

-- a row of a range is valid where the row that it was is
valid-in_range : (whole part : VarBinForm) (start stop k : ℕ) → k < stop - start → varbin_flags part ≡ slice_range (varbin_flags whole) start stop
    → IsValidRow part k → IsValidRow whole (start + k)
valid-in_range whole part start stop k within flagged valid =
    sym (ap (λ (bs : List Bool). get_or bs k false) flagged ∙ get_or-slice_range (varbin_flags whole) start stop k false within) ∙ valid

-- a range of the views over the same buffers is a column again
pub AreVarBins-of_range : (whole part : VarBinForm) (start stop : ℕ) → start ≤ stop → stop ≤ length whole.views → AreVarBins whole
    → part.kind ≡ whole.kind → part.buffers ≡ whole.buffers → part.views ≡ slice_range whole.views start stop
    → HasLength part.validity (stop - start) → flags part.validity (stop - start) ≡ slice_range (varbin_flags whole) start stop
    → AreVarBins part
AreVarBins-of_range whole part start stop ordered inside are kind buffers views has flagged =
    let counted : length part.views ≡ stop - start = ap length views ∙ length-slice_range whole.views start stop ordered inside in
    let marks : varbin_flags part ≡ slice_range (varbin_flags whole) start stop =
    flags-of_range whole.validity part.validity (length part.views) (length whole.views) start stop counted flagged in
    let view : (k : ℕ) → k < stop - start → get_or part.views k zero_view ≡ get_or whole.views (start + k) zero_view =
    λ k h. ap (λ (vs : List View). get_or vs k zero_view) views ∙ get_or-slice_range whole.views start stop k zero_view h in
    record {
      counted = subst (HasLength part.validity) (sym counted) has;
      within = λ k h valid.
          let here : k < stop - start = omega arith in
          let old = are.within (start + k) (omega arith) (valid-in_range whole part start stop k here marks valid) in
          rw (buffers, view k here) old;
      texts = λ k h valid.
          let here : k < stop - start = omega arith in
          let old = are.texts (start + k) (omega arith) (valid-in_range whole part start stop k here marks valid) in
          rw (kind, buffers, view k here) old;
    }

-- the rows of a range of the views over the same buffers are a range of the rows
pub varbin_rows-of_range : (whole part : VarBinForm) (start stop : ℕ) → start ≤ stop → stop ≤ length whole.views → HasLength whole.validity (length whole.views)
    → part.kind ≡ whole.kind → part.buffers ≡ whole.buffers → part.views ≡ slice_range whole.views start stop
    → flags part.validity (stop - start) ≡ slice_range (varbin_flags whole) start stop
    → varbin_rows part ≡ slice_range (varbin_rows whole) start stop
varbin_rows-of_range whole part start stop ordered inside fits kind buffers views flagged =
    let cut : map (view_bytes part.buffers) part.views ≡ slice_range (map (view_bytes whole.buffers) whole.views) start stop =
    rw (buffers, views) (sym (slice_range_of_map (view_bytes whole.buffers) whole.views start stop)) in
    rw kind
    (range-of_rows (varbin_value whole.kind) (map (view_bytes whole.buffers) whole.views) (map (view_bytes part.buffers) part.views)
    whole.validity part.validity (length whole.views) (length part.views) start stop
    (length-map whole.views (view_bytes whole.buffers)) (length-map part.views (view_bytes part.buffers)) ordered inside fits cut flagged)
