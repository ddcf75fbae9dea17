-- What formats of floats and of times make of columns.
use Rattle.std.proofs.Common.{◌≡◌, ◌∙◌, ◌++◌, ℕ, List, [], ◌∷◌, Bool, true, false, Option, Some, None, cond, find, drop, length, append_assoc, refl, ap, sym, subst}
use Rattle.std.specs.Prelude.{codes}
use Rattle.std.proofs.lemmas.Bool.{false≢true}
use Rattle.std.proofs.lemmas.Bool.Decides.{Decides-eqb}
use Rattle.std.proofs.lemmas.Slice.Eq.{bytes_eq-Decides, starts_is}
use Rattle.column_base.specs.declared.dtype.DType.{DType}
use Rattle.column_base.specs.declared.dtype.DType.TheVariants as columns
use Rattle.column_base.specs.declared.dtype.Nullability.{Nullability}
use Rattle.column_base.specs.declared.dtype.PType.{PType}
use Rattle.column_base.specs.declared.dtype.PType.TheVariants.{U8, U16, U32, U64, I8, I16, I32, I64}
use Rattle.column_base.specs.Types.{nullability_of}
use Rattle.column_floats.specs.Formats.{IsFormatOf}
use Rattle.float_bits.specs.declared.formats.FloatFormat.{FloatFormat}
use Rattle.float_bits.specs.declared.formats.FloatFormat.TheVariants.{F16, F32, F64}
use Rattle.logical_types.specs.Formats.{Names, date_format, duration_format, float_format, time_format, timestamp_format}
use Rattle.logical_types.specs.Storage.{key_type, storage_of}
use Rattle.logical_types.specs.Units.{counted_type}
use Rattle.logical_types.specs.declared.types.DateUnit.{DateUnit}
use Rattle.logical_types.specs.declared.types.DateUnit.TheVariants as dates
use Rattle.logical_types.specs.declared.types.LogicalType.{LogicalType}
use Rattle.logical_types.specs.declared.types.LogicalType.TheVariants.{Integer, Float, Date, TimeOfDay, Timestamp, Duration, Decimal}
use Rattle.logical_types.specs.declared.types.TimeUnit.{TimeUnit}
use Rattle.logical_types.specs.declared.types.TimeUnit.TheVariants.{Second, Millisecond, Microsecond, Nanosecond}
use Rattle.logical_types.proofs.Unique.{names_unique}
use Rattle.runend_array.specs.Column.{column_dtype}
use Rattle.typed_columns.specs.Typed.{TypedForm}
use Rattle.typed_kernels.specs.Served.{is_format, is_stored_in, meaning, served, served_type, served_types, IsOfType, IsServed, IsTime}
use Rattle.typed_kernels.specs.declared.meanings.Served.TheVariants.{Stored, Floats, Times}

-- the type, where it is one of floats or of times
abbrev pub only_served : LogicalType → Option LogicalType
only_served (Integer t) = None
only_served (Float f) = Some (Float f)
only_served (Date u) = Some (Date u)
only_served (TimeOfDay u) = Some (TimeOfDay u)
only_served (Timestamp u) = Some (Timestamp u)
only_served (Duration u) = Some (Duration u)
only_served (Decimal d w) = None

-- a format names the type that is found
named : (word : List ℕ) (t : LogicalType) (zone : List ℕ) → Names word t zone → served_type word ≡ only_served t
unfolding served_type
named word (Integer U8) zone n = rw n.0 refl
named word (Integer U16) zone n = rw n.0 refl
named word (Integer U32) zone n = rw n.0 refl
named word (Integer U64) zone n = rw n.0 refl
named word (Integer I8) zone n = rw n.0 refl
named word (Integer I16) zone n = rw n.0 refl
named word (Integer I32) zone n = rw n.0 refl
named word (Integer I64) zone n = rw n.0 refl
named word (Float F16) zone n = rw n.0 refl
named word (Float F32) zone n = rw n.0 refl
named word (Float F64) zone n = rw n.0 refl
named word (Date dates.Day) zone n = rw n.0 refl
named word (Date dates.Millisecond) zone n = rw n.0 refl
named word (TimeOfDay Second) zone n = rw n.0 refl
named word (TimeOfDay Millisecond) zone n = rw n.0 refl
named word (TimeOfDay Microsecond) zone n = rw n.0 refl
named word (TimeOfDay Nanosecond) zone n = rw n.0 refl
named word (Timestamp Second) zone n = rw n refl
named word (Timestamp Millisecond) zone n = rw n refl
named word (Timestamp Microsecond) zone n = rw n refl
named word (Timestamp Nanosecond) zone n = rw n refl
named word (Duration Second) zone n = rw n.0 refl
named word (Duration Millisecond) zone n = rw n.0 refl
named word (Duration Microsecond) zone n = rw n.0 refl
named word (Duration Nanosecond) zone n = rw n.0 refl
named word (Decimal d w) zone (rest, whole, spelled, none) = rw whole refl

-- and a type that is found is named
names : (word : List ℕ) (t : LogicalType) → is_format word t ≡ true → (zone : List ℕ) × Names word t zone
names word (Integer t) h = absurd (false≢true h)
names word (Float f) h = ([], ((bytes_eq-Decides word (float_format f)).0 h, refl))
names word (Date u) h = ([], ((bytes_eq-Decides word (date_format u)).0 h, refl))
names word (TimeOfDay u) h = ([], ((bytes_eq-Decides word (time_format u)).0 h, refl))
names word (Timestamp u) h = (drop (length (timestamp_format u ++ codes ":")) word, (starts_is Decides-eqb word (timestamp_format u ++ codes ":") (is_format word (Timestamp u)) refl).0 h ∙ append_assoc (timestamp_format u) (codes ":") (drop (length (timestamp_format u ++ codes ":")) word))
names word (Duration u) h = ([], ((bytes_eq-Decides word (duration_format u)).0 h, refl))
names word (Decimal d w) h = absurd (false≢true h)

first_or : {X : Type 0} (b : Bool) (x : X) (rest : Option X) → (b ≡ true → ⊥) → rest ≡ None → cond b (Some x) rest ≡ None
first_or true x rest never e = absurd (never refl)
first_or false x rest never e = e

find_none : {X : Type 0} (p : X → Bool) (xs : List X) → ((x : X) → p x ≡ true → ⊥) → find p xs ≡ None
find_none p [] none = refl
find_none p (x ∷ xs) none = first_or (p x) x (find p xs) (none x) (find_none p xs none)

none_found : (word : List ℕ) → ((t : LogicalType) (zone : List ℕ) → Names word t zone → ⊥) → served_type word ≡ None
unfolding served_type
none_found word none = find_none (is_format word) served_types (λ t h. let n = names word t h in none t n.0 n.1)

only_meaning : (t : LogicalType) (dtype : DType) → meaning (only_served t) dtype ≡ meaning (Some t) dtype
only_meaning (Integer t) dtype = refl
only_meaning (Float f) dtype = refl
only_meaning (Date u) dtype = refl
only_meaning (TimeOfDay u) dtype = refl
only_meaning (Timestamp u) dtype = refl
only_meaning (Duration u) dtype = refl
only_meaning (Decimal d w) dtype = refl

-- what a column under a format that names a type is, and one under a format that names none
pub served_as : (c : TypedForm) (t : LogicalType) (zone : List ℕ) → Names c.format t zone → served c ≡ meaning (Some t) (column_dtype c.column)
unfolding served
served_as c t zone n = ap (λ (u : Option LogicalType). meaning u (column_dtype c.column)) (named c.format t zone n) ∙ only_meaning t (column_dtype c.column)

pub served_plainly : (c : TypedForm) → ((t : LogicalType) (zone : List ℕ) → Names c.format t zone → ⊥) → served c ≡ Stored
unfolding served
served_plainly c none = ap (λ (u : Option LogicalType). meaning u (column_dtype c.column)) (none_found c.format none)

-- a type of integers in which floats or times are stored
stored_is : (p : PType) (dtype : DType) → is_stored_in p dtype ≡ true → dtype ≡ columns.Primitive p (nullability_of dtype)
stored_is I16 (columns.Primitive I16 n) h = refl
stored_is I32 (columns.Primitive I32 n) h = refl
stored_is I64 (columns.Primitive I64 n) h = refl
stored_is p dtype h = absurd (false≢true h)

float_stored : (f : FloatFormat) (n : Nullability) → is_stored_in (key_type f) (columns.Primitive (key_type f) n) ≡ true
float_stored F16 n = refl
float_stored F32 n = refl
float_stored F64 n = refl

date_stored : (u : DateUnit) (n : Nullability) → is_stored_in (counted_type (Date u)) (storage_of (Date u) n) ≡ true
date_stored dates.Day n = refl
date_stored dates.Millisecond n = refl

time_of_day_stored : (u : TimeUnit) (n : Nullability) → is_stored_in (counted_type (TimeOfDay u)) (storage_of (TimeOfDay u) n) ≡ true
time_of_day_stored Second n = refl
time_of_day_stored Millisecond n = refl
time_of_day_stored Microsecond n = refl
time_of_day_stored Nanosecond n = refl

time_stored : (t : LogicalType) (n : Nullability) → IsTime t → is_stored_in (counted_type t) (storage_of t n) ≡ true
time_stored (Integer t) n time = absurd time
time_stored (Float f) n time = absurd time
time_stored (Date u) n time = date_stored u n
time_stored (TimeOfDay u) n time = time_of_day_stored u n
time_stored (Timestamp u) n time = refl
time_stored (Duration u) n time = refl
time_stored (Decimal d w) n time = absurd time

time_storage : (t : LogicalType) (n : Nullability) → IsTime t → storage_of t n ≡ columns.Primitive (counted_type t) n
time_storage (Integer t) n time = absurd time
time_storage (Float f) n time = absurd time
time_storage (Date u) n time = refl
time_storage (TimeOfDay u) n time = refl
time_storage (Timestamp u) n time = refl
time_storage (Duration u) n time = refl
time_storage (Decimal d w) n time = absurd time

module _ (c : TypedForm) (t : LogicalType) (zone : List ℕ) (n : Names c.format t zone) where
  -- a column is of no other type
  same : (u : LogicalType) → IsOfType c u → u ≡ t
  same u o = (names_unique c.format u t o.zone zone o.names n).0

  stored_only : ((u : LogicalType) → IsOfType c u → u ≡ t → ⊥) → IsServed c Stored
  stored_only none = (λ f o. none (Float f) o (same (Float f) o), λ u time o. none u o (same u o))

float_or : (c : TypedForm) (f : FloatFormat) (zone : List ℕ) → Names c.format (Float f) zone → (b : Bool) → is_stored_in (key_type f) (column_dtype c.column) ≡ b → IsServed c (cond b (Floats f) Stored)
float_or c f zone n true e = record { zone = zone; names = n; stored = stored_is (key_type f) (column_dtype c.column) e }
float_or c f zone n false e =
    stored_only c (Float f) zone n (λ u o is.
    let stored : column_dtype c.column ≡ columns.Primitive (key_type f) (nullability_of (column_dtype c.column)) = subst (λ (v : LogicalType). column_dtype c.column ≡ storage_of v (nullability_of (column_dtype c.column))) is o.stored in
    false≢true (sym e ∙ ap (λ (d : DType). is_stored_in (key_type f) d) stored ∙ float_stored f (nullability_of (column_dtype c.column))))

time_or : (c : TypedForm) (t : LogicalType) (zone : List ℕ) → IsTime t → Names c.format t zone → (b : Bool) → is_stored_in (counted_type t) (column_dtype c.column) ≡ b → IsServed c (cond b (Times t) Stored)
time_or c t zone time n true e = (time, record { zone = zone; names = n; stored = stored_is (counted_type t) (column_dtype c.column) e ∙ sym (time_storage t (nullability_of (column_dtype c.column)) time) })
time_or c t zone time n false e =
    stored_only c t zone n (λ u o is.
    let stored : column_dtype c.column ≡ storage_of t (nullability_of (column_dtype c.column)) = subst (λ (v : LogicalType). column_dtype c.column ≡ storage_of v (nullability_of (column_dtype c.column))) is o.stored in
    false≢true (sym e ∙ ap (λ (d : DType). is_stored_in (counted_type t) d) stored ∙ time_stored t (nullability_of (column_dtype c.column)) time))

neither : (c : TypedForm) (t : LogicalType) (zone : List ℕ) → Names c.format t zone → ((f : FloatFormat) → Float f ≡ t → ⊥) → (IsTime t → ⊥) → IsServed c Stored
neither c t zone n float time = (λ f o. float f (same c t zone n (Float f) o), λ u is o. time (subst IsTime (same c t zone n u o) is))

-- exactly columns of floats and of times are worked as such
pub exactly_as : (c : TypedForm) (t : LogicalType) (zone : List ℕ) → Names c.format t zone → IsServed c (meaning (Some t) (column_dtype c.column))
exactly_as c (Integer t) zone n = neither c (Integer t) zone n (λ f e. cc) (λ time. time)
exactly_as c (Float f) zone n = float_or c f zone n (is_stored_in (key_type f) (column_dtype c.column)) refl
exactly_as c (Date u) zone n = time_or c (Date u) zone tt n (is_stored_in (counted_type (Date u)) (column_dtype c.column)) refl
exactly_as c (TimeOfDay u) zone n = time_or c (TimeOfDay u) zone tt n (is_stored_in (counted_type (TimeOfDay u)) (column_dtype c.column)) refl
exactly_as c (Timestamp u) zone n = time_or c (Timestamp u) zone tt n (is_stored_in (counted_type (Timestamp u)) (column_dtype c.column)) refl
exactly_as c (Duration u) zone n = time_or c (Duration u) zone tt n (is_stored_in (counted_type (Duration u)) (column_dtype c.column)) refl
exactly_as c (Decimal d w) zone n = neither c (Decimal d w) zone n (λ f e. cc) (λ time. time)

pub exactly_plain : (c : TypedForm) → ((t : LogicalType) (zone : List ℕ) → Names c.format t zone → ⊥) → IsServed c Stored
exactly_plain c none = (λ f o. none (Float f) o.zone o.names, λ t time o. none t o.zone o.names)

-- a column of floats holds keys of their format
pub floats_format : (c : TypedForm) (f : FloatFormat) → IsOfType c (Float f) → IsFormatOf (column_dtype c.column) f
floats_format c F16 o = subst (λ (d : DType). IsFormatOf d F16) (sym o.stored) (refl, refl)
floats_format c F32 o = subst (λ (d : DType). IsFormatOf d F32) (sym o.stored) (refl, refl)
floats_format c F64 o = subst (λ (d : DType). IsFormatOf d F64) (sym o.stored) (refl, refl)
