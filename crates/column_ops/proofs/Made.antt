-- Lemmas on columns that calls make.
use Rattle.std.proofs.Common.{◌≡◌, ◌∙◌, ℕ, ℤ, zero, suc, pos, negsuc, List, [], ◌∷◌, Bool, true, false, Option, Some, None, length, map, get_or, refl, ap}
use Rattle.std.specs.Prelude.{option_map}
use Rattle.std.proofs.lemmas.List.{length-map}
use Rattle.column_base.specs.declared.dtype.PType.{PType}
use Rattle.column_base.specs.declared.dtype.Nullability.{Nullability}
use Rattle.column_base.specs.declared.dtype.DType.TheVariants as column
use Rattle.column_base.specs.ValidityForm.{ValidityForm, flags}
use Rattle.column_core.specs.Value.{Number}
use Rattle.column_core.specs.Optionals.{optionals, AreBlankAtNulls}
use Rattle.column_core.specs.PrimitiveForm.{primitive_rows, primitive_with}
use Rattle.column_core.specs.Leaf.{OfNumbers}
use Rattle.column_ops.specs.Computed.{IsMade}
use Rattle.column_ops.specs.Fill.{fill_rows}
use Rattle.column_ops.specs.Filter.{filter_rows}
use Rattle.column_ops.specs.Take.{take_rows, taken_row}
use Rattle.column_ops.specs.Written.{AreStoredAs}
use Rattle.column_ops.proofs.IndexPositions.{optionals-map}

-- the mapped blank item is stored under null
AreBlankAtNulls-map : {B C : Type 0} (f : B → C) (blank : B) (items : List B) (bits : List Bool) → AreBlankAtNulls blank items bits → AreBlankAtNulls (f blank) (map f items) bits
AreBlankAtNulls-map f blank [] bits h = tt
AreBlankAtNulls-map f blank (x ∷ items) [] h = tt
AreBlankAtNulls-map f blank (x ∷ items) (b ∷ bits) h = ((λ null. ap f (h.0 null)), AreBlankAtNulls-map f blank items bits h.1)

-- mapped items under the same validity
pub AreStoredAs-map : {B C : Type 0} (f : B → C) (blank : B) (rows : List (Option B)) (wanted : Nullability) (items : List B) (form : ValidityForm)
    → AreStoredAs blank rows wanted items form → AreStoredAs (f blank) (map (option_map f) rows) wanted (map f items) form
AreStoredAs-map f blank rows wanted items form w =
    let long = length-map items f in
    record {
      shown = rw (long, optionals-map f items (flags form (length items))) (ap (map (option_map f)) w.shown);
      fits = rw long w.fits;
      computed = record {
        blanked = rw long (AreBlankAtNulls-map f blank items (flags form (length items)) w.computed.blanked);
        normal = w.computed.normal;
        some = rw long w.computed.some;
      };
      nullability = w.nullability;
    }

-- the row of a number, of mapped rows
row-map : {B C : Type 0} (f : B → C) (rows : List (Option B)) (k : ℕ) → get_or (map (option_map f) rows) k None ≡ option_map f (get_or rows k None)
row-map f [] k = refl
row-map f (row ∷ rows) zero = refl
row-map f (row ∷ rows) (suc k) = row-map f rows k

taken_row-map : {B C : Type 0} (f : B → C) (rows : List (Option B)) (index : Option ℤ) → taken_row (map (option_map f) rows) index ≡ option_map f (taken_row rows index)
taken_row-map f rows None = refl
taken_row-map f rows (Some (pos k)) = row-map f rows k
taken_row-map f rows (Some (negsuc k)) = refl

-- rows that are taken from mapped rows
pub take_rows-map : {B C : Type 0} (f : B → C) (rows : List (Option B)) (indices : List (Option ℤ)) → take_rows (map (option_map f) rows) indices ≡ map (option_map f) (take_rows rows indices)
take_rows-map f rows [] = refl
take_rows-map f rows (index ∷ indices) =
    ap (λ row. row ∷ take_rows (map (option_map f) rows) indices) (taken_row-map f rows index) ∙ ap (λ taken. option_map f (taken_row rows index) ∷ taken) (take_rows-map f rows indices)

-- rows that are selected of mapped rows
pub filter_rows-map : {B C : Type 0} (f : B → C) (mask : List Bool) (xs : List B) → filter_rows mask (map f xs) ≡ map f (filter_rows mask xs)
filter_rows-map f [] xs = refl
filter_rows-map f (b ∷ mask) [] = refl
filter_rows-map f (true ∷ mask) (x ∷ xs) = ap (λ ys. f x ∷ ys) (filter_rows-map f mask xs)
filter_rows-map f (false ∷ mask) (x ∷ xs) = filter_rows-map f mask xs

-- the rows of items that represent numbers
pub number_rows-stored : {S : Type 0} (ptype : PType) (number : S → ℤ) (items : List S) (form : ValidityForm)
    → primitive_rows (primitive_with ptype (map number items) form) ≡ map (option_map Number) (map (option_map number) (optionals items (flags form (length items))))
number_rows-stored ptype number items form = rw (length-map items number) (ap (map (option_map (λ (n : ℤ). Number n))) (optionals-map number items (flags form (length items))))

-- written numbers are a column of these rows
pub IsMade-numbers : {S : Type 0} (ptype : PType) (number : S → ℤ) (blank : S) (rows : List (Option S)) (wanted : Nullability) (items : List S) (form : ValidityForm)
    → number blank ≡ pos 0 → AreStoredAs blank rows wanted items form
    → IsMade (map (option_map Number) (map (option_map number) rows)) (column.Primitive ptype wanted) (OfNumbers (primitive_with ptype (map number items) form))
IsMade-numbers ptype number blank rows wanted items form zeroth written =
    let w = AreStoredAs-map number blank rows wanted items form written in
    record {
      rows = ap (map (option_map (λ (n : ℤ). Number n))) w.shown;
      dtype = ap (column.Primitive ptype) w.nullability;
      computed = rw zeroth at w.computed;
    }

pub IsMade-taken_numbers : {S : Type 0} (ptype : PType) (number : S → ℤ) (blank : S) (own : List S) (own_form : ValidityForm) (indices : List (Option ℤ)) (wanted : Nullability) (items : List S) (form : ValidityForm)
    → number blank ≡ pos 0 → AreStoredAs blank (take_rows (optionals own (flags own_form (length own))) indices) wanted items form
    → IsMade (take_rows (primitive_rows (primitive_with ptype (map number own) own_form)) indices) (column.Primitive ptype wanted) (OfNumbers (primitive_with ptype (map number items) form))
IsMade-taken_numbers ptype number blank own own_form indices wanted items form zeroth written =
    let rows = optionals own (flags own_form (length own)) in
    rw (number_rows-stored ptype number own own_form, take_rows-map (λ (n : ℤ). Number n) (map (option_map number) rows) indices, take_rows-map number rows indices)
    (IsMade-numbers ptype number blank (take_rows rows indices) wanted items form zeroth written)

pub IsMade-filtered_numbers : {S : Type 0} (ptype : PType) (number : S → ℤ) (blank : S) (own : List S) (own_form : ValidityForm) (mask : List Bool) (wanted : Nullability) (items : List S) (form : ValidityForm)
    → number blank ≡ pos 0 → AreStoredAs blank (filter_rows mask (optionals own (flags own_form (length own)))) wanted items form
    → IsMade (filter_rows mask (primitive_rows (primitive_with ptype (map number own) own_form))) (column.Primitive ptype wanted) (OfNumbers (primitive_with ptype (map number items) form))
IsMade-filtered_numbers ptype number blank own own_form mask wanted items form zeroth written =
    let rows = optionals own (flags own_form (length own)) in
    rw (number_rows-stored ptype number own own_form, filter_rows-map (option_map (λ (n : ℤ). Number n)) mask (map (option_map number) rows), filter_rows-map (option_map number) mask rows)
    (IsMade-numbers ptype number blank (filter_rows mask rows) wanted items form zeroth written)

-- rows that are filled, of mapped rows
pub fill_rows-map : {B C : Type 0} (f : B → C) (rows : List (Option B)) (value : B) → fill_rows (map (option_map f) rows) (f value) ≡ map (option_map f) (fill_rows rows value)
fill_rows-map f [] value = refl
fill_rows-map f (None ∷ rows) value = ap (λ filled. Some (f value) ∷ filled) (fill_rows-map f rows value)
fill_rows-map f (Some x ∷ rows) value = ap (λ filled. Some (f x) ∷ filled) (fill_rows-map f rows value)

pub IsMade-filled_numbers : {S : Type 0} (ptype : PType) (number : S → ℤ) (blank value : S) (n : ℤ) (own : List S) (own_form : ValidityForm) (wanted : Nullability) (items : List S) (form : ValidityForm)
    → number blank ≡ pos 0 → number value ≡ n → AreStoredAs blank (fill_rows (optionals own (flags own_form (length own))) value) wanted items form
    → IsMade (fill_rows (primitive_rows (primitive_with ptype (map number own) own_form)) (Number n)) (column.Primitive ptype wanted) (OfNumbers (primitive_with ptype (map number items) form))
IsMade-filled_numbers ptype number blank value n own own_form wanted items form zeroth same written =
    let rows = optionals own (flags own_form (length own)) in
    rw (← same, number_rows-stored ptype number own own_form, fill_rows-map (λ (m : ℤ). Number m) (map (option_map number) rows) (number value), fill_rows-map number rows value)
    (IsMade-numbers ptype number blank (fill_rows rows value) wanted items form zeroth written)
