-- Rows that a function is asked for, its answers, and the rows that these make.
use Rattle.std.proofs.Common.{◌≡◌, ℕ, ℤ, ◌+◌, ◌<◌, suc, List, [], ◌∷◌, ◌++◌, Bool, true, false, Option, Some, None, length, map, take, refl, sym, ap, subst, ◌∙◌, arith, get_or}
use Rattle.std.specs.Prelude.{Contains, is_some, option_map, slice_get, unwrap_or, if◌then◌else◌}
use Rattle.std.specs.List.{All, AllZip}
use Rattle.std.proofs.lemmas.Bool.{false≢true}
use Rattle.std.proofs.lemmas.List.{length-map, get_or-map, map_more, take_more}
use Rattle.std.proofs.lemmas.List.Elements.{AllZip-get_or}
use Rattle.std.proofs.lemmas.List.FromFn.{get_or-map-range_with_len}
use Rattle.std.proofs.lemmas.Option.{slice_get_within}
use Rattle.std.proofs.lemmas.Slice.Zip.{AllZip-long, all_zipped_more}
use Rattle.column_base.specs.ValidityForm.{AllNull, IsNormal, ValidityForm, flags}
use Rattle.column_base.specs.declared.dtype.PType.{PType}
use Rattle.column_base.specs.declared.dtype.DType.{DType}
use Rattle.column_base.specs.declared.dtype.DType.TheVariants as column
use Rattle.column_base.specs.declared.error.VortexError.TheVariants.{TypeMismatch}
use Rattle.column_core.specs.Computed.{AreComputed}
use Rattle.column_core.specs.Optionals.{AreBlankAtNulls, optionals}
use Rattle.column_core.specs.Value.{FlatValue, IsLists, Number, Single, Value}
use Rattle.column_core.specs.Leaf.{Leaf, leaf_rows, single_rows}
use Rattle.column_ops.proofs.RowRanges.{get_or-read, length-single_rows}
use Rattle.runend_windows.specs.Window.{run_at, run_rows, IsWindow}
use Rattle.runend_windows.proofs.RunAt.{run_of_row_within}
use Rattle.runend_windows.proofs.RunRows.{length-run_rows}
use Rattle.runend_windows.proofs.VisibleLaws.{same_values}
use Rattle.runend_array.specs.Column.{AreRuns, Column, OfLeaf, OfConstant, OfLists, OfRuns, Runs, column_of_runs, column_rows, runs_with}
use Rattle.runend_array.specs.SessionForm.{SessionForm, is_registered_in}
use Rattle.runend_array.specs.declared.session.Kernel.TheVariants.{ScalarFn}
use Rattle.runend_map.specs.MapInputs.{HasValidRuns, IsAsked, answered_rows, asked_rows}
use Rattle.runend_map.specs.MapResult.{IsMappedForm, IsMappedRuns, IsOwed, MayAsk, is_native, native_fault, number_row}
use Rattle.runend_column.specs.VisibleForm.{visible_ends, visible_values, window_start}
use Rattle.runend_column.proofs.VisibleWindow.{visible_paired, visible_rows, visible_window}

-- one answer more
pub zipped_next : {X Y : Type 0} (R : X → Y → Type 0) (xs : List X) (k : ℕ) (x : X) (y : Y) (ys zs : List Y) → slice_get xs k ≡ Some x → AllZip R (take k xs) ys → R x y → zs ≡ ys ++ y ∷ []
    → AllZip R (take (k + 1) xs) zs
zipped_next {X} {Y} R xs k x y ys zs here zipped owed pushed =
    let grown : take (k + 1) xs ≡ take k xs ++ x ∷ [] = take_more xs k x (slice_get_within xs k x here) ∙ ap (λ (o : X). take k xs ++ o ∷ []) (get_or-read xs k x x here) in
    subst (λ (ps : List X). AllZip R ps zs) (sym grown) (subst (λ (qs : List Y). AllZip R (take k xs ++ x ∷ []) qs) (sym pushed) (all_zipped_more R (take k xs) ys x y zipped owed))

-- what holds of all items holds of the one at a place
pub all_at : {X : Type 0} (P : X → Type 0) (xs : List X) (k : ℕ) (x : X) → slice_get xs k ≡ Some x → All P xs → P x
all_at P xs k x here all = subst P (get_or-read xs k x x here) (all k x (slice_get_within xs k x here))

-- one item more that is made of one
pub mapped_next : {X Y : Type 0} (f : X → Y) (xs : List X) (k : ℕ) (x : X) (made : Y) (ys zs : List Y) → k < length xs → x ≡ get_or xs k x → ys ≡ map f (take k xs) → made ≡ f x → zs ≡ ys ++ made ∷ []
    → zs ≡ map f (take (k + 1) xs)
mapped_next {X} {Y} f xs k x made ys zs lt here shown same pushed =
    let grown : map f (take (k + 1) xs) ≡ map f (take k xs) ++ f x ∷ [] = map_more f xs k x lt ∙ ap (λ (o : X). map f (take k xs) ++ f o ∷ []) (sym here) in
    pushed ∙ ap (λ (l : List Y). l ++ made ∷ []) shown ∙ ap (λ (y : Y). map f (take k xs) ++ y ∷ []) same ∙ sym grown

twice : {X Y Z : Type 0} (f : Y → Z) (g : X → Y) (xs : List X) → map f (map g xs) ≡ map (λ x. f (g x)) xs
twice f g [] = refl
twice {X} {Y} {Z} f g (x ∷ xs) = ap (λ (zs : List Z). f (g x) ∷ zs) (twice f g xs)

pub same_items : {X : Type 0} (xs : List X) → map (λ (x : X). x) xs ≡ xs
same_items [] = refl
same_items {X} (x ∷ xs) = ap (λ (ys : List X). x ∷ ys) (same_items xs)

-- items and flags of rows show the rows
shown_items : {T X : Type 0} (value : X → FlatValue) (number : T → X) (blank : T) (rows : List (Option T))
    → map (option_map (λ (v : FlatValue). Single v)) (map (option_map value) (optionals (map (λ (row : Option T). number (unwrap_or row blank)) rows) (map is_some rows)))
    ≡ map (option_map (λ (s : T). Single (value (number s)))) rows
shown_items value number blank [] = refl
shown_items value number blank (None ∷ rows) = ap (λ (xs : List (Option Value)). None ∷ xs) (shown_items value number blank rows)
shown_items value number blank (Some s ∷ rows) = ap (λ (xs : List (Option Value)). Some (Single (value (number s))) ∷ xs) (shown_items value number blank rows)

pub written_rows : {T X : Type 0} (value : X → FlatValue) (number : T → X) (blank : T) (rows : List (Option T)) (items : List X) (form : ValidityForm) (bits : List Bool)
    → items ≡ map number (map (λ (row : Option T). unwrap_or row blank) rows) → flags form (length bits) ≡ bits → bits ≡ map is_some rows
    → map (option_map (λ (v : FlatValue). Single v)) (map (option_map value) (optionals items (flags form (length items)))) ≡ map (option_map (λ (s : T). Single (value (number s)))) rows
written_rows {T} {X} value number blank rows items form bits items_are flagged bits_are =
    let each : items ≡ map (λ (row : Option T). number (unwrap_or row blank)) rows = items_are ∙ twice number (λ (row : Option T). unwrap_or row blank) rows in
    let long : length items ≡ length bits = ap length each ∙ length-map rows (λ (row : Option T). number (unwrap_or row blank)) ∙ sym (ap length bits_are ∙ length-map rows is_some) in
    let marks : flags form (length items) ≡ map is_some rows = ap (flags form) long ∙ flagged ∙ bits_are in
    ap (λ (bs : List Bool). map (option_map (λ (v : FlatValue). Single v)) (map (option_map value) (optionals items bs))) marks
    ∙ ap (λ (xs : List X). map (option_map (λ (v : FlatValue). Single v)) (map (option_map value) (optionals xs (map is_some rows)))) each
    ∙ shown_items value number blank rows

-- under null is the item of the blank one
blank_items : {T X : Type 0} (number : T → X) (blank : T) (rows : List (Option T)) → AreBlankAtNulls (number blank) (map (λ (row : Option T). number (unwrap_or row blank)) rows) (map is_some rows)
blank_items number blank [] = tt
blank_items number blank (None ∷ rows) = ((λ null. refl), blank_items number blank rows)
blank_items number blank (Some s ∷ rows) = ((λ null. absurd (false≢true (sym null))), blank_items number blank rows)

-- items, and flags as they come of bits, are as a call computes them
pub written_computed : {T X : Type 0} (number : T → X) (blank : T) (none : X) (rows : List (Option T)) (items : List X) (form : ValidityForm) (bits : List Bool) → number blank ≡ none
    → items ≡ map number (map (λ (row : Option T). unwrap_or row blank) rows) → flags form (length bits) ≡ bits → bits ≡ map is_some rows → IsNormal form → (form ≡ AllNull → 0 < length bits)
    → AreComputed none items form
written_computed {T} {X} number blank none rows items form bits zeroth items_are flagged bits_are normal some =
    let each : items ≡ map (λ (row : Option T). number (unwrap_or row blank)) rows = items_are ∙ twice number (λ (row : Option T). unwrap_or row blank) rows in
    let long : length items ≡ length bits = ap length each ∙ length-map rows (λ (row : Option T). number (unwrap_or row blank)) ∙ sym (ap length bits_are ∙ length-map rows is_some) in
    let marks : flags form (length items) ≡ map is_some rows = ap (flags form) long ∙ flagged ∙ bits_are in
    record {
      blanked = subst (AreBlankAtNulls none items) (sym marks) (subst (λ (xs : List X). AreBlankAtNulls none xs (map is_some rows)) (sym each)
          (subst (λ (b : X). AreBlankAtNulls b (map (λ (row : Option T). number (unwrap_or row blank)) rows) (map is_some rows)) zeroth (blank_items number blank rows)));
      normal = normal;
      some = λ null. subst (λ (n : ℕ). 0 < n) (sym long) (some null);
    }

-- the rows of integers, from their items
native_rows : {S : Type 0} (number : S → ℤ) (items : List S) (bits : List Bool)
    → map (option_map (λ (v : FlatValue). Single v)) (map (option_map (λ (n : ℤ). Number n)) (optionals (map number items) bits)) ≡ map (number_row number) (optionals items bits)
native_rows number [] bits = refl
native_rows number (s ∷ items) [] = refl
native_rows number (s ∷ items) (true ∷ bits) = ap (λ (xs : List (Option Value)). Some (Single (Number (number s))) ∷ xs) (native_rows number items bits)
native_rows number (s ∷ items) (false ∷ bits) = ap (λ (xs : List (Option Value)). None ∷ xs) (native_rows number items bits)

pub rows_of_items : {S : Type 0} (number : S → ℤ) (items : List S) (form stored : ValidityForm) (numbers : List ℤ) → map number items ≡ numbers → form ≡ stored
    → map (option_map (λ (v : FlatValue). Single v)) (map (option_map (λ (n : ℤ). Number n)) (optionals numbers (flags stored (length numbers))))
    ≡ map (number_row number) (optionals items (flags form (length items)))
rows_of_items number items form stored numbers same told =
    ap (λ (ns : List ℤ). map (option_map (λ (v : FlatValue). Single v)) (map (option_map (λ (n : ℤ). Number n)) (optionals ns (flags stored (length ns))))) (sym same)
    ∙ native_rows number items (flags stored (length (map number items)))
    ∙ ap (λ (n : ℕ). map (number_row number) (optionals items (flags stored n))) (length-map items number)
    ∙ ap (λ (f : ValidityForm). map (number_row number) (optionals items (flags f (length items)))) (sym told)

-- a function that may be called on rows may be called on their items
pub may_call : {X : Type 0} (row_of : X → Option Value) (may : X → Type 0) (xs : List X) (rows : List (Option Value)) → rows ≡ map row_of xs → MayAsk row_of may rows → All may xs
may_call row_of may xs rows same asks k d lt =
    let long = length-map xs row_of in
    asks (get_or xs k d) (subst (λ (ys : List (Option Value)). Contains ys (row_of (get_or xs k d))) (sym same) (k, omega arith, get_or-map row_of xs k d (row_of (get_or xs k d)) lt))

-- what it answers to items it answers to rows
asked_items : {X Y : Type 0} (row_of : X → Option Value) (answers : X → Y → Type 0) (xs : List X) (ys : List Y) → AllZip answers xs ys → AllZip (IsAsked row_of answers) (map row_of xs) ys
asked_items row_of answers [] [] zipped = zipped
asked_items row_of answers [] (y ∷ ys) zipped = zipped
asked_items row_of answers (x ∷ xs) [] zipped = zipped
asked_items row_of answers (x ∷ xs) (y ∷ ys) zipped = ((x, refl, zipped.0), asked_items row_of answers xs ys zipped.1)

pub asked_each : {X Y : Type 0} (row_of : X → Option Value) (answers : X → Y → Type 0) (xs : List X) (ys : List Y) (rows : List (Option Value)) → rows ≡ map row_of xs → AllZip answers xs ys
    → AllZip (IsAsked row_of answers) rows ys
asked_each {X} {Y} row_of answers xs ys rows same zipped = subst (λ (rs : List (Option Value)). AllZip (IsAsked row_of answers) rs ys) (sym same) (asked_items row_of answers xs ys zipped)

-- answers as rows are owed
owed_each : {X Y : Type 0} (row_of : X → Option Value) (answer_of : Y → Option Value) (answers : X → Y → Type 0) (rows : List (Option Value)) (ys : List Y) → AllZip (IsAsked row_of answers) rows ys
    → AllZip (IsOwed row_of answer_of answers) rows (map answer_of ys)
owed_each row_of answer_of answers [] [] zipped = zipped
owed_each row_of answer_of answers [] (y ∷ ys) zipped = zipped
owed_each row_of answer_of answers (row ∷ rows) [] zipped = zipped
owed_each row_of answer_of answers (row ∷ rows) (y ∷ ys) zipped =
    (record { asked = zipped.0.0; given = y; of_row = zipped.0.1; is_answer = refl; owed = zipped.0.2 }, owed_each row_of answer_of answers rows ys zipped.1)

zip_from_at : (R : Option Value → Option Value → Type 0) (xs ys : List (Option Value)) → length ys ≡ length xs → ((i : ℕ) → i < length xs → R (get_or xs i None) (get_or ys i None)) → AllZip R xs ys
zip_from_at R [] [] same h = tt
zip_from_at R [] (y ∷ ys) same h = cc
zip_from_at R (x ∷ xs) [] same h = cc
zip_from_at R (x ∷ xs) (y ∷ ys) same h = (h 0 (omega arith), zip_from_at R xs ys (omega arith) (λ i lt. h (suc i) (omega arith)))

-- what relates values relates the rows that show them
zipped_rows : (R : Option Value → Option Value → Type 0) (ends : List ℕ) (values answers : List (Option Value)) (offset count : ℕ) → IsWindow ends offset count → length values ≡ length ends
    → AllZip R values answers → AllZip R (run_rows ends values offset count) (run_rows ends answers offset count)
zipped_rows R ends values answers offset count window paired zipped =
    zip_from_at R (run_rows ends values offset count) (run_rows ends answers offset count) (length-run_rows ends answers offset count ∙ sym (length-run_rows ends values offset count)) (λ i h.
    let long = length-run_rows ends values offset count in
    let lt : i < count = omega arith in
    let inside = run_of_row_within ends offset count i window lt in
    let left : get_or (run_rows ends values offset count) i None ≡ get_or values (run_at ends (offset + i)) None = get_or-map-range_with_len _ offset count i (offset + i) None lt refl in
    let right : get_or (run_rows ends answers offset count) i None ≡ get_or answers (run_at ends (offset + i)) None = get_or-map-range_with_len _ offset count i (offset + i) None lt refl in
    let both : R (get_or values (run_at ends (offset + i)) None) (get_or answers (run_at ends (offset + i)) None) = AllZip-get_or R values answers (run_at ends (offset + i)) None None zipped (omega arith) in
    subst (λ (x : Option Value). R x (get_or (run_rows ends answers offset count) i None)) (sym left)
    (subst (λ (y : Option Value). R (get_or values (run_at ends (offset + i)) None) y) (sym right) both))

runs_zipped : (R : Option Value → Option Value → Type 0) (r : Runs) (answers : List (Option Value)) → AreRuns r → AllZip R (visible_values r) answers
    → AllZip R (column_rows (column_of_runs r)) (run_rows (visible_ends r) answers (window_start r.count r.offset) r.count)
runs_zipped R r answers runs zipped =
    subst (λ (xs : List (Option Value)). AllZip R xs (run_rows (visible_ends r) answers (window_start r.count r.offset) r.count)) (visible_rows r runs)
    (zipped_rows R (visible_ends r) (visible_values r) answers (window_start r.count r.offset) r.count (visible_window r runs) (visible_paired r runs) zipped)

all_zipped : (R : Option Value → Option Value → Type 0) (c : Column) (answers : List (Option Value)) → HasValidRuns c → AllZip R (asked_rows c) answers → AllZip R (column_rows c) (answered_rows c answers)
all_zipped R (OfLeaf leaf) answers valid zipped = zipped
all_zipped R (OfConstant constant) answers valid zipped = zipped
all_zipped R (OfLists lists) answers valid zipped = zipped
all_zipped R (OfRuns ends_type ends values offset count) answers valid zipped = runs_zipped R (runs_with ends_type ends values offset count) answers valid zipped

-- each row of the answer is owed for its row
pub owed_rows : {X Y : Type 0} (row_of : X → Option Value) (answer_of : Y → Option Value) (answers : X → Y → Type 0) (c : Column) (asked made rows : List (Option Value)) (ys : List Y) → HasValidRuns c
    → asked ≡ asked_rows c → AllZip (IsAsked row_of answers) asked ys → made ≡ map answer_of ys → rows ≡ answered_rows c made → AllZip (IsOwed row_of answer_of answers) (column_rows c) rows
owed_rows row_of answer_of answers c asked made rows ys valid asked_are zipped made_are rows_are =
    let R : Option Value → Option Value → Type 0 = IsOwed row_of answer_of answers in
    let each : AllZip R (asked_rows c) made =
    subst (λ (ms : List (Option Value)). AllZip R (asked_rows c) ms) (sym made_are) (subst (λ (rs : List (Option Value)). AllZip R rs (map answer_of ys)) asked_are (owed_each row_of answer_of answers asked ys zipped)) in
    subst (λ (rs : List (Option Value)). AllZip R (column_rows c) rs) (sym rows_are) (all_zipped R c made valid each)

-- there is an answer for each row asked
pub answers_count : {X Y : Type 0} (row_of : X → Option Value) (answer_of : Y → Option Value) (answers : X → Y → Type 0) (asked shown : List (Option Value)) (ys : List Y) (made : Leaf)
    → asked ≡ shown → AllZip (IsAsked row_of answers) asked ys → single_rows made ≡ map answer_of ys → length (leaf_rows made) ≡ length shown
answers_count row_of answer_of answers asked shown ys made same zipped made_are =
    sym (length-single_rows made) ∙ ap length made_are ∙ length-map ys answer_of ∙ AllZip-long (IsAsked row_of answers) asked ys zipped ∙ ap length same

may_ask_runs : {X : Type 0} (row_of : X → Option Value) (may : X → Type 0) (r : Runs) → AreRuns r → MayAsk row_of may (column_rows (column_of_runs r)) → MayAsk row_of may (visible_values r)
may_ask_runs row_of may r runs asks x among = asks x ((same_values r.ends (column_rows r.values) r.offset r.count runs.window runs.paired (row_of x)).1 among)

may_ask_rows : {X : Type 0} (row_of : X → Option Value) (may : X → Type 0) (c : Column) → HasValidRuns c → MayAsk row_of may (column_rows c) → MayAsk row_of may (asked_rows c)
may_ask_rows row_of may (OfLeaf leaf) valid asks = asks
may_ask_rows row_of may (OfConstant constant) valid asks = asks
may_ask_rows row_of may (OfLists lists) valid asks = asks
may_ask_rows row_of may (OfRuns ends_type ends values offset count) valid asks = may_ask_runs row_of may (runs_with ends_type ends values offset count) valid asks

-- a function that may be called on each row may be called on those asked
pub may_ask : {X : Type 0} (row_of : X → Option Value) (may : X → Type 0) (c : Column) (asked : List (Option Value)) → HasValidRuns c → asked ≡ asked_rows c → MayAsk row_of may (column_rows c) → MayAsk row_of may asked
may_ask row_of may c asked valid same asks = subst (MayAsk row_of may) (sym same) (may_ask_rows row_of may c valid asks)

-- native numbers are not lists
pub native_single : (ptype : PType) (dtype : DType) → is_native ptype dtype ≡ true → ¬ IsLists dtype
native_single ptype (column.Bool n) native = λ h. h
native_single ptype (column.Primitive t n) native = λ h. h
native_single ptype (column.Decimal d n) native = λ h. h
native_single ptype (column.Utf8 n) native = λ h. h
native_single ptype (column.Binary n) native = λ h. h
native_single ptype (column.List e n) native = cc

-- which have no fault
pub no_native_fault : (ptype : PType) (dtype : DType) → is_native ptype dtype ≡ true → native_fault ptype dtype ≡ None
no_native_fault ptype dtype native = ap (λ (b : Bool). if b then None else Some TypeMismatch) native

-- the form that a session gives
pub mapped_form : (session : SessionForm) (r : Runs) (c mapped : Column) (flag : Bool) → c ≡ column_of_runs r → flag ≡ is_registered_in session ScalarFn → IsMappedRuns flag r mapped
    → IsMappedForm session c mapped
mapped_form session r c mapped flag is told form =
    subst (λ (x : Column). IsMappedForm session x mapped) (sym is) (subst (λ (b : Bool). IsMappedRuns b r mapped) told form)
