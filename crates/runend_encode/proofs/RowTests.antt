-- Rows of flat columns that are compared.
use Rattle.std.proofs.Common.{◌≡◌, ◌≢◌, ◌∙◌, ◌+◌, ◌-◌, ◌*◌, ◌<◌, ℕ, ℤ, zero, suc, List, [], ◌∷◌, Bool, true, false, Option, Some, None, get_or, length, map, refl, sym, ap, subst, arith}
use Rattle.std.specs.Prelude.{◌↔◌, IsTrue, nat_eq, option_map, slice_get, slice_index_or}
use Rattle.std.specs.Int.{bit_at}
use Rattle.std.specs.declared.cmp.Ordering.{Ordering}
use Rattle.std.specs.declared.cmp.Ordering.TheVariants.{Less, Equal, Greater}
use Rattle.std.specs.Ordering.{is_eq, ordering_reverse}
use Rattle.column_base.specs.ValidityForm.{ValidityForm, HasLength, flag_at, flags}
use Rattle.std.proofs.lemmas.Bool.{eqb-true}
use Rattle.std.proofs.lemmas.List.{length-map}
use Rattle.std.proofs.lemmas.Option.{slice_get-get_or, slice_get-map}
use Rattle.column_core.specs.Optionals.{optionals}
use Rattle.column_core.specs.VarBinForm.{VarBinForm, varbin_rows, varbin_value, view_bytes, zero_view}
use Rattle.column_core.specs.Value.{FlatValue, Single, Value}
use Rattle.column_core.proofs.OptionalRows.{null-row_of, valid-row_of}
use Rattle.column_ops.specs.Order.{row_cmp}
use Rattle.column_ops.proofs.OrderLaws.{row_equal, row_total}
use Rattle.runend_windows.specs.Starts.{GoesOn}

-- what compares as it compares in reverse is level
level_reversed : (order : Ordering) → order ≡ ordering_reverse order → order ≡ Equal
level_reversed Less h = cc
level_reversed Equal h = refl
level_reversed Greater h = cc

level_by_test : (order : Ordering) → is_eq order ≡ true → order ≡ Equal
level_by_test Less h = cc
level_by_test Equal h = refl
level_by_test Greater h = cc

-- the order distinguishes two rows of flat columns exactly where they differ
pub is_same-decides : (order : Ordering) (result : Bool) (s t : Option Value) → order ≡ row_cmp s t → result ≡ is_eq order
    → (a b : Option FlatValue) → option_map Single a ≡ s → option_map Single b ≡ t → (IsTrue result ↔ (a ≡ b))
is_same-decides order result s t compared told a b left right = (
  (λ holds.
      let level = level_by_test order (sym told ∙ holds) in
      row_equal a b (ap (λ x. row_cmp x (option_map Single b)) left ∙ ap (row_cmp s) right ∙ sym compared ∙ level)),
  (λ same.
      let one : s ≡ t = sym left ∙ ap (option_map Single) same ∙ right in
      let level : row_cmp s t ≡ Equal = ap (row_cmp s) (sym one) ∙ level_reversed (row_cmp s s) (row_total.antisymm s s) in
      told ∙ ap is_eq (compared ∙ level)),
)

-- a row of a flat column holds one flat value or null
pub row-single : (rows : List (Option FlatValue)) (k : ℕ) → option_map (λ (v : FlatValue). Single v) (slice_index_or rows k None) ≡ slice_index_or (map (option_map (λ (v : FlatValue). Single v)) rows) k None
row-single [] k = refl
row-single (row ∷ rows) zero = refl
row-single (row ∷ rows) (suc k) = row-single rows k

pub row-of_flat : (rows : List (Option FlatValue)) (k : ℕ) (row : Option Value) → slice_get (map (option_map (λ (v : FlatValue). Single v)) rows) k ≡ Some row
    → (flat : Option FlatValue) × (option_map (λ (v : FlatValue). Single v) flat ≡ row)
row-of_flat [] k row h = cc
row-of_flat (flat ∷ rows) zero row h = (flat, cc)
row-of_flat (flat ∷ rows) (suc k) row h = row-of_flat rows k row h

-- what the test of two rows says of them
abbrev pub TellsSame : Bool → Option Value → Option Value → Type 0
TellsSame result s t = (a b : Option FlatValue) → option_map Single a ≡ s → option_map Single b ≡ t → (IsTrue result ↔ (a ≡ b))

single-one : (a b : Option FlatValue) → ◌≡◌ {A = Option Value} (option_map Single a) (option_map Single b) → a ≡ b
single-one None None e = refl
single-one None (Some b) e = cc
single-one (Some a) None e = cc
single-one (Some a) (Some b) e = cc

pub same-from_test : (result : Bool) (s t : Option Value) (a b : Option FlatValue) → option_map Single a ≡ s → option_map Single b ≡ t → TellsSame result s t → result ≡ true → t ≡ s
same-from_test result s t a b left right tells told = sym right ∙ ap (option_map Single) (sym ((tells a b left right).0 told)) ∙ left

pub differ-from_test : (result : Bool) (s t : Option Value) (a b : Option FlatValue) → option_map Single a ≡ s → option_map Single b ≡ t → TellsSame result s t → result ≡ false → s ≢ t
differ-from_test result s t a b left right tells told = λ same.
    let one : a ≡ b = single-one a b (left ∙ same ∙ sym right) in
    let wrong = (tells a b left right).1 one in
    cc

-- rows that are distinguished by what they are seen as
pub same-by_views : (rows : List (Option FlatValue)) (left right : ℕ) (s t : Option Value) (result : Bool)
    → slice_get (map (option_map (λ (v : FlatValue). Single v)) rows) left ≡ Some s → slice_get (map (option_map (λ (v : FlatValue). Single v)) rows) right ≡ Some t → TellsSame result s t
    → (IsTrue result ↔ (slice_get (map (option_map (λ (v : FlatValue). Single v)) rows) left ≡ slice_get (map (option_map (λ (v : FlatValue). Single v)) rows) right))
same-by_views rows left right s t result here there tells =
    let a = row-of_flat rows left s here in
    let b = row-of_flat rows right t there in
    let tell = tells a.0 b.0 a.1 b.1 in (
      (λ told. here ∙ ap (λ (v : Option Value). Some v) (sym a.1 ∙ ap (option_map Single) (tell.0 told) ∙ b.1) ∙ sym there),
      (λ same.
          let both : Some s ≡ Some t = sym here ∙ same ∙ there in
          let one : s ≡ t = cc in
          tell.1 (single-one a.0 b.0 (a.1 ∙ one ∙ sym b.1))),
    )

-- rows of items that are distinguished by their flags and their items
pub same-by_items : {B : Type 0} (value : B → FlatValue) (xs : List B) (form : ValidityForm) (n left right : ℕ) (x y : B) (v w equal result : Bool)
    → ((a b : B) → value a ≡ value b → a ≡ b) → HasLength form n → length xs ≡ n → left < n → right < n → slice_get xs left ≡ Some x → slice_get xs right ≡ Some y
    → v ≡ flag_at form left → w ≡ flag_at form right → (IsTrue equal ↔ (slice_get xs left ≡ slice_get xs right))
    → (v ≡ true → w ≡ true → result ≡ equal) → (v ≡ false → w ≡ false → result ≡ true) → (v ≢ w → result ≡ false)
    → (IsTrue result ↔ (slice_get (map (option_map (λ (v : FlatValue). Single v)) (map (option_map value) (optionals xs (flags form n)))) left
    ≡ slice_get (map (option_map (λ (v : FlatValue). Single v)) (map (option_map value) (optionals xs (flags form n)))) right))
same-by_items value xs form n left right x y true true equal result injective fits counted l r here there lv rv equals both null differ =
    let shown_left = valid-row_of value xs form n left x (Some (Single (value x))) fits l (sym lv) here refl in
    let shown_right = valid-row_of value xs form n right y (Some (Single (value y))) fits r (sym rv) there refl in
    let is : result ≡ equal = both refl refl in (
      (λ told.
          let items : Some x ≡ Some y = sym here ∙ equals.0 (sym is ∙ told) ∙ there in
          let same : x ≡ y = cc in
          shown_left ∙ ap (λ z. Some (Some (Single (value z)))) same ∙ sym shown_right),
      (λ same.
          let seen : Some (Some (Single (value x))) ≡ Some (Some (Single (value y))) = sym shown_left ∙ same ∙ shown_right in
          let values : value x ≡ value y = cc in
          is ∙ equals.1 (here ∙ ap (λ z. Some z) (injective x y values) ∙ sym there)),
    )
same-by_items value xs form n left right x y true false equal result injective fits counted l r here there lv rv equals both null differ =
    let shown_left = valid-row_of value xs form n left x (Some (Single (value x))) fits l (sym lv) here refl in
    let shown_right = null-row_of value xs form n right fits counted r (sym rv) in
    let is : result ≡ false = differ (λ e. cc) in (
      (λ told. let wrong : true ≡ false = sym told ∙ is in cc),
      (λ same. let seen : Some (Some (Single (value x))) ≡ Some None = sym shown_left ∙ same ∙ shown_right in cc),
    )
same-by_items value xs form n left right x y false true equal result injective fits counted l r here there lv rv equals both null differ =
    let shown_left = null-row_of value xs form n left fits counted l (sym lv) in
    let shown_right = valid-row_of value xs form n right y (Some (Single (value y))) fits r (sym rv) there refl in
    let is : result ≡ false = differ (λ e. cc) in (
      (λ told. let wrong : true ≡ false = sym told ∙ is in cc),
      (λ same. let seen : Some None ≡ Some (Some (Single (value y))) = sym shown_left ∙ same ∙ shown_right in cc),
    )
same-by_items value xs form n left right x y false false equal result injective fits counted l r here there lv rv equals both null differ =
    let shown_left = null-row_of value xs form n left fits counted l (sym lv) in
    let shown_right = null-row_of value xs form n right fits counted r (sym rv) in (
      (λ told. shown_left ∙ sym shown_right),
      (λ same. null refl refl),
    )

-- rows of items go on where a bit is 0 that is made of their flags and of whether their items go on
pub go_on-by_items : {B : Type 0} (value : B → FlatValue) (xs : List B) (form : ValidityForm) (n row bit item : ℕ) (x y : B)
    → ((a b : B) → value a ≡ value b → a ≡ b) → HasLength form n → length xs ≡ n → row < n → slice_get xs (row - 1) ≡ Some x → slice_get xs row ≡ Some y
    → ((item ≡ 0) ↔ GoesOn xs row) → (flag_at form (row - 1) ≡ true → flag_at form row ≡ true → bit ≡ item)
    → (flag_at form (row - 1) ≡ false → flag_at form row ≡ false → bit ≡ 0) → (flag_at form (row - 1) ≢ flag_at form row → bit ≡ 1)
    → ((bit ≡ 0) ↔ GoesOn (map (option_map (λ (v : FlatValue). Single v)) (map (option_map value) (optionals xs (flags form n)))) row)
go_on-by_items value xs form n row bit item x y injective fits counted within here there items both null differ =
    let tells = same-by_items value xs form n (row - 1) row x y (flag_at form (row - 1)) (flag_at form row) (nat_eq item 0) (nat_eq bit 0)
    injective fits counted (omega arith) within here there refl refl
    ((λ told. items.0 (eqb-true item 0 told)), (λ same. ap (λ (d : ℕ). nat_eq d 0) (items.1 same)))
    (λ v w. ap (λ (d : ℕ). nat_eq d 0) (both v w)) (λ v w. ap (λ (d : ℕ). nat_eq d 0) (null v w)) (λ other. ap (λ (d : ℕ). nat_eq d 0) (differ other)) in (
      (λ none. tells.0 (ap (λ (d : ℕ). nat_eq d 0) none)),
      (λ goes. eqb-true bit 0 (tells.1 goes)),
    )

-- valid rows of the same view show the same bytes
pub same-by_view : (f : VarBinForm) (left right : ℕ) (v w : Bool) → HasLength f.validity (length f.views) → left < length f.views → right < length f.views
    → v ≡ flag_at f.validity left → w ≡ flag_at f.validity right → v ≡ true → w ≡ true → slice_get f.views left ≡ slice_get f.views right
    → slice_get (map (option_map (λ (v : FlatValue). Single v)) (varbin_rows f)) left ≡ slice_get (map (option_map (λ (v : FlatValue). Single v)) (varbin_rows f)) right
same-by_view f left right v w fits l r lv rv left_valid right_valid same =
    let value = varbin_value f.kind in
    let xs = map (view_bytes f.buffers) f.views in
    let n = length f.views in
    let view = get_or f.views left zero_view in
    let here : slice_get f.views left ≡ Some view = slice_get-get_or f.views left zero_view l in
    let there : slice_get f.views right ≡ Some view = sym same ∙ here in
    let bytes_here : slice_get xs left ≡ Some (view_bytes f.buffers view) = slice_get-map (view_bytes f.buffers) f.views left ∙ ap (option_map (view_bytes f.buffers)) here in
    let bytes_there : slice_get xs right ≡ Some (view_bytes f.buffers view) = slice_get-map (view_bytes f.buffers) f.views right ∙ ap (option_map (view_bytes f.buffers)) there in
    valid-row_of value xs f.validity n left (view_bytes f.buffers view) (Some (Single (value (view_bytes f.buffers view)))) fits l (sym lv ∙ left_valid) bytes_here refl
    ∙ sym (valid-row_of value xs f.validity n right (view_bytes f.buffers view) (Some (Single (value (view_bytes f.buffers view)))) fits r (sym rv ∙ right_valid) bytes_there refl)

-- rows of views go on where a bit is 0 that is made of their flags and of whether their views go on
by_views : (f : VarBinForm) (row bit item : ℕ) (v w : Bool) → HasLength f.validity (length f.views) → row < length f.views → v ≡ flag_at f.validity (row - 1) → w ≡ flag_at f.validity row
    → ((item ≡ 0) ↔ GoesOn f.views row) → (v ≡ true → w ≡ true → bit ≡ item) → (v ≢ w → bit ≡ 1) → bit ≡ 0
    → GoesOn (map (option_map (λ (v : FlatValue). Single v)) (varbin_rows f)) row
by_views f row bit item true true fits within lv rv items both differ none =
    same-by_view f (row - 1) row true true fits (omega arith) within lv rv refl refl (items.0 (sym (both refl refl) ∙ none))
by_views f row bit item true false fits within lv rv items both differ none = let one = differ (λ e. cc) in absurd (omega arith)
by_views f row bit item false true fits within lv rv items both differ none = let one = differ (λ e. cc) in absurd (omega arith)
by_views f row bit item false false fits within lv rv items both differ none =
    let xs = map (view_bytes f.buffers) f.views in
    let counted = length-map f.views (view_bytes f.buffers) in
    null-row_of (varbin_value f.kind) xs f.validity (length f.views) (row - 1) fits counted (omega arith) (sym lv)
    ∙ sym (null-row_of (varbin_value f.kind) xs f.validity (length f.views) row fits counted within (sym rv))

pub go_on-by_views : (f : VarBinForm) (row bit item : ℕ) → HasLength f.validity (length f.views) → row < length f.views → ((item ≡ 0) ↔ GoesOn f.views row)
    → (flag_at f.validity (row - 1) ≡ true → flag_at f.validity row ≡ true → bit ≡ item) → (flag_at f.validity (row - 1) ≢ flag_at f.validity row → bit ≡ 1) → bit ≡ 0
    → GoesOn (map (option_map (λ (v : FlatValue). Single v)) (varbin_rows f)) row
go_on-by_views f row bit item fits within items both differ none = by_views f row bit item (flag_at f.validity (row - 1)) (flag_at f.validity row) fits within refl refl items both differ none

-- what an arm of a match over the types of integers knows of 64 of them
pub go_on-arm : {X : Type 0} (number : X → ℤ) (items : List X) (ns : List ℤ) (index word : ℕ) → map number items ≡ ns
    → ((lane : ℕ) → lane < 64 → index * 64 + lane < length items → ((bit_at word lane ≡ 0) ↔ GoesOn (map number items) (index * 64 + lane)))
    → ((lane : ℕ) → lane < 64 → index * 64 + lane < length ns → ((bit_at word lane ≡ 0) ↔ GoesOn ns (index * 64 + lane)))
go_on-arm number items ns index word shown told = λ lane few within.
    subst (λ (all : List ℤ). (bit_at word lane ≡ 0) ↔ GoesOn all (index * 64 + lane)) shown (told lane few (omega (arith, within, ap length shown, length-map items number)))
