-- Flat columns of the same rows and type, as calls compute them, have the same message.
use Rattle.std.proofs.Common.{◌≡◌, ◌∙◌, ℕ, ℤ, ◌<◌, pos, Bool, true, false, Option, Some, None, List, [], ◌∷◌, ◌++◌, length, map, get_or, refl, sym, ap, subst, arith}
use Rattle.std.specs.Prelude.{option_map, replicate}
use Rattle.std.specs.List.{concat}
use Rattle.std.proofs.lemmas.List.{get_or-replicate, length-map, length-replicate}
use Rattle.column_base.specs.declared.dtype.DType.{DType}
use Rattle.column_base.specs.declared.dtype.DType.TheVariants as dtype
use Rattle.column_base.specs.declared.dtype.Nullability.{Nullability}
use Rattle.column_base.specs.declared.dtype.PType.{PType}
use Rattle.column_base.specs.ValidityForm.{ValidityForm, NeverNull, NoneNull, AllNull, ByBits, HasLength, IsNormal, flags, nullability_in}
use Rattle.column_base.proofs.ValidityRows.{length-flags}
use Rattle.column_core.specs.Computed.{AreComputed, HasRowIfAllNull, IsComputedLeaf}
use Rattle.column_core.specs.BoolForm.{BoolForm}
use Rattle.column_core.specs.DecimalForm.{DecimalForm}
use Rattle.column_core.specs.Leaf.{Leaf, OfNumbers, OfTruths, OfDecimals, OfVarBins, leaf_dtype, leaf_rows, single_rows}
use Rattle.column_core.specs.Optionals.{optionals, AreBlankAtNulls}
use Rattle.column_core.specs.PrimitiveForm.{PrimitiveForm}
use Rattle.column_core.specs.Value.{FlatValue, Truth, Number, DecimalNumber, Value, Single}
use Rattle.column_core.specs.VarBinForm.{VarBinForm, kind_dtype, optional_bytes, varbin_flags, varbin_value, view_bytes}
use Rattle.column_core.specs.declared.varbinview.VarBinKind.{VarBinKind}
use Rattle.column_core.specs.declared.varbinview.VarBinKind.TheVariants.{Utf8, Binary}
use Rattle.column_fields.specs.Header.{header_bytes}
use Rattle.column_bytes.specs.Texts.{shown_row, text_fields}
use Rattle.column_bytes.specs.Bytes.{kind_number, leaf_message}
use Rattle.column_bytes.specs.Laws.{EqualRowsEqualBytes}
use Rattle.column_bytes.specs.Stored.{IsStored, IsStoredLeaf}
use Rattle.column_bytes.proofs.Messages.{runs_bytes}
use Rattle.column_base.specs.Types.{IsLeastFor}
use Rattle.column_base.specs.declared.dtype.PType.TheVariants.{U8, U16, U32, U64, I8, I16, I32, I64}
use Rattle.column_core.specs.Value.{IsLists}
use Rattle.runend_array.specs.Column.{Column, OfLeaf, OfConstant, OfLists, OfRuns, Runs, column_dtype, column_of_runs, column_rows}
use Rattle.runend_array.specs.Encoding.{IsComputedFlat}
use Rattle.runend_windows.specs.Cover.{IsTightCover}
use Rattle.runend_windows.specs.Window.{last_end}
use Rattle.runend_windows.proofs.Tiles.{unique_tight_cover}
use Rattle.column_bytes.specs.Bytes.{column_bytes, leaf_runs_message}
use Rattle.column_fields.specs.Lengths.{lengths_bytes}
use Rattle.column_fields.specs.RunFields.{run_fields}

-- ---- optional items determine the items and the flags

map_one : {X Y : Type 0} (f : X → Y) → ((x y : X) → f x ≡ f y → x ≡ y) → (xs ys : List X) → map f xs ≡ map f ys → xs ≡ ys
map_one f one [] [] e = refl
map_one f one [] (y ∷ ys) e = absurd cc
map_one f one (x ∷ xs) [] e = absurd cc
map_one f one (x ∷ xs) (y ∷ ys) e =
    let head : f x ≡ f y = cc in
    let tail : map f xs ≡ map f ys = cc in
    ap (λ z. z ∷ xs) (one x y head) ∙ ap (λ zs. y ∷ zs) (map_one f one xs ys tail)

option_one : {X Y : Type 0} (f : X → Y) → ((x y : X) → f x ≡ f y → x ≡ y) → (x y : Option X) → option_map f x ≡ option_map f y → x ≡ y
option_one f one None None e = refl
option_one f one None (Some y) e = absurd cc
option_one f one (Some x) None e = absurd cc
option_one f one (Some x) (Some y) e = let same : f x ≡ f y = cc in ap Some (one x y same)

flags_one : {B : Type 0} (xs ys : List B) (bs cs : List Bool) → length bs ≡ length xs → length cs ≡ length ys → optionals xs bs ≡ optionals ys cs → bs ≡ cs
flags_one [] [] [] [] p q e = refl
flags_one [] [] (b ∷ bs) cs p q e = absurd (omega arith)
flags_one [] [] [] (c ∷ cs) p q e = absurd (omega arith)
flags_one [] (y ∷ ys) bs [] p q e = absurd (omega arith)
flags_one [] (y ∷ ys) bs (c ∷ cs) p q e = absurd cc
flags_one (x ∷ xs) [] [] cs p q e = absurd (omega arith)
flags_one (x ∷ xs) [] (b ∷ bs) cs p q e = absurd cc
flags_one (x ∷ xs) (y ∷ ys) [] cs p q e = absurd (omega arith)
flags_one (x ∷ xs) (y ∷ ys) (b ∷ bs) [] p q e = absurd (omega arith)
flags_one (x ∷ xs) (y ∷ ys) (true ∷ bs) (true ∷ cs) p q e =
    let tail : optionals xs bs ≡ optionals ys cs = cc in ap (λ zs. true ∷ zs) (flags_one xs ys bs cs (omega arith) (omega arith) tail)
flags_one (x ∷ xs) (y ∷ ys) (false ∷ bs) (false ∷ cs) p q e =
    let tail : optionals xs bs ≡ optionals ys cs = cc in ap (λ zs. false ∷ zs) (flags_one xs ys bs cs (omega arith) (omega arith) tail)
flags_one (x ∷ xs) (y ∷ ys) (true ∷ bs) (false ∷ cs) p q e = absurd cc
flags_one (x ∷ xs) (y ∷ ys) (false ∷ bs) (true ∷ cs) p q e = absurd cc

items_one : {B : Type 0} (blank : B) (xs ys : List B) (bs cs : List Bool) → length bs ≡ length xs → length cs ≡ length ys → AreBlankAtNulls blank xs bs → AreBlankAtNulls blank ys cs → optionals xs bs ≡ optionals ys cs → xs ≡ ys
items_one blank [] [] bs cs p q a b e = refl
items_one blank [] (y ∷ ys) bs [] p q a b e = absurd (omega arith)
items_one blank [] (y ∷ ys) bs (c ∷ cs) p q a b e = absurd cc
items_one blank (x ∷ xs) [] [] cs p q a b e = absurd (omega arith)
items_one blank (x ∷ xs) [] (c ∷ bs) cs p q a b e = absurd cc
items_one blank (x ∷ xs) (y ∷ ys) [] cs p q a b e = absurd (omega arith)
items_one blank (x ∷ xs) (y ∷ ys) (c ∷ bs) [] p q a b e = absurd (omega arith)
items_one blank (x ∷ xs) (y ∷ ys) (true ∷ bs) (true ∷ cs) p q a b e =
    let tail : optionals xs bs ≡ optionals ys cs = cc in
    let head : x ≡ y = cc in
    ap (λ z. z ∷ xs) head ∙ ap (λ zs. y ∷ zs) (items_one blank xs ys bs cs (omega arith) (omega arith) a.1 b.1 tail)
items_one blank (x ∷ xs) (y ∷ ys) (false ∷ bs) (false ∷ cs) p q a b e =
    let tail : optionals xs bs ≡ optionals ys cs = cc in
    ap (λ z. z ∷ xs) (a.0 refl ∙ sym (b.0 refl)) ∙ ap (λ zs. y ∷ zs) (items_one blank xs ys bs cs (omega arith) (omega arith) a.1 b.1 tail)
items_one blank (x ∷ xs) (y ∷ ys) (true ∷ bs) (false ∷ cs) p q a b e = absurd cc
items_one blank (x ∷ xs) (y ∷ ys) (false ∷ bs) (true ∷ cs) p q a b e = absurd cc

-- ---- flags and the type determine the form of a validity

flag_is : (n k : ℕ) (b c : Bool) → k < length (replicate n b) → get_or (replicate n b) k c ≡ b
flag_is n k b c lt = get_or-replicate n k b c (omega (arith, length-replicate n b))

no_other : (n : ℕ) (b c : Bool) (bits : List Bool) → replicate n b ≡ bits → (k : ℕ) → k < length bits → get_or bits k c ≡ c → b ≡ c
no_other n b c bits e k lt is = sym (flag_is n k b c (omega (arith, ap length e))) ∙ ap (λ (bs : List Bool). get_or bs k c) e ∙ is

true_not_false : true ≡ false → ⊥
true_not_false e = cc

false_not_true : false ≡ true → ⊥
false_not_true e = cc

validity_one : (v w : ValidityForm) (m n : ℕ) → m ≡ n → nullability_in v ≡ nullability_in w → IsNormal v → IsNormal w → HasRowIfAllNull v m → HasRowIfAllNull w n → flags v m ≡ flags w n → v ≡ w
validity_one NeverNull NeverNull m n c t p q a b e = refl
validity_one NeverNull NoneNull m n c t p q a b e = absurd cc
validity_one NeverNull AllNull m n c t p q a b e = absurd cc
validity_one NeverNull (ByBits bits) m n c t p q a b e = absurd cc
validity_one NoneNull NeverNull m n c t p q a b e = absurd cc
validity_one AllNull NeverNull m n c t p q a b e = absurd cc
validity_one (ByBits bits) NeverNull m n c t p q a b e = absurd cc
validity_one NoneNull NoneNull m n c t p q a b e = refl
validity_one AllNull AllNull m n c t p q a b e = refl
validity_one NoneNull AllNull m n c t p q a b e =
    absurd (true_not_false (no_other m true false (replicate n false) e 0 (omega (arith, length-replicate n false, b refl)) (flag_is n 0 false false (omega (arith, length-replicate n false, b refl)))))
validity_one AllNull NoneNull m n c t p q a b e =
    absurd (true_not_false (no_other n true false (replicate m false) (sym e) 0 (omega (arith, length-replicate m false, a refl)) (flag_is m 0 false false (omega (arith, length-replicate m false, a refl)))))
validity_one NoneNull (ByBits bits) m n c t p q a b e = absurd (true_not_false (no_other m true false bits e q.1.0 q.1.1 q.1.2))
validity_one (ByBits bits) NoneNull m n c t p q a b e = absurd (true_not_false (no_other n true false bits (sym e) p.1.0 p.1.1 p.1.2))
validity_one AllNull (ByBits bits) m n c t p q a b e = absurd (false_not_true (no_other m false true bits e q.0.0 q.0.1 q.0.2))
validity_one (ByBits bits) AllNull m n c t p q a b e = absurd (false_not_true (no_other n false true bits (sym e) p.0.0 p.0.1 p.0.2))
validity_one (ByBits bits) (ByBits others) m n c t p q a b e = ap ByBits e

record Same {B : Type 0} (xs ys : List B) (v w : ValidityForm) : Type 0 where
  pub items : xs ≡ ys
  pub validity : v ≡ w

same_parts : {B : Type 0} (blank : B) (xs ys : List B) (v w : ValidityForm) → HasLength v (length xs) → HasLength w (length ys) → nullability_in v ≡ nullability_in w → AreComputed blank xs v → AreComputed blank ys w → optionals xs (flags v (length xs)) ≡ optionals ys (flags w (length ys)) → Same xs ys v w
same_parts blank xs ys v w p q t a b e =
    let bs : length (flags v (length xs)) ≡ length xs = length-flags v (length xs) p in
    let cs : length (flags w (length ys)) ≡ length ys = length-flags w (length ys) q in
    let items : xs ≡ ys = items_one blank xs ys (flags v (length xs)) (flags w (length ys)) bs cs a.blanked b.blanked e in
    record {
      items = items;
      validity = validity_one v w (length xs) (length ys) (ap length items) t a.normal b.normal a.some b.some (flags_one xs ys (flags v (length xs)) (flags w (length ys)) bs cs e);
    }

-- ---- flat columns

number_one : (x y : ℤ) → Number x ≡ Number y → x ≡ y
number_one x y e = cc

truth_one : (x y : Bool) → Truth x ≡ Truth y → x ≡ y
truth_one x y e = cc

decimal_one : (x y : ℤ) → DecimalNumber x ≡ DecimalNumber y → x ≡ y
decimal_one x y e = cc

varbin_one : (kind : VarBinKind) (x y : List ℕ) → varbin_value kind x ≡ varbin_value kind y → x ≡ y
varbin_one Utf8 x y e = cc
varbin_one Binary x y e = cc

single_one : (x y : FlatValue) → Single x ≡ Single y → x ≡ y
single_one x y e = cc

-- the rows as values determine the flat rows
flat_one : (xs ys : List (Option FlatValue)) → map (option_map Single) xs ≡ map (option_map Single) ys → xs ≡ ys
flat_one xs ys e = map_one (option_map Single) (option_one Single single_one) xs ys e

numbers_message : (f g : PrimitiveForm) → IsStoredLeaf (OfNumbers f) → IsStoredLeaf (OfNumbers g) → IsComputedLeaf (OfNumbers f) → IsComputedLeaf (OfNumbers g) → leaf_dtype (OfNumbers f) ≡ leaf_dtype (OfNumbers g) → leaf_rows (OfNumbers f) ≡ leaf_rows (OfNumbers g) → leaf_message (OfNumbers f) ≡ leaf_message (OfNumbers g)
numbers_message f g s t a b d r =
    let ptype : f.ptype ≡ g.ptype = cc in
    let null : nullability_in f.validity ≡ nullability_in g.validity = cc in
    let e = map_one (option_map Number) (option_one Number number_one) _ _ r in
    let same = same_parts (pos 0) f.numbers g.numbers f.validity g.validity s.counted t.counted null a b e in
    let form : f ≡ g = λ i. record { ptype = ptype i; numbers = same.items i; validity = same.validity i } in
    ap (λ (h : PrimitiveForm). leaf_message (OfNumbers h)) form

truths_message : (f g : BoolForm) → IsStoredLeaf (OfTruths f) → IsStoredLeaf (OfTruths g) → IsComputedLeaf (OfTruths f) → IsComputedLeaf (OfTruths g) → leaf_dtype (OfTruths f) ≡ leaf_dtype (OfTruths g) → leaf_rows (OfTruths f) ≡ leaf_rows (OfTruths g) → leaf_message (OfTruths f) ≡ leaf_message (OfTruths g)
truths_message f g s t a b d r =
    let null : nullability_in f.validity ≡ nullability_in g.validity = cc in
    let e = map_one (option_map Truth) (option_one Truth truth_one) _ _ r in
    let same = same_parts false f.bits g.bits f.validity g.validity s.counted t.counted null a b e in
    let form : f ≡ g = λ i. record { bits = same.items i; validity = same.validity i } in
    ap (λ (h : BoolForm). leaf_message (OfTruths h)) form

decimals_message : (f g : DecimalForm) → IsStoredLeaf (OfDecimals f) → IsStoredLeaf (OfDecimals g) → IsComputedLeaf (OfDecimals f) → IsComputedLeaf (OfDecimals g) → leaf_dtype (OfDecimals f) ≡ leaf_dtype (OfDecimals g) → leaf_rows (OfDecimals f) ≡ leaf_rows (OfDecimals g) → leaf_message (OfDecimals f) ≡ leaf_message (OfDecimals g)
decimals_message f g s t a b d r =
    let decimal : f.decimal ≡ g.decimal = cc in
    let null : nullability_in f.validity ≡ nullability_in g.validity = cc in
    let e = map_one (option_map DecimalNumber) (option_one DecimalNumber decimal_one) _ _ r in
    let same = same_parts (pos 0) f.numbers g.numbers f.validity g.validity s.counted t.counted null a b e in
    let form : f ≡ g = λ i. record { decimal = decimal i; numbers = same.items i; validity = same.validity i } in
    ap (λ (h : DecimalForm). leaf_message (OfDecimals h)) form

-- of texts and bytes the message has what the rows show
kind_one : (k l : VarBinKind) (m n : Nullability) → kind_dtype k m ≡ kind_dtype l n → (k ≡ l) × (m ≡ n)
kind_one Utf8 Utf8 m n e = (refl, cc)
kind_one Binary Binary m n e = (refl, cc)
kind_one Utf8 Binary m n e = absurd cc
kind_one Binary Utf8 m n e = absurd cc

texts_message : (f g : VarBinForm) → IsStoredLeaf (OfVarBins f) → IsStoredLeaf (OfVarBins g) → IsComputedLeaf (OfVarBins f) → IsComputedLeaf (OfVarBins g) → leaf_dtype (OfVarBins f) ≡ leaf_dtype (OfVarBins g) → leaf_rows (OfVarBins f) ≡ leaf_rows (OfVarBins g) → leaf_message (OfVarBins f) ≡ leaf_message (OfVarBins g)
texts_message f g s t a b d r =
    let types = kind_one f.kind g.kind (nullability_in f.validity) (nullability_in g.validity) d in
    let rows : map (option_map (varbin_value f.kind)) (optional_bytes f) ≡ map (option_map (varbin_value f.kind)) (optional_bytes g) = r ∙ ap (λ (k : VarBinKind). map (option_map (varbin_value k)) (optional_bytes g)) (sym types.0) in
    let e = map_one (option_map (varbin_value f.kind)) (option_one (varbin_value f.kind) (varbin_one f.kind)) (optional_bytes f) (optional_bytes g) rows in
    let f_count = length-map f.views (view_bytes f.buffers) in
    let g_count = length-map g.views (view_bytes g.buffers) in
    let f_flags : length (varbin_flags f) ≡ length (map (view_bytes f.buffers) f.views) = length-flags f.validity (length f.views) s.are.counted ∙ sym f_count in
    let g_flags : length (varbin_flags g) ≡ length (map (view_bytes g.buffers) g.views) = length-flags g.validity (length g.views) t.are.counted ∙ sym g_count in
    let flags_are : varbin_flags f ≡ varbin_flags g = flags_one _ _ (varbin_flags f) (varbin_flags g) f_flags g_flags e in
    let count : length f.views ≡ length g.views = sym (length-flags f.validity (length f.views) s.are.counted) ∙ ap length flags_are ∙ length-flags g.validity (length g.views) t.are.counted in
    let validity : f.validity ≡ g.validity = validity_one f.validity g.validity (length f.views) (length g.views) count types.1 a.normal b.normal a.some b.some flags_are in
    let shown = ap (λ (rows : List (Option FlatValue)). map shown_row (map (option_map Single) rows)) r in
    λ i. header_bytes (kind_number (d i)) 1 (count i) ++ text_fields (validity i) (map length (shown i)) (concat (shown i))

-- a type of other rows than texts and bytes
abbrev IsOther : DType → Type 0
IsOther (dtype.Primitive t n) = Unit {0}
IsOther (dtype.Bool n) = Unit {0}
IsOther (dtype.Decimal d n) = Unit {0}
IsOther (dtype.Utf8 n) = ⊥
IsOther (dtype.Binary n) = ⊥
IsOther (dtype.List e n) = Unit {0}

no_varbin : (kind : VarBinKind) (n : Nullability) (t : DType) → IsOther t → t ≡ kind_dtype kind n → ⊥
no_varbin Utf8 n t other e = subst IsOther e other
no_varbin Binary n t other e = subst IsOther e other

pub leaf_same : (a b : Leaf) → IsStoredLeaf a → IsStoredLeaf b → IsComputedLeaf a → IsComputedLeaf b → leaf_dtype a ≡ leaf_dtype b → single_rows a ≡ single_rows b → leaf_message a ≡ leaf_message b
leaf_same (OfNumbers f) (OfNumbers g) s t a b d r = numbers_message f g s t a b d (flat_one (leaf_rows (OfNumbers f)) (leaf_rows (OfNumbers g)) r)
leaf_same (OfTruths f) (OfTruths g) s t a b d r = truths_message f g s t a b d (flat_one (leaf_rows (OfTruths f)) (leaf_rows (OfTruths g)) r)
leaf_same (OfDecimals f) (OfDecimals g) s t a b d r = decimals_message f g s t a b d (flat_one (leaf_rows (OfDecimals f)) (leaf_rows (OfDecimals g)) r)
leaf_same (OfVarBins f) (OfVarBins g) s t a b d r = texts_message f g s t a b d (flat_one (leaf_rows (OfVarBins f)) (leaf_rows (OfVarBins g)) r)
leaf_same (OfNumbers f) (OfTruths g) s t a b d r = absurd cc
leaf_same (OfNumbers f) (OfDecimals g) s t a b d r = absurd cc
leaf_same (OfTruths f) (OfNumbers g) s t a b d r = absurd cc
leaf_same (OfTruths f) (OfDecimals g) s t a b d r = absurd cc
leaf_same (OfDecimals f) (OfNumbers g) s t a b d r = absurd cc
leaf_same (OfDecimals f) (OfTruths g) s t a b d r = absurd cc
leaf_same (OfNumbers f) (OfVarBins g) s t a b d r = absurd (no_varbin g.kind (nullability_in g.validity) (leaf_dtype (OfNumbers f)) tt d)
leaf_same (OfTruths f) (OfVarBins g) s t a b d r = absurd (no_varbin g.kind (nullability_in g.validity) (leaf_dtype (OfTruths f)) tt d)
leaf_same (OfDecimals f) (OfVarBins g) s t a b d r = absurd (no_varbin g.kind (nullability_in g.validity) (leaf_dtype (OfDecimals f)) tt d)
leaf_same (OfVarBins f) (OfNumbers g) s t a b d r = absurd (no_varbin f.kind (nullability_in f.validity) (leaf_dtype (OfNumbers g)) tt (sym d))
leaf_same (OfVarBins f) (OfTruths g) s t a b d r = absurd (no_varbin f.kind (nullability_in f.validity) (leaf_dtype (OfTruths g)) tt (sym d))
leaf_same (OfVarBins f) (OfDecimals g) s t a b d r = absurd (no_varbin f.kind (nullability_in f.validity) (leaf_dtype (OfDecimals g)) tt (sym d))

-- ---- encodings

least_one : (n : ℕ) (t u : PType) → IsLeastFor n t → IsLeastFor n u → t ≡ u
least_one n U8 U8 p q = refl
least_one n U8 U16 p q = absurd (omega (arith, p.least U16 q.has, q.least U8 p.has))
least_one n U8 U32 p q = absurd (omega (arith, p.least U32 q.has, q.least U8 p.has))
least_one n U8 U64 p q = absurd (omega (arith, p.least U64 q.has, q.least U8 p.has))
least_one n U8 I8 p q = absurd q.has
least_one n U8 I16 p q = absurd q.has
least_one n U8 I32 p q = absurd q.has
least_one n U8 I64 p q = absurd q.has
least_one n U16 U8 p q = absurd (omega (arith, p.least U8 q.has, q.least U16 p.has))
least_one n U16 U16 p q = refl
least_one n U16 U32 p q = absurd (omega (arith, p.least U32 q.has, q.least U16 p.has))
least_one n U16 U64 p q = absurd (omega (arith, p.least U64 q.has, q.least U16 p.has))
least_one n U16 I8 p q = absurd q.has
least_one n U16 I16 p q = absurd q.has
least_one n U16 I32 p q = absurd q.has
least_one n U16 I64 p q = absurd q.has
least_one n U32 U8 p q = absurd (omega (arith, p.least U8 q.has, q.least U32 p.has))
least_one n U32 U16 p q = absurd (omega (arith, p.least U16 q.has, q.least U32 p.has))
least_one n U32 U32 p q = refl
least_one n U32 U64 p q = absurd (omega (arith, p.least U64 q.has, q.least U32 p.has))
least_one n U32 I8 p q = absurd q.has
least_one n U32 I16 p q = absurd q.has
least_one n U32 I32 p q = absurd q.has
least_one n U32 I64 p q = absurd q.has
least_one n U64 U8 p q = absurd (omega (arith, p.least U8 q.has, q.least U64 p.has))
least_one n U64 U16 p q = absurd (omega (arith, p.least U16 q.has, q.least U64 p.has))
least_one n U64 U32 p q = absurd (omega (arith, p.least U32 q.has, q.least U64 p.has))
least_one n U64 U64 p q = refl
least_one n U64 I8 p q = absurd q.has
least_one n U64 I16 p q = absurd q.has
least_one n U64 I32 p q = absurd q.has
least_one n U64 I64 p q = absurd q.has
least_one n I8 U8 p q = absurd p.has
least_one n I8 U16 p q = absurd p.has
least_one n I8 U32 p q = absurd p.has
least_one n I8 U64 p q = absurd p.has
least_one n I8 I8 p q = absurd p.has
least_one n I8 I16 p q = absurd p.has
least_one n I8 I32 p q = absurd p.has
least_one n I8 I64 p q = absurd p.has
least_one n I16 U8 p q = absurd p.has
least_one n I16 U16 p q = absurd p.has
least_one n I16 U32 p q = absurd p.has
least_one n I16 U64 p q = absurd p.has
least_one n I16 I8 p q = absurd p.has
least_one n I16 I16 p q = absurd p.has
least_one n I16 I32 p q = absurd p.has
least_one n I16 I64 p q = absurd p.has
least_one n I32 U8 p q = absurd p.has
least_one n I32 U16 p q = absurd p.has
least_one n I32 U32 p q = absurd p.has
least_one n I32 U64 p q = absurd p.has
least_one n I32 I8 p q = absurd p.has
least_one n I32 I16 p q = absurd p.has
least_one n I32 I32 p q = absurd p.has
least_one n I32 I64 p q = absurd p.has
least_one n I64 U8 p q = absurd p.has
least_one n I64 U16 p q = absurd p.has
least_one n I64 U32 p q = absurd p.has
least_one n I64 U64 p q = absurd p.has
least_one n I64 I8 p q = absurd p.has
least_one n I64 I16 p q = absurd p.has
least_one n I64 I32 p q = absurd p.has
least_one n I64 I64 p q = absurd p.has

-- runs over the same rows, with the same ends, have the same bytes
values_same : (t u : PType) (ends others : List ℕ) (a b : Column) (offset start count rows : ℕ) (type : DType) → ¬ IsLists type → t ≡ u → ends ≡ others → offset ≡ start → count ≡ rows → column_dtype a ≡ type → column_dtype b ≡ type → IsComputedFlat a → IsComputedFlat b → IsStored a → IsStored b → column_rows a ≡ column_rows b → column_bytes (OfRuns t ends a offset count) ≡ column_bytes (OfRuns u others b start rows)
values_same t u ends others (OfLeaf a) (OfLeaf b) offset start count rows type single tu eo os cr da db fa fb sa sb r =
    let types : leaf_dtype a ≡ leaf_dtype b = da ∙ sym db in
    let message : leaf_message a ≡ leaf_message b = leaf_same a b sa sb fa fb types r in
    let same : leaf_runs_message t ends a offset count ≡ leaf_runs_message u others b start rows = λ i. header_bytes (kind_number (types i)) 2 (cr i) ++ run_fields (os i) (tu i) (lengths_bytes 0 (eo i)) (message i) in
    runs_bytes t ends a offset count ∙ same ∙ sym (runs_bytes u others b start rows)
values_same t u ends others (OfConstant a) b offset start count rows type single tu eo os cr da db fa fb sa sb r = absurd fa
values_same t u ends others (OfRuns s e a o n) b offset start count rows type single tu eo os cr da db fa fb sa sb r = absurd fa
values_same t u ends others (OfLists a) b offset start count rows type single tu eo os cr da db fa fb sa sb r = absurd (single (subst IsLists da tt))
values_same t u ends others (OfLeaf a) (OfConstant b) offset start count rows type single tu eo os cr da db fa fb sa sb r = absurd fb
values_same t u ends others (OfLeaf a) (OfRuns s e b o n) offset start count rows type single tu eo os cr da db fa fb sa sb r = absurd fb
values_same t u ends others (OfLeaf a) (OfLists b) offset start count rows type single tu eo os cr da db fa fb sa sb r = absurd (single (subst IsLists db tt))

pub encoded_same : (rows : List (Option Value)) (type : DType) (first second : Runs) → ¬ IsLists type → IsTightCover rows first.ends (column_rows first.values) → IsTightCover rows second.ends (column_rows second.values) → first.offset ≡ second.offset → first.count ≡ second.count → column_dtype first.values ≡ type → column_dtype second.values ≡ type → IsLeastFor (last_end first.ends) first.ends_type → IsLeastFor (last_end second.ends) second.ends_type → IsComputedFlat first.values → IsComputedFlat second.values → IsStored first.values → IsStored second.values → column_bytes (column_of_runs first) ≡ column_bytes (column_of_runs second)
encoded_same rows type first second single a b os cr da db na nb fa fb sa sb =
    let one = unique_tight_cover rows first.ends second.ends (column_rows first.values) (column_rows second.values) a b in
    let ends_type : first.ends_type ≡ second.ends_type = least_one (last_end second.ends) first.ends_type second.ends_type (subst (λ (ends : List ℕ). IsLeastFor (last_end ends) first.ends_type) one.0 na) nb in
    values_same first.ends_type second.ends_type first.ends second.ends first.values second.values first.offset second.offset first.count second.count type single ends_type one.0 os cr da db fa fb sa sb one.1

pub encodings_same : EqualRowsEqualBytes
encodings_same rows type first second single a b =
    encoded_same rows type first second single a.cover b.cover (a.offset ∙ sym b.offset) (a.count ∙ sym b.count) a.dtype b.dtype a.narrow b.narrow a.flat b.flat a.stored b.stored
