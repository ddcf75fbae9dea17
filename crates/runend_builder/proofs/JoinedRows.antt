-- Operations that work row by row, on joined rows.
use Rattle.std.proofs.Common.{◌≡◌, ◌≢◌, ◌∙◌, ◌+◌, ◌-◌, ◌<◌, ◌≤◌, ◌++◌, ◌⊎◌, ℕ, ℤ, Bool, true, false, List, [], ◌∷◌, Option, Some, None, length, take, drop, map, refl, sym, ap, arith, inl, inr, nat_eq}
use Rattle.std.specs.Prelude.{min, slice_range, unwrap_or, cond}
use Rattle.std.specs.Option.{option_or}
use Rattle.std.proofs.lemmas.Bool.{cases_lt}
use Rattle.std.proofs.lemmas.List.{append-nil, length-append, length-drop, map-append, drop-append-le, drop-drop, take-append-le, take_all, drop_all, take_at, drop_at}
use Rattle.std.proofs.Math.Seq.{take-add}
use Rattle.column_base.specs.declared.dtype.DType.{DType}
use Rattle.column_base.specs.declared.error.VortexError.{VortexError}
use Rattle.column_core.specs.Refusal.{first_fault}
use Rattle.column_core.specs.Value.{Value}
use Rattle.column_ops.specs.Cast.{can_cast, cast_fault, cast_row_fault, is_numbers}
use Rattle.column_ops.specs.Codes.{code_number, code_numbers}
use Rattle.column_ops.specs.Fill.{fill_rows}
use Rattle.column_ops.specs.Filter.{filter_fault, filter_rows}
use Rattle.column_ops.specs.Take.{index_fault, take_fault, take_rows, taken_row}
use Rattle.column_ops.specs.Comparing.{compare_with, compared}
use Rattle.runend_builder.specs.Rows.{CastOfJoined, CodesOfJoined, ComparisonOfJoined, FillOfJoined, FilterOfJoined, SliceOfJoined, TakeOfParts, column_with}

-- lists of equal lengths are filtered part by part
filtered : {X : Type 0} (mask mask' : List Bool) (xs ys : List X) → length mask ≡ length xs
    → filter_rows (mask ++ mask') (xs ++ ys) ≡ filter_rows mask xs ++ filter_rows mask' ys
filtered [] mask' [] ys fits = refl
filtered [] mask' (x ∷ xs) ys fits = absurd (omega arith)
filtered (b ∷ mask) mask' [] ys fits = absurd (omega arith)
filtered (true ∷ mask) mask' (x ∷ xs) ys fits = ap (λ zs. x ∷ zs) (filtered mask mask' xs ys (omega arith))
filtered (false ∷ mask) mask' (x ∷ xs) ys fits = filtered mask mask' xs ys (omega arith)

-- a mask fits where no fault says otherwise
fits-from_fault : (mask rows : ℕ) → filter_fault mask rows ≡ None → mask ≡ rows
fits-from_fault mask rows h = grind arith

fault-from_fits : (mask rows : ℕ) → mask ≡ rows → filter_fault mask rows ≡ None
fault-from_fits mask rows h = grind arith

pub filter_of_joined : FilterOfJoined
filter_of_joined mask mask' rows rows' none none' =
    let fits = fits-from_fault (length mask) (length rows) none in
    let fits' = fits-from_fault (length mask') (length rows') none' in (
      filtered mask mask' rows rows' fits,
      fault-from_fits (length (mask ++ mask')) (length (rows ++ rows')) (omega (arith, length-append mask mask', length-append rows rows')),
    )

-- what is left of joined lists after n items
dropped : {X : Type 0} (n : ℕ) (xs ys : List X) → drop n (xs ++ ys) ≡ drop n xs ++ drop (n - length xs) ys
dropped n xs ys = elim (cases_lt (length xs) n) [
  | inl past ↦
      let parts : n ≡ length xs + (n - length xs) = omega arith in
      ap (λ (k : ℕ). drop k (xs ++ ys)) parts
      ∙ sym (drop-drop (n - length xs) (length xs) (xs ++ ys))
      ∙ ap (drop (n - length xs)) (drop_at xs ys (length xs) refl)
      ∙ ap (λ zs. zs ++ drop (n - length xs) ys) (sym (drop_all n xs (omega arith)))
  | inr within ↦
      let none : n - length xs ≡ 0 = omega arith in
      drop-append-le n xs ys within ∙ ap (λ (k : ℕ). drop n xs ++ drop k ys) (sym none)
]

-- the first n items of joined lists
taken : {X : Type 0} (n : ℕ) (xs ys : List X) → take n (xs ++ ys) ≡ take n xs ++ take (n - length xs) ys
taken n xs ys = elim (cases_lt (length xs) n) [
  | inl past ↦
      let parts : n ≡ length xs + (n - length xs) = omega arith in
      ap (λ (k : ℕ). take k (xs ++ ys)) parts
      ∙ take-add (length xs) (n - length xs) (xs ++ ys)
      ∙ ap (λ zs. zs ++ take (n - length xs) (drop (length xs) (xs ++ ys))) (take_at xs ys (length xs) refl)
      ∙ ap (λ zs. xs ++ take (n - length xs) zs) (drop_at xs ys (length xs) refl)
      ∙ ap (λ zs. zs ++ take (n - length xs) ys) (sym (take_all n xs (omega arith)))
  | inr within ↦
      let none : n - length xs ≡ 0 = omega arith in
      take-append-le n xs ys within ∙ sym (append-nil (take n xs)) ∙ ap (λ (k : ℕ). take n xs ++ take k ys) (sym none)
]

-- a range ends within a part, or has all that is left of it
either_range : (start stop count rest : ℕ) → rest ≡ count - start → (stop - start ≡ min stop count - start) ⊎ ((rest ≤ stop - start) × (rest ≤ min stop count - start))
either_range start stop count rest long = elim (cases_lt count stop) [
  | inl past ↦ inr (omega arith, omega arith)
  | inr within ↦ inl (omega arith)
]

-- as many items as there are, or more, are all of them
front : {X : Type 0} (n m : ℕ) (xs : List X) → (n ≡ m) ⊎ ((length xs ≤ n) × (length xs ≤ m)) → take n xs ≡ take m xs
front n m xs (inl same) = ap (λ (k : ℕ). take k xs) same
front n m xs (inr all) = take_all n xs all.0 ∙ sym (take_all m xs all.1)

-- the range that a part has of its own
own_range : {X : Type 0} (xs : List X) (start stop : ℕ) → start ≤ stop → take (stop - start) (drop start xs) ≡ slice_range xs (min start (length xs)) (min stop (length xs))
own_range xs start stop ordered = elim (cases_lt (length xs) start) [
  | inl past ↦
      let first : min start (length xs) ≡ length xs = omega arith in
      let last : min stop (length xs) ≡ length xs = omega arith in
      let none : length xs - length xs ≡ 0 = omega arith in
      ap (take (stop - start)) (drop_all start xs (omega arith)) ∙ take_all (stop - start) [] (omega arith)
      ∙ sym (ap (λ (k : ℕ). slice_range xs k (min stop (length xs))) first ∙ ap (λ (k : ℕ). slice_range xs (length xs) k) last ∙ ap (λ (k : ℕ). take k (drop (length xs) xs)) none)
  | inr within ↦
      let first : min start (length xs) ≡ start = omega arith in
      let long = length-drop start xs in
      front (stop - start) (min stop (length xs) - start) (drop start xs) (either_range start stop (length xs) (length (drop start xs)) long)
      ∙ ap (λ (k : ℕ). slice_range xs k (min stop (length xs))) (sym first)
]

pub slice_of_joined : SliceOfJoined
slice_of_joined rows rows' start stop ordered =
    let long = length-drop start rows in
    let rest : stop - start - length (drop start rows) ≡ stop - length rows - (start - length rows) = omega arith in
    ap (take (stop - start)) (dropped start rows rows')
    ∙ taken (stop - start) (drop start rows) (drop (start - length rows) rows')
    ∙ ap (λ (k : ℕ). take (stop - start) (drop start rows) ++ take k (drop (start - length rows) rows')) rest
    ∙ ap (λ zs. zs ++ slice_range rows' (start - length rows) (stop - length rows)) (own_range rows start stop ordered)

pub fill_of_joined : FillOfJoined
fill_of_joined rows rows' value = map-append (λ (row : Option Value). Some (unwrap_or row value)) rows rows'

pub comparison_of_joined : ComparisonOfJoined
comparison_of_joined operator rows rows' right = map-append (λ row. compared operator row right) rows rows'

pub take_of_parts : TakeOfParts
take_of_parts rows indices indices' = map-append (taken_row rows) indices indices'

-- the first of three faults
or_assoc : {X : Type 0} (a b c : Option X) → option_or a (option_or b c) ≡ option_or (option_or a b) c
or_assoc None b c = refl
or_assoc (Some x) b c = refl

first_of_joined : {X : Type 0} (fault : X → Option VortexError) (xs ys : List X) → first_fault fault (xs ++ ys) ≡ option_or (first_fault fault xs) (first_fault fault ys)
first_of_joined fault [] ys = refl
first_of_joined fault (x ∷ xs) ys = ap (option_or (fault x)) (first_of_joined fault xs ys) ∙ or_assoc (fault x) (first_fault fault xs) (first_fault fault ys)

-- of a choice that does not depend on the rows
chosen : (can : Bool) (error : VortexError) (all a b : Option VortexError) → all ≡ option_or a b
    → cond can all (Some error) ≡ option_or (cond can a (Some error)) (cond can b (Some error))
chosen true error all a b same = same
chosen false error all a b same = refl

pub cast_of_joined : CastOfJoined
cast_of_joined from to rows rows' = chosen (can_cast from to) _ _ _ _ (first_of_joined (cast_row_fault to) rows rows')

pub codes_of_joined : CodesOfJoined
codes_of_joined dtype dictionary codes codes' count =
    let numbers = map-append code_number codes codes' in (
      ap (take_rows dictionary) numbers ∙ map-append (taken_row dictionary) (code_numbers codes) (code_numbers codes'),
      chosen (is_numbers dtype) _ _ _ _ (ap (λ xs. take_fault xs count) numbers ∙ first_of_joined (index_fault count) (code_numbers codes) (code_numbers codes')),
    )
