-- Columns of answers: flat ones of items and flags, and run columns and constants over encodings.
use Rattle.std.proofs.Common.{◌≡◌, ℕ, ℤ, pos, zero, suc, ◌<◌, List, [], ◌∷◌, Bool, true, false, Option, Some, None, length, map, replicate, refl, sym, subst, ◌∙◌, ap, arith}
use Rattle.std.specs.Prelude.{◌&&◌, ◌==◌, not, option_map, slice_get, slice_index}
use Rattle.std.proofs.lemmas.List.{length-map, length-replicate}
use Rattle.column_base.specs.declared.dtype.DType.{DType}
use Rattle.column_base.specs.declared.dtype.DecimalDType.{DecimalDType}
use Rattle.column_base.specs.declared.dtype.PType.{PType}
use Rattle.column_base.specs.Types.{IsLeastFor}
use Rattle.column_base.specs.ValidityForm.{ValidityForm, IsNormal, flags}
use Rattle.column_core.specs.BoolForm.{BoolForm, bool_with}
use Rattle.column_core.specs.Computed.{HasRowIfAllNull, IsComputedLeaf}
use Rattle.column_core.specs.DecimalForm.{DecimalForm, decimal_with}
use Rattle.column_core.specs.Leaf.{Leaf, OfDecimals, OfNumbers, OfTruths, leaf_dtype, leaf_rows, single_rows}
use Rattle.column_core.specs.Optionals.{optionals, AreBlankAtNulls}
use Rattle.column_core.specs.PrimitiveForm.{PrimitiveForm, primitive_with}
use Rattle.column_core.specs.Value.{DecimalNumber, FlatValue, Number, Single, Truth, Value}
use Rattle.column_ops.proofs.RowRanges.{length-single_rows}
use Rattle.runend_array.specs.Column.{Column, Constant, OfConstant, OfLeaf, OfLists, OfRuns, column_dtype, column_of_runs, column_rows, runs_of}
use Rattle.runend_encode.specs.Encoding.{AreLeastEnds, IsRowEncoding}
use Rattle.runend_builder.specs.Encoded.{IsConstantForm}
use Rattle.runend_builder.proofs.Constants.{row_of_constant}
use Rattle.runend_builder.proofs.Parts.{encoded_of_rows, parts_of_rows}
use Rattle.runend_windows.specs.Cover.{Covers, IsTightCover}
use Rattle.runend_windows.specs.Ends.{ends_of}
use Rattle.runend_windows.specs.Window.{IsWindow, last_end, run_at, run_rows}
use Rattle.runend_windows.proofs.Lists.{slice_get-replicate}
use Rattle.runend_windows.proofs.RunAt.{run_at-here, run_of_row_within}
use Rattle.runend_windows.proofs.RunRows.{Covers_iff_run_rows}
use Rattle.runend_pairs.specs.Answers.{rows_of_items}
use Rattle.runend_pairs.specs.Runs.{rows_in, AreColumnRuns}
use Rattle.runend_pairs.specs.Zipped.{are_constant, is_constant, zip_rows, IsAnswerColumn, IsOneRow}
use Rattle.runend_pairs.proofs.Placed.{zip_rows-copies}

-- the rows of integers and flags
number_rows_of_items : {S : Type 0} (number : S → ℤ) (items : List S) (bits : List Bool)
    → map (option_map (λ (v : FlatValue). Single v)) (map (option_map (λ (n : ℤ). Number n)) (optionals (map number items) bits)) ≡ rows_of_items (λ item. Number (number item)) items bits
number_rows_of_items number [] bits = refl
number_rows_of_items number (x ∷ items) [] = refl
number_rows_of_items number (x ∷ items) (true ∷ bits) = ap (λ (rest : List (Option Value)). Some (Single (Number (number x))) ∷ rest) (number_rows_of_items number items bits)
number_rows_of_items number (x ∷ items) (false ∷ bits) = ap (λ (rest : List (Option Value)). None ∷ rest) (number_rows_of_items number items bits)

-- 0 is stored under null
zeros_of_blanks : {S : Type 0} (number : S → ℤ) (items : List S) (bits : List Bool) → AreBlankAtNulls (Number (pos 0)) (map (λ item. Number (number item)) items) bits → AreBlankAtNulls (pos 0) (map number items) bits
zeros_of_blanks number [] bits blank = tt
zeros_of_blanks number (x ∷ items) [] blank = tt
zeros_of_blanks number (x ∷ items) (b ∷ bits) blank = ((λ e. let is = blank.0 e in cc), zeros_of_blanks number items bits blank.1)

-- the same of decimals
decimal_rows_of_items : (items : List ℤ) (bits : List Bool)
    → map (option_map (λ (v : FlatValue). Single v)) (map (option_map (λ (n : ℤ). DecimalNumber n)) (optionals items bits)) ≡ rows_of_items (λ item. DecimalNumber item) items bits
decimal_rows_of_items [] bits = refl
decimal_rows_of_items (x ∷ items) [] = refl
decimal_rows_of_items (x ∷ items) (true ∷ bits) = ap (λ (rest : List (Option Value)). Some (Single (DecimalNumber x)) ∷ rest) (decimal_rows_of_items items bits)
decimal_rows_of_items (x ∷ items) (false ∷ bits) = ap (λ (rest : List (Option Value)). None ∷ rest) (decimal_rows_of_items items bits)

decimal_zeros : (items : List ℤ) (bits : List Bool) → AreBlankAtNulls (DecimalNumber (pos 0)) (map (λ item. DecimalNumber item) items) bits → AreBlankAtNulls (pos 0) items bits
decimal_zeros [] bits blank = tt
decimal_zeros (x ∷ items) [] blank = tt
decimal_zeros (x ∷ items) (b ∷ bits) blank = ((λ e. let is = blank.0 e in cc), decimal_zeros items bits blank.1)

-- the same of booleans
truth_rows_of_items : (items bits : List Bool) → map (option_map (λ (v : FlatValue). Single v)) (map (option_map (λ (b : Bool). Truth b)) (optionals items bits)) ≡ rows_of_items (λ item. Truth item) items bits
truth_rows_of_items [] bits = refl
truth_rows_of_items (x ∷ items) [] = refl
truth_rows_of_items (x ∷ items) (true ∷ bits) = ap (λ (rest : List (Option Value)). Some (Single (Truth x)) ∷ rest) (truth_rows_of_items items bits)
truth_rows_of_items (x ∷ items) (false ∷ bits) = ap (λ (rest : List (Option Value)). None ∷ rest) (truth_rows_of_items items bits)

falses_of_blanks : (items bits : List Bool) → AreBlankAtNulls (Truth false) (map (λ item. Truth item) items) bits → AreBlankAtNulls false items bits
falses_of_blanks [] bits blank = tt
falses_of_blanks (x ∷ items) [] blank = tt
falses_of_blanks (x ∷ items) (b ∷ bits) blank = ((λ e. let is = blank.0 e in cc), falses_of_blanks items bits blank.1)

-- a flat column of integers
module _ {S : Type 0} (number : S → ℤ) (items : List S) (bits : List Bool) (ptype : PType) (numbers : List ℤ) (validity : ValidityForm) (form : PrimitiveForm) (made : form ≡ primitive_with ptype numbers validity)
    (shows : numbers ≡ map number items) (told : flags validity (length bits) ≡ bits) (paired : length bits ≡ length items) where
  own_flags : flags validity (length numbers) ≡ bits
  own_flags = ap (λ (n : ℕ). flags validity n) (ap length shows ∙ length-map items number ∙ sym paired) ∙ told

  pub integers_rows : single_rows (OfNumbers form) ≡ rows_of_items (λ item. Number (number item)) items bits
  integers_rows =
      ap (λ (f : PrimitiveForm). single_rows (OfNumbers f)) made
      ∙ ap (λ (ns : List ℤ). map (option_map (λ (v : FlatValue). Single v)) (map (option_map (λ (n : ℤ). Number n)) (optionals ns (flags validity (length numbers))))) shows
      ∙ ap (λ (bs : List Bool). map (option_map (λ (v : FlatValue). Single v)) (map (option_map (λ (n : ℤ). Number n)) (optionals (map number items) bs))) own_flags
      ∙ number_rows_of_items number items bits

  pub integers_computed : AreBlankAtNulls (Number (pos 0)) (map (λ item. Number (number item)) items) bits → IsNormal validity → HasRowIfAllNull validity (length bits) → IsComputedLeaf (OfNumbers form)
  integers_computed blank normal some =
      let many : length numbers ≡ length bits = ap length shows ∙ length-map items number ∙ sym paired in
      subst (λ (f : PrimitiveForm). IsComputedLeaf (OfNumbers f)) (sym made) (record {
        blanked = subst (λ (bs : List Bool). AreBlankAtNulls (pos 0) numbers bs) (sym own_flags)
            (subst (λ (ns : List ℤ). AreBlankAtNulls (pos 0) ns bits) (sym shows) (zeros_of_blanks number items bits blank));
        normal = normal;
        some = λ e. subst (λ (n : ℕ). 0 < n) (sym many) (some e);
      })

-- a flat column of booleans
module _ (items bits packed : List Bool) (validity : ValidityForm) (form : BoolForm) (made : form ≡ bool_with packed validity) (same : packed ≡ items) (told : flags validity (length bits) ≡ bits)
    (paired : length bits ≡ length items) where
  truth_flags : flags validity (length packed) ≡ bits
  truth_flags = ap (λ (n : ℕ). flags validity n) (ap length same ∙ sym paired) ∙ told

  pub truths_rows : single_rows (OfTruths form) ≡ rows_of_items (λ item. Truth item) items bits
  truths_rows =
      ap (λ (f : BoolForm). single_rows (OfTruths f)) made
      ∙ ap (λ (bs : List Bool). map (option_map (λ (v : FlatValue). Single v)) (map (option_map (λ (b : Bool). Truth b)) (optionals packed bs))) truth_flags
      ∙ ap (λ (xs : List Bool). map (option_map (λ (v : FlatValue). Single v)) (map (option_map (λ (b : Bool). Truth b)) (optionals xs bits))) same
      ∙ truth_rows_of_items items bits

  pub truths_computed : AreBlankAtNulls (Truth false) (map (λ item. Truth item) items) bits → IsNormal validity → HasRowIfAllNull validity (length bits) → IsComputedLeaf (OfTruths form)
  truths_computed blank normal some =
      let many : length packed ≡ length bits = ap length same ∙ sym paired in
      subst (λ (f : BoolForm). IsComputedLeaf (OfTruths f)) (sym made) (record {
        blanked = subst (λ (bs : List Bool). AreBlankAtNulls false packed bs) (sym truth_flags)
            (subst (λ (xs : List Bool). AreBlankAtNulls false xs bits) (sym same) (falses_of_blanks items bits blank));
        normal = normal;
        some = λ e. subst (λ (n : ℕ). 0 < n) (sym many) (some e);
      })

-- a flat column of decimals
module _ (items : List ℤ) (bits : List Bool) (decimal : DecimalDType) (validity : ValidityForm) (form : DecimalForm) (made : form ≡ decimal_with decimal items validity) (told : flags validity (length bits) ≡ bits)
    (paired : length bits ≡ length items) where
  decimal_own_flags : flags validity (length items) ≡ bits
  decimal_own_flags = ap (λ (n : ℕ). flags validity n) (sym paired) ∙ told

  pub decimals_rows : single_rows (OfDecimals form) ≡ rows_of_items (λ item. DecimalNumber item) items bits
  decimals_rows =
      ap (λ (f : DecimalForm). single_rows (OfDecimals f)) made
      ∙ ap (λ (bs : List Bool). map (option_map (λ (v : FlatValue). Single v)) (map (option_map (λ (n : ℤ). DecimalNumber n)) (optionals items bs))) decimal_own_flags
      ∙ decimal_rows_of_items items bits

  pub decimals_computed : AreBlankAtNulls (DecimalNumber (pos 0)) (map (λ item. DecimalNumber item) items) bits → IsNormal validity → HasRowIfAllNull validity (length bits) → IsComputedLeaf (OfDecimals form)
  decimals_computed blank normal some = subst (λ (f : DecimalForm). IsComputedLeaf (OfDecimals f)) (sym made) (record {
    blanked = subst (λ (bs : List Bool). AreBlankAtNulls (pos 0) items bs) (sym decimal_own_flags) (decimal_zeros items bits blank);
    normal = normal;
    some = λ e. subst (λ (n : ℕ). 0 < n) paired (some e);
  })

-- ends in the least type and a flat column of the items are the encoding
pub encoding_made : (rows : List (Option Value)) (dtype : DType) (wanted : List ℕ) (shown : List (Option Value)) (ends : PrimitiveForm) (values : Leaf) → IsTightCover rows wanted shown → AreLeastEnds wanted ends
    → single_rows values ≡ shown → leaf_dtype values ≡ dtype → IsComputedLeaf values → IsRowEncoding rows dtype ends values
encoding_made rows dtype wanted shown ends values cover least same typed computed = record {
  cover = subst (λ (es : List ℕ). IsTightCover rows es (single_rows values)) (sym least.shown) (subst (λ (vs : List (Option Value)). IsTightCover rows wanted vs) (sym same) cover);
  typed = typed;
  computed = computed;
  required = least.required;
  narrow = subst (λ (es : List ℕ). IsLeastFor (last_end es) ends.ptype) (sym least.shown) least.narrow;
}

-- an encoding shows the rows
pub rows_of_encoding : (rows : List (Option Value)) (dtype : DType) (ends : PrimitiveForm) (values : Leaf) (count : ℕ) → IsRowEncoding rows dtype ends values → length rows ≡ count → rows ≡ rows_in ends 0 values count
rows_of_encoding rows dtype ends values count e counted =
    let cover = subst (λ (n : ℕ). Covers rows (ends_of ends) (single_rows values) 0 n) counted e.cover.covers in
    (Covers_iff_run_rows rows (ends_of ends) (single_rows values) 0 count cover.window cover.paired).0 cover

-- where the first end is past the first row, that row is in the first run
begins : (ends : List ℕ) → (0 < length ends → 0 < slice_index ends 0) → run_at ends 0 ≡ 0
begins [] filled = refl
begins (end ∷ ends) filled = run_at-here end ends 0 (filled (omega arith))

-- and its runs can be walked along
pub runs_of_encoding : (rows : List (Option Value)) (dtype : DType) (ends : PrimitiveForm) (values : Leaf) (count : ℕ) → IsRowEncoding rows dtype ends values → length rows ≡ count → AreColumnRuns ends 0 values count
runs_of_encoding rows dtype ends values count e counted = record {
  plain = (parts_of_rows rows dtype ends values (length rows) (OfLeaf values) e refl refl).plain;
  window = subst (λ (n : ℕ). IsWindow (ends_of ends) 0 n) counted e.cover.covers.window;
  first = begins (ends_of ends) e.cover.tight.filled;
  paired = sym (length-single_rows values) ∙ e.cover.covers.paired;
}

-- of rows that are all of one, the encoding has a value
module _ (rows : List (Option Value)) (dtype : DType) (ends : PrimitiveForm) (values : Leaf) (count : ℕ) (e : IsRowEncoding rows dtype ends values) (one : IsOneRow count rows) where
  many : length rows ≡ count
  many = ap length one.all ∙ length-replicate count one.row

  pub value_there : 0 < length (leaf_rows values)
  value_there =
      let some = one.some in
      let counted = many in
      let within = run_of_row_within (ends_of ends) 0 (length rows) 0 e.cover.covers.window (omega arith) in
      let paired = e.cover.covers.paired in
      let long = length-single_rows values in
      omega arith

  -- which is that row
  pub value_is : (seen : Option Value) → slice_get (single_rows values) 0 ≡ Some seen → rows ≡ replicate count seen
  value_is seen at =
      let some = one.some in
      let counted = many in
      let begun : run_at (ends_of ends) 0 ≡ 0 = begins (ends_of ends) e.cover.tight.filled in
      let shown : slice_get rows 0 ≡ Some seen = e.cover.covers.each 0 (omega arith) ∙ ap (slice_get (single_rows values)) begun ∙ at in
      let first : slice_get rows 0 ≡ Some one.row = ap (λ (xs : List (Option Value)). slice_get xs 0) one.all ∙ slice_get-replicate count 0 one.row some in
      let same : one.row ≡ seen = cc in
      one.all ∙ ap (replicate count) same

-- the constant of rows that are all of one
pub constant_answers : (rows : List (Option Value)) (dtype : DType) (count : ℕ) (made : Constant) (seen : Option Value) (column : Column) → rows ≡ replicate count seen → made.dtype ≡ dtype
    → option_map (λ (v : FlatValue). Single v) made.value ≡ seen → made.count ≡ count → column ≡ OfConstant made → IsAnswerColumn true rows dtype column
constant_answers rows dtype count made seen column all typed shows counted is = rw is (record {
  shows = ap (λ (n : ℕ). replicate n (option_map (λ (v : FlatValue). Single v) made.value)) counted ∙ ap (replicate count) shows ∙ sym all;
  typed = typed;
  form = tt;
})

-- the run column of an encoding
pub run_answers : (rows : List (Option Value)) (dtype : DType) (ends : PrimitiveForm) (values : Leaf) (count : ℕ) (column_of_values column : Column) → IsRowEncoding rows dtype ends values → length rows ≡ count
    → column_of_values ≡ OfLeaf values → column ≡ column_of_runs (runs_of (OfLeaf (OfNumbers ends)) column_of_values 0 count) → IsAnswerColumn false rows dtype column
run_answers rows dtype ends values count column_of_values column e counted stored is =
    let encoded = encoded_of_rows rows dtype ends values count column_of_values e (sym counted) stored in
    rw is (record {
      shows = ap (λ (c : Column). run_rows (ends_of ends) (column_rows c) 0 count) stored ∙ sym (rows_of_encoding rows dtype ends values count e counted);
      typed = ap column_dtype stored ∙ e.typed;
      form = encoded;
    })

-- a constant with a row has its form and a row
some_count : (n m : ℕ) → not (n == 0) ≡ true → m ≡ n → 0 < m
some_count zero m is same = cc
some_count (suc n) m is same = omega arith

constant_form : (c : Column) → is_constant c ≡ true → IsConstantForm c × (0 < length (column_rows c))
constant_form (OfLeaf leaf) is = cc
constant_form (OfConstant constant) is =
    let row = option_map (λ (v : FlatValue). Single v) constant.value in
    (tt, some_count constant.count (length (replicate constant.count row)) is (length-replicate constant.count row))
constant_form (OfLists lists) is = cc
constant_form (OfRuns ends_type ends values offset count) is = cc

both_true : (a b : Bool) → (a && b) ≡ true → (a ≡ true) × (b ≡ true)
both_true true true is = (refl, refl)
both_true true false is = cc
both_true false b is = cc

-- answers of two such constants are all of one row
pub one_answer_row : (f : Option Value → Option Value → Option Value) (left right : Column) → are_constant left right ≡ true → length (column_rows left) ≡ length (column_rows right)
    → IsOneRow (length (column_rows left)) (zip_rows f (column_rows left) (column_rows right))
one_answer_row f left right are same =
    let parts = both_true (is_constant left) (is_constant right) are in
    let one = constant_form left parts.0 in
    let other = constant_form right parts.1 in
    let lefts = row_of_constant left one.0 in
    let rights = row_of_constant right other.0 in
    let n = length (column_rows left) in
    record {
      some = one.1;
      row = f lefts.0 rights.0;
      all = ap (λ (xs : List (Option Value)). zip_rows f xs (column_rows right)) lefts.1
          ∙ ap (λ (xs : List (Option Value)). zip_rows f (replicate n lefts.0) xs) (rights.1 ∙ ap (λ (k : ℕ). replicate k rights.0) (sym same))
          ∙ zip_rows-copies f n lefts.0 rights.0;
    }

-- the encoding of answers, by the rows that it shows
module _ (answers : List (Option Value)) (count : ℕ) (dtype : DType) (ends : PrimitiveForm) (values : Leaf) (e : IsRowEncoding answers dtype ends values) (counted : length answers ≡ count) where
  shown_answers : answers ≡ rows_in ends 0 values count
  shown_answers = rows_of_encoding answers dtype ends values count e counted

  pub shown_encoding : IsRowEncoding (rows_in ends 0 values count) (leaf_dtype values) ends values
  shown_encoding = subst (λ (t : DType). IsRowEncoding (rows_in ends 0 values count) t ends values) (sym e.typed)
      (subst (λ (rows : List (Option Value)). IsRowEncoding rows dtype ends values) shown_answers e)

  pub shown_one : IsOneRow count answers → IsOneRow count (rows_in ends 0 values count)
  shown_one one = subst (λ (rows : List (Option Value)). IsOneRow count rows) shown_answers one

  pub answers_column : (constant : Bool) (column : Column) → IsAnswerColumn constant (rows_in ends 0 values count) (leaf_dtype values) column → IsAnswerColumn constant answers dtype column
  answers_column constant column made = subst (λ (t : DType). IsAnswerColumn constant answers t column) e.typed
      (subst (λ (rows : List (Option Value)). IsAnswerColumn constant rows (leaf_dtype values) column) (sym shown_answers) made)
