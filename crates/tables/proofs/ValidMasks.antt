-- Masks of the places at which columns are not null.
use Rattle.std.proofs.Common.{◌≡◌, ◌∙◌, ◌+◌, ◌<◌, ◌++◌, ℕ, zero, suc, List, [], ◌∷◌, Bool, true, false, Option, Some, None, ap, arith, cond, get_or, length, map, refl, replicate, subst, sym, take}
use Rattle.std.specs.Prelude.{◌&&◌, count_by, is_none, is_some, option_map, slice_index_or}
use Rattle.std.specs.List.{list_all, range_with_len}
use Rattle.std.proofs.lemmas.List.{length-map, map-append, take_more}
use Rattle.std.proofs.lemmas.List.Folds.{list_all-append}
use Rattle.std.proofs.lemmas.List.FromFn.{fill_by_all, length-map-range_with_len}
use Rattle.std.proofs.lemmas.List.Sums.{sum_by-cons}
use Rattle.column_base.specs.ValidityForm.{NeverNull}
use Rattle.column_core.specs.BoolForm.{bool_with}
use Rattle.column_core.specs.Leaf.{OfTruths, single_rows}
use Rattle.column_core.specs.Value.{Bytes, DecimalNumber, Items, Number, Single, Text, Truth, Value}
use Rattle.runend_array.specs.Array.{rows}
use Rattle.runend_pairs.specs.Operations.{boolean_of, both, truth_of, truth_row, valid_test}
use Rattle.runend_pairs.specs.Zipped.{zip_rows}
use Rattle.runend_pairs.specs.declared.booleans.BooleanOperator.TheVariants.{And}
use Rattle.row_groups.specs.Groups.{row_across}
use Rattle.row_groups.specs.Orders.{row_at}
use Rattle.row_stretches.specs.Masks.{is_true, truths_of}
use Rattle.typed_columns.specs.declared.typed_column.TypedColumn.{TypedColumn}
use Rattle.tables.specs.WithoutNull.{is_valid_across, valid_places}

-- both of two bits
abbrev pub both_bits : Bool → Bool → Bool
both_bits left right = left && right

-- without a column no place is null
all_true_from : (start count : ℕ) → truths_of (replicate count (Some (Single (Truth true)))) ≡ map (is_valid_across []) (range_with_len start count)
all_true_from start zero = refl
all_true_from start (suc count) = ap (λ (bits : List Bool). true ∷ bits) (all_true_from (start + 1) count)

pub all_true_places : (count : ℕ) → truths_of (replicate count (Some (Single (Truth true)))) ≡ valid_places [] count
all_true_places count = all_true_from 0 count

-- ---- booleans that are connected

-- a boolean that is known to be true
abbrev known_true : Option Bool → Bool
known_true None = false
known_true (Some truth) = truth

true_as_known : (row : Option Value) → is_true row ≡ known_true (option_map truth_of row)
true_as_known None = refl
true_as_known (Some (Single (Truth truth))) = refl
true_as_known (Some (Single (Number n))) = refl
true_as_known (Some (Single (DecimalNumber n))) = refl
true_as_known (Some (Single (Text bytes))) = refl
true_as_known (Some (Single (Bytes bytes))) = refl
true_as_known (Some (Items items)) = refl

true_of_row : (truth : Option Bool) → is_true (truth_row truth) ≡ known_true truth
true_of_row None = refl
true_of_row (Some truth) = refl

both_known : (left right : Option Bool) → known_true (both left right) ≡ both_bits (known_true left) (known_true right)
both_known (Some false) right = refl
both_known (Some true) right = refl
both_known None (Some false) = refl
both_known None (Some true) = refl
both_known None None = refl

-- both are true
both_true : (left right : Option Value) → is_true (boolean_of And left right) ≡ both_bits (is_true left) (is_true right)
both_true left right =
    true_of_row (both (option_map truth_of left) (option_map truth_of right)) ∙ both_known (option_map truth_of left) (option_map truth_of right)
    ∙ sym (λ i. both_bits (true_as_known left i) (true_as_known right i))

pub both_truths : (lefts rights : List (Option Value)) → truths_of (zip_rows (boolean_of And) lefts rights) ≡ zip_rows both_bits (truths_of lefts) (truths_of rights)
both_truths [] rights = refl
both_truths (left ∷ lefts) [] = refl
both_truths (left ∷ lefts) (right ∷ rights) = let here = both_true left right in let rest = both_truths lefts rights in (λ i. here i ∷ rest i)

-- a test of rows as bits
pub tested_truths : (all : List (Option Value)) → truths_of (map valid_test all) ≡ map is_some all
tested_truths [] = refl
tested_truths (row ∷ all) = ap (λ (bits : List Bool). is_some row ∷ bits) (tested_truths all)

-- bits stay where no row is null
kept_bit : (bit : Bool) → bit ≡ both_bits bit true
kept_bit true = refl
kept_bit false = refl

nulls_more : (row : Option Value) (all : List (Option Value)) → count_by is_none (row ∷ all) ≡ cond (is_none row) 1 0 + count_by is_none all
nulls_more row all = sum_by-cons (λ (r : Option Value). cond (is_none r) 1 0) row all

pub kept_bits : (bits : List Bool) (all : List (Option Value)) → length bits ≡ length all → count_by is_none all ≡ 0 → bits ≡ zip_rows both_bits bits (map is_some all)
kept_bits [] all same none = refl
kept_bits (bit ∷ bits) [] same none = absurd (omega (arith, same))
kept_bits (bit ∷ bits) (None ∷ all) same none = absurd (omega (arith, sym (nulls_more None all) ∙ none))
kept_bits (bit ∷ bits) (Some row ∷ all) same none =
    let rest = kept_bits bits all (omega (arith, same)) (omega (arith, sym (nulls_more (Some row) all) ∙ none)) in
    let here = kept_bit bit in
    (λ i. here i ∷ rest i)

-- ---- one column more

across_more : (columns : List (List (Option Value))) (more : List (Option Value)) (place : ℕ) → both_bits (is_valid_across columns place) (is_some (row_at more place)) ≡ is_valid_across (columns ++ more ∷ []) place
across_more columns more place =
    let split : row_across (columns ++ more ∷ []) place ≡ row_across columns place ++ row_at more place ∷ [] = map-append (λ (all : List (Option Value)). row_at all place) columns (more ∷ []) in
    sym (ap (list_all is_some) split ∙ list_all-append is_some (row_across columns place) (row_at more place ∷ []) ∙ ap (both_bits (is_valid_across columns place)) (sym (kept_bit (is_some (row_at more place)))))

places_more : (columns : List (List (Option Value))) (more : List (Option Value)) (places : List ℕ)
    → zip_rows both_bits (map (is_valid_across columns) places) (map is_some (map (row_at more) places)) ≡ map (is_valid_across (columns ++ more ∷ [])) places
places_more columns more [] = refl
places_more columns more (place ∷ places) = let here = across_more columns more place in let rest = places_more columns more places in (λ i. here i ∷ rest i)

rows_by_place : (more : List (Option Value)) (count : ℕ) → length more ≡ count → more ≡ map (row_at more) (range_with_len 0 count)
rows_by_place more count long = fill_by_all (row_at more) more count None long (λ k below. refl)

pub valid_more : (columns : List (List (Option Value))) (more : List (Option Value)) (count : ℕ) → length more ≡ count → zip_rows both_bits (valid_places columns count) (map is_some more) ≡ valid_places (columns ++ more ∷ []) count
valid_more columns more count long =
    ap (λ (all : List (Option Value)). zip_rows both_bits (valid_places columns count) (map is_some all)) (rows_by_place more count long) ∙ places_more columns more (range_with_len 0 count)

-- of the columns of a table
pub masked_more : {A : Type 0} (columns : List (TypedColumn A)) (count k : ℕ) (column : TypedColumn A) (bits made : List Bool) → length (rows column.array) ≡ count → k < length columns → column ≡ get_or columns k column
    → bits ≡ valid_places (map (λ (c : TypedColumn A). rows c.array) (take k columns)) count → made ≡ zip_rows both_bits bits (map is_some (rows column.array))
    → made ≡ valid_places (map (λ (c : TypedColumn A). rows c.array) (take (k + 1) columns)) count
masked_more {A} columns count k column bits made counted within here before zipped =
    let shown = λ (c : TypedColumn A). rows c.array in
    let more : take (k + 1) columns ≡ take k columns ++ column ∷ [] = take_more columns k column within ∙ ap (λ (last : TypedColumn A). take k columns ++ last ∷ []) (sym here) in
    let joined : map shown (take (k + 1) columns) ≡ map shown (take k columns) ++ rows column.array ∷ [] = ap (map shown) more ∙ map-append shown (take k columns) (column ∷ []) in
    zipped ∙ ap (λ (b : List Bool). zip_rows both_bits b (map is_some (rows column.array))) before ∙ valid_more (map shown (take k columns)) (rows column.array) count counted
    ∙ sym (ap (λ (all : List (List (Option Value))). valid_places all count) joined)

-- a mask has a row for each place
pub mask_long : (mask : List (Option Value)) (columns : List (List (Option Value))) (count : ℕ) → truths_of mask ≡ valid_places columns count → length mask ≡ count
mask_long mask columns count truths = sym (length-map mask is_true) ∙ ap length truths ∙ length-map-range_with_len (is_valid_across columns) 0 count

-- bits as rows
pub bits_shown : (bits : List Bool) → truths_of (single_rows (OfTruths (bool_with bits NeverNull))) ≡ bits
bits_shown [] = refl
bits_shown (bit ∷ bits) = ap (λ (rest : List Bool). bit ∷ rest) (bits_shown bits)

-- one row more that is looked at
pub looked_more : (all : List (Option Value)) (bits next : List Bool) (k : ℕ) (bit : Bool) → k < length all → bit ≡ is_some (slice_index_or all k None) → bits ≡ map is_some (take k all) → next ≡ bits ++ bit ∷ []
    → next ≡ map is_some (take (k + 1) all)
looked_more all bits next k bit within is before pushed =
    pushed ∙ (λ i. before i ++ is i ∷ []) ∙ sym (ap (map is_some) (take_more all k None within) ∙ map-append is_some (take k all) (get_or all k None ∷ []))
