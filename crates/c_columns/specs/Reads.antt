-- What C reads of columns.
use Rattle.std.specs.Prelude.{◌≡◌, ℕ, ◌+◌, ◌-◌, ◌<◌, ◌≤◌, ℤ, pos, List, [], length, map, slice_range, slice_index_or, Option, Some, option_map}
use Rattle.std.specs.List.{flat_map}
use Rattle.column_base.specs.ValidityForm.{flags}
use Rattle.column_base.specs.Words.{Packs}
use Rattle.column_core.specs.Leaf.{OfNumbers, OfTruths, OfDecimals, OfVarBins, Leaf, leaf_validity, leaf_count}
use Rattle.column_core.specs.VarBinForm.{VarBinForm, varbin_rows}
use Rattle.column_core.specs.Value.{Value, Single, Text, Bytes}
use Rattle.runend_array.specs.Canonical.{IsFlatPart}
use Rattle.runend_array.specs.Column.{Column, OfLeaf, OfConstant, OfLists, OfRuns, column_rows}
use Rattle.c_columns.specs.Pairs.{number_in, zero_pair}
use Rattle.c_columns.specs.declared.pairs.Pair.{Pair}

-- `count` rows from row `start` on are there, and this is read of a flat column of them
pub record AreReadFlat (c : Column) (start count : ℕ) (Read : Leaf → Type 0) : Type 0 where
  pub leaf : Leaf
  pub there : start + count ≤ length (column_rows c)
  pub part : IsFlatPart c start (start + count) (OfLeaf leaf)
  pub read : Read leaf

-- the numbers that a flat column stores from a row on, each of which is there
abbrev pub AreStoredNumbers : Leaf → ℕ → List ℤ → Type 0
AreStoredNumbers (OfNumbers form) start numbers = (start + length numbers ≤ length form.numbers) × (numbers ≡ slice_range form.numbers start (start + length numbers))
AreStoredNumbers leaf start numbers = ⊥

-- the numbers of a column from a row on: of one that is not flat, as its rows are stored flat
abbrev pub AreNumbersFrom : Column → ℕ → List ℤ → Type 0
AreNumbersFrom (OfLeaf leaf) start numbers = AreStoredNumbers leaf start numbers
AreNumbersFrom c start numbers = AreReadFlat c start (length numbers) (λ leaf. AreStoredNumbers leaf 0 numbers)

-- the decimals that a flat column stores from a row on, each of which is there
abbrev pub AreStoredPairs : Leaf → ℕ → List Pair → Type 0
AreStoredPairs (OfDecimals form) start pairs =
    (start + length pairs ≤ length form.numbers) × ((k : ℕ) → k < length pairs → number_in (slice_index_or pairs k zero_pair) ≡ slice_index_or form.numbers (start + k) (pos 0))
AreStoredPairs leaf start pairs = ⊥

abbrev pub ArePairsFrom : Column → ℕ → List Pair → Type 0
ArePairsFrom (OfLeaf leaf) start pairs = AreStoredPairs leaf start pairs
ArePairsFrom c start pairs = AreReadFlat c start (length pairs) (λ leaf. AreStoredPairs leaf 0 pairs)

-- the words of the booleans that a flat column stores
abbrev pub AreLeafTruths : Leaf → List ℕ → Type 0
AreLeafTruths (OfTruths form) words = Packs words form.bits
AreLeafTruths leaf words = ⊥

abbrev pub AreTruthWords : Column → List ℕ → Type 0
AreTruthWords (OfLeaf leaf) words = AreLeafTruths leaf words
AreTruthWords c words = ⊥

-- those of a number of rows from a row on
abbrev pub AreTruthWordsFrom : Column → ℕ → ℕ → List ℕ → Type 0
AreTruthWordsFrom c start count words = AreReadFlat c start count (λ leaf. AreLeafTruths leaf words)

-- the words of the validity of a flat column
abbrev pub AreLeafFlags : Leaf → List ℕ → Type 0
AreLeafFlags leaf words = Packs words (flags (leaf_validity leaf) (leaf_count leaf))

abbrev pub AreValidityWords : Column → List ℕ → Type 0
AreValidityWords (OfLeaf leaf) words = AreLeafFlags leaf words
AreValidityWords c words = ⊥

abbrev pub AreValidityWordsFrom : Column → ℕ → ℕ → List ℕ → Type 0
AreValidityWordsFrom c start count words = AreReadFlat c start count (λ leaf. AreLeafFlags leaf words)

-- the rows of a flat column of texts or bytes
abbrev pub text_rows : VarBinForm → List (Option Value)
text_rows form = map (option_map Single) (varbin_rows form)

-- the bytes of a text or of bytes; of null, and of all else, none
abbrev pub bytes_of : Option Value → List ℕ
bytes_of (Some (Single (Text bytes))) = bytes
bytes_of (Some (Single (Bytes bytes))) = bytes
bytes_of value = []

-- those of all rows, one after the other
abbrev pub bytes_of_rows : List (Option Value) → List ℕ
bytes_of_rows rows = flat_map bytes_of rows

-- how many they are
abbrev pub size_of_rows : List (Option Value) → ℕ
size_of_rows rows = length (bytes_of_rows rows)

-- how many bytes the rows from `start` to `stop - 1` have
abbrev pub size_between : VarBinForm → ℕ → ℕ → ℕ
size_between form start stop = size_of_rows (slice_range (text_rows form) start stop)

-- offset k is how many bytes the first k rows from a row on have: there is one more than rows, each of which is there
abbrev pub AreStoredOffsets : Leaf → ℕ → List ℤ → Type 0
AreStoredOffsets (OfVarBins form) start offsets =
    (0 < length offsets) × (start + (length offsets - 1) ≤ length form.views) × ((k : ℕ) → k < length offsets → slice_index_or offsets k (pos 0) ≡ pos (size_between form start (start + k)))
AreStoredOffsets leaf start offsets = ⊥

abbrev pub AreOffsetsFrom : Column → ℕ → List ℤ → Type 0
AreOffsetsFrom (OfLeaf leaf) start offsets = AreStoredOffsets leaf start offsets
AreOffsetsFrom c start offsets = AreReadFlat c start (length offsets - 1) (λ leaf. AreStoredOffsets leaf 0 offsets)

-- the bytes of a number of rows from a row on, each of which is there
abbrev pub AreStoredBytes : Leaf → ℕ → ℕ → List ℕ → Type 0
AreStoredBytes (OfVarBins form) start count bytes = (start + count ≤ length form.views) × (bytes ≡ bytes_of_rows (slice_range (text_rows form) start (start + count)))
AreStoredBytes leaf start count bytes = ⊥

abbrev pub AreBytesFrom : Column → ℕ → ℕ → List ℕ → Type 0
AreBytesFrom (OfLeaf leaf) start count bytes = AreStoredBytes leaf start count bytes
AreBytesFrom c start count bytes = AreReadFlat c start count (λ leaf. AreStoredBytes leaf 0 count bytes)

-- the values of a run column
abbrev pub AreRunValuesOf : Column → Column → Type 0
AreRunValuesOf (OfRuns ends_type ends values offset count) d = d ≡ values
AreRunValuesOf c d = ⊥

-- the number of a form: 0 flat, 1 a constant, 2 lists, 3 runs
abbrev pub form_number : Column → ℕ
form_number (OfLeaf leaf) = 0
form_number (OfConstant constant) = 1
form_number (OfLists lists) = 2
form_number (OfRuns ends_type ends values offset count) = 3

-- how many rows of the runs lie before the window
abbrev pub offset_in : Column → ℕ
offset_in (OfRuns ends_type ends values offset count) = offset
offset_in c = 0
