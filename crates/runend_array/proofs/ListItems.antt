-- Offsets, sizes and flags of lists, as they are read.
use Rattle.std.proofs.Common.{◌≡◌, ◌≤◌, ◌<◌, ℕ, ℤ, pos, List, map, length, get_or, refl, sym, ◌∙◌, ap, arith}
use Rattle.std.specs.Prelude.{slice_index, unsigned_abs, option_map}
use Rattle.std.proofs.lemmas.List.{length-map}
use Rattle.std.proofs.lemmas.Option.{slice_get_read, get_or_from_slice_get}
use Rattle.column_base.specs.declared.dtype.PType.TheVariants.{U64}
use Rattle.column_base.specs.declared.dtype.Nullability.{Nullability}
use Rattle.column_base.specs.declared.dtype.Nullability.TheVariants.{NonNullable}
use Rattle.column_base.specs.declared.dtype.DType.TheVariants as column
use Rattle.column_core.specs.declared.varbinview.VarBinKind.{VarBinKind}
use Rattle.column_core.specs.declared.varbinview.VarBinKind.TheVariants.{Utf8, Binary}
use Rattle.column_core.specs.Value.{FlatValue, Single}
use Rattle.column_core.specs.VarBinForm.{kind_dtype}
use Rattle.column_core.specs.PrimitiveForm.{primitive_rows}
use Rattle.column_core.specs.BoolForm.{bool_rows}
use Rattle.column_core.specs.Leaf.{OfNumbers, OfTruths, OfDecimals, OfVarBins}
use Rattle.column_core.proofs.OptionalRows.{rows_within_numbers, rows_within_bits}
use Rattle.runend_array.specs.Column.{Column, OfLeaf, OfConstant, OfLists, OfRuns, IsPlainIndex, IsPlainTruths, column_rows, end_numbers, truths_of}
use Rattle.runend_windows.proofs.StoredNumbers.{naturals-of_pos}

-- a number of a flat column of unsigned numbers, as it is read
pub number-read : (stored : List ℤ) (items : List ℕ) (i n : ℕ) → map (λ (k : ℕ). pos k) items ≡ stored → i < length (map unsigned_abs stored) → n ≡ get_or items i n
    → n ≡ slice_index (map unsigned_abs stored) i
number-read stored items i n is within read =
    let same : map unsigned_abs stored ≡ items = ap (map unsigned_abs) (sym is) ∙ naturals-of_pos items in
    let here = slice_get_read items (length items) i n refl (rw same at within) read in
    sym (ap (λ (xs : List ℕ). slice_index xs i) same ∙ get_or_from_slice_get items i n 0 here)

-- texts and bytes are neither numbers nor booleans
kind-no_index : (kind : VarBinKind) (n : Nullability) → ¬ (kind_dtype kind n ≡ column.Primitive U64 NonNullable)
kind-no_index Utf8 n e = cc
kind-no_index Binary n e = cc

kind-no_truths : (kind : VarBinKind) (n : Nullability) → ¬ (kind_dtype kind n ≡ column.Bool NonNullable)
kind-no_truths Utf8 n e = cc
kind-no_truths Binary n e = cc

-- a flat column of offsets or sizes has no more rows than numbers
pub rows_within_index : (c : Column) → IsPlainIndex c → length (column_rows c) ≤ length (end_numbers c)
rows_within_index (OfLeaf (OfNumbers form)) h =
    omega (arith, length-map (primitive_rows form) (option_map (λ (v : FlatValue). Single v)), rows_within_numbers form, length-map form.numbers unsigned_abs)
rows_within_index (OfLeaf (OfTruths form)) h = cc
rows_within_index (OfLeaf (OfDecimals form)) h = cc
rows_within_index (OfLeaf (OfVarBins form)) h = absurd (kind-no_index form.kind _ h)
rows_within_index (OfConstant constant) h = absurd h
rows_within_index (OfLists lists) h = absurd h
rows_within_index (OfRuns ends_type ends values offset count) h = absurd h

-- a flat column of booleans has no more rows than bits
pub rows_within_truths : (c : Column) → IsPlainTruths c → length (column_rows c) ≤ length (truths_of c)
rows_within_truths (OfLeaf (OfNumbers form)) h = cc
rows_within_truths (OfLeaf (OfTruths form)) h = omega (arith, length-map (bool_rows form) (option_map (λ (v : FlatValue). Single v)), rows_within_bits form)
rows_within_truths (OfLeaf (OfDecimals form)) h = cc
rows_within_truths (OfLeaf (OfVarBins form)) h = absurd (kind-no_truths form.kind _ h)
rows_within_truths (OfConstant constant) h = absurd h
rows_within_truths (OfLists lists) h = absurd h
rows_within_truths (OfRuns ends_type ends values offset count) h = absurd h
