-- Runs that are found to fit the header of their values are runs over each column with that header.
use Rattle.std.proofs.Common.{◌≡◌, ℕ, ◌^◌, ◌<◌, true, List, ◌++◌, length, refl, sym, subst, ◌∙◌}
use Rattle.std.proofs.lemmas.List.{length-map, length-replicate}
use Rattle.column_base.specs.declared.dtype.PType.{PType}
use Rattle.column_core.specs.Value.{FlatValue, Single}
use Rattle.std.specs.Prelude.{option_map}
use Rattle.column_core.specs.Leaf.{Leaf, OfNumbers, OfTruths, OfDecimals, OfVarBins, leaf_rows, leaf_count}
use Rattle.column_core.proofs.OptionalRows.{length-primitive_rows, length-bool_rows, length-decimal_rows, length-varbin_rows}
use Rattle.column_fields.specs.Header.{header_bytes, HasNoHeader}
use Rattle.column_fields.specs.Lengths.{lengths_bytes, Rises, AreEndsOf, HasNoEndsOf}
use Rattle.column_fields.proofs.EndReading.{lengths_same}
use Rattle.runend_windows.specs.Window.{IsWindow}
use Rattle.runend_windows.proofs.RunRows.{length-run_rows}
use Rattle.runend_array.proofs.ListRows.{length-list_rows}
use Rattle.runend_array.specs.Column.{Column, OfLeaf, OfConstant, OfLists, OfRuns, column_rows, column_dtype}
use Rattle.column_bytes.specs.Bytes.{kind_number, column_count}
use Rattle.column_bytes.specs.Stored.{IsStored, IsStoredLeaf}
use Rattle.column_bytes.specs.Read.{IsMessage, JoinsRuns, JoinsNoRuns}
use Rattle.column_bytes.proofs.Ends.{ends_rise}
use Rattle.column_bytes.proofs.Messages.{body_of, no_header, no_ends}

-- ---- a message has as many rows as its header says

pub leaf_counted : (leaf : Leaf) → IsStoredLeaf leaf → length (leaf_rows leaf) ≡ leaf_count leaf
leaf_counted (OfNumbers form) s = length-primitive_rows form s.counted
leaf_counted (OfTruths form) s = length-bool_rows form s.counted
leaf_counted (OfDecimals form) s = length-decimal_rows form s.counted
leaf_counted (OfVarBins form) s = length-varbin_rows form s.are.counted

pub rows_counted : (c : Column) → IsStored c → length (column_rows c) ≡ column_count c
rows_counted (OfLeaf leaf) s = length-map (leaf_rows leaf) (option_map (λ (v : FlatValue). Single v)) ∙ leaf_counted leaf s
rows_counted (OfConstant constant) s = length-replicate constant.count (option_map (λ (v : FlatValue). Single v) constant.value)
rows_counted (OfLists lists) s = length-list_rows lists
rows_counted (OfRuns t ends values offset count) s = length-run_rows ends (column_rows values) offset count

-- the values, of which this is the header
module _ (kind form rows : ℕ) (bytes rest : List ℕ) (k-small : kind < 2 ^ 64) (f-small : form < 2 ^ 64) (r-small : rows < 2 ^ 64) (b : bytes ≡ header_bytes kind form rows ++ rest) where
  kind_read : (levels : ℕ) (v : Column) → IsMessage levels bytes v → kind_number (column_dtype v) ≡ kind
  kind_read levels v m = (body_of levels kind form rows bytes rest v k-small f-small r-small b m).kind_is

  rows_read : (levels : ℕ) (v : Column) → IsMessage levels bytes v → length (column_rows v) ≡ rows
  rows_read levels v m = rows_counted v m.writable.stored ∙ (body_of levels kind form rows bytes rest v k-small f-small r-small b m).rows_is

  pub other_kind : (stated count offset : ℕ) (t : PType) (lengths : List ℕ) → (kind ≡ stated → ⊥) → JoinsNoRuns stated count offset t lengths bytes
  other_kind stated count offset t lengths other = record {
    none = λ levels v m. record { none = λ c r. other (sym (kind_read levels v m) ∙ r.kind_is) };
  }

  -- a window that these values fill
  pub joined : (stated count offset : ℕ) (t : PType) (lengths : List ℕ) (s : (ends : List ℕ) × AreEndsOf t ends × (lengths ≡ lengths_bytes 0 ends)) → kind ≡ stated → IsWindow s.0 offset count × (rows ≡ length s.0) → JoinsRuns stated count offset t lengths bytes
  joined stated count offset t lengths s is w = record {
    some = λ levels v m. (
      OfRuns t s.0 v offset count,
      record {
        ends = s.0;
        is = refl;
        fit = s.1;
        runs = record { window = w.0; paired = rows_read levels v m ∙ w.1 };
        kind_is = kind_read levels v m ∙ is;
        spelt = s.2;
      },
    );
  }

  pub not_joined : (stated count offset : ℕ) (t : PType) (lengths ends : List ℕ) → Rises true 0 ends → lengths ≡ lengths_bytes 0 ends → ¬ (IsWindow ends offset count × (rows ≡ length ends)) → JoinsNoRuns stated count offset t lengths bytes
  not_joined stated count offset t lengths ends rise l absent = record {
    none = λ levels v m. record {
      none = λ c r.
          let same : r.ends ≡ ends = lengths_same true 0 r.ends ends (ends_rise t r.ends v offset count r.fit r.runs) rise (sym r.spelt ∙ l) in
          absent (subst (λ (x : List ℕ). IsWindow x offset count × (rows ≡ length x)) same (r.runs.window, sym (rows_read levels v m) ∙ r.runs.paired));
    };
  }

pub no_values_header : (bytes : List ℕ) (stated count offset : ℕ) (t : PType) (lengths : List ℕ) → HasNoHeader bytes → JoinsNoRuns stated count offset t lengths bytes
no_values_header bytes stated count offset t lengths absent = record { none = λ levels v m. record { none = λ c r. (no_header levels bytes absent).none v m } }

pub no_span : (bytes : List ℕ) (stated count offset : ℕ) (t : PType) (lengths : List ℕ) → HasNoEndsOf t lengths → JoinsNoRuns stated count offset t lengths bytes
no_span bytes stated count offset t lengths absent = record { none = λ levels v m. no_ends stated count offset t lengths v absent }
