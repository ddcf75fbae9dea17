-- Groups as the runs of a column.
use Rattle.std.proofs.Common.{◌≡◌, ◌∙◌, ◌+◌, ◌<◌, ℕ, ℤ, pos, List, [], ◌∷◌, Bool, true, Option, Some, None, ap, arith, get_or, inl, inr, length, map, refl, subst, sym}
use Rattle.std.specs.Prelude.{Err, IfErr, IsErrAnd, Ok, Result, if◌then◌else◌, slice_index}
use Rattle.std.specs.Option.{option_or}
use Rattle.std.proofs.lemmas.Bool.Decides.{Decides-eqb}
use Rattle.std.proofs.lemmas.List.{get_or-map, length-map}
use Rattle.column_base.specs.Types.{HasNumber}
use Rattle.column_base.specs.declared.dtype.DType.{DType}
use Rattle.column_base.specs.declared.dtype.DType.TheVariants as column
use Rattle.column_base.specs.declared.dtype.Nullability.TheVariants.{NonNullable}
use Rattle.column_base.specs.declared.dtype.PType.TheVariants.{U64}
use Rattle.column_base.specs.declared.error.VortexError.{VortexError}
use Rattle.column_base.specs.declared.error.VortexError.TheVariants.{ColumnLength, Unsupported}
use Rattle.column_core.specs.Kinds.{is_numbers}
use Rattle.column_core.specs.Leaf.{Leaf, OfNumbers, single_rows}
use Rattle.column_core.specs.PrimitiveForm.{PrimitiveForm}
use Rattle.column_core.specs.Value.{Number, Single, Value}
use Rattle.column_ops.specs.CompareFault.{length_fault}
use Rattle.runend_array.specs.Column.{AreParts, OfLeaf, Runs, column_of_runs, column_rows, runs_of}
use Rattle.runend_encode.specs.Encoding.{IsRowEncoding}
use Rattle.runend_pairs.specs.GroupAnswers.{IsGiven, answer_of}
use Rattle.runend_pairs.specs.GroupFaults.{IsFirstLarge, IsFoldRefusal, IsGroupRefusal, groups_fault, large_group}
use Rattle.runend_pairs.specs.Sums.{sum_of, summed_ptype}
use Rattle.runend_pairs.specs.declared.group_fault.GroupError.{GroupError}
use Rattle.runend_pairs.specs.declared.group_fault.GroupError.TheVariants.{Refused, SumOverflow}
use Rattle.runend_pairs.specs.declared.group_fold.GroupFold.{GroupFold}
use Rattle.runend_pairs.specs.declared.group_fold.GroupFold.TheVariants.{Sum, Rows, Count, Least, Greatest, First, Last}
use Rattle.runend_windows.specs.Cover.{Covers, IsTightCover}
use Rattle.runend_windows.specs.Ends.{ends_of}
use Rattle.runend_windows.specs.Window.{IsWindow, run_rows}
use Rattle.runend_windows.proofs.RunRows.{Covers-run_rows, length-run_rows}
use Rattle.runend_windows.proofs.StoredNumbers.{naturals-of_pos}
use Rattle.runend_windows.proofs.Tiles.{unique_tight_cover}
use Rattle.row_groups.specs.Folded.{end_rows, stored_ends}
use Rattle.row_groups.specs.Groups.{AreEndsOf}
use Rattle.row_groups.proofs.Changes.{ascend}

-- what is stored shows the names
pub rows_stored : (ends : List ℕ) → single_rows (OfNumbers (stored_ends ends)) ≡ end_rows ends
rows_stored [] = refl
rows_stored (end ∷ ends) = ap (λ (rows : List (Option Value)). Some (Single (Number (pos end))) ∷ rows) (rows_stored ends)

-- its ends are these
pub ends_stored : (ends : List ℕ) → ends_of (stored_ends ends) ≡ ends
ends_stored ends = naturals-of_pos ends

-- both are the parts of a run column
named_parts : (ends : List ℕ) (count : ℕ) → AreEndsOf count ends → AreParts (OfLeaf (OfNumbers (stored_ends ends))) (OfLeaf (OfNumbers (stored_ends ends))) 0 count
named_parts ends count whole = record {
  plain = tt;
  runs = record {
    window = subst (λ (es : List ℕ). IsWindow es 0 count) (sym (ends_stored ends)) whole.window;
    paired = ap length (rows_stored ends) ∙ length-map ends (λ (end : ℕ). Some (Single (Number (pos end)))) ∙ sym (ap length (ends_stored ends));
  };
}

module _ (stops values : PrimitiveForm) (ends : List ℕ) (count : ℕ) (stopped : stops ≡ stored_ends ends) (named : values ≡ stored_ends ends) where
  pub key_parts : AreEndsOf count ends → AreParts (OfLeaf (OfNumbers stops)) (OfLeaf (OfNumbers values)) 0 count
  key_parts whole =
      subst (λ (s : PrimitiveForm). AreParts (OfLeaf (OfNumbers s)) (OfLeaf (OfNumbers values)) 0 count) (sym stopped)
      (subst (λ (v : PrimitiveForm). AreParts (OfLeaf (OfNumbers (stored_ends ends))) (OfLeaf (OfNumbers v)) 0 count) (sym named) (named_parts ends count whole))

  -- with the end of its group in each row
  pub key_rows : (runs : Runs) → runs ≡ runs_of (OfLeaf (OfNumbers stops)) (OfLeaf (OfNumbers values)) 0 count → column_rows (column_of_runs runs) ≡ run_rows ends (end_rows ends) 0 count
  key_rows runs held =
      ap (λ (r : Runs). column_rows (column_of_runs r)) held
      ∙ ap (λ (s : PrimitiveForm). run_rows (ends_of s) (single_rows (OfNumbers values)) 0 count) stopped
      ∙ ap (λ (v : PrimitiveForm). run_rows (ends_of (stored_ends ends)) (single_rows (OfNumbers v)) 0 count) named
      ∙ ap (λ (es : List ℕ). run_rows es (single_rows (OfNumbers (stored_ends ends))) 0 count) (ends_stored ends)
      ∙ ap (λ (vs : List (Option Value)). run_rows ends vs 0 count) (rows_stored ends)

-- two rows differ where the ends do
same_names : (a b : ℕ) → ◌≡◌ {A = Option Value} (Some (Single (Number (pos a)))) (Some (Single (Number (pos b)))) → a ≡ b
same_names a b same = cc

-- so the column has one run for each group
pub named_cover : (ends : List ℕ) (count : ℕ) → AreEndsOf count ends → IsTightCover (run_rows ends (end_rows ends) 0 count) ends (end_rows ends)
named_cover ends count whole =
    let names = end_rows ends in
    let name_of = λ (end : ℕ). Some (Single (Number (pos end))) in
    let paired : length names ≡ length ends = length-map ends name_of in
    let long : length (run_rows ends names 0 count) ≡ count = length-run_rows ends names 0 count in
    record {
      covers = subst (λ (n : ℕ). Covers (run_rows ends names 0 count) ends names 0 n) (sym long) (Covers-run_rows ends names 0 count whole.window paired);
      exact = record { start = refl; stop = whole.stop ∙ sym long };
      tight = record {
        filled = whole.filled;
        differ = λ k d next same.
            let here : k < length ends = omega (arith, next, paired) in
            let later : k + 1 < length ends = omega (arith, next, paired) in
            let up = ascend ends k (k + 1) whole.window.increasing (omega arith) later in
            let left : get_or names k d ≡ name_of (slice_index ends k) = get_or-map name_of ends k 0 d here in
            let right : get_or names (k + 1) d ≡ name_of (slice_index ends (k + 1)) = get_or-map name_of ends (k + 1) 0 d later in
            let equal = same_names (slice_index ends k) (slice_index ends (k + 1)) (sym left ∙ same ∙ right) in
            omega (arith, up, equal);
      };
    }

-- groups of its rows end where these do
pub found_ends : (rows : List (Option Value)) (dtype : DType) (form : PrimitiveForm) (values : Leaf) (ends : List ℕ) → IsRowEncoding rows dtype form values → IsTightCover rows ends (end_rows ends) → ends_of form ≡ ends
found_ends rows dtype form values ends encoded cover = (unique_tight_cover rows (ends_of form) ends (single_rows values) (end_rows ends) encoded.cover cover).0

-- values are folded by such keys
same_counts : (n : ℕ) → length_fault n n ≡ None
same_counts n = ap (λ (b : Bool). if b then None else Some (ColumnLength n n)) ((Decides-eqb n n).1 refl)

pub keys_fit : (keys values : DType) (key_count count : ℕ) → keys ≡ column.Primitive U64 NonNullable → is_numbers values ≡ true → key_count ≡ count → groups_fault keys values key_count count ≡ None
keys_fit keys values key_count count typed numbers same =
    ap (λ (t : DType). groups_fault t values key_count count) typed
    ∙ ap (λ (b : Bool). option_or (if b then None else Some Unsupported) (length_fault key_count count)) numbers
    ∙ ap (λ (n : ℕ). length_fault n count) same ∙ same_counts count

-- the first group whose sum is too large, of these groups
large_here : (fold : GroupFold) (t : DType) (keys : List (Option Value)) (ends : List ℕ) (values : List (Option ℤ)) (group : ℕ) → IsTightCover keys ends (end_rows ends) → large_group fold t keys values group
    → IsFirstLarge (IsGiven fold t) (answer_of fold) ends values group
large_here Sum t keys ends values group cover large =
    let same = (unique_tight_cover keys large.ends ends large.group_keys (end_rows ends) large.cover cover).0 in
    subst (λ (es : List ℕ). IsFirstLarge (HasNumber (summed_ptype t)) sum_of es values group) same large.first
large_here Rows t keys ends values group cover large = absurd large
large_here Count t keys ends values group cover large = absurd large
large_here Least t keys ends values group cover large = absurd large
large_here Greatest t keys ends values group cover large = absurd large
large_here First t keys ends values group cover large = absurd large
large_here Last t keys ends values group cover large = absurd large

-- so answers are refused as those of these groups
refused_here : (fault : Option VortexError) (fold : GroupFold) (t : DType) (keys : List (Option Value)) (ends : List ℕ) (values : List (Option ℤ)) (error : GroupError) → fault ≡ None → IsTightCover keys ends (end_rows ends)
    → IsGroupRefusal fault (large_group fold t keys values) error → IsFoldRefusal (IsGiven fold t) (answer_of fold) ends values error
refused_here fault fold t keys ends values (Refused error) none cover (inl short) = short
refused_here fault fold t keys ends values (Refused error) none cover (inr told) = let never : ◌≡◌ {A = Option VortexError} None (Some error) = sym none ∙ told in absurd (cc)
refused_here fault fold t keys ends values (SumOverflow group) none cover refused = large_here fold t keys ends values group cover refused.1

pub fold_refused : {T : Type 0} (result : Result T GroupError) (fault : Option VortexError) (fold : GroupFold) (t : DType) (keys : List (Option Value)) (ends : List ℕ) (values : List (Option ℤ)) (error : GroupError)
    → IsErrAnd result (λ passed. passed ≡ error) → fault ≡ None → IsTightCover keys ends (end_rows ends) → IsGroupRefusal fault (large_group fold t keys values) error → IfErr result (IsFoldRefusal (IsGiven fold t) (answer_of fold) ends values)
fold_refused (Ok value) fault fold t keys ends values error passed none cover refused = absurd passed
fold_refused (Err other) fault fold t keys ends values error passed none cover refused =
    subst (IsFoldRefusal (IsGiven fold t) (answer_of fold) ends values) (sym passed) (refused_here fault fold t keys ends values error none cover refused)
