-- Groups of two columns in handles: what is made of them, and how the call ends.
use Rattle.std.specs.Prelude.{◌≡◌, ◌⊎◌, ℕ, zero, suc, ℤ, pos, List, [], length, map, Option, Some, None}
use Rattle.std.specs.Global.{Global}
use Rattle.column_base.specs.declared.dtype.DType.TheVariants as column
use Rattle.column_base.specs.declared.dtype.Nullability.TheVariants.{Nullable}
use Rattle.column_base.specs.declared.error.VortexError.{VortexError}
use Rattle.column_core.specs.Computed.{IsComputed, IsComputedLeaf}
use Rattle.column_core.specs.Leaf.{Leaf, OfNumbers, leaf_dtype, single_rows}
use Rattle.column_core.specs.PrimitiveForm.{PrimitiveForm, optional_numbers, primitive_dtype}
use Rattle.column_sums.specs.SumAnswer.{number_in}
use Rattle.runend_array.specs.Array.{column_of, dtype_of, rows}
use Rattle.runend_array.specs.Column.{OfLeaf}
use Rattle.runend_array.specs.declared.array_ref.ArrayRef.{ArrayRef}
use Rattle.runend_pairs.specs.GroupAnswers.{answer_of, answer_ptype}
use Rattle.runend_pairs.specs.GroupFaults.{groups_fault, large_group}
use Rattle.runend_pairs.specs.Groups.{AreGroupAnswers}
use Rattle.runend_pairs.specs.declared.group_fault.GroupError.{GroupError}
use Rattle.runend_pairs.specs.declared.group_fault.GroupError.TheVariants.{Refused, SumOverflow}
use Rattle.runend_pairs.specs.declared.group_fold.GroupFold.{GroupFold}
use Rattle.runend_pairs.specs.declared.group_fold.GroupFold.TheVariants.{Sum, Rows, Count, Least, Greatest, First, Last}
use Rattle.runend_windows.specs.Cover.{IsTightCover}
use Rattle.c_columns.specs.Ending.{AreFields, EndsBy, IsRefusedAs}
use Rattle.c_columns.specs.declared.error_fields.ErrorFields.{ErrorFields}

-- the fold of a number, from 0 to 6
abbrev pub fold_numbered : ℕ → Option GroupFold
fold_numbered zero = Some Sum
fold_numbered (suc zero) = Some Rows
fold_numbered (suc (suc zero)) = Some Count
fold_numbered (suc (suc (suc zero))) = Some Least
fold_numbered (suc (suc (suc (suc zero)))) = Some Greatest
fold_numbered (suc (suc (suc (suc (suc zero))))) = Some First
fold_numbered (suc (suc (suc (suc (suc (suc zero)))))) = Some Last
fold_numbered (suc (suc (suc (suc (suc (suc (suc k))))))) = None

-- the format of the answers over values of this format: a row keeps it, and a sum or a count has none
abbrev pub answer_format : GroupFold → List ℕ → List ℕ
answer_format Sum format = []
answer_format Rows format = []
answer_format Count format = []
answer_format Least format = format
answer_format Greatest format = format
answer_format First format = format
answer_format Last format = format

-- two flat columns: the keys of the groups of rows with equal neighbouring keys, and the answer for each
pub record AreGroups (fold : GroupFold) (keys values made_keys made_answers : ArrayRef Global) : Type 0 where
  pub ends : List ℕ
  pub leaf : Leaf
  pub numbers : PrimitiveForm
  pub keys_form : column_of made_keys ≡ OfLeaf leaf
  pub cover : IsTightCover (rows keys) ends (single_rows leaf)
  pub keys_dtype : leaf_dtype leaf ≡ dtype_of keys
  pub keys_computed : IsComputedLeaf leaf
  pub form : column_of made_answers ≡ OfLeaf (OfNumbers numbers)
  pub answers : AreGroupAnswers (answer_of fold) ends (map number_in (rows values)) (optional_numbers numbers)
  pub dtype : primitive_dtype numbers ≡ column.Primitive (answer_ptype fold (dtype_of values)) Nullable
  pub computed : IsComputed numbers

-- the columns of handles are groups in this way
abbrev pub AreMade : GroupFold → Option (ArrayRef Global) → Option (ArrayRef Global) → Option (ArrayRef Global) → Option (ArrayRef Global) → Type 0
AreMade fold (Some keys) (Some values) (Some made_keys) (Some made_answers) = AreGroups fold keys values made_keys made_answers
AreMade fold keys values made_keys made_answers = ⊥

-- why two columns are not grouped
abbrev pub group_fault : ArrayRef Global → ArrayRef Global → Option VortexError
group_fault keys values = groups_fault (dtype_of keys) (dtype_of values) (length (rows keys)) (length (rows values))

-- the first group whose sum does not fit 64 bits
abbrev pub large_in : GroupFold → ArrayRef Global → ArrayRef Global → ℕ → Type 0
large_in fold keys values group = large_group fold (dtype_of values) (rows keys) (map number_in (rows values)) group

-- a refusal by its number and its fields: with 14, and the group as the first field, for a sum that does not fit
abbrev pub IsToldAs : GroupError → ℤ → ErrorFields → Type 0
IsToldAs (Refused error) code fields = IsRefusedAs error code fields
IsToldAs (SumOverflow group) code fields = (code ≡ pos 14) × AreFields fields group 0 0

-- groups are refused with the first of them whose sum does not fit
pub record EndsByLarge (fold : GroupFold) (keys values : ArrayRef Global) (code : ℤ) (fields : ErrorFields) : Type 0 where
  pub group : ℕ
  pub none : group_fault keys values ≡ None
  pub large : large_in fold keys values group
  pub told : IsToldAs (SumOverflow group) code fields

-- how the call ends: with 22 where one of the two handles is empty
abbrev pub EndsOnGroups : GroupFold → Option (ArrayRef Global) → Option (ArrayRef Global) → ℤ → ErrorFields → Type 0
EndsOnGroups fold None values code fields = code ≡ pos 22
EndsOnGroups fold (Some keys) None code fields = code ≡ pos 22
EndsOnGroups fold (Some keys) (Some values) code fields = EndsBy (group_fault keys values) code fields ⊎ EndsByLarge fold keys values code fields
