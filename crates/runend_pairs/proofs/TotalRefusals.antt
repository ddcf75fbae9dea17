-- Which running totals are refused.
use Rattle.std.proofs.Common.{◌≡◌, ℕ, List, Option, None, inl, map}
use Rattle.column_base.specs.declared.dtype.DType.{DType}
use Rattle.column_base.specs.Types.{HasNumber}
use Rattle.column_core.specs.Value.{Value}
use Rattle.column_sums.specs.SumAnswer.{number_in}
use Rattle.runend_windows.specs.Cover.{IsTightCover}
use Rattle.runend_pairs.specs.GroupFaults.{numbers_fault}
use Rattle.runend_pairs.specs.Sums.{sum_of, summed_ptype}
use Rattle.runend_pairs.specs.Totals.{IsRunningRefusal, IsTotalRefusal}
use Rattle.runend_pairs.specs.declared.total_fault.TotalError.{TotalError}
use Rattle.runend_pairs.specs.declared.total_fault.TotalError.TheVariants.{Refused, Overflow}

-- runs that are refused are refused of the column
pub refused_totals : (dtype : DType) (rows : List (Option Value)) (ends : List ℕ) (values : List (Option Value)) (error : TotalError) → IsTightCover rows ends values → numbers_fault dtype ≡ None
    → IsRunningRefusal (HasNumber (summed_ptype dtype)) sum_of ends (map number_in rows) error → IsTotalRefusal dtype rows error
refused_totals dtype rows ends values (Refused error) cover none refused = inl refused
refused_totals dtype rows ends values (Overflow run) cover none refused = (none, record { ends = ends; values = values; cover = cover; first = refused })
