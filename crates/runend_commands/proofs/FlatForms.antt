-- A flat form that a call computes is flat.
use Rattle.std.proofs.Common.{subst, sym}
use Rattle.runend_array.specs.Canonical.{IsCanonical}
use Rattle.runend_array.specs.Column.{Column, OfLeaf, OfConstant, OfLists, OfRuns, IsFlat}
use Rattle.runend_array.specs.Encoding.{IsComputedFlat}

pub flat_if_computed : (c : Column) → IsComputedFlat c → IsFlat c
flat_if_computed (OfLeaf leaf) computed = tt
flat_if_computed (OfConstant constant) computed = computed
flat_if_computed (OfLists lists) computed = tt
flat_if_computed (OfRuns ends_type ends values offset count) computed = computed

-- a column that is written out is flat
pub flat_if_canonical : (own c : Column) → IsCanonical own c → IsFlat c
flat_if_canonical (OfLeaf leaf) c written = subst IsFlat (sym written) tt
flat_if_canonical (OfLists lists) c written = subst IsFlat (sym written) tt
flat_if_canonical (OfConstant constant) (OfLeaf leaf) written = tt
flat_if_canonical (OfConstant constant) (OfLists lists) written = tt
flat_if_canonical (OfConstant constant) (OfConstant other) written = written
flat_if_canonical (OfConstant constant) (OfRuns ends_type ends values offset count) written = written
flat_if_canonical (OfRuns ends_type ends values offset count) c written = flat_if_computed c written
