-- What the encoding of a flat column is to the column.
use Rattle.std.proofs.Common.{◌≡◌, ◌∙◌, arith, zero, suc, ℕ, length, refl, sym, subst, inl, inr}
use Rattle.std.specs.Prelude.{None}
use Rattle.column_base.specs.ValidityForm.{ValidityForm, NeverNull, NoneNull, AllNull, ByBits, HasLength}
use Rattle.column_core.specs.PrimitiveForm.{PrimitiveForm}
use Rattle.runend_windows.specs.Encoding.{IsAllInvalid, number_rows}
use Rattle.runend_windows.proofs.NullRows.{nulls-from_AllNull}
use Rattle.column_core.specs.Leaf.{OfNumbers, OfTruths, OfDecimals, OfVarBins}
use Rattle.runend_array.specs.Column.{Column, OfLeaf, OfConstant, OfLists, OfRuns, Runs, column_dtype, column_of_runs, column_rows}
use Rattle.runend_array.specs.Encoding.{IsEncoded, IsEncodedColumn}
use Rattle.runend_commands.specs.Meaning.{AreTightParts, IsOneNull, IsTightColumn}
use Rattle.runend_commands.specs.Refusal.{numbers_fault}

-- the parts of an encoding are narrow and flat, or one null with an end in u64 where the validity says that all are null
module _ (form : PrimitiveForm) (runs : Runs) (e : IsEncoded form runs) where
  not_null : ¬ IsAllInvalid form → AreTightParts runs.ends_type runs.ends runs.values (number_rows form)
  not_null other = inl (e.narrow other, e.flat other)

  null : (count : ℕ) → length form.numbers ≡ count → form.validity ≡ AllNull → AreTightParts runs.ends_type runs.ends runs.values (number_rows form)
  null zero none is = not_null (λ invalid. let some = invalid.1 in omega arith)
  null (suc n) some is =
      let invalid : IsAllInvalid form = (is, omega arith) in
      let fits = subst (λ (v : ValidityForm). HasLength v (length form.numbers)) (sym is) tt in
      inr (e.wide invalid, subst IsOneNull (sym (e.null invalid)) (refl, refl), nulls-from_AllNull form is fits)

  tight_parts : AreTightParts runs.ends_type runs.ends runs.values (number_rows form)
  tight_parts = elim form.validity as (λ v. form.validity ≡ v → AreTightParts runs.ends_type runs.ends runs.values (number_rows form)) [
    | NeverNull ↦ λ is. not_null (λ all. let never : NeverNull ≡ AllNull = sym is ∙ all.0 in absurd (cc))
    | NoneNull ↦ λ is. not_null (λ all. let never : NoneNull ≡ AllNull = sym is ∙ all.0 in absurd (cc))
    | AllNull ↦ λ is. null (length form.numbers) refl is
    | ByBits bits ↦ λ is. not_null (λ all. let never : ByBits bits ≡ AllNull = sym is ∙ all.0 in absurd (cc))
  ] refl

pub tight_of_encoded : (c : Column) (runs : Runs) → IsEncodedColumn c runs → IsTightColumn (column_rows c) (column_of_runs runs)
tight_of_encoded (OfLeaf (OfNumbers form)) runs e = (e.cover, e.window.0, e.window.1, tight_parts form runs e)
tight_of_encoded (OfLeaf (OfTruths form)) runs e = absurd e
tight_of_encoded (OfLeaf (OfDecimals form)) runs e = absurd e
tight_of_encoded (OfLeaf (OfVarBins form)) runs e = absurd e
tight_of_encoded (OfConstant constant) runs e = absurd e
tight_of_encoded (OfLists lists) runs e = absurd e
tight_of_encoded (OfRuns ends_type ends values offset count) runs e = absurd e

-- only integers are encoded, in runs of their type
pub numbers_of_encoded : (c : Column) (runs : Runs) → IsEncodedColumn c runs → numbers_fault (column_dtype c) ≡ None
numbers_of_encoded (OfLeaf (OfNumbers form)) runs e = refl
numbers_of_encoded (OfLeaf (OfTruths form)) runs e = absurd e
numbers_of_encoded (OfLeaf (OfDecimals form)) runs e = absurd e
numbers_of_encoded (OfLeaf (OfVarBins form)) runs e = absurd e
numbers_of_encoded (OfConstant constant) runs e = absurd e
numbers_of_encoded (OfLists lists) runs e = absurd e
numbers_of_encoded (OfRuns ends_type ends values offset count) runs e = absurd e

pub dtype_of_encoded : (c : Column) (runs : Runs) → IsEncodedColumn c runs → column_dtype (column_of_runs runs) ≡ column_dtype c
dtype_of_encoded (OfLeaf (OfNumbers form)) runs e = e.dtype
dtype_of_encoded (OfLeaf (OfTruths form)) runs e = absurd e
dtype_of_encoded (OfLeaf (OfDecimals form)) runs e = absurd e
dtype_of_encoded (OfLeaf (OfVarBins form)) runs e = absurd e
dtype_of_encoded (OfConstant constant) runs e = absurd e
dtype_of_encoded (OfLists lists) runs e = absurd e
dtype_of_encoded (OfRuns ends_type ends values offset count) runs e = absurd e
