-- What an encoding of rows is to a run column.
use Rattle.std.proofs.Common.{◌≡◌, ℕ, List, Option, length, refl, sym, subst}
use Rattle.std.specs.Prelude.{IsSomeAnd}
use Rattle.column_base.specs.declared.dtype.DType.{DType}
use Rattle.column_base.specs.declared.dtype.DType.TheVariants as column
use Rattle.column_base.specs.declared.dtype.PType.{PType}
use Rattle.column_base.specs.declared.dtype.PType.TheVariants.{U8, U16, U32, U64, I8, I16, I32, I64}
use Rattle.column_base.specs.Types.{IsUnsigned, unsigned_bits}
use Rattle.column_base.specs.ValidityForm.{ValidityForm, nullability_in}
use Rattle.column_core.specs.Leaf.{Leaf, OfNumbers}
use Rattle.column_core.specs.PrimitiveForm.{PrimitiveForm}
use Rattle.column_core.specs.Value.{Value}
use Rattle.runend_windows.specs.Ends.{IsEndsType, ends_of}
use Rattle.runend_windows.specs.Window.{IsWindow}
use Rattle.runend_array.specs.Column.{AreParts, Column, OfLeaf, runs_of}
use Rattle.runend_encode.specs.Encoding.{IsRowEncoding}
use Rattle.runend_builder.specs.Encoded.{IsEncodedRows}

-- a type with a width is unsigned
unsigned_of_bits : (t : PType) (P : ℕ → Type 0) → IsSomeAnd (unsigned_bits t) P → IsUnsigned t
unsigned_of_bits U8 P h = tt
unsigned_of_bits U16 P h = tt
unsigned_of_bits U32 P h = tt
unsigned_of_bits U64 P h = tt
unsigned_of_bits I8 P h = absurd h
unsigned_of_bits I16 P h = absurd h
unsigned_of_bits I32 P h = absurd h
unsigned_of_bits I64 P h = absurd h

-- the parts make a run column
pub parts_of_rows : (rows : List (Option Value)) (dtype : DType) (ends : PrimitiveForm) (values : Leaf) (count : ℕ) (column_of_values : Column) → IsRowEncoding rows dtype ends values
    → count ≡ length rows → column_of_values ≡ OfLeaf values → AreParts (OfLeaf (OfNumbers ends)) column_of_values 0 count
parts_of_rows rows dtype ends values count column_of_values e counted stored = subst (λ (c : Column). AreParts (OfLeaf (OfNumbers ends)) c 0 count) (sym stored) (record {
  plain =
      let P : ValidityForm → Type 0 = λ v. IsEndsType (column.Primitive ends.ptype (nullability_in v)) in
      subst P (sym e.required) (unsigned_of_bits ends.ptype _ e.narrow.has);
  runs = record {
    window = subst (λ (n : ℕ). IsWindow (ends_of ends) 0 n) (sym counted) e.cover.covers.window;
    paired = e.cover.covers.paired;
  };
})

-- and that run column is the encoding of the rows
pub encoded_of_rows : (rows : List (Option Value)) (dtype : DType) (ends : PrimitiveForm) (values : Leaf) (count : ℕ) (column_of_values : Column) → IsRowEncoding rows dtype ends values
    → count ≡ length rows → column_of_values ≡ OfLeaf values → IsEncodedRows rows dtype (runs_of (OfLeaf (OfNumbers ends)) column_of_values 0 count)
encoded_of_rows rows dtype ends values count column_of_values e counted stored =
    subst (λ (c : Column). IsEncodedRows rows dtype (runs_of (OfLeaf (OfNumbers ends)) c 0 count)) (sym stored) (record {
      cover = e.cover;
      offset = refl;
      count = counted;
      dtype = e.typed;
      narrow = e.narrow;
      flat = e.computed;
    })
