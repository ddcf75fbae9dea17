-- Words that name no type.
use Rattle.std.proofs.Common.{◌≡◌, ◌≢◌, ◌++◌, ℕ, List, refl, sym, ◌∙◌, arith}
use Rattle.std.proofs.lemmas.List.{same_from_push}
use Rattle.std.specs.Prelude.{codes}
use Rattle.column_base.specs.declared.dtype.PType.{PType}
use Rattle.column_base.specs.declared.dtype.PType.TheVariants.{U8, U16, U32, U64, I8, I16, I32, I64}
use Rattle.column_base.specs.declared.dtype.Nullability.{Nullability}
use Rattle.column_base.specs.declared.dtype.Nullability.TheVariants.{NonNullable, Nullable}
use Rattle.column_words.specs.Types.{marked, ptype_name, type_name}

-- no name of a type of numbers ends in a question mark
unmarked_name : (name : List ℕ) (ptype : PType) → name ++ codes "?" ≢ ptype_name ptype
unmarked_name name U8 e = absurd (omega (arith, (same_from_push name (codes "u") 63 56 e).1))
unmarked_name name U16 e = absurd (omega (arith, (same_from_push name (codes "u1") 63 54 e).1))
unmarked_name name U32 e = absurd (omega (arith, (same_from_push name (codes "u3") 63 50 e).1))
unmarked_name name U64 e = absurd (omega (arith, (same_from_push name (codes "u6") 63 52 e).1))
unmarked_name name I8 e = absurd (omega (arith, (same_from_push name (codes "i") 63 56 e).1))
unmarked_name name I16 e = absurd (omega (arith, (same_from_push name (codes "i1") 63 54 e).1))
unmarked_name name I32 e = absurd (omega (arith, (same_from_push name (codes "i3") 63 50 e).1))
unmarked_name name I64 e = absurd (omega (arith, (same_from_push name (codes "i6") 63 52 e).1))

-- a word whose name before the mark is none of a type of numbers names no type of rows
pub names_no_type : (word name : List ℕ) (nullability : Nullability) → word ≡ marked name nullability → (nullability ≡ NonNullable → (front : List ℕ) → word ≢ front ++ codes "?") → ((ptype : PType) → name ≢ ptype_name ptype)
    → (ptype : PType) (other : Nullability) → word ≢ type_name ptype other
names_no_type word name NonNullable whole unmarked unnamed ptype NonNullable e = unnamed ptype (sym whole ∙ e)
names_no_type word name NonNullable whole unmarked unnamed ptype Nullable e = unmarked refl (ptype_name ptype) e
names_no_type word name Nullable whole unmarked unnamed ptype NonNullable e = unmarked_name name ptype (sym whole ∙ e)
names_no_type word name Nullable whole unmarked unnamed ptype Nullable e = unnamed ptype ((same_from_push name (ptype_name ptype) 63 63 (sym whole ∙ e)).0)
