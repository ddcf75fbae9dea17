-- Why many rows are not read: of the wrong type, and offsets past their type.
use Rattle.std.proofs.Common.{◌≡◌, ◌≢◌, ◌∙◌, ◌≤◌, ◌<◌, ◌+◌, ◌-◌, ◌^◌, ℕ, length, pos, refl, ap, subst, sym, eq-eqb, ⊎_elim, arith}
use Rattle.std.specs.Prelude.{Option, Some, None, Result, Ok, Err, IsErrAnd, Bool, true, false, cond, nat_eq}
use Rattle.std.specs.Option.{option_or}
use Rattle.std.proofs.lemmas.Bool.{cases_lt}
use Rattle.std.proofs.lemmas.Bool.Decides.{nat_tests}
use Rattle.std.proofs.lemmas.Int.{ints}
use Rattle.column_base.specs.Types.{HasNumber}
use Rattle.column_base.specs.declared.dtype.PType.{PType}
use Rattle.column_base.specs.declared.dtype.PType.TheVariants.{U8, U16, U32, U64, I8, I16, I32, I64}
use Rattle.column_base.specs.declared.error.VortexError.{VortexError}
use Rattle.column_base.specs.declared.error.VortexError.TheVariants.{BadRange, CastOutOfRange, TypeMismatch}
use Rattle.column_core.specs.Leaf.{OfNumbers, OfVarBins}
use Rattle.column_core.specs.PrimitiveForm.{PrimitiveForm}
use Rattle.column_core.specs.VarBinForm.{VarBinForm}
use Rattle.c_columns.specs.Kinds.{ptype_by, ptype_number}
use Rattle.c_columns.specs.ReadFaults.{IsRefusedOnlyBy, is_same_type, offset_fault, past_fault, positive_bits, room_fault, stored_bytes_fault, stored_numbers_fault, stored_offsets_fault}
use Rattle.c_columns.specs.Reads.{size_between}

-- the number of a native type names it
by_number : (ptype : PType) → ptype_by (ptype_number ptype) ≡ Some ptype
by_number U8 = refl
by_number U16 = refl
by_number U32 = refl
by_number U64 = refl
by_number I8 = refl
by_number I16 = refl
by_number I32 = refl
by_number I64 = refl

pub is_same : (a b : PType) → a ≡ b → is_same_type a b ≡ true
is_same a b same = eq-eqb (ptype_number a) (ptype_number b) (ap ptype_number same)

pub is_other : (a b : PType) → (¬ (a ≡ b)) → is_same_type a b ≡ false
is_other a b other =
    let told : (ptype_number a ≡ ptype_number b) → a ≡ b = λ same. let e : Some a ≡ Some b = sym (by_number a) ∙ ap ptype_by same ∙ by_number b in cc in
    let apart : ptype_number a ≢ ptype_number b = λ same. other (told same) in
    grind (arith, nat_tests)

-- numbers of the type that is asked for, and of another
pub numbers_of_type : (form : PrimitiveForm) (ptype : PType) (start count : ℕ) → form.ptype ≡ ptype → stored_numbers_fault ptype start count (OfNumbers form) ≡ past_fault start count (length form.numbers)
numbers_of_type form ptype start count same = ap (λ (b : Bool). cond b (past_fault start count (length form.numbers)) (Some TypeMismatch)) (is_same form.ptype ptype same)

pub numbers_of_other : (form : PrimitiveForm) (ptype : PType) (start count : ℕ) → (¬ (form.ptype ≡ ptype)) → stored_numbers_fault ptype start count (OfNumbers form) ≡ Some TypeMismatch
numbers_of_other form ptype start count other = ap (λ (b : Bool). cond b (past_fault start count (length form.numbers)) (Some TypeMismatch)) (is_other form.ptype ptype other)

-- a number that is not negative, by its bits
fits_bits : (ptype : PType) (n : ℕ) → HasNumber ptype (pos n) → n < 2 ^ positive_bits ptype
fits_bits U8 n has = omega (arith, ints, has.1)
fits_bits U16 n has = omega (arith, ints, has.1)
fits_bits U32 n has = omega (arith, ints, has.1)
fits_bits U64 n has = omega (arith, ints, has.1)
fits_bits I8 n has = omega (arith, ints, has.sfits)
fits_bits I16 n has = omega (arith, ints, has.sfits)
fits_bits I32 n has = omega (arith, ints, has.sfits)
fits_bits I64 n has = omega (arith, ints, has.sfits)

of_bits : (ptype : PType) (n : ℕ) → n < 2 ^ positive_bits ptype → HasNumber ptype (pos n)
of_bits U8 n below = (omega (arith, ints), omega (arith, ints))
of_bits U16 n below = (omega (arith, ints), omega (arith, ints))
of_bits U32 n below = (omega (arith, ints), omega (arith, ints))
of_bits U64 n below = (omega (arith, ints), omega (arith, ints))
of_bits I8 n below = record { sfits = below }
of_bits I16 n below = record { sfits = below }
of_bits I32 n below = record { sfits = below }
of_bits I64 n below = record { sfits = below }

bits_below : (ptype : PType) → 2 ^ positive_bits ptype ≤ 2 ^ 64
bits_below U8 = omega arith
bits_below U16 = omega arith
bits_below U32 = omega arith
bits_below U64 = omega arith
bits_below I8 = omega arith
bits_below I16 = omega arith
bits_below I32 = omega arith
bits_below I64 = omega arith

-- the type has the offset, or it has not
pub offset_there : (ptype : PType) (n : ℕ) → HasNumber ptype (pos n) → offset_fault ptype n ≡ None
offset_there ptype n has = let below = fits_bits ptype n has in grind (arith, nat_tests)

above : (ptype : PType) (n : ℕ) → 2 ^ positive_bits ptype ≤ n → offset_fault ptype n ≡ Some CastOutOfRange
above ptype n past = grind (arith, nat_tests)

pub offset_past : (ptype : PType) (n : ℕ) → (¬ HasNumber ptype (pos n)) → offset_fault ptype n ≡ Some CastOutOfRange
offset_past ptype n has_not =
    ⊎_elim (λ (below : n < 2 ^ positive_bits ptype). absurd (has_not (of_bits ptype n below))) (λ (past : 2 ^ positive_bits ptype ≤ n). above ptype n past) (cases_lt n (2 ^ positive_bits ptype))

-- no type has an offset of more than 64 bits
pub offset_huge : (ptype : PType) (n : ℕ) → 2 ^ 64 ≤ n → offset_fault ptype n ≡ Some CastOutOfRange
offset_huge ptype n huge = let bits = bits_below ptype in above ptype n (omega arith)

-- the offsets before one that the type has
pub offset_below : (ptype : PType) (a b : ℕ) → offset_fault ptype b ≡ None → a ≤ b → offset_fault ptype a ≡ None
offset_below ptype a b none order = grind (arith, nat_tests)

-- an offset without a fault is a number of the type
pub offset_fits : (ptype : PType) (n : ℕ) → offset_fault ptype n ≡ None → HasNumber ptype (pos n)
offset_fits ptype n none =
    ⊎_elim (λ (below : n < 2 ^ positive_bits ptype). of_bits ptype n below) (λ (past : 2 ^ positive_bits ptype ≤ n). let never : None ≡ Some CastOutOfRange = sym none ∙ above ptype n past in absurd (cc)) (cases_lt n (2 ^ positive_bits ptype))

-- so it has fewer than 64 bits
pub offset_small : (ptype : PType) (n : ℕ) → offset_fault ptype n ≡ None → n < 2 ^ 64
offset_small ptype n none =
    ⊎_elim (λ (below : n < 2 ^ 64). below) (λ (huge : 2 ^ 64 ≤ n). let never : None ≡ Some CastOutOfRange = sym none ∙ offset_huge ptype n huge in absurd (cc)) (cases_lt n (2 ^ 64))

-- the rows are there
pub reaches : (start count rows : ℕ) → start + count ≤ rows → past_fault start count rows ≡ None
reaches start count rows there = grind (arith, nat_tests)

some_room : (room : ℕ) → 0 < room → nat_eq room 0 ≡ false
some_room room some = grind (arith, nat_tests)

-- the bytes of rows that are there
pub bytes_there : (form : VarBinForm) (start count room : ℕ) → start + count ≤ length form.views → stored_bytes_fault start count room (OfVarBins form) ≡ room_fault (size_between form start (start + count)) room
bytes_there form start count room there = ap (λ (f : Option VortexError). option_or f (room_fault (size_between form start (start + count)) room)) (reaches start count (length form.views) there)

pub bytes_past : (form : VarBinForm) (start count room : ℕ) (error : VortexError) → past_fault start count (length form.views) ≡ Some error → stored_bytes_fault start count room (OfVarBins form) ≡ Some error
bytes_past form start count room error past = ap (λ (f : Option VortexError). option_or f (room_fault (size_between form start (start + count)) room)) past

-- offsets of rows that are there
offsets_of_some : (form : VarBinForm) (ptype : PType) (start room : ℕ) → 0 < room
    → stored_offsets_fault ptype start room (OfVarBins form) ≡ option_or (past_fault start (room - 1) (length form.views)) (offset_fault ptype (size_between form start (start + (room - 1))))
offsets_of_some form ptype start room some =
    ap (λ (b : Bool). cond b (Some (BadRange start start (length form.views))) (option_or (past_fault start (room - 1) (length form.views)) (offset_fault ptype (size_between form start (start + (room - 1)))))) (some_room room some)

pub offsets_there : (form : VarBinForm) (ptype : PType) (start room : ℕ) → 0 < room → start + (room - 1) ≤ length form.views
    → stored_offsets_fault ptype start room (OfVarBins form) ≡ offset_fault ptype (size_between form start (start + (room - 1)))
offsets_there form ptype start room some there =
    offsets_of_some form ptype start room some
    ∙ ap (λ (f : Option VortexError). option_or f (offset_fault ptype (size_between form start (start + (room - 1))))) (reaches start (room - 1) (length form.views) there)

pub offsets_past : (form : VarBinForm) (ptype : PType) (start room : ℕ) (error : VortexError) → 0 < room → past_fault start (room - 1) (length form.views) ≡ Some error → stored_offsets_fault ptype start room (OfVarBins form) ≡ Some error
offsets_past form ptype start room error some past =
    offsets_of_some form ptype start room some ∙ ap (λ (f : Option VortexError). option_or f (offset_fault ptype (size_between form start (start + (room - 1))))) past

-- no offset is asked for
pub offsets_none : (form : VarBinForm) (ptype : PType) (start room : ℕ) → room ≡ 0 → stored_offsets_fault ptype start room (OfVarBins form) ≡ Some (BadRange start start (length form.views))
offsets_none form ptype start room none =
    ap (λ (b : Bool). cond b (Some (BadRange start start (length form.views))) (option_or (past_fault start (room - 1) (length form.views)) (offset_fault ptype (size_between form start (start + (room - 1)))))) (eq-eqb room 0 none)

-- a fault that is another
pub refused_so : {T : Type 0} (fault other : Option VortexError) (r : Result T VortexError) → other ≡ fault → IsRefusedOnlyBy fault r → IsRefusedOnlyBy other r
refused_so fault other r same refused = subst (λ (f : Option VortexError). IsRefusedOnlyBy f r) (sym same) refused

-- what the exit of a `?` returns
pub passed_on : {T : Type 0} (fault : Option VortexError) (error : VortexError) (r : Result T VortexError) → IsErrAnd r (λ (e : VortexError). e ≡ error) → fault ≡ Some error → IsRefusedOnlyBy fault r
passed_on fault error (Ok value) is why = absurd is
passed_on fault error (Err other) is why = subst (λ (e : VortexError). fault ≡ Some e) (sym is) why
