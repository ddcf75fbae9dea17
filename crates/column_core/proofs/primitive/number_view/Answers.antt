use Rattle.std.proofs.Common.{◌<◌, ◌^◌, ℤ, FitsSigned, length, pos, refl, sym, ap, ◌∙◌, rules}
use Rattle.std.specs.Int.{w8, w16, w32, w64}
use Rattle.std.proofs.lemmas.List.{map-id}
use Rattle.std.proofs.lemmas.Int.{to_z-of_z}
use Rattle.column_base.specs.Numbers.{numbers, ptype_of}
use Rattle.column_base.specs.declared.dtype.PType.TheVariants.{U8, U16, U32, U64, I8, I16, I32, I64}
use Rattle.column_core.proofs.NumberViews.{below-items, shown-number, fits-unsigned, unsigned-number, signed-number, widened}
use Rattle.column_core.proofs.primitive.number_view.Goals as goal

pub index-requires : goal.index-requires
index-requires g c =
    below-items pos c.in-U8.items.items (numbers c.args.values.now) c.args.index (length c.in-U8.items.items) (sym (ap numbers c.in-U8.is)) refl c.requires

pub returns-in-U8-clause-row : goal.returns-in-U8-clause-row
returns-in-U8-clause-row g c =
    shown-number pos c.in-U8.items.items (numbers c.args.values.now) c.args.index c.index.result.now (pos c.from.result) (sym (ap numbers c.in-U8.is)) c.requires c.index.ensures (ap pos c.from.ensures)

pub returns-in-U8-clause-of_type : goal.returns-in-U8-clause-of_type
returns-in-U8-clause-of_type g c =
    let small : c.index.result.now < 2 ^ 8 = search rules in
    λ _. unsigned-number (ptype_of c.args.values.now) U8 c.index.result.now c.from.result (ap ptype_of c.in-U8.is) c.from.ensures tt (fits-unsigned w8 c.index.result.now small)

pub index-requires-in-U16 : goal.index-requires-in-U16
index-requires-in-U16 g c =
    below-items pos c.in-U16.items.items (numbers c.args.values.now) c.args.index (length c.in-U16.items.items) (sym (ap numbers c.in-U16.is)) refl c.requires

pub returns-in-U16-clause-row : goal.returns-in-U16-clause-row
returns-in-U16-clause-row g c =
    shown-number pos c.in-U16.items.items (numbers c.args.values.now) c.args.index c.index-in-U16.result.now (pos c.from-in-U16.result) (sym (ap numbers c.in-U16.is)) c.requires c.index-in-U16.ensures (ap pos c.from-in-U16.ensures)

pub returns-in-U16-clause-of_type : goal.returns-in-U16-clause-of_type
returns-in-U16-clause-of_type g c =
    let small : c.index-in-U16.result.now < 2 ^ 16 = search rules in
    λ _. unsigned-number (ptype_of c.args.values.now) U16 c.index-in-U16.result.now c.from-in-U16.result (ap ptype_of c.in-U16.is) c.from-in-U16.ensures tt (fits-unsigned w16 c.index-in-U16.result.now small)

pub index-requires-in-U32 : goal.index-requires-in-U32
index-requires-in-U32 g c =
    below-items pos c.in-U32.items.items (numbers c.args.values.now) c.args.index (length c.in-U32.items.items) (sym (ap numbers c.in-U32.is)) refl c.requires

pub returns-in-U32-clause-row : goal.returns-in-U32-clause-row
returns-in-U32-clause-row g c =
    shown-number pos c.in-U32.items.items (numbers c.args.values.now) c.args.index c.index-in-U32.result.now (pos c.from-in-U32.result) (sym (ap numbers c.in-U32.is)) c.requires c.index-in-U32.ensures (ap pos c.from-in-U32.ensures)

pub returns-in-U32-clause-of_type : goal.returns-in-U32-clause-of_type
returns-in-U32-clause-of_type g c =
    let small : c.index-in-U32.result.now < 2 ^ 32 = search rules in
    λ _. unsigned-number (ptype_of c.args.values.now) U32 c.index-in-U32.result.now c.from-in-U32.result (ap ptype_of c.in-U32.is) c.from-in-U32.ensures tt (fits-unsigned w32 c.index-in-U32.result.now small)

pub index-requires-in-U64 : goal.index-requires-in-U64
index-requires-in-U64 g c =
    below-items pos c.in-U64.items.items (numbers c.args.values.now) c.args.index (length c.in-U64.items.items) (sym (ap numbers c.in-U64.is)) refl c.requires

pub returns-in-U64-clause-row : goal.returns-in-U64-clause-row
returns-in-U64-clause-row g c =
    shown-number pos c.in-U64.items.items (numbers c.args.values.now) c.args.index c.index-in-U64.result.now (pos c.index-in-U64.result.now) (sym (ap numbers c.in-U64.is)) c.requires c.index-in-U64.ensures refl

pub returns-in-U64-clause-of_type : goal.returns-in-U64-clause-of_type
returns-in-U64-clause-of_type g c =
    let small : c.index-in-U64.result.now < 2 ^ 64 = search rules in
    λ _. unsigned-number (ptype_of c.args.values.now) U64 c.index-in-U64.result.now c.index-in-U64.result.now (ap ptype_of c.in-U64.is) refl tt (fits-unsigned w64 c.index-in-U64.result.now small)

pub index-requires-in-I8 : goal.index-requires-in-I8
index-requires-in-I8 g c =
    below-items (λ (n : ℤ). n) c.in-I8.items.items (numbers c.args.values.now) c.args.index (length c.in-I8.items.items) (map-id c.in-I8.items.items ∙ sym (ap numbers c.in-I8.is)) refl c.requires

pub returns-in-I8-clause-row : goal.returns-in-I8-clause-row
returns-in-I8-clause-row g c =
    let fits : FitsSigned w8 c.index-in-I8.result.now = search rules in
    let same = widened w8 c.index-in-I8.result.now c.from-in-I8.result fits (record { sfits = c.from-in-I8.type_inv }) c.from-in-I8.ensures in
    shown-number (λ (n : ℤ). n) c.in-I8.items.items (numbers c.args.values.now) c.args.index c.index-in-I8.result.now _ (map-id c.in-I8.items.items ∙ sym (ap numbers c.in-I8.is)) c.requires c.index-in-I8.ensures same

pub returns-in-I8-clause-of_type : goal.returns-in-I8-clause-of_type
returns-in-I8-clause-of_type g c =
    let fits : FitsSigned w8 c.index-in-I8.result.now = search rules in
    let same = widened w8 c.index-in-I8.result.now c.from-in-I8.result fits (record { sfits = c.from-in-I8.type_inv }) c.from-in-I8.ensures in
    λ _. signed-number (ptype_of c.args.values.now) I8 c.index-in-I8.result.now _ (ap ptype_of c.in-I8.is) same (λ no. no) fits

pub index-requires-in-I16 : goal.index-requires-in-I16
index-requires-in-I16 g c =
    below-items (λ (n : ℤ). n) c.in-I16.items.items (numbers c.args.values.now) c.args.index (length c.in-I16.items.items) (map-id c.in-I16.items.items ∙ sym (ap numbers c.in-I16.is)) refl c.requires

pub returns-in-I16-clause-row : goal.returns-in-I16-clause-row
returns-in-I16-clause-row g c =
    let fits : FitsSigned w16 c.index-in-I16.result.now = search rules in
    let same = widened w16 c.index-in-I16.result.now c.from-in-I16.result fits (record { sfits = c.from-in-I16.type_inv }) c.from-in-I16.ensures in
    shown-number (λ (n : ℤ). n) c.in-I16.items.items (numbers c.args.values.now) c.args.index c.index-in-I16.result.now _ (map-id c.in-I16.items.items ∙ sym (ap numbers c.in-I16.is)) c.requires c.index-in-I16.ensures same

pub returns-in-I16-clause-of_type : goal.returns-in-I16-clause-of_type
returns-in-I16-clause-of_type g c =
    let fits : FitsSigned w16 c.index-in-I16.result.now = search rules in
    let same = widened w16 c.index-in-I16.result.now c.from-in-I16.result fits (record { sfits = c.from-in-I16.type_inv }) c.from-in-I16.ensures in
    λ _. signed-number (ptype_of c.args.values.now) I16 c.index-in-I16.result.now _ (ap ptype_of c.in-I16.is) same (λ no. no) fits

pub index-requires-in-I32 : goal.index-requires-in-I32
index-requires-in-I32 g c =
    below-items (λ (n : ℤ). n) c.in-I32.items.items (numbers c.args.values.now) c.args.index (length c.in-I32.items.items) (map-id c.in-I32.items.items ∙ sym (ap numbers c.in-I32.is)) refl c.requires

pub returns-in-I32-clause-row : goal.returns-in-I32-clause-row
returns-in-I32-clause-row g c =
    let fits : FitsSigned w32 c.index-in-I32.result.now = search rules in
    let same = widened w32 c.index-in-I32.result.now c.from-in-I32.result fits (record { sfits = c.from-in-I32.type_inv }) c.from-in-I32.ensures in
    shown-number (λ (n : ℤ). n) c.in-I32.items.items (numbers c.args.values.now) c.args.index c.index-in-I32.result.now _ (map-id c.in-I32.items.items ∙ sym (ap numbers c.in-I32.is)) c.requires c.index-in-I32.ensures same

pub returns-in-I32-clause-of_type : goal.returns-in-I32-clause-of_type
returns-in-I32-clause-of_type g c =
    let fits : FitsSigned w32 c.index-in-I32.result.now = search rules in
    let same = widened w32 c.index-in-I32.result.now c.from-in-I32.result fits (record { sfits = c.from-in-I32.type_inv }) c.from-in-I32.ensures in
    λ _. signed-number (ptype_of c.args.values.now) I32 c.index-in-I32.result.now _ (ap ptype_of c.in-I32.is) same (λ no. no) fits

pub index-requires-in-I64 : goal.index-requires-in-I64
index-requires-in-I64 g c =
    below-items (λ (n : ℤ). n) c.in-I64.items.items (numbers c.args.values.now) c.args.index (length c.in-I64.items.items) (map-id c.in-I64.items.items ∙ sym (ap numbers c.in-I64.is)) refl c.requires

pub returns-in-I64-clause-row : goal.returns-in-I64-clause-row
returns-in-I64-clause-row g c =
    let fits : FitsSigned w64 c.index-in-I64.result.now = search rules in
    let same = to_z-of_z w64 c.index-in-I64.result.now fits in
    shown-number (λ (n : ℤ). n) c.in-I64.items.items (numbers c.args.values.now) c.args.index c.index-in-I64.result.now _ (map-id c.in-I64.items.items ∙ sym (ap numbers c.in-I64.is)) c.requires c.index-in-I64.ensures same

pub returns-in-I64-clause-of_type : goal.returns-in-I64-clause-of_type
returns-in-I64-clause-of_type g c =
    let fits : FitsSigned w64 c.index-in-I64.result.now = search rules in
    let same = to_z-of_z w64 c.index-in-I64.result.now fits in
    λ _. signed-number (ptype_of c.args.values.now) I64 c.index-in-I64.result.now _ (ap ptype_of c.in-I64.is) same (λ no. no) fits
