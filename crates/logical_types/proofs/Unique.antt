-- A word names at most one type and zone, and what is written names its type.
use Rattle.std.proofs.Common.{◌≡◌, ◌∙◌, ◌++◌, ℕ, List, refl, ap, sym, subst}
use Rattle.std.specs.Prelude.{codes}
use Rattle.logical_types.specs.declared.types.TimeUnit.{TimeUnit}
use Rattle.logical_types.specs.declared.types.TimeUnit.TheVariants.{Second, Millisecond, Microsecond, Nanosecond}
use Rattle.logical_types.specs.declared.types.LogicalType.{LogicalType}
use Rattle.logical_types.specs.declared.types.LogicalType.TheVariants.{Integer, Float, Date, TimeOfDay, Timestamp, Duration, Decimal}
use Rattle.logical_types.specs.Formats.{IsNamed, Names, SpellsDecimal, format_of, timestamp_format}
use Rattle.logical_types.specs.Laws.{NamesAreUnique, OnlyNamedAreRead, WrittenFormatsAreRead}
use Rattle.logical_types.proofs.Cuts.{after}
use Rattle.logical_types.proofs.Decimals.{one_decimal, written_decimal}
use Rattle.logical_types.proofs.Names.{one_sort, sort_of}

abbrev pub IsNoDecimal : LogicalType → Type 0
IsNoDecimal (Integer t) = Unit {0}
IsNoDecimal (Float f) = Unit {0}
IsNoDecimal (Date u) = Unit {0}
IsNoDecimal (TimeOfDay u) = Unit {0}
IsNoDecimal (Timestamp u) = Unit {0}
IsNoDecimal (Duration u) = Unit {0}
IsNoDecimal (Decimal d w) = ⊥

-- a type other than decimals is its sort
pub type_of_sort : (t u : LogicalType) → IsNoDecimal t → t ≡ sort_of u → t ≡ u
type_of_sort t (Integer b) is e = e
type_of_sort t (Float b) is e = e
type_of_sort t (Date b) is e = e
type_of_sort t (TimeOfDay b) is e = e
type_of_sort t (Timestamp b) is e = e
type_of_sort t (Duration b) is e = e
type_of_sort t (Decimal d w) is e = absurd (subst IsNoDecimal e is)

after_unit : (zone : List ℕ) (u : TimeUnit) → after 58 (timestamp_format u ++ (codes ":" ++ zone)) ≡ zone
after_unit zone Second = refl
after_unit zone Millisecond = refl
after_unit zone Microsecond = refl
after_unit zone Nanosecond = refl

one_zone : (word : List ℕ) (t : LogicalType) (zone other : List ℕ) → IsNoDecimal t → Names word t zone → Names word t other → zone ≡ other
one_zone word (Integer t) zone other is n m = n.1 ∙ sym m.1
one_zone word (Float f) zone other is n m = n.1 ∙ sym m.1
one_zone word (Date u) zone other is n m = n.1 ∙ sym m.1
one_zone word (TimeOfDay u) zone other is n m = n.1 ∙ sym m.1
one_zone word (Timestamp u) zone other is n m = sym (after_unit zone u) ∙ ap (after 58) (sym n ∙ m) ∙ after_unit other u
one_zone word (Duration u) zone other is n m = n.1 ∙ sym m.1
one_zone word (Decimal d w) zone other is n m = absurd is

one_plain : (word : List ℕ) (t u : LogicalType) (zone other : List ℕ) → IsNoDecimal t → t ≡ sort_of u → Names word t zone → Names word u other → (t ≡ u) × (zone ≡ other)
one_plain word t u zone other is sort n m =
    let same = type_of_sort t u is sort in
    (same, one_zone word t zone other is n (subst (λ v. Names word v other) (sym same) m))

one_of_decimals : (word : List ℕ) (t u : LogicalType) (zone other : List ℕ) → (IsNoDecimal t → ⊥) → sort_of t ≡ sort_of u → Names word t zone → Names word u other → (t ≡ u) × (zone ≡ other)
one_of_decimals word (Integer t) u zone other is sort n m = absurd (is tt)
one_of_decimals word (Float t) u zone other is sort n m = absurd (is tt)
one_of_decimals word (Date t) u zone other is sort n m = absurd (is tt)
one_of_decimals word (TimeOfDay t) u zone other is sort n m = absurd (is tt)
one_of_decimals word (Timestamp t) u zone other is sort n m = absurd (is tt)
one_of_decimals word (Duration t) u zone other is sort n m = absurd (is tt)
one_of_decimals word (Decimal d w) (Integer b) zone other is sort n m = absurd (subst IsNoDecimal (sym sort) tt)
one_of_decimals word (Decimal d w) (Float b) zone other is sort n m = absurd (subst IsNoDecimal (sym sort) tt)
one_of_decimals word (Decimal d w) (Date b) zone other is sort n m = absurd (subst IsNoDecimal (sym sort) tt)
one_of_decimals word (Decimal d w) (TimeOfDay b) zone other is sort n m = absurd (subst IsNoDecimal (sym sort) tt)
one_of_decimals word (Decimal d w) (Timestamp b) zone other is sort n m = absurd (subst IsNoDecimal (sym sort) tt)
one_of_decimals word (Decimal d w) (Duration b) zone other is sort n m = absurd (subst IsNoDecimal (sym sort) tt)
one_of_decimals word (Decimal d w) (Decimal e v) zone other is sort (rest, whole, s, none) (left, same, r, empty) =
    let rests : rest ≡ left = ap (after 58) (sym whole ∙ same) in
    (one_decimal rest d e w v s (subst (λ x. SpellsDecimal x e v) (sym rests) r), none ∙ sym empty)

pub names_unique : NamesAreUnique
names_unique word (Integer t) u zone other n m = one_plain word (Integer t) u zone other tt (one_sort word (Integer t) u zone other n m) n m
names_unique word (Float t) u zone other n m = one_plain word (Float t) u zone other tt (one_sort word (Float t) u zone other n m) n m
names_unique word (Date t) u zone other n m = one_plain word (Date t) u zone other tt (one_sort word (Date t) u zone other n m) n m
names_unique word (TimeOfDay t) u zone other n m = one_plain word (TimeOfDay t) u zone other tt (one_sort word (TimeOfDay t) u zone other n m) n m
names_unique word (Timestamp t) u zone other n m = one_plain word (Timestamp t) u zone other tt (one_sort word (Timestamp t) u zone other n m) n m
names_unique word (Duration t) u zone other n m = one_plain word (Duration t) u zone other tt (one_sort word (Duration t) u zone other n m) n m
names_unique word (Decimal d w) u zone other n m = one_of_decimals word (Decimal d w) u zone other (λ x. x) (one_sort word (Decimal d w) u zone other n m) n m

written_names : (t : LogicalType) (zone : List ℕ) → IsNamed t zone → Names (format_of t zone) t zone
written_names (Integer t) zone named = (refl, named)
written_names (Float f) zone named = (refl, named)
written_names (Date u) zone named = (refl, named)
written_names (TimeOfDay u) zone named = (refl, named)
written_names (Timestamp u) zone named = refl
written_names (Duration u) zone named = (refl, named)
written_names (Decimal d w) zone named = (_, refl, written_decimal d w named.1 named.2 named.3, named.0)

pub written_read : WrittenFormatsAreRead
written_read t zone named =
    let names = written_names t zone named in
    record { names = names; only = λ u other n. names_unique (format_of t zone) u t other zone n names }

pub only_named : OnlyNamedAreRead
only_named word (Integer t) zone n = n.1
only_named word (Float f) zone n = n.1
only_named word (Date u) zone n = n.1
only_named word (TimeOfDay u) zone n = n.1
only_named word (Timestamp u) zone n = tt
only_named word (Duration u) zone n = n.1
only_named word (Decimal d w) zone (rest, whole, spelled, none) = (none, spelled.some, spelled.room, spelled.fits)
