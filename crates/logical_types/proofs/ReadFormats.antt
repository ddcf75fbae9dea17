-- What begins as decimals do and spells none names no type.
use Rattle.std.proofs.Common.{◌≡◌, ◌∙◌, ◌++◌, ℕ, List, ap, sym, subst}
use Rattle.std.specs.Prelude.{codes}
use Rattle.column_base.specs.declared.dtype.DecimalDType.{DecimalDType}
use Rattle.logical_types.specs.declared.types.DecimalWidth.{DecimalWidth}
use Rattle.logical_types.specs.declared.types.LogicalType.{LogicalType}
use Rattle.logical_types.specs.declared.types.LogicalType.TheVariants.{Integer, Float, Date, TimeOfDay, Timestamp, Duration, Decimal}
use Rattle.logical_types.specs.Formats.{Names, SpellsDecimal}
use Rattle.logical_types.proofs.Cuts.{after, before}
use Rattle.logical_types.proofs.Names.{fronts_tell, head_is, no_decimal, sort_of}
use Rattle.logical_types.proofs.Unique.{IsNoDecimal}

module _ (word rest : List ℕ) (whole : word ≡ codes "d:" ++ rest) (none : (d : DecimalDType) (w : DecimalWidth) → SpellsDecimal rest d w → ⊥) where
  only_decimals : (t : LogicalType) (zone : List ℕ) → Names word t zone → sort_of t ≡ no_decimal
  only_decimals t zone n = fronts_tell t no_decimal (sym (head_is word t zone n).0 ∙ ap (before 58) whole)

  pub no_type : (t : LogicalType) (zone : List ℕ) → Names word t zone → ⊥
  no_type (Integer t) zone n = subst IsNoDecimal (only_decimals (Integer t) zone n) tt
  no_type (Float t) zone n = subst IsNoDecimal (only_decimals (Float t) zone n) tt
  no_type (Date t) zone n = subst IsNoDecimal (only_decimals (Date t) zone n) tt
  no_type (TimeOfDay t) zone n = subst IsNoDecimal (only_decimals (TimeOfDay t) zone n) tt
  no_type (Timestamp t) zone n = subst IsNoDecimal (only_decimals (Timestamp t) zone n) tt
  no_type (Duration t) zone n = subst IsNoDecimal (only_decimals (Duration t) zone n) tt
  no_type (Decimal d w) zone (left, same, s, empty) =
      let rests : left ≡ rest = ap (after 58) (sym same ∙ whole) in none d w (subst (λ x. SpellsDecimal x d w) rests s)
