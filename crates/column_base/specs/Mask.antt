-- What a mask selects.
use Rattle.std.specs.Prelude.{◌<◌, List, Bool, true, false, replicate}
use Rattle.column_base.specs.declared.mask.Mask.{Mask}
use Rattle.column_base.specs.declared.mask.Mask.TheVariants.{AllTrue, AllFalse, Values}
use Rattle.column_base.specs.Bits.{HasBothBits}

-- whether each row is selected
abbrev pub mask_bits : {A : Type 0} → Mask A → List Bool
mask_bits (AllTrue count) = replicate count true
mask_bits (AllFalse count) = replicate count false
mask_bits (Values bits) = bits

-- the form of a mask that its bits fix: no bits of its own where all rows are alike, and `AllTrue` for no rows
abbrev pub IsNormalMask : {A : Type 0} → Mask A → Type 0
IsNormalMask (AllTrue count) = Unit {0}
IsNormalMask (AllFalse count) = 0 < count
IsNormalMask (Values bits) = HasBothBits bits
