-- What an arm of a match over the types of numbers knows of the number that it shows.
use Rattle.std.proofs.Common.{◌≡◌, ◌<◌, ◌^◌, ◌∙◌, ℕ, ℤ, List, Some, FitsSigned, pos, to_z, of_z, length, map, refl, sym, ap, subst, get_or, arith}
use Rattle.std.specs.Prelude.{slice_get, option_map}
use Rattle.std.specs.Int.{FitsUnsigned, Width, w64}
use mir.Val.{bits}
use Rattle.std.proofs.lemmas.Int.{ints, to_z-of_z}
use Rattle.std.proofs.lemmas.Option.{slice_get-map, slice_get_read}
use Rattle.column_base.specs.declared.dtype.PType.{PType}
use Rattle.column_base.specs.Types.{HasNumber, IsUnsigned}
use Rattle.column_base.proofs.Arms.{below-arm}
use Rattle.column_core.specs.Value.{Single, Number}

-- a place within the numbers is one within the items, as many as their buffer says
pub below-items : {X : Type 0} (number : X → ℤ) (items : List X) (ns : List ℤ) (i len : ℕ) → map number items ≡ ns → len ≡ length items → i < length ns → i < len
below-items number items ns i len shown long within = subst (λ (n : ℕ). i < n) (sym long) (below-arm number items ns i shown within)

-- the number at a place is the one of the item there
pub shown-number : {X : Type 0} (number : X → ℤ) (items : List X) (ns : List ℤ) (i : ℕ) (item : X) (seen : ℤ) → map number items ≡ ns → i < length ns
    → item ≡ get_or items i item → seen ≡ number item
    → option_map (λ n. Some (Single (Number n))) (slice_get ns i) ≡ Some (Some (Single (Number seen)))
shown-number number items ns i item seen shown within is same =
    let read = slice_get_read items (length items) i item refl (below-arm number items ns i shown within) is in
    ap (option_map (λ n. Some (Single (Number n))))
    (ap (λ (all : List ℤ). slice_get all i) (sym shown) ∙ slice_get-map number items i ∙ ap (option_map number) read ∙ ap Some (sym same))

-- a number of as many bits as its width fits
pub fits-unsigned : (w : Width) (n : ℕ) → n < 2 ^ bits w → FitsUnsigned w (pos n)
fits-unsigned w n small = (omega (arith, ints), omega (arith, ints))

-- a number seen as unsigned is one of the type
pub unsigned-number : (own t : PType) (n seen : ℕ) → own ≡ t → seen ≡ n → IsUnsigned t → HasNumber t (pos n) → IsUnsigned own × HasNumber own (pos seen)
unsigned-number own t n seen typed same unsigned has =
    (subst IsUnsigned (sym typed) unsigned, subst (λ (u : PType). HasNumber u (pos seen)) (sym typed) (subst (λ (k : ℕ). HasNumber t (pos k)) (sym same) has))

-- a number seen as signed is one of the type
pub signed-number : (own t : PType) (n seen : ℤ) → own ≡ t → seen ≡ n → ¬ IsUnsigned t → HasNumber t n → (¬ IsUnsigned own) × HasNumber own seen
signed-number own t n seen typed same signed has =
    (subst (λ (u : PType). ¬ IsUnsigned u) (sym typed) signed, subst (λ (u : PType). HasNumber u seen) (sym typed) (subst (HasNumber t) (sym same) has))

-- a number widened to 64 bits is the number
pub widened : (w : Width) (z wide : ℤ) → FitsSigned w z → FitsSigned w64 wide → wide ≡ to_z w (of_z w z) → to_z w64 (of_z w64 wide) ≡ z
widened w z wide fits wide_fits same = to_z-of_z w64 wide wide_fits ∙ same ∙ to_z-of_z w z fits
