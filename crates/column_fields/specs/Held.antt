-- What bytes hold: numbers of a type, decimals, or bits.
use Rattle.std.specs.Prelude.{◌≡◌, ℕ, ℤ, All, List, length, FitsSigned}
use Rattle.std.specs.Int.{w128}
use Rattle.column_base.specs.declared.dtype.PType.{PType}
use Rattle.column_base.specs.Types.{HasNumber}
use Rattle.column_fields.specs.BitBytes.{bit_bytes, bits_from}
use Rattle.column_fields.specs.DecimalBytes.{decimals_bytes}
use Rattle.column_fields.specs.NumberBytes.{numbers_bytes}

-- numbers of the type, of that count, have these bytes
pub record HeldNumbers (t : PType) (count : ℕ) (bytes : List ℕ) : Type 0 where
  pub numbers : List ℤ
  pub counted : length numbers ≡ count
  pub fit : All (λ n. HasNumber t n) numbers
  pub shows : numbers_bytes t numbers ≡ bytes

-- decimals of that count have these bytes
pub record HeldDecimals (count : ℕ) (bytes : List ℕ) : Type 0 where
  pub numbers : List ℤ
  pub counted : length numbers ≡ count
  pub fit : All (λ n. FitsSigned w128 n) numbers
  pub shows : decimals_bytes numbers ≡ bytes

-- the bits that the bytes hold, up to that count, have these bytes
pub record AreHeldBits (count : ℕ) (bytes : List ℕ) : Type 0 where
  pub counted : length (bits_from count bytes) ≡ count
  pub shows : bit_bytes (bits_from count bytes) ≡ bytes
