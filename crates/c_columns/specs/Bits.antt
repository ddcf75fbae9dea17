-- Bits that C passes as bytes: bit k is bit k % 8 of byte k / 8, as in Arrow's bitmaps.
use Rattle.std.specs.Prelude.{ℕ, zero, suc, ◌+◌, ◌*◌, ◌/◌, ◌%◌, ◌^◌, ◌<◌, ◌≤◌, ◌&&◌, cond, nat_lt, List, Bool, length, map, nat_eq, slice_index_or, Option, Some, None}
use Rattle.std.specs.Int.{bit_at}
use Rattle.std.specs.List.{range_with_len}
use Rattle.column_base.specs.ValidityForm.{ValidityForm, NeverNull, NoneNull, ByBits}
use Rattle.column_base.specs.declared.error.VortexError.{VortexError}
use Rattle.column_base.specs.declared.error.VortexError.TheVariants.{ColumnLength}

-- the bit at a place
abbrev pub bit_in : List ℕ → ℕ → Bool
bit_in bytes place = nat_eq (bit_at (slice_index_or bytes (place / 8) 0) (place % 8)) 1

-- `count` bits from place `first` on
abbrev pub bits_in : List ℕ → ℕ → ℕ → List Bool
bits_in bytes first count = map (λ k. bit_in bytes (first + k)) (range_with_len 0 count)

-- the bytes have `count` bits from place `first` on, all numbered below 2^64
pub record HasBits (bytes : List ℕ) (first count : ℕ) : Type 0 where
  pub numbered : first + count < 2 ^ 64
  pub there : first + count ≤ length bytes * 8

-- there are fewer bits: the error has the wanted number and the number of bytes
abbrev pub bits_fault : List ℕ → ℕ → ℕ → Option VortexError
bits_fault bytes first count = cond (nat_lt (first + count) (2 ^ 64) && nat_lt (first + count) (length bytes * 8 + 1)) None (Some (ColumnLength count (length bytes)))

-- the validity of rows: 0, a type without null; 1, no row is null; 2 and above, a row is null where its bit is 0
abbrev pub validity_by : ℕ → List ℕ → ℕ → ℕ → ValidityForm
validity_by zero bytes first count = NeverNull
validity_by (suc zero) bytes first count = NoneNull
validity_by (suc (suc k)) bytes first count = ByBits (bits_in bytes first count)

-- the bits are read only for 2 and above
abbrev pub validity_fault : ℕ → List ℕ → ℕ → ℕ → Option VortexError
validity_fault zero bytes first count = None
validity_fault (suc zero) bytes first count = None
validity_fault (suc (suc k)) bytes first count = bits_fault bytes first count
