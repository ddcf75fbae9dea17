-- How many bytes parts of a message have, where their number does not fit 64 bits.
use Rattle.std.specs.Prelude.{◌≡◌, ℕ, ◌^◌, ◌≤◌}
use Rattle.column_base.specs.declared.error.VortexError.{VortexError}
use Rattle.column_base.specs.declared.error.VortexError.TheVariants.{OutOfMemory}

-- the number of bytes does not fit 64 bits, so no memory has them
pub record IsPast (size : ℕ) (error : VortexError) : Type 0 where
  pub told : error ≡ OutOfMemory
  pub past : 2 ^ 64 ≤ size
