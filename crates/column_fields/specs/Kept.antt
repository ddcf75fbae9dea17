-- What a writer leaves of what was in its buffer, also where it is refused.
use Rattle.std.specs.Prelude.{ℕ, List}
use Rattle.std.specs.Io.{StartsWith}

-- the bytes that were there are at the front: cut to their number, the buffer is as it was
pub record StaysInFront (old new : List ℕ) : Type 0 where
  pub front : StartsWith new old
