-- How short runs are written.
use Rattle.std.specs.Prelude.{ℕ, if◌then◌else◌, nat_eq, nat_le}

-- how many items of a number of bytes are written at once, and 0 where they are written one by one
abbrev pub block_items : ℕ → ℕ
block_items bytes = if nat_eq bytes 1 then 32 else if nat_eq bytes 2 then 16 else if nat_le bytes 64 then 8 else 0
