-- What was in a buffer stays in front of what is written after it.
use Rattle.std.proofs.Common.{◌≡◌, ℕ, List, ◌++◌}
use Rattle.std.proofs.Transfers.{starts_with_of_eq, starts_with_of_append, starts_with_trans}
use Rattle.column_fields.specs.Kept.{StaysInFront}

pub kept_same : (old new : List ℕ) → new ≡ old → StaysInFront old new
kept_same old new e = record { front = starts_with_of_eq new old e }

pub kept_behind : (old new rest : List ℕ) → new ≡ old ++ rest → StaysInFront old new
kept_behind old new rest e = record { front = starts_with_of_append new old rest e }

pub kept_on : (old between new : List ℕ) → StaysInFront old between → StaysInFront between new → StaysInFront old new
kept_on old between new a b = record { front = starts_with_trans new between old b.front a.front }
