-- An operation, and how often it was asked.
use Rattle.std.specs.Prelude.{ℕ}

pub record Asks (O : Type 0) : Type 0 where
  pub operation : O
  pub asks : ℕ
