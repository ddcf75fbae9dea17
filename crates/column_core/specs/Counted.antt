-- What a contract sees of the ends of runs whose tests are counted.
use Rattle.std.specs.Prelude.{ℕ, List}

-- the ends of the runs, and how many tests of an end were made
pub record Counted : Type 0 where
  pub ends : List ℕ
  pub tests : ℕ
