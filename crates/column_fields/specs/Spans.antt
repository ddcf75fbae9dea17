-- What run lengths say about ends without a list of these.
use Rattle.std.specs.Prelude.{◌≡◌, ℕ, ◌-◌, true, List, length, get_or}
use Rattle.column_base.specs.declared.dtype.PType.{PType}
use Rattle.column_fields.specs.Lengths.{lengths_bytes, Rises, AreEndsOf}

-- ends of the type, of that count, have these lengths; these are the first and the last, or 0 where there are none
pub record AreSpanned (t : PType) (bytes : List ℕ) (count first last : ℕ) : Type 0 where
  pub ends : List ℕ
  pub fit : AreEndsOf t ends
  pub rise : Rises true 0 ends
  pub spelt : bytes ≡ lengths_bytes 0 ends
  pub counted : length ends ≡ count
  pub first_is : get_or ends 0 0 ≡ first
  pub last_is : get_or ends (count - 1) 0 ≡ last
