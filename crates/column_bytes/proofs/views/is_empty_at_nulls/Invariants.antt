use Rattle.std.proofs.Common.{◌≡◌, ◌<◌, ℕ, false, get_or}
use Rattle.column_base.specs.Validity.{form_of}
use Rattle.column_base.specs.ValidityForm.{flag_at}
use Rattle.column_bytes.specs.Texts.{sizes_in}
use Rattle.column_bytes.proofs.views.is_empty_at_nulls.Given as goal

abbrev pub invariant-loop-row : goal.invariant-loop-row
invariant-loop-row g l = (k : ℕ) → k < l.row → flag_at (form_of l.validity) k ≡ false → get_or (sizes_in l.views) k 0 ≡ 0
