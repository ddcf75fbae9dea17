use Rattle.std.proofs.Common.{true, refl, arith}
use Rattle.column_bytes.proofs.run_cursors.before_runs.Goals as goal

pub returns : goal.returns
returns c = λ ends position rise few spelt. record {
  first = true;
  rise = rise;
  spelt = spelt;
  few = few;
  within = omega arith;
  last = λ some. absurd (omega (arith, some));
  none = λ z. refl;
  passed = λ run lt. absurd (omega (arith, lt));
}
