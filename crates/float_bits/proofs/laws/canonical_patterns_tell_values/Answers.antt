use Rattle.float_bits.proofs.CanonicalPatterns.{canonical_of_values, values_of_canonical}
use Rattle.float_bits.proofs.laws.canonical_patterns_tell_values.Goals as goal

pub returns : goal.returns
returns c = λ f a b p q. (canonical_of_values f a b p q, values_of_canonical f a b)
