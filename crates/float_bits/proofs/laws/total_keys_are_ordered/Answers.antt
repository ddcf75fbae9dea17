use Rattle.float_bits.proofs.TotalKeys.{order_of_keys, keys_of_order, key_once}
use Rattle.float_bits.proofs.laws.total_keys_are_ordered.Goals as goal

pub returns : goal.returns
returns c = record {
  order = (λ f a b p q. (keys_of_order f a b p q, order_of_keys f a b p q));
  once = key_once;
}
