use Rattle.std.proofs.Common.{◌≡◌, ◌≤◌, length, map, take, vec_capacity, vec_len}
use Rattle.runend_decimals.proofs.from_integers.widened_items.Given as goal

abbrev pub invariant-loop-item : goal.invariant-loop-item
invariant-loop-item g l = record {
  items : l.widened.items ≡ map g.T.NativePType.number (take l.item-index l.items);
  len : vec_len l.widened ≡ l.item-index;
  room : length l.items ≤ vec_capacity l.widened;
}
