use Rattle.std.proofs.Common.{◌≡◌, ◌+◌, ◌++◌, replicate}
use Rattle.runend_windows.proofs.run_writer.append_copies.Given as goal

abbrev pub invariant-loop : goal.invariant-loop
invariant-loop g l = (l.items.items ≡ l.initial.items.items ++ replicate l.counter l.value) × (l.items.len ≡ l.initial.items.len + l.counter) × (l.items.cap ≡ l.initial.items.cap)
