use Rattle.std.specs.Io.KnownBytes.{Consumes}
use Rattle.std.proofs.Common.{◌≡◌, ◌≤◌, vec_len}
use Rattle.runend_script.proofs.CountedReads.{IsReadSo}
use Rattle.runend_script.proofs.input.read_input.Given as goal

abbrev pub invariant-loop-input : goal.invariant-loop-input
invariant-loop-input g l = record {
  read : Consumes (g.R.Read.remaining l.initial.input.reader.now) (g.R.Read.remaining l.input.reader.now) l.all.items;
  reads : IsReadSo g.R.Read.remaining 65536 l.initial.input.left l.initial.input.reader.now l.input.left l.input.reader.now;
  same : l.input.reader.ghost_name ≡ l.initial.input.reader.ghost_name;
  left : l.input.left ≤ l.initial.input.left;
  room : vec_len l.block ≡ 65536;
}

abbrev pub decreases-loop-input : goal.decreases-loop-input
decreases-loop-input g l = l.input.left
