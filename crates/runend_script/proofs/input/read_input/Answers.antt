use Rattle.std.proofs.Common.{◌≡◌, ◌∙◌, ◌++◌, ℕ, List, ap, arith, drop, length, sym, take}
use Rattle.std.proofs.lemmas.List.{take_at}
use Rattle.runend_script.proofs.CountedReads.{read_again, within}
use Rattle.runend_script.proofs.KnownInput.{consumes_more}
use Rattle.runend_script.proofs.input.read_input.Goals as goal

pub returns-in-Ok-eq0-clause-reads : goal.returns-in-Ok-eq0-clause-reads
returns-in-Ok-eq0-clause-reads g c = within g.R.Read.remaining 65536 c.args.input.now.left c.read.new.self.left c.args.input.now.reader.now c.read.new.self.reader.now
    (read_again g.R.Read.remaining 65536 c.args.input.now.left c.loop-input.input.left c.read.new.self.left c.args.input.now.reader.now c.loop-input.input.reader.now c.read.new.self.reader.now c.read.result c.read.new.block
    c.loop-input.invariant.reads c.read.ensures.left (omega arith) c.read.ensures.block c.read.ensures.bound c.read.ensures.bytes)

pub returns-in_err-extend_from_slice-in-Ok-clause-reads : goal.returns-in_err-extend_from_slice-in-Ok-clause-reads
returns-in_err-extend_from_slice-in-Ok-clause-reads g c = within g.R.Read.remaining 65536 c.args.input.now.left c.read.new.self.left c.args.input.now.reader.now c.read.new.self.reader.now
    (read_again g.R.Read.remaining 65536 c.args.input.now.left c.loop-input.input.left c.read.new.self.left c.args.input.now.reader.now c.loop-input.input.reader.now c.read.new.self.reader.now c.read.result c.read.new.block
    c.loop-input.invariant.reads c.read.ensures.left (omega arith) c.read.ensures.block c.read.ensures.bound c.read.ensures.bytes)

pub returns-in-Err-clause-reads : goal.returns-in-Err-clause-reads
returns-in-Err-clause-reads g c = within g.R.Read.remaining 65536 c.args.input.now.left c.read.new.self.left c.args.input.now.reader.now c.read.new.self.reader.now
    (read_again g.R.Read.remaining 65536 c.args.input.now.left c.loop-input.input.left c.read.new.self.left c.args.input.now.reader.now c.loop-input.input.reader.now c.read.new.self.reader.now c.read.result c.read.new.block
    c.loop-input.invariant.reads c.read.ensures.left (omega arith) c.read.ensures.block c.read.ensures.bound c.read.ensures.bytes)

pub loop-input-preserved : goal.loop-input-preserved
loop-input-preserved g c = let more : c.extend_from_slice.new.self.items ≡ c.loop-input.all.items ++ take c.in-Ok.n c.read.new.block = c.in_ok-extend_from_slice-in-Ok.ensures.items ∙ ap (λ (block : List ℕ). c.loop-input.all.items ++ take c.in-Ok.n block) (c.deref.ensures.value ∙ take_at c.read.new.block (drop (length c.read.new.block) c.loop-input.block.items) c.loop-input.block.len (c.read.ensures.block ∙ sym c.loop-input.invariant.room)) in record {
  read = rw more (consumes_more (g.R.Read.remaining c.args.input.now.reader.now) (g.R.Read.remaining c.loop-input.input.reader.now) (g.R.Read.remaining c.read.new.self.reader.now) c.loop-input.all.items (take c.in-Ok.n c.read.new.block) c.loop-input.invariant.read (c.in-Ok.ensures.bytes).0);
  reads = read_again g.R.Read.remaining 65536 c.args.input.now.left c.loop-input.input.left c.read.new.self.left c.args.input.now.reader.now c.loop-input.input.reader.now c.read.new.self.reader.now c.read.result c.read.new.block
      c.loop-input.invariant.reads c.read.ensures.left (omega arith) c.read.ensures.block c.read.ensures.bound c.read.ensures.bytes;
  same = c.read.ensures.same_reader ∙ c.loop-input.invariant.same;
  left = omega (arith, c.read.ensures.left, c.loop-input.invariant.left);
  room = c.loop-input.invariant.room;
}
