use Rattle.std.proofs.Common.{◌-◌, ◌++◌, replicate, ap, ◌∙◌, arith}
use Rattle.runend_windows.proofs.BitRuns.{Extended-append, Extended-kept, Extended-filled, same-bit}
use Rattle.runend_windows.proofs.bit_runs.BitRuns.repeat_to.Goals as goal
use Rattle.runend_windows.proofs.bit_runs.BitRuns.repeat_to.Goals.{then-end-len+in_ok-append_n, else-end-len+then-bit-self, else-end-len+else-bit-self}

pub invariant_of-self-2 : goal.invariant_of-self-2
invariant_of-self-2 g c =
    let old = c.self.inside in
    let end = c.args.end in
    let bit = c.args.bit in
    elim c.if-end-len.branch [
      | then-end-len+in_ok-append_n w ↦
          rw w.self-inside-is
          (Extended-append old.bits w.append_n.new.self old.written end bit old.background c.self.invariant c.if-end-self.false (omega arith)
          (w.in_ok-append_n.ensures.ok ∙ ap (λ bs. bs ++ replicate (end - old.written) bit) w.truncate.ensures)).over
      | else-end-len+then-bit-self w ↦
          rw w.self-inside-is
          (Extended-filled old.bits w.fill_range.new.self old.written end bit old.background c.self.invariant c.if-end-self.false (omega arith) w.fill_range.ensures).over
      | else-end-len+else-bit-self w ↦
          rw w.self-inside-is
          (Extended-kept old.bits old.written end bit old.background c.self.invariant c.if-end-self.false (omega arith) (same-bit bit old.background w.if-bit-self.false)).over
    ]

pub returns-clause-ok : goal.returns-clause-ok
returns-clause-ok g c =
    let old = c.self.inside in
    let end = c.args.end in
    let bit = c.args.bit in
    elim c.if-end-len.branch [
      | then-end-len+in_ok-append_n w ↦
          rw (w.self-inside-is, ← c.self.view_is)
          (Extended-append old.bits w.append_n.new.self old.written end bit old.background c.self.invariant c.if-end-self.false (omega arith)
          (w.in_ok-append_n.ensures.ok ∙ ap (λ bs. bs ++ replicate (end - old.written) bit) w.truncate.ensures)).rows
      | else-end-len+then-bit-self w ↦
          rw (w.self-inside-is, ← c.self.view_is)
          (Extended-filled old.bits w.fill_range.new.self old.written end bit old.background c.self.invariant c.if-end-self.false (omega arith) w.fill_range.ensures).rows
      | else-end-len+else-bit-self w ↦
          rw (w.self-inside-is, ← c.self.view_is)
          (Extended-kept old.bits old.written end bit old.background c.self.invariant c.if-end-self.false (omega arith) (same-bit bit old.background w.if-bit-self.false)).rows
    ]

pub returns-clause-left : goal.returns-clause-left
returns-clause-left g c =
    let old = c.self.inside in
    let end = c.args.end in
    let bit = c.args.bit in
    elim c.if-end-len.branch [
      | then-end-len+in_ok-append_n w ↦
          rw (w.self-inside-is, ← c.self.view_is)
          (Extended-append old.bits w.append_n.new.self old.written end bit old.background c.self.invariant c.if-end-self.false (omega arith)
          (w.in_ok-append_n.ensures.ok ∙ ap (λ bs. bs ++ replicate (end - old.written) bit) w.truncate.ensures)).left
      | else-end-len+then-bit-self w ↦
          rw (w.self-inside-is, ← c.self.view_is)
          (Extended-filled old.bits w.fill_range.new.self old.written end bit old.background c.self.invariant c.if-end-self.false (omega arith) w.fill_range.ensures).left
      | else-end-len+else-bit-self w ↦
          rw (w.self-inside-is, ← c.self.view_is)
          (Extended-kept old.bits old.written end bit old.background c.self.invariant c.if-end-self.false (omega arith) (same-bit bit old.background w.if-bit-self.false)).left
    ]
