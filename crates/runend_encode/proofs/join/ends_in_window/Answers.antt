use Rattle.std.proofs.Common.{sym, ◌∙◌}
use Rattle.runend_windows.specs.Ends.{ends_of}
use Rattle.runend_encode.proofs.Moved.{windowed-same}
use Rattle.runend_encode.proofs.join.ends_in_window.Goals as goal

-- no end moves
pub returns-then-last_end_of-count-clause-ends : goal.returns-then-last_end_of-count-clause-ends
returns-then-last_end_of-count-clause-ends g c =
    windowed-same (ends_of c.args.ends) c.args.offset c.args.count c.requires.window c.requires.shown c.if-offset-eq0.true (sym c.last_end_of.ensures ∙ c.if-last_end_of-count.true)
