use Rattle.std.proofs.Common.{◌∙◌, sym}
use Rattle.runend_windows.proofs.ValidRuns.{differ-from_ne_of}
use Rattle.runend_encode.proofs.Marked.{marked-nonzero}
use Rattle.runend_encode.proofs.joined.shows_number.Goals as goal

pub returns-then-ne : goal.returns-then-ne
returns-then-ne g c =
    let number = g.T.NativePType.number in
    let item = c.index-items-run.result in
    let zero = g.met.T.NativePType.law.zeroth c.default.result c.default.ensures in
    let differ = differ-from_ne_of g.T.PartialEq.eq g.T.Ord.cmp g.T.Default.is_default number g.met.T.NativePType.law item c.default.result c.ne.result c.ne.ensures c.if-ne.true in
    marked-nonzero number c.args.items.now c.args.marks.now c.args.run item c.requires.within c.requires.counted c.index-items-run.is c.requires.zeroed (λ none. differ (zero ∙ sym none))
