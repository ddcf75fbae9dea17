use Rattle.std.proofs.Common.{◌≡◌, ◌≢◌, ◌-◌, Bool, true, false, refl, sym, arith}
use mathlib.Core.Bool.{beq, not}
use Rattle.runend_windows.proofs.ValidRuns.{differ-from_ne_of, same-from_ne_of}
use Rattle.runend_encode.proofs.Marked.{alike, apart-by_flag, apart-by_number}
use Rattle.runend_encode.proofs.joined.shows_other.Goals as goal

unlike : (v w : Bool) → not (beq w v) ≡ true → v ≢ w
unlike true true e same = cc
unlike true false e same = cc
unlike false true e same = cc
unlike false false e same = cc

equal : (v w : Bool) → not (beq w v) ≡ false → v ≡ w
equal true true e = refl
equal true false e = cc
equal false true e = cc
equal false false e = refl

pub returns-then-ne-clause-yes : goal.returns-then-ne-clause-yes
returns-then-ne-clause-yes g c _ =
    let number = g.T.NativePType.number in
    let item = c.index-items-run.result in
    let before = c.index-items-run-2.result in
    let differ = differ-from_ne_of g.T.PartialEq.eq g.T.Ord.cmp g.T.Default.is_default number g.met.T.NativePType.law item before c.ne.result c.ne.ensures c.if-ne.true in
    apart-by_number number c.args.items.now c.args.marks.now (c.args.run - 1) c.args.run before item (omega arith) c.requires.within c.requires.counted c.requires.zeroed
    c.index-items-run-2.is c.index-items-run.is differ

pub returns-clause-yes : goal.returns-clause-yes
returns-clause-yes g c differ =
    apart-by_flag g.T.NativePType.number c.args.items.now c.args.marks.now (c.args.run - 1) c.args.run c.index-items-run-2.result c.index-items-run.result c.value-2.result c.value.result
    (omega arith) c.requires.within c.index-items-run-2.is c.index-items-run.is c.value-2.ensures c.value.ensures (unlike c.value-2.result c.value.result differ)

pub returns-clause-no : goal.returns-clause-no
returns-clause-no g c same =
    let item = c.index-items-run.result in
    let before = c.index-items-run-2.result in
    let number = same-from_ne_of g.T.PartialEq.eq g.T.Ord.cmp g.T.Default.is_default g.T.NativePType.number g.met.T.NativePType.law item before c.ne.result c.ne.ensures c.if-ne.false in
    alike g.T.NativePType.number c.args.items.now c.args.marks.now (c.args.run - 1) c.args.run before item c.value-2.result c.value.result
    (omega arith) c.requires.within c.index-items-run-2.is c.index-items-run.is c.value-2.ensures c.value.ensures (equal c.value-2.result c.value.result same) (sym number)
