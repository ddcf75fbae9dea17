use Rattle.std.proofs.Common.{sym, ap}
use Rattle.column_base.specs.Numbers.{numbers}
use Rattle.runend_array.proofs.ListItems.{number-read}
use Rattle.runend_array.proofs.ops.end_among.Goals as goal

pub returns-in-U8 : goal.returns-in-U8
returns-in-U8 g c =
    number-read (numbers c.args.ends.now) c.in-U8.items.items c.args.run c.index.result.now (sym (ap numbers c.in-U8.is)) c.requires.within c.index.ensures

pub returns-in-U16 : goal.returns-in-U16
returns-in-U16 g c =
    number-read (numbers c.args.ends.now) c.in-U16.items.items c.args.run c.index-in-U16.result.now (sym (ap numbers c.in-U16.is)) c.requires.within c.index-in-U16.ensures

pub returns-in-U32 : goal.returns-in-U32
returns-in-U32 g c =
    number-read (numbers c.args.ends.now) c.in-U32.items.items c.args.run c.index-in-U32.result.now (sym (ap numbers c.in-U32.is)) c.requires.within c.index-in-U32.ensures

pub returns-in-U64 : goal.returns-in-U64
returns-in-U64 g c =
    number-read (numbers c.args.ends.now) c.in-U64.items.items c.args.run c.index-in-U64.result.now (sym (ap numbers c.in-U64.is)) c.requires.within c.index-in-U64.ensures
