use Rattle.std.proofs.Common.{◌∙◌, ℤ, List, ap, length, map, pos, subst, sym}
use Rattle.std.specs.Prelude.{IfOk, unsigned_abs}
use Rattle.column_base.specs.Numbers.{numbers}
use Rattle.row_stretches.specs.Pieces.{AreCut, runs_of}
use Rattle.row_stretches.specs.Stretches.{stretch_rows}
use Rattle.row_stretches.proofs.pieces.pieces_among.Goals as goal

pub returns-in-U8-match_each_unsigned-clause-cut : goal.returns-in-U8-match_each_unsigned-clause-cut
returns-in-U8-match_each_unsigned-clause-cut g c =
    let shown = ap (map pos) c.as_slice.ensures.value ∙ sym (ap numbers c.in-U8-match_each_unsigned.is) in
    subst
    (λ (ns : List ℤ). IfOk c.pieces_in.result (λ pieces. AreCut (length (map unsigned_abs ns)) (stretch_rows (runs_of (map unsigned_abs ns) c.args.offset c.args.count) c.args.order.now) pieces.ends.items pieces.runs.items pieces.count))
    shown c.pieces_in.ensures.cut

pub returns-in-U16-match_each_unsigned-clause-cut : goal.returns-in-U16-match_each_unsigned-clause-cut
returns-in-U16-match_each_unsigned-clause-cut g c =
    let shown = ap (map pos) c.as_slice-2.ensures.value ∙ sym (ap numbers c.in-U16-match_each_unsigned.is) in
    subst
    (λ (ns : List ℤ). IfOk c.pieces_in-2.result (λ pieces. AreCut (length (map unsigned_abs ns)) (stretch_rows (runs_of (map unsigned_abs ns) c.args.offset c.args.count) c.args.order.now) pieces.ends.items pieces.runs.items pieces.count))
    shown c.pieces_in-2.ensures.cut

pub returns-in-U32-match_each_unsigned-clause-cut : goal.returns-in-U32-match_each_unsigned-clause-cut
returns-in-U32-match_each_unsigned-clause-cut g c =
    let shown = ap (map pos) c.as_slice-3.ensures.value ∙ sym (ap numbers c.in-U32-match_each_unsigned.is) in
    subst
    (λ (ns : List ℤ). IfOk c.pieces_in-3.result (λ pieces. AreCut (length (map unsigned_abs ns)) (stretch_rows (runs_of (map unsigned_abs ns) c.args.offset c.args.count) c.args.order.now) pieces.ends.items pieces.runs.items pieces.count))
    shown c.pieces_in-3.ensures.cut

pub returns-in-U64-match_each_unsigned-clause-cut : goal.returns-in-U64-match_each_unsigned-clause-cut
returns-in-U64-match_each_unsigned-clause-cut g c =
    let shown = ap (map pos) c.as_slice-4.ensures.value ∙ sym (ap numbers c.in-U64-match_each_unsigned.is) in
    subst
    (λ (ns : List ℤ). IfOk c.pieces_in-4.result (λ pieces. AreCut (length (map unsigned_abs ns)) (stretch_rows (runs_of (map unsigned_abs ns) c.args.offset c.args.count) c.args.order.now) pieces.ends.items pieces.runs.items pieces.count))
    shown c.pieces_in-4.ensures.cut
