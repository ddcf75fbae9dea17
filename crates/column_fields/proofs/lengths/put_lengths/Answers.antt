use Rattle.std.proofs.Common.{◌≡◌, ◌∙◌, ◌+◌, ◌-◌, ◌++◌, ℕ, List, refl, sym, ap, arith, append_assoc, map, length}
use Rattle.std.proofs.lemmas.List.{length-append}
use Rattle.std.proofs.lemmas.Result.{on_ok_weaker}
use Rattle.column_fields.specs.Lengths.{lengths_bytes}
use Rattle.column_fields.specs.Varint.{varint}
use Rattle.column_fields.proofs.LengthLaws.{first_run, lengths_done}
use Rattle.column_fields.proofs.RoomLaws.{last_part, refused}
use Rattle.column_fields.proofs.lengths.put_lengths.Goals as goal

pub returns-in_default-clause-ok : goal.returns-in_default-clause-ok
returns-in_default-clause-ok g c = lengths_done g.E.UnsignedPType.natural c.args.ends.now 0 0 (g.W.BufMut.written c.args.out.now) _ (omega (arith, c.in_default.ensures.cases)) refl

pub returns-in_err-put_varint-clause-room : goal.returns-in_err-put_varint-clause-room
returns-in_err-put_varint-clause-room g c =
    let natural = g.E.UnsignedPType.natural in
    let rest = lengths_bytes (natural c.in-Some.first.now) (map natural c.in-Some.others.now) in
    let all = first_run natural c.args.ends.now c.in-Some.first.now c.in-Some.others.now c.end.result c.in-Some.ensures.cases.0 c.end.ensures.value in
    refused _ _ _ _ c.from_residual.ensures.0 (omega (arith, ap length all, length-append (varint c.end.result) rest, c.in_err-put_varint.ensures.room))

pub returns-clause-ok : goal.returns-clause-ok
returns-clause-ok g c =
    let natural = g.E.UnsignedPType.natural in
    let old : List ℕ = g.W.BufMut.written c.args.out.now in
    let rest = lengths_bytes (natural c.in-Some.first.now) (map natural c.in-Some.others.now) in
    let all = first_run natural c.args.ends.now c.in-Some.first.now c.in-Some.others.now c.end.result c.in-Some.ensures.cases.0 c.end.ensures.value in
    on_ok_weaker c.put_behind.result
    (λ ok. ok ∙ ap (λ (t : List ℕ). t ++ rest) c.in_ok-put_varint.ensures.ok ∙ append_assoc old (varint c.end.result) rest ∙ ap (λ (t : List ℕ). old ++ t) (sym all)) c.put_behind.ensures.ok

pub returns-clause-room : goal.returns-clause-room
returns-clause-room g c =
    let natural = g.E.UnsignedPType.natural in
    let rest = lengths_bytes (natural c.in-Some.first.now) (map natural c.in-Some.others.now) in
    let all = first_run natural c.args.ends.now c.in-Some.first.now c.in-Some.others.now c.end.result c.in-Some.ensures.cases.0 c.end.ensures.value in
    last_part _ _ _ _ _ _ (omega (arith, ap length all, length-append (varint c.end.result) rest, c.in_ok-put_varint.ensures.room)) c.put_behind.ensures.room
