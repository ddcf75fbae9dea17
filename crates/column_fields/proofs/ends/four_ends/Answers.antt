use Rattle.std.proofs.Common.{◌+◌, ◌++◌, ◌∷◌, [], ℕ, List, ap, sym, ◌∙◌, arith}
use Rattle.column_fields.specs.Lengths.{lengths_bytes}
use Rattle.column_fields.proofs.WordLaws.{FourLengths, four_lengths, four_rise, four_fit}
use Rattle.column_fields.proofs.ends.four_ends.Goals as goal

pub returns-clause-found : goal.returns-clause-found
returns-clause-found g c =
    let h : FourLengths c.args.start c.in_ok-first.first.end c.in_ok-second.second.end c.in_ok-third.third.end c.in_ok-fourth.fourth.end (c.in_ok-first.first.size + c.in_ok-second.second.size + c.in_ok-third.third.size + c.in_ok-fourth.fourth.size) c.args.bytes.now =
    four_lengths c.args.start _ _ _ _ c.in_ok-first.first.size c.in_ok-second.second.size c.in_ok-third.third.size c.in_ok-fourth.fourth.size c.from_le_bytes-word.result c.in_ok-first.first.rest c.in_ok-second.second.rest c.in_ok-third.third.rest c.in_ok-fourth.fourth.rest c.args.bytes.now c.in_ok-first_chunk.field-0.now c.in_ok-first_chunk.ensures.cases.enough c.in_ok-first_chunk.ensures.cases.same (λ i. omega (arith, c.type_inv.bytes i)) c.from_le_bytes-word.ensures c.in_ok-first.ensures c.in_ok-second.ensures c.in_ok-third.ensures c.in_ok-fourth.ensures in
    h.found ∙ ap (λ (t : List ℕ). lengths_bytes c.args.start (c.in_ok-first.first.end ∷ c.in_ok-second.second.end ∷ c.in_ok-third.third.end ∷ c.in_ok-fourth.fourth.end ∷ []) ++ t) (sym c.split_at.ensures.back)

pub returns-clause-rises : goal.returns-clause-rises
returns-clause-rises g c =
    let h : FourLengths c.args.start c.in_ok-first.first.end c.in_ok-second.second.end c.in_ok-third.third.end c.in_ok-fourth.fourth.end (c.in_ok-first.first.size + c.in_ok-second.second.size + c.in_ok-third.third.size + c.in_ok-fourth.fourth.size) c.args.bytes.now =
    four_lengths c.args.start _ _ _ _ c.in_ok-first.first.size c.in_ok-second.second.size c.in_ok-third.third.size c.in_ok-fourth.fourth.size c.from_le_bytes-word.result c.in_ok-first.first.rest c.in_ok-second.second.rest c.in_ok-third.third.rest c.in_ok-fourth.fourth.rest c.args.bytes.now c.in_ok-first_chunk.field-0.now c.in_ok-first_chunk.ensures.cases.enough c.in_ok-first_chunk.ensures.cases.same (λ i. omega (arith, c.type_inv.bytes i)) c.from_le_bytes-word.ensures c.in_ok-first.ensures c.in_ok-second.ensures c.in_ok-third.ensures c.in_ok-fourth.ensures in
    four_rise _ _ _ _ _ _ _ h (omega arith)

pub returns-clause-fit : goal.returns-clause-fit
returns-clause-fit g c =
    let h : FourLengths c.args.start c.in_ok-first.first.end c.in_ok-second.second.end c.in_ok-third.third.end c.in_ok-fourth.fourth.end (c.in_ok-first.first.size + c.in_ok-second.second.size + c.in_ok-third.third.size + c.in_ok-fourth.fourth.size) c.args.bytes.now =
    four_lengths c.args.start _ _ _ _ c.in_ok-first.first.size c.in_ok-second.second.size c.in_ok-third.third.size c.in_ok-fourth.fourth.size c.from_le_bytes-word.result c.in_ok-first.first.rest c.in_ok-second.second.rest c.in_ok-third.third.rest c.in_ok-fourth.fourth.rest c.args.bytes.now c.in_ok-first_chunk.field-0.now c.in_ok-first_chunk.ensures.cases.enough c.in_ok-first_chunk.ensures.cases.same (λ i. omega (arith, c.type_inv.bytes i)) c.from_le_bytes-word.ensures c.in_ok-first.ensures c.in_ok-second.ensures c.in_ok-third.ensures c.in_ok-fourth.ensures in
    four_fit g.E.NativePType.PTYPE _ _ _ _ _ _ _ h c.in_ok-of_end.ensures.0

pub returns-clause-shorter : goal.returns-clause-shorter
returns-clause-shorter g c =
    let h : FourLengths c.args.start c.in_ok-first.first.end c.in_ok-second.second.end c.in_ok-third.third.end c.in_ok-fourth.fourth.end (c.in_ok-first.first.size + c.in_ok-second.second.size + c.in_ok-third.third.size + c.in_ok-fourth.fourth.size) c.args.bytes.now =
    four_lengths c.args.start _ _ _ _ c.in_ok-first.first.size c.in_ok-second.second.size c.in_ok-third.third.size c.in_ok-fourth.fourth.size c.from_le_bytes-word.result c.in_ok-first.first.rest c.in_ok-second.second.rest c.in_ok-third.third.rest c.in_ok-fourth.fourth.rest c.args.bytes.now c.in_ok-first_chunk.field-0.now c.in_ok-first_chunk.ensures.cases.enough c.in_ok-first_chunk.ensures.cases.same (λ i. omega (arith, c.type_inv.bytes i)) c.from_le_bytes-word.ensures c.in_ok-first.ensures c.in_ok-second.ensures c.in_ok-third.ensures c.in_ok-fourth.ensures in
    omega (arith, h.shorter, h.four, c.split_at.ensures.back_len, h.enough)
