use Rattle.std.proofs.Common.{◌≡◌, ◌∙◌, sym, ap, arith, ℕ, map, ◌+◌, ◌-◌, length}
use Rattle.std.proofs.lemmas.List.{length-append}
use Rattle.column_fields.specs.Varint.{varint}
use Rattle.column_fields.specs.Lengths.{lengths_bytes}
use Rattle.column_fields.proofs.LengthLaws.{lengths_cons, none_left}
use Rattle.column_fields.proofs.length_sizes.measure.Goals as goal

pub returns-in_default-clause-size : goal.returns-in_default-clause-size
returns-in_default-clause-size g c =
    sym (none_left g.E.UnsignedPType.natural c.args.ends.now 0 0 (omega (arith, c.in_default.ensures.cases)))

pub returns-clause-size : goal.returns-clause-size
returns-clause-size g c =
    let natural = g.E.UnsignedPType.natural in
    let first = natural c.in-Some.first.now in
    let behind = lengths_bytes first (map natural c.in-Some.others.now) in
    let all : length (lengths_bytes 0 (map natural c.args.ends.now)) ≡ length (varint (first - 0)) + length behind =
    ap (λ xs. length (lengths_bytes 0 (map natural xs))) c.in-Some.ensures.cases.0 ∙ ap length (lengths_cons 0 first (map natural c.in-Some.others.now)) ∙ length-append (varint (first - 0)) behind in
    let one : c.varint_size.result ≡ length (varint (first - 0)) = c.varint_size.ensures.size ∙ ap (λ (n : ℕ). length (varint n)) (omega (arith, c.end.ensures.value)) in
    omega (arith, all, one, c.measure_behind.ensures.size)
