use Rattle.std.proofs.Common.{◌≡◌, ◌-◌, ◌<◌, ℕ, length, map, set, slice_index, sym, ap, ◌∙◌, arith}
use Rattle.std.proofs.lemmas.List.{get_or-map, length-map, map-set}
use Rattle.runend_encode.proofs.shifted.cut_last.Goals as goal

pub returns : goal.returns
returns g c =
    let natural = g.E.UnsignedPType.natural in
    let ends = c.args.ends.now in
    let last : ℕ = length ends - 1 in
    let within : last < length ends = omega arith in
    let first = c.index-ends-last.result in
    let second = c.index-ends-last-2.result in
    let here : natural first ≡ slice_index (map natural ends) last = ap natural c.index-ends-last.is ∙ sym (get_or-map natural ends last first 0 within) in
    let again : natural second ≡ slice_index (map natural ends) last = ap natural c.index-ends-last-2.is ∙ sym (get_or-map natural ends last second 0 within) in
    let place : length (map natural ends) - 1 ≡ last = ap (λ (n : ℕ). n - 1) (length-map ends natural) in
    let top = ap (slice_index (map natural ends)) place in
    let below = c.requires in
    let is : natural c.earlier.result ≡ c.args.count = omega (arith, c.earlier.ensures, c.to_u64.ensures) in
    map-set natural ends last c.earlier.result ∙ ap (λ (n : ℕ). set (map natural ends) last n) is
