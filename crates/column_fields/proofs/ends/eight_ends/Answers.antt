use Rattle.std.proofs.Common.{◌≡◌, ◌+◌, ◌<◌, ◌^◌, ℕ, pos, map, List, [], ◌∷◌, get_or, refl, arith}
use Rattle.column_base.specs.Types.{HasNumber}
use Rattle.column_fields.proofs.ShortLaws.{EightSums, eight, eight_told, ends_behind, ends_found, ends_rise, ends_all, has_less}
use Rattle.column_fields.proofs.ends.eight_ends.Goals as goal

pub overflow_add-result : goal.overflow_add-result
overflow_add-result g c =
    let h = eight_told c.args.bytes.now c.in_ok-lengths.lengths.now c.running_sums-sums.result c.in_ok-lengths.ensures.cases.enough c.in_ok-lengths.ensures.cases.same (c.if-not-are_short.ensures refl) c.running_sums-sums.ensures in
    omega (arith, h.l0, c.in_ok-last.ensures)

pub overflow_add-result-2 : goal.overflow_add-result-2
overflow_add-result-2 g c =
    let h = eight_told c.args.bytes.now c.in_ok-lengths.lengths.now c.running_sums-sums.result c.in_ok-lengths.ensures.cases.enough c.in_ok-lengths.ensures.cases.same (c.if-not-are_short.ensures refl) c.running_sums-sums.ensures in
    omega (arith, h.l1, c.in_ok-last.ensures)

pub overflow_add-result-3 : goal.overflow_add-result-3
overflow_add-result-3 g c =
    let h = eight_told c.args.bytes.now c.in_ok-lengths.lengths.now c.running_sums-sums.result c.in_ok-lengths.ensures.cases.enough c.in_ok-lengths.ensures.cases.same (c.if-not-are_short.ensures refl) c.running_sums-sums.ensures in
    omega (arith, h.l2, c.in_ok-last.ensures)

pub overflow_add-result-4 : goal.overflow_add-result-4
overflow_add-result-4 g c =
    let h = eight_told c.args.bytes.now c.in_ok-lengths.lengths.now c.running_sums-sums.result c.in_ok-lengths.ensures.cases.enough c.in_ok-lengths.ensures.cases.same (c.if-not-are_short.ensures refl) c.running_sums-sums.ensures in
    omega (arith, h.l3, c.in_ok-last.ensures)

pub overflow_add-result-5 : goal.overflow_add-result-5
overflow_add-result-5 g c =
    let h = eight_told c.args.bytes.now c.in_ok-lengths.lengths.now c.running_sums-sums.result c.in_ok-lengths.ensures.cases.enough c.in_ok-lengths.ensures.cases.same (c.if-not-are_short.ensures refl) c.running_sums-sums.ensures in
    omega (arith, h.l4, c.in_ok-last.ensures)

pub overflow_add-result-6 : goal.overflow_add-result-6
overflow_add-result-6 g c =
    let h = eight_told c.args.bytes.now c.in_ok-lengths.lengths.now c.running_sums-sums.result c.in_ok-lengths.ensures.cases.enough c.in_ok-lengths.ensures.cases.same (c.if-not-are_short.ensures refl) c.running_sums-sums.ensures in
    omega (arith, h.l5, c.in_ok-last.ensures)

pub overflow_add-result-7 : goal.overflow_add-result-7
overflow_add-result-7 g c =
    let h = eight_told c.args.bytes.now c.in_ok-lengths.lengths.now c.running_sums-sums.result c.in_ok-lengths.ensures.cases.enough c.in_ok-lengths.ensures.cases.same (c.if-not-are_short.ensures refl) c.running_sums-sums.ensures in
    omega (arith, h.l6, c.in_ok-last.ensures)

pub returns-clause-found : goal.returns-clause-found
returns-clause-found g c =
    let ss = c.running_sums-sums.result in
    let front = c.in_ok-lengths.lengths.now in
    let h : EightSums front ss = eight_told c.args.bytes.now c.in_ok-lengths.lengths.now c.running_sums-sums.result c.in_ok-lengths.ensures.cases.enough c.in_ok-lengths.ensures.cases.same (c.if-not-are_short.ensures refl) c.running_sums-sums.ensures in
    let last : c.in_ok-last.last ≡ c.args.start + get_or ss 7 0 = omega (arith, c.in_ok-last.ensures) in
    let es : List ℕ = (c.args.start + get_or ss 0 0) ∷ (c.args.start + get_or ss 1 0) ∷ (c.args.start + get_or ss 2 0) ∷ (c.args.start + get_or ss 3 0) ∷ (c.args.start + get_or ss 4 0) ∷ (c.args.start + get_or ss 5 0) ∷ (c.args.start + get_or ss 6 0) ∷ c.in_ok-last.last ∷ [] in
    let shown : es ≡ map (λ (s : ℕ). c.args.start + s) (eight ss) = λ i. (c.args.start + get_or ss 0 0) ∷ (c.args.start + get_or ss 1 0) ∷ (c.args.start + get_or ss 2 0) ∷ (c.args.start + get_or ss 3 0) ∷ (c.args.start + get_or ss 4 0) ∷ (c.args.start + get_or ss 5 0) ∷ (c.args.start + get_or ss 6 0) ∷ last i ∷ [] in
    ends_found c.args.start c.args.bytes.now front es c.in_ok-lengths.ensures.cases.same (ends_behind c.args.start front ss es h c.running_sums-sums.ensures shown) (c.if-not-are_short.ensures refl)

pub returns-clause-rises : goal.returns-clause-rises
returns-clause-rises g c =
    let ss = c.running_sums-sums.result in
    let front = c.in_ok-lengths.lengths.now in
    let h : EightSums front ss = eight_told c.args.bytes.now c.in_ok-lengths.lengths.now c.running_sums-sums.result c.in_ok-lengths.ensures.cases.enough c.in_ok-lengths.ensures.cases.same (c.if-not-are_short.ensures refl) c.running_sums-sums.ensures in
    let last : c.in_ok-last.last ≡ c.args.start + get_or ss 7 0 = omega (arith, c.in_ok-last.ensures) in
    let es : List ℕ = (c.args.start + get_or ss 0 0) ∷ (c.args.start + get_or ss 1 0) ∷ (c.args.start + get_or ss 2 0) ∷ (c.args.start + get_or ss 3 0) ∷ (c.args.start + get_or ss 4 0) ∷ (c.args.start + get_or ss 5 0) ∷ (c.args.start + get_or ss 6 0) ∷ c.in_ok-last.last ∷ [] in
    let shown : es ≡ map (λ (s : ℕ). c.args.start + s) (eight ss) = λ i. (c.args.start + get_or ss 0 0) ∷ (c.args.start + get_or ss 1 0) ∷ (c.args.start + get_or ss 2 0) ∷ (c.args.start + get_or ss 3 0) ∷ (c.args.start + get_or ss 4 0) ∷ (c.args.start + get_or ss 5 0) ∷ (c.args.start + get_or ss 6 0) ∷ last i ∷ [] in
    ends_rise c.args.start front es (ends_behind c.args.start front ss es h c.running_sums-sums.ensures shown) (c.if-not-are_short.ensures refl)
    (ends_all (λ (e : ℕ). e < 2 ^ 64) c.args.start c.in_ok-last.last front ss es h shown last (λ a le. omega (arith, le)))

pub returns-clause-fit : goal.returns-clause-fit
returns-clause-fit g c =
    let ss = c.running_sums-sums.result in
    let front = c.in_ok-lengths.lengths.now in
    let h : EightSums front ss = eight_told c.args.bytes.now c.in_ok-lengths.lengths.now c.running_sums-sums.result c.in_ok-lengths.ensures.cases.enough c.in_ok-lengths.ensures.cases.same (c.if-not-are_short.ensures refl) c.running_sums-sums.ensures in
    let last : c.in_ok-last.last ≡ c.args.start + get_or ss 7 0 = omega (arith, c.in_ok-last.ensures) in
    let es : List ℕ = (c.args.start + get_or ss 0 0) ∷ (c.args.start + get_or ss 1 0) ∷ (c.args.start + get_or ss 2 0) ∷ (c.args.start + get_or ss 3 0) ∷ (c.args.start + get_or ss 4 0) ∷ (c.args.start + get_or ss 5 0) ∷ (c.args.start + get_or ss 6 0) ∷ c.in_ok-last.last ∷ [] in
    let shown : es ≡ map (λ (s : ℕ). c.args.start + s) (eight ss) = λ i. (c.args.start + get_or ss 0 0) ∷ (c.args.start + get_or ss 1 0) ∷ (c.args.start + get_or ss 2 0) ∷ (c.args.start + get_or ss 3 0) ∷ (c.args.start + get_or ss 4 0) ∷ (c.args.start + get_or ss 5 0) ∷ (c.args.start + get_or ss 6 0) ∷ last i ∷ [] in
    ends_all (λ (e : ℕ). HasNumber g.E.NativePType.PTYPE (pos e)) c.args.start c.in_ok-last.last front ss es h shown last (λ a le. has_less g.E.NativePType.PTYPE a c.in_ok-last.last le c.in_ok-of_end.ensures.0)
