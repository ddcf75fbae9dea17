use Rattle.std.proofs.Common.{rules, ◌≡◌, ℕ, ◌<◌, Bool, true, false, inl, inr, arith, eq-zero-or-pos}
use Rattle.std.specs.Prelude.{IsTrue, ◌↔◌}
use Rattle.float_bits.proofs.Roundings.{rounds_down, rounds_to_even, rounds_to_infinity, rounds_to_itself, rounds_up}
use Rattle.float_bits.proofs.rounding.round_window.Goals as goal
use Rattle.float_bits.proofs.rounding.round_window.Goals.{then-cut-2-via-then-cut-2, then-cut-2-via-else-cut-2+then-is_inexact}

some_rest : (b : Bool) (rest : ℕ) → b ≡ true → IsTrue b ↔ (0 < rest) → 0 < rest
some_rest true rest e h = h.0 (search rules)
some_rest false rest e h = absurd (cc)

not_true : IsTrue false → ⊥
not_true t = search rules

no_rest : (b : Bool) (rest : ℕ) → b ≡ false → IsTrue b ↔ (0 < rest) → rest ≡ 0
no_rest true rest e h = absurd (cc)
no_rest false rest e h = elim (eq-zero-or-pos rest) [ inl z ↦ z | inr p ↦ absurd (not_true (h.1 p)) ]

pub returns-then-window : goal.returns-then-window
returns-then-window c = λ rest h r. rounds_to_itself c.args.window c.args.places rest c.if-window.true
    (elim (eq-zero-or-pos c.args.places) [ inl z ↦ z | inr p ↦ let q = c.requires.high p in let w = c.if-window.true in absurd (omega arith) ]) h

pub returns-then-doublings-gt2045 : goal.returns-then-doublings-gt2045
returns-then-doublings-gt2045 c =
    let k = c.cut_window-cut.result in
    λ rest h r. rounds_to_infinity c.args.window k.kept k.digits k.lost k.half c.args.places rest c.cut_window-cut.ensures c.if-doublings-gt2045.true

pub returns-then-cut : goal.returns-then-cut
returns-then-cut c =
    let k = c.cut_window-cut.result in
    λ rest h r. rounds_down c.args.window k.kept k.digits k.lost k.half c.args.places rest c.cut_window-cut.ensures h c.if-doublings-gt2045.false c.if-cut.true

pub returns-then-cut-2 : goal.returns-then-cut-2
returns-then-cut-2 c =
    let k = c.cut_window-cut.result in
    λ rest h r. rounds_up c.args.window k.kept k.digits k.lost k.half c.args.places rest c.cut_window-cut.ensures h c.if-doublings-gt2045.false
    (elim c.then-cut-2.branch [
      | then-cut-2-via-then-cut-2 w ↦ inl w.if-cut-2.true
      | then-cut-2-via-else-cut-2+then-is_inexact w ↦ inr (omega (arith, c.if-cut.false, w.if-cut-2.false), some_rest c.args.is_inexact rest w.if-is_inexact.true r)
    ])

pub returns : goal.returns
returns c =
    let k = c.cut_window-cut.result in
    λ rest h r. rounds_to_even c.args.window k.kept k.digits k.lost k.half c.args.places rest c.cut_window-cut.ensures h c.if-doublings-gt2045.false
    (omega (arith, c.if-cut.false, c.if-cut-2.false)) (no_rest c.args.is_inexact rest c.if-is_inexact.false r)
