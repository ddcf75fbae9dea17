use Rattle.std.proofs.Common.{◌≡◌, ◌-◌, ◌≤◌, ℕ, List, length, map, set, sym, ap, subst, ◌∙◌, arith}
use Rattle.std.proofs.lemmas.List.{get_or-map, length-map}
use Rattle.runend_windows.specs.Window.{last_end}
use Rattle.runend_encode.proofs.Moved.{last-moved, past-offset, windowed-moved}
use Rattle.runend_encode.proofs.shifted.shift_ends.Goals as goal

pub move_ends-requires : goal.move_ends-requires
move_ends-requires g c = λ k d h.
    let natural = g.E.UnsignedPType.natural in
    let long = length-map c.args.ends.now natural in
    let past = past-offset (map natural c.args.ends.now) c.args.offset c.args.count k c.requires.shown (omega arith) in
    let here = get_or-map natural c.args.ends.now k d 0 h in
    omega arith

pub cut_last-requires : goal.cut_last-requires
cut_last-requires g c =
    subst (λ (ends : List ℕ). c.args.count ≤ last_end ends) (sym c.move_ends.ensures) (last-moved (map g.E.UnsignedPType.natural c.args.ends.now) c.args.offset c.args.count c.requires.window)

pub returns : goal.returns
returns g c =
    let natural = g.E.UnsignedPType.natural in
    let ends = map natural c.args.ends.now in
    let moved = c.move_ends.new.ends in
    let long : length moved ≡ length ends = sym (length-map moved natural) ∙ ap length c.move_ends.ensures ∙ length-map ends (λ end. end - c.args.offset) in
    c.cut_last.ensures ∙ ap (λ (ns : List ℕ). set ns (length moved - 1) c.args.count) c.move_ends.ensures
    ∙ ap (λ (n : ℕ). set (map (λ end. end - c.args.offset) ends) (n - 1) c.args.count) long ∙ windowed-moved ends c.args.offset c.args.count c.requires.window c.requires.shown
