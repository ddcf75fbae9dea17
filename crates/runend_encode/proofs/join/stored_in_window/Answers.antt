use Rattle.std.proofs.Common.{◌≡◌, ◌++◌, ℕ, List, length, drop, map, take, sym, ap, subst, arith, ◌∙◌}
use Rattle.std.specs.Prelude.{unsigned_abs}
use Rattle.std.proofs.lemmas.List.{take_at}
use Rattle.runend_windows.specs.Window.{IsWindow}
use Rattle.runend_encode.specs.Joined.{AllHaveRows}
use Rattle.runend_encode.proofs.Fitting.{naturals-of}
use Rattle.runend_encode.proofs.Joining.{windowed}
use Rattle.runend_encode.proofs.join.stored_in_window.Goals as goal

pub shift_ends-requires-clause-window : goal.shift_ends-requires-clause-window
shift_ends-requires-clause-window g c =
    let natural = g.E.UnsignedPType.natural in
    let same = naturals-of g.E.NativePType.number natural g.met.E.UnsignedPType.natural_law c.args.ends.items ∙ ap (map natural) (sym c.deref_mut.ensures.value) in
    subst (λ (ends : List ℕ). IsWindow ends c.args.offset c.args.count) same c.requires.window

pub shift_ends-requires-clause-shown : goal.shift_ends-requires-clause-shown
shift_ends-requires-clause-shown g c =
    let natural = g.E.UnsignedPType.natural in
    let same = naturals-of g.E.NativePType.number natural g.met.E.UnsignedPType.natural_law c.args.ends.items ∙ ap (map natural) (sym c.deref_mut.ensures.value) in
    subst (λ (ends : List ℕ). AllHaveRows ends c.args.offset c.args.count) same c.requires.shown

pub returns-clause-ends : goal.returns-clause-ends
returns-clause-ends g c =
    let natural = g.E.UnsignedPType.natural in
    let number = g.E.NativePType.number in
    let law = g.met.E.UnsignedPType.natural_law in
    let moved = c.shift_ends.new.ends in
    let long = c.shift_ends.auto.ends in
    let before = c.deref_mut.ensures.len in
    let whole : take c.args.ends.len (moved ++ drop (length moved) c.args.ends.items) ≡ moved = take_at moved (drop (length moved) c.args.ends.items) c.args.ends.len (omega arith) in
    rw c.new_unchecked.ensures
    (ap (map unsigned_abs) (c.wrap.ensures.shows ∙ ap (map number) whole) ∙ naturals-of number natural law moved ∙ c.shift_ends.ensures
    ∙ ap (λ (ns : List ℕ). windowed ns c.args.offset c.args.count) (ap (map natural) c.deref_mut.ensures.value ∙ sym (naturals-of number natural law c.args.ends.items)))
