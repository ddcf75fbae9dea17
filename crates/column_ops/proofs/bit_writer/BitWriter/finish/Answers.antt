use Rattle.std.proofs.Common.{◌∙◌, ◌≤◌, ◌*◌, ℕ, List, Bool, ap, length, sym, subst}
use Rattle.column_base.specs.Words.{first_bits}
use Rattle.column_ops.proofs.WrittenBits.{first_bits-whole, first_bits-written, within_whole, within_words}
use Rattle.column_ops.proofs.bit_writer.BitWriter.finish.Goals as goal

pub from_words-requires : goal.from_words-requires
from_words-requires g c =
    let own = c.self.inside in
    let all = c.requires ∙ ap (λ (bits : List Bool). length bits) (sym c.self.view_is) in
    record { in_words = within_whole own.words.items own.word own.filled c.args.count c.self.invariant all c.if-self-eq0.true }

pub returns-then-self-eq0-clause-bits : goal.returns-then-self-eq0-clause-bits
returns-then-self-eq0-clause-bits g c =
    let own = c.self.inside in
    let all = c.requires ∙ ap (λ (bits : List Bool). length bits) (sym c.self.view_is) in
    c.from_words.ensures ∙ first_bits-whole own.words.items own.word own.filled c.args.count c.self.invariant all c.if-self-eq0.true ∙ c.self.view_is

pub from_words-requires-2 : goal.from_words-requires-2
from_words-requires-2 g c =
    let own = c.self.inside in
    let all = c.requires ∙ ap (λ (bits : List Bool). length bits) (sym c.self.view_is) in
    record { in_words = subst (λ (words : List ℕ). c.args.count ≤ length words * 64) (sym c.in_ok-push.ensures.items) (within_words own.words.items own.word own.filled c.args.count c.self.invariant all) }

pub returns-clause-bits : goal.returns-clause-bits
returns-clause-bits g c =
    let own = c.self.inside in
    let all = c.requires ∙ ap (λ (bits : List Bool). length bits) (sym c.self.view_is) in
    c.from_words-2.ensures ∙ ap (first_bits c.args.count) c.in_ok-push.ensures.items
    ∙ first_bits-written own.words.items own.word own.filled c.args.count c.self.invariant all ∙ c.self.view_is
