use Rattle.std.proofs.Common.{◌∙◌, ◌∷◌, ◌++◌, [], List, Bool, ap, arith}
use Rattle.column_ops.specs.WrittenBits.{written_bits}
use Rattle.column_ops.proofs.WrittenBits.{IsPartWord-none, IsPartWord-push, written_bits-full, written_bits-push}
use Rattle.column_ops.proofs.bit_writer.BitWriter.append.Goals as goal

pub invariant_of-self : goal.invariant_of-self
invariant_of-self g c =
    let own = c.self.inside in
    IsPartWord-push own.words.items own.word own.filled c.from.result c.args.bit c.self.invariant c.from.ensures c.if-self-lt63.true

pub returns-then-self-lt63-clause-ok : goal.returns-then-self-lt63-clause-ok
returns-then-self-lt63-clause-ok g c =
    let own = c.self.inside in
    written_bits-push own.words.items own.word own.filled c.from.result c.args.bit c.self.invariant c.from.ensures c.if-self-lt63.true
    ∙ ap (λ (bits : List Bool). bits ++ c.args.bit ∷ []) c.self.view_is

pub invariant_of-self-2 : goal.invariant_of-self-2
invariant_of-self-2 g c = IsPartWord-none

pub returns-clause-ok : goal.returns-clause-ok
returns-clause-ok g c =
    let own = c.self.inside in
    ap (λ words. written_bits words 0 0) c.in_ok-push.ensures.items
    ∙ written_bits-full own.words.items own.word own.filled c.from.result c.args.bit c.self.invariant c.from.ensures (omega (arith, c.if-self-lt63.false))
    ∙ ap (λ (bits : List Bool). bits ++ c.args.bit ∷ []) c.self.view_is
