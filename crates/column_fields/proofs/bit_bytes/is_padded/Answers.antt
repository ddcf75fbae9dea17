use Rattle.std.proofs.Common.{refl, arith}
use Rattle.std.proofs.lemmas.Bool.{ltb-true, lt-ltb}
use Rattle.column_fields.proofs.BitWords.{padded_if, padded_last}
use Rattle.column_fields.proofs.bit_bytes.is_padded.Goals as goal

pub returns-then-used-eq0 : goal.returns-then-used-eq0
returns-then-used-eq0 c =
    (λ _. padded_if c.args.count c.args.bytes.now c.requires (λ i. omega (arith, c.type_inv.bytes i)) (λ part. absurd (part c.if-used-eq0.true)), λ _. refl)

pub returns : goal.returns
returns c = (
  λ h. padded_if c.args.count c.args.bytes.now c.requires (λ i. omega (arith, c.type_inv.bytes i)) (λ _. omega (arith, c.from.ensures, c.limit_of.ensures, ltb-true c.from.result c.limit_of.result h)),
  λ h. lt-ltb c.from.result c.limit_of.result (omega (arith, c.from.ensures, c.limit_of.ensures, padded_last c.args.count c.args.bytes.now c.requires (λ e. omega (arith, c.if-used-eq0.false, e)) h)),
)
