use Rattle.std.proofs.Common.{sym, ◌∙◌}
use Rattle.runend_windows.proofs.flat.decode_flat.Goals as goal

pub prove_eq-unreachable-requires : goal.prove_eq-unreachable-requires
prove_eq-unreachable-requires g c = c.if-prove_eq.true (c.len.ensures.rows ∙ (rw c.in-Primitive.is at c.requires.paired) ∙ sym c.len-in-Primitive.ensures.numbers)

pub decode_numbers-requires-clause-paired : goal.decode_numbers-requires-clause-paired
decode_numbers-requires-clause-paired g c = sym c.len.ensures.numbers ∙ c.if-prove_eq.false ∙ c.len-in-Primitive.ensures.numbers

pub returns-in_ok-array-in-Primitive-clause-flat : goal.returns-in_ok-array-in-Primitive-clause-flat
returns-in_ok-array-in-Primitive-clause-flat g c =
    let decoded = c.in_ok-array-in-Primitive.ensures.flat in
    rw c.in-Primitive.is (record { rows = decoded.rows; dtype = decoded.dtype; computed = decoded.computed })

pub prove_eq-unreachable-requires-in-Bool : goal.prove_eq-unreachable-requires-in-Bool
prove_eq-unreachable-requires-in-Bool g c = c.if-prove_eq-2.true (c.len-in-Bool.ensures.rows ∙ (rw c.in-Bool.is at c.requires.paired) ∙ sym c.len-in-Bool-2.ensures.numbers)

pub decode_truths-requires-clause-paired : goal.decode_truths-requires-clause-paired
decode_truths-requires-clause-paired g c = sym c.len-in-Bool.ensures.bits ∙ c.if-prove_eq-2.false ∙ c.len-in-Bool-2.ensures.numbers

pub returns-in_ok-array-in-Bool-clause-flat : goal.returns-in_ok-array-in-Bool-clause-flat
returns-in_ok-array-in-Bool-clause-flat g c = rw c.in-Bool.is c.in_ok-array-in-Bool.ensures.flat

pub prove_eq-unreachable-requires-in-Decimal : goal.prove_eq-unreachable-requires-in-Decimal
prove_eq-unreachable-requires-in-Decimal g c = c.if-prove_eq-3.true (c.len-in-Decimal.ensures.rows ∙ (rw c.in-Decimal.is at c.requires.paired) ∙ sym c.len-in-Decimal-2.ensures.numbers)

pub decode_decimals-requires-clause-paired : goal.decode_decimals-requires-clause-paired
decode_decimals-requires-clause-paired g c = sym c.len-in-Decimal.ensures.numbers ∙ c.if-prove_eq-3.false ∙ c.len-in-Decimal-2.ensures.numbers

pub returns-in_ok-array-in-Decimal-clause-flat : goal.returns-in_ok-array-in-Decimal-clause-flat
returns-in_ok-array-in-Decimal-clause-flat g c = rw c.in-Decimal.is c.in_ok-array-in-Decimal.ensures.flat

pub prove_eq-unreachable-requires-in-VarBinView : goal.prove_eq-unreachable-requires-in-VarBinView
prove_eq-unreachable-requires-in-VarBinView g c = c.if-prove_eq-4.true (c.len-in-VarBinView.ensures.rows ∙ (rw c.in-VarBinView.is at c.requires.paired) ∙ sym c.len-in-VarBinView-2.ensures.numbers)

pub decode_views-requires-clause-paired : goal.decode_views-requires-clause-paired
decode_views-requires-clause-paired g c = sym c.len-in-VarBinView.ensures.views ∙ c.if-prove_eq-4.false ∙ c.len-in-VarBinView-2.ensures.numbers

pub returns-in_ok-array-in-VarBinView-clause-flat : goal.returns-in_ok-array-in-VarBinView-clause-flat
returns-in_ok-array-in-VarBinView-clause-flat g c = rw c.in-VarBinView.is c.in_ok-array-in-VarBinView.ensures.flat
