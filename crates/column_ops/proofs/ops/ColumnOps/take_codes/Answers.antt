use Rattle.std.proofs.Common.{inr}
use Rattle.column_ops.proofs.CodeRows.{code_numbers-of, no_codes}
use Rattle.column_ops.proofs.ops.ColumnOps.take_codes.Goals as goal

pub returns-in-Primitive-clause-refused : goal.returns-in-Primitive-clause-refused
returns-in-Primitive-clause-refused g c = rw (c.in-Primitive.is, code_numbers-of c.in-Primitive.indices) c.take.ensures.refused

pub returns-in-Primitive-clause-made : goal.returns-in-Primitive-clause-made
returns-in-Primitive-clause-made g c = rw (c.in-Primitive.is, code_numbers-of c.in-Primitive.indices) c.take.ensures.made

pub returns-in_default : goal.returns-in_default
returns-in_default g c = record { refused = inr (no_codes c.args.codes.now _ c.in_default.not-Primitive); made = tt }
