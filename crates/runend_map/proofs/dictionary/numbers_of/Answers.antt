use Rattle.std.proofs.Common.{◌∙◌, ap}
use Rattle.column_core.specs.FlatColumn.{leaf_of}
use Rattle.column_core.specs.Leaf.{single_rows}
use Rattle.column_core.specs.PrimitiveForm.{optional_numbers}
use Rattle.column_core.specs.declared.flat.FlatColumn.{FlatColumn}
use Rattle.column_ops.specs.Codes.{code_numbers}
use Rattle.runend_map.proofs.CodeRows.{codes_are}
use Rattle.runend_map.proofs.dictionary.numbers_of.Goals as goal

pub returns-clause-codes : goal.returns-clause-codes
returns-clause-codes g c = ap (λ (v : FlatColumn _). code_numbers (single_rows (leaf_of v))) c.in-Primitive.is ∙ codes_are (optional_numbers c.in-Primitive.numbers)
