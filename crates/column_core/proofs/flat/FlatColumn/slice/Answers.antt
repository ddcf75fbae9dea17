use Rattle.column_base.proofs.Refusals.{nothing_made}
use Rattle.column_core.proofs.Refusals.{passed-exactly, made-exactly, passed-only, passed-refusal}
use Rattle.column_core.proofs.flat.FlatColumn.slice.Goals as goal

pub returns-in_err-part-in-Primitive-clause-refused : goal.returns-in_err-part-in-Primitive-clause-refused
returns-in_err-part-in-Primitive-clause-refused g c = rw c.in-Primitive.is (passed-exactly c.slice.result c.from_residual.result c.in_err-part-in-Primitive.field-0.0 _ _ c.in_err-part-in-Primitive.was c.from_residual.ensures.1 c.slice.ensures.refused)

pub returns-in_err-part-in-Primitive-clause-only : goal.returns-in_err-part-in-Primitive-clause-only
returns-in_err-part-in-Primitive-clause-only g c = rw c.in-Primitive.is (passed-only c.from_residual.result c.in_err-part-in-Primitive.field-0.0 _ c.from_residual.ensures.1 c.in_err-part-in-Primitive.ensures.only)

pub returns-in_err-part-in-Primitive-clause-refusal : goal.returns-in_err-part-in-Primitive-clause-refusal
returns-in_err-part-in-Primitive-clause-refusal g c = rw c.in-Primitive.is (passed-refusal c.from_residual.result c.in_err-part-in-Primitive.field-0.0 _ c.from_residual.ensures.1 c.in_err-part-in-Primitive.ensures.refusal)

pub returns-in_err-part-in-Primitive-clause-rows : goal.returns-in_err-part-in-Primitive-clause-rows
returns-in_err-part-in-Primitive-clause-rows g c = nothing_made _ c.from_residual.result c.from_residual.ensures.0

pub returns-in_err-part-in-Primitive-clause-dtype : goal.returns-in_err-part-in-Primitive-clause-dtype
returns-in_err-part-in-Primitive-clause-dtype g c = nothing_made _ c.from_residual.result c.from_residual.ensures.0

pub returns-in_err-part-in-Primitive-clause-normal : goal.returns-in_err-part-in-Primitive-clause-normal
returns-in_err-part-in-Primitive-clause-normal g c = nothing_made _ c.from_residual.result c.from_residual.ensures.0

pub returns-in_err-part-in-Primitive-clause-empty : goal.returns-in_err-part-in-Primitive-clause-empty
returns-in_err-part-in-Primitive-clause-empty g c = nothing_made _ c.from_residual.result c.from_residual.ensures.0

pub returns-in_ok-part-in-Primitive-clause-refused : goal.returns-in_ok-part-in-Primitive-clause-refused
returns-in_ok-part-in-Primitive-clause-refused g c = rw c.in-Primitive.is (made-exactly c.slice.result c.in_ok-part-in-Primitive.part _ _ _ c.in_ok-part-in-Primitive.was c.slice.ensures.refused)

pub returns-in_ok-part-in-Primitive-clause-only : goal.returns-in_ok-part-in-Primitive-clause-only
returns-in_ok-part-in-Primitive-clause-only g c = λ _. tt

pub returns-in_ok-part-in-Primitive-clause-refusal : goal.returns-in_ok-part-in-Primitive-clause-refusal
returns-in_ok-part-in-Primitive-clause-refusal g c = rw c.in-Primitive.is c.in_ok-part-in-Primitive.ensures.refusal

pub returns-in_ok-part-in-Primitive-clause-rows : goal.returns-in_ok-part-in-Primitive-clause-rows
returns-in_ok-part-in-Primitive-clause-rows g c = rw c.in-Primitive.is c.in_ok-part-in-Primitive.ensures.rows

pub returns-in_ok-part-in-Primitive-clause-dtype : goal.returns-in_ok-part-in-Primitive-clause-dtype
returns-in_ok-part-in-Primitive-clause-dtype g c = rw c.in-Primitive.is c.in_ok-part-in-Primitive.ensures.dtype

pub returns-in_ok-part-in-Primitive-clause-normal : goal.returns-in_ok-part-in-Primitive-clause-normal
returns-in_ok-part-in-Primitive-clause-normal g c = c.in_ok-part-in-Primitive.ensures.normal

pub returns-in_ok-part-in-Primitive-clause-empty : goal.returns-in_ok-part-in-Primitive-clause-empty
returns-in_ok-part-in-Primitive-clause-empty g c = c.in_ok-part-in-Primitive.ensures.empty

pub returns-in_err-part-in-Bool-clause-refused : goal.returns-in_err-part-in-Bool-clause-refused
returns-in_err-part-in-Bool-clause-refused g c = rw c.in-Bool.is (passed-exactly c.slice-in-Bool.result c.from_residual-in_err-part-in-Bool.result c.in_err-part-in-Bool.field-0.0 _ _ c.in_err-part-in-Bool.was c.from_residual-in_err-part-in-Bool.ensures.1 c.slice-in-Bool.ensures.refused)

pub returns-in_err-part-in-Bool-clause-only : goal.returns-in_err-part-in-Bool-clause-only
returns-in_err-part-in-Bool-clause-only g c = rw c.in-Bool.is (passed-only c.from_residual-in_err-part-in-Bool.result c.in_err-part-in-Bool.field-0.0 _ c.from_residual-in_err-part-in-Bool.ensures.1 c.in_err-part-in-Bool.ensures.only)

pub returns-in_err-part-in-Bool-clause-refusal : goal.returns-in_err-part-in-Bool-clause-refusal
returns-in_err-part-in-Bool-clause-refusal g c = rw c.in-Bool.is (passed-refusal c.from_residual-in_err-part-in-Bool.result c.in_err-part-in-Bool.field-0.0 _ c.from_residual-in_err-part-in-Bool.ensures.1 c.in_err-part-in-Bool.ensures.refusal)

pub returns-in_err-part-in-Bool-clause-rows : goal.returns-in_err-part-in-Bool-clause-rows
returns-in_err-part-in-Bool-clause-rows g c = nothing_made _ c.from_residual-in_err-part-in-Bool.result c.from_residual-in_err-part-in-Bool.ensures.0

pub returns-in_err-part-in-Bool-clause-dtype : goal.returns-in_err-part-in-Bool-clause-dtype
returns-in_err-part-in-Bool-clause-dtype g c = nothing_made _ c.from_residual-in_err-part-in-Bool.result c.from_residual-in_err-part-in-Bool.ensures.0

pub returns-in_err-part-in-Bool-clause-normal : goal.returns-in_err-part-in-Bool-clause-normal
returns-in_err-part-in-Bool-clause-normal g c = nothing_made _ c.from_residual-in_err-part-in-Bool.result c.from_residual-in_err-part-in-Bool.ensures.0

pub returns-in_err-part-in-Bool-clause-empty : goal.returns-in_err-part-in-Bool-clause-empty
returns-in_err-part-in-Bool-clause-empty g c = nothing_made _ c.from_residual-in_err-part-in-Bool.result c.from_residual-in_err-part-in-Bool.ensures.0

pub returns-in_ok-part-in-Bool-clause-refused : goal.returns-in_ok-part-in-Bool-clause-refused
returns-in_ok-part-in-Bool-clause-refused g c = rw c.in-Bool.is (made-exactly c.slice-in-Bool.result c.in_ok-part-in-Bool.part _ _ _ c.in_ok-part-in-Bool.was c.slice-in-Bool.ensures.refused)

pub returns-in_ok-part-in-Bool-clause-only : goal.returns-in_ok-part-in-Bool-clause-only
returns-in_ok-part-in-Bool-clause-only g c = λ _. tt

pub returns-in_ok-part-in-Bool-clause-refusal : goal.returns-in_ok-part-in-Bool-clause-refusal
returns-in_ok-part-in-Bool-clause-refusal g c = rw c.in-Bool.is c.in_ok-part-in-Bool.ensures.refusal

pub returns-in_ok-part-in-Bool-clause-rows : goal.returns-in_ok-part-in-Bool-clause-rows
returns-in_ok-part-in-Bool-clause-rows g c = rw c.in-Bool.is c.in_ok-part-in-Bool.ensures.rows

pub returns-in_ok-part-in-Bool-clause-dtype : goal.returns-in_ok-part-in-Bool-clause-dtype
returns-in_ok-part-in-Bool-clause-dtype g c = rw c.in-Bool.is c.in_ok-part-in-Bool.ensures.dtype

pub returns-in_ok-part-in-Bool-clause-normal : goal.returns-in_ok-part-in-Bool-clause-normal
returns-in_ok-part-in-Bool-clause-normal g c = c.in_ok-part-in-Bool.ensures.normal

pub returns-in_ok-part-in-Bool-clause-empty : goal.returns-in_ok-part-in-Bool-clause-empty
returns-in_ok-part-in-Bool-clause-empty g c = c.in_ok-part-in-Bool.ensures.empty

pub returns-in_err-part-in-Decimal-clause-refused : goal.returns-in_err-part-in-Decimal-clause-refused
returns-in_err-part-in-Decimal-clause-refused g c = rw c.in-Decimal.is (passed-exactly c.slice-in-Decimal.result c.from_residual-in_err-part-in-Decimal.result c.in_err-part-in-Decimal.field-0.0 _ _ c.in_err-part-in-Decimal.was c.from_residual-in_err-part-in-Decimal.ensures.1 c.slice-in-Decimal.ensures.refused)

pub returns-in_err-part-in-Decimal-clause-only : goal.returns-in_err-part-in-Decimal-clause-only
returns-in_err-part-in-Decimal-clause-only g c = rw c.in-Decimal.is (passed-only c.from_residual-in_err-part-in-Decimal.result c.in_err-part-in-Decimal.field-0.0 _ c.from_residual-in_err-part-in-Decimal.ensures.1 c.in_err-part-in-Decimal.ensures.only)

pub returns-in_err-part-in-Decimal-clause-refusal : goal.returns-in_err-part-in-Decimal-clause-refusal
returns-in_err-part-in-Decimal-clause-refusal g c = rw c.in-Decimal.is (passed-refusal c.from_residual-in_err-part-in-Decimal.result c.in_err-part-in-Decimal.field-0.0 _ c.from_residual-in_err-part-in-Decimal.ensures.1 c.in_err-part-in-Decimal.ensures.refusal)

pub returns-in_err-part-in-Decimal-clause-rows : goal.returns-in_err-part-in-Decimal-clause-rows
returns-in_err-part-in-Decimal-clause-rows g c = nothing_made _ c.from_residual-in_err-part-in-Decimal.result c.from_residual-in_err-part-in-Decimal.ensures.0

pub returns-in_err-part-in-Decimal-clause-dtype : goal.returns-in_err-part-in-Decimal-clause-dtype
returns-in_err-part-in-Decimal-clause-dtype g c = nothing_made _ c.from_residual-in_err-part-in-Decimal.result c.from_residual-in_err-part-in-Decimal.ensures.0

pub returns-in_err-part-in-Decimal-clause-normal : goal.returns-in_err-part-in-Decimal-clause-normal
returns-in_err-part-in-Decimal-clause-normal g c = nothing_made _ c.from_residual-in_err-part-in-Decimal.result c.from_residual-in_err-part-in-Decimal.ensures.0

pub returns-in_err-part-in-Decimal-clause-empty : goal.returns-in_err-part-in-Decimal-clause-empty
returns-in_err-part-in-Decimal-clause-empty g c = nothing_made _ c.from_residual-in_err-part-in-Decimal.result c.from_residual-in_err-part-in-Decimal.ensures.0

pub returns-in_ok-part-in-Decimal-clause-refused : goal.returns-in_ok-part-in-Decimal-clause-refused
returns-in_ok-part-in-Decimal-clause-refused g c = rw c.in-Decimal.is (made-exactly c.slice-in-Decimal.result c.in_ok-part-in-Decimal.part _ _ _ c.in_ok-part-in-Decimal.was c.slice-in-Decimal.ensures.refused)

pub returns-in_ok-part-in-Decimal-clause-only : goal.returns-in_ok-part-in-Decimal-clause-only
returns-in_ok-part-in-Decimal-clause-only g c = λ _. tt

pub returns-in_ok-part-in-Decimal-clause-refusal : goal.returns-in_ok-part-in-Decimal-clause-refusal
returns-in_ok-part-in-Decimal-clause-refusal g c = rw c.in-Decimal.is c.in_ok-part-in-Decimal.ensures.refusal

pub returns-in_ok-part-in-Decimal-clause-rows : goal.returns-in_ok-part-in-Decimal-clause-rows
returns-in_ok-part-in-Decimal-clause-rows g c = rw c.in-Decimal.is c.in_ok-part-in-Decimal.ensures.rows

pub returns-in_ok-part-in-Decimal-clause-dtype : goal.returns-in_ok-part-in-Decimal-clause-dtype
returns-in_ok-part-in-Decimal-clause-dtype g c = rw c.in-Decimal.is c.in_ok-part-in-Decimal.ensures.dtype

pub returns-in_ok-part-in-Decimal-clause-normal : goal.returns-in_ok-part-in-Decimal-clause-normal
returns-in_ok-part-in-Decimal-clause-normal g c = c.in_ok-part-in-Decimal.ensures.normal

pub returns-in_ok-part-in-Decimal-clause-empty : goal.returns-in_ok-part-in-Decimal-clause-empty
returns-in_ok-part-in-Decimal-clause-empty g c = c.in_ok-part-in-Decimal.ensures.empty

pub returns-in_err-part-in-VarBinView-clause-refused : goal.returns-in_err-part-in-VarBinView-clause-refused
returns-in_err-part-in-VarBinView-clause-refused g c = rw c.in-VarBinView.is (passed-exactly c.slice-in-VarBinView.result c.from_residual-in_err-part-in-VarBinView.result c.in_err-part-in-VarBinView.field-0.0 _ _ c.in_err-part-in-VarBinView.was c.from_residual-in_err-part-in-VarBinView.ensures.1 c.slice-in-VarBinView.ensures.refused)

pub returns-in_err-part-in-VarBinView-clause-only : goal.returns-in_err-part-in-VarBinView-clause-only
returns-in_err-part-in-VarBinView-clause-only g c = rw c.in-VarBinView.is (passed-only c.from_residual-in_err-part-in-VarBinView.result c.in_err-part-in-VarBinView.field-0.0 _ c.from_residual-in_err-part-in-VarBinView.ensures.1 c.in_err-part-in-VarBinView.ensures.only)

pub returns-in_err-part-in-VarBinView-clause-refusal : goal.returns-in_err-part-in-VarBinView-clause-refusal
returns-in_err-part-in-VarBinView-clause-refusal g c = rw c.in-VarBinView.is (passed-refusal c.from_residual-in_err-part-in-VarBinView.result c.in_err-part-in-VarBinView.field-0.0 _ c.from_residual-in_err-part-in-VarBinView.ensures.1 c.in_err-part-in-VarBinView.ensures.refusal)

pub returns-in_err-part-in-VarBinView-clause-rows : goal.returns-in_err-part-in-VarBinView-clause-rows
returns-in_err-part-in-VarBinView-clause-rows g c = nothing_made _ c.from_residual-in_err-part-in-VarBinView.result c.from_residual-in_err-part-in-VarBinView.ensures.0

pub returns-in_err-part-in-VarBinView-clause-dtype : goal.returns-in_err-part-in-VarBinView-clause-dtype
returns-in_err-part-in-VarBinView-clause-dtype g c = nothing_made _ c.from_residual-in_err-part-in-VarBinView.result c.from_residual-in_err-part-in-VarBinView.ensures.0

pub returns-in_err-part-in-VarBinView-clause-normal : goal.returns-in_err-part-in-VarBinView-clause-normal
returns-in_err-part-in-VarBinView-clause-normal g c = nothing_made _ c.from_residual-in_err-part-in-VarBinView.result c.from_residual-in_err-part-in-VarBinView.ensures.0

pub returns-in_err-part-in-VarBinView-clause-empty : goal.returns-in_err-part-in-VarBinView-clause-empty
returns-in_err-part-in-VarBinView-clause-empty g c = nothing_made _ c.from_residual-in_err-part-in-VarBinView.result c.from_residual-in_err-part-in-VarBinView.ensures.0

pub returns-in_ok-part-in-VarBinView-clause-refused : goal.returns-in_ok-part-in-VarBinView-clause-refused
returns-in_ok-part-in-VarBinView-clause-refused g c = rw c.in-VarBinView.is (made-exactly c.slice-in-VarBinView.result c.in_ok-part-in-VarBinView.part _ _ _ c.in_ok-part-in-VarBinView.was c.slice-in-VarBinView.ensures.refused)

pub returns-in_ok-part-in-VarBinView-clause-only : goal.returns-in_ok-part-in-VarBinView-clause-only
returns-in_ok-part-in-VarBinView-clause-only g c = λ _. tt

pub returns-in_ok-part-in-VarBinView-clause-refusal : goal.returns-in_ok-part-in-VarBinView-clause-refusal
returns-in_ok-part-in-VarBinView-clause-refusal g c = rw c.in-VarBinView.is c.in_ok-part-in-VarBinView.ensures.refusal

pub returns-in_ok-part-in-VarBinView-clause-rows : goal.returns-in_ok-part-in-VarBinView-clause-rows
returns-in_ok-part-in-VarBinView-clause-rows g c = rw c.in-VarBinView.is c.in_ok-part-in-VarBinView.ensures.rows

pub returns-in_ok-part-in-VarBinView-clause-dtype : goal.returns-in_ok-part-in-VarBinView-clause-dtype
returns-in_ok-part-in-VarBinView-clause-dtype g c = rw c.in-VarBinView.is c.in_ok-part-in-VarBinView.ensures.dtype

pub returns-in_ok-part-in-VarBinView-clause-normal : goal.returns-in_ok-part-in-VarBinView-clause-normal
returns-in_ok-part-in-VarBinView-clause-normal g c = c.in_ok-part-in-VarBinView.ensures.normal

pub returns-in_ok-part-in-VarBinView-clause-empty : goal.returns-in_ok-part-in-VarBinView-clause-empty
returns-in_ok-part-in-VarBinView-clause-empty g c = c.in_ok-part-in-VarBinView.ensures.empty
