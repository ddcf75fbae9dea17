use Rattle.runend_column.proofs.PassedOn.{no_value, only_error}
use Rattle.runend_column.proofs.run_values.take_values.Goals as goal

pub returns-in_ok-taken-in-ListView-clause-made : goal.returns-in_ok-taken-in-ListView-clause-made
returns-in_ok-taken-in-ListView-clause-made g c = rw c.in-ListView.is (rw c.deref.ensures at c.in_ok-taken-in-ListView.ensures.made)

pub taken_at-requires-clause-within : goal.taken_at-requires-clause-within
taken_at-requires-clause-within g c = rw c.in-Primitive.is at c.requires.within

pub returns-in_ok-taken-in-Primitive-clause-made : goal.returns-in_ok-taken-in-Primitive-clause-made
returns-in_ok-taken-in-Primitive-clause-made g c = rw c.in-Primitive.is c.in_ok-taken-in-Primitive.ensures.made

pub taken_at-requires-in-Bool-clause-within : goal.taken_at-requires-in-Bool-clause-within
taken_at-requires-in-Bool-clause-within g c = rw c.in-Bool.is at c.requires.within

pub returns-in_ok-taken-in-Bool-clause-made : goal.returns-in_ok-taken-in-Bool-clause-made
returns-in_ok-taken-in-Bool-clause-made g c = rw c.in-Bool.is c.in_ok-taken-in-Bool.ensures.made

pub taken_at-requires-in-Decimal-clause-within : goal.taken_at-requires-in-Decimal-clause-within
taken_at-requires-in-Decimal-clause-within g c = rw c.in-Decimal.is at c.requires.within

pub returns-in_ok-taken-in-Decimal-clause-made : goal.returns-in_ok-taken-in-Decimal-clause-made
returns-in_ok-taken-in-Decimal-clause-made g c = rw c.in-Decimal.is c.in_ok-taken-in-Decimal.ensures.made

pub taken_at-requires-in-VarBinView-clause-within : goal.taken_at-requires-in-VarBinView-clause-within
taken_at-requires-in-VarBinView-clause-within g c = rw c.in-VarBinView.is at c.requires.within

pub returns-in_ok-taken-in-VarBinView-clause-made : goal.returns-in_ok-taken-in-VarBinView-clause-made
returns-in_ok-taken-in-VarBinView-clause-made g c = rw c.in-VarBinView.is c.in_ok-taken-in-VarBinView.ensures.made

pub returns-in_err-taken-in-Primitive-clause-only : goal.returns-in_err-taken-in-Primitive-clause-only
returns-in_err-taken-in-Primitive-clause-only g c = only_error c.from_residual.result c.in_err-taken-in-Primitive.field-0.0 _ c.from_residual.ensures.1 c.in_err-taken-in-Primitive.ensures.only

pub returns-in_err-taken-in-Primitive-clause-made : goal.returns-in_err-taken-in-Primitive-clause-made
returns-in_err-taken-in-Primitive-clause-made g c = no_value _ c.from_residual.result c.from_residual.ensures.0

pub returns-in_err-taken-in-Bool-clause-only : goal.returns-in_err-taken-in-Bool-clause-only
returns-in_err-taken-in-Bool-clause-only g c = only_error c.from_residual-in_err-taken-in-Bool.result c.in_err-taken-in-Bool.field-0.0 _ c.from_residual-in_err-taken-in-Bool.ensures.1 c.in_err-taken-in-Bool.ensures.only

pub returns-in_err-taken-in-Bool-clause-made : goal.returns-in_err-taken-in-Bool-clause-made
returns-in_err-taken-in-Bool-clause-made g c = no_value _ c.from_residual-in_err-taken-in-Bool.result c.from_residual-in_err-taken-in-Bool.ensures.0

pub returns-in_err-taken-in-Decimal-clause-only : goal.returns-in_err-taken-in-Decimal-clause-only
returns-in_err-taken-in-Decimal-clause-only g c = only_error c.from_residual-in_err-taken-in-Decimal.result c.in_err-taken-in-Decimal.field-0.0 _ c.from_residual-in_err-taken-in-Decimal.ensures.1 c.in_err-taken-in-Decimal.ensures.only

pub returns-in_err-taken-in-Decimal-clause-made : goal.returns-in_err-taken-in-Decimal-clause-made
returns-in_err-taken-in-Decimal-clause-made g c = no_value _ c.from_residual-in_err-taken-in-Decimal.result c.from_residual-in_err-taken-in-Decimal.ensures.0

pub returns-in_err-taken-in-VarBinView-clause-only : goal.returns-in_err-taken-in-VarBinView-clause-only
returns-in_err-taken-in-VarBinView-clause-only g c = only_error c.from_residual-in_err-taken-in-VarBinView.result c.in_err-taken-in-VarBinView.field-0.0 _ c.from_residual-in_err-taken-in-VarBinView.ensures.1 c.in_err-taken-in-VarBinView.ensures.only

pub returns-in_err-taken-in-VarBinView-clause-made : goal.returns-in_err-taken-in-VarBinView-clause-made
returns-in_err-taken-in-VarBinView-clause-made g c = no_value _ c.from_residual-in_err-taken-in-VarBinView.result c.from_residual-in_err-taken-in-VarBinView.ensures.0

pub returns-in_err-taken-in-ListView-clause-only : goal.returns-in_err-taken-in-ListView-clause-only
returns-in_err-taken-in-ListView-clause-only g c = only_error c.from_residual-in_err-taken-in-ListView.result c.in_err-taken-in-ListView.field-0.0 _ c.from_residual-in_err-taken-in-ListView.ensures.1 c.in_err-taken-in-ListView.ensures.only

pub returns-in_err-taken-in-ListView-clause-made : goal.returns-in_err-taken-in-ListView-clause-made
returns-in_err-taken-in-ListView-clause-made g c = no_value _ c.from_residual-in_err-taken-in-ListView.result c.from_residual-in_err-taken-in-ListView.ensures.0
