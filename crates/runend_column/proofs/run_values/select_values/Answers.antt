use Rattle.runend_column.proofs.PassedOn.{no_value, only_error}
use Rattle.runend_column.proofs.run_values.select_values.Goals as goal

pub returns-in_err-kept-in-Primitive-clause-only : goal.returns-in_err-kept-in-Primitive-clause-only
returns-in_err-kept-in-Primitive-clause-only g c = only_error c.from_residual.result c.in_err-kept-in-Primitive.field-0.0 _ c.from_residual.ensures.1 c.in_err-kept-in-Primitive.ensures.only

pub returns-in_err-kept-in-Primitive-clause-made : goal.returns-in_err-kept-in-Primitive-clause-made
returns-in_err-kept-in-Primitive-clause-made g c = no_value _ c.from_residual.result c.from_residual.ensures.0

pub returns-in_err-kept-in-Bool-clause-only : goal.returns-in_err-kept-in-Bool-clause-only
returns-in_err-kept-in-Bool-clause-only g c = only_error c.from_residual-in_err-kept-in-Bool.result c.in_err-kept-in-Bool.field-0.0 _ c.from_residual-in_err-kept-in-Bool.ensures.1 c.in_err-kept-in-Bool.ensures.only

pub returns-in_err-kept-in-Bool-clause-made : goal.returns-in_err-kept-in-Bool-clause-made
returns-in_err-kept-in-Bool-clause-made g c = no_value _ c.from_residual-in_err-kept-in-Bool.result c.from_residual-in_err-kept-in-Bool.ensures.0

pub returns-in_err-kept-in-Decimal-clause-only : goal.returns-in_err-kept-in-Decimal-clause-only
returns-in_err-kept-in-Decimal-clause-only g c = only_error c.from_residual-in_err-kept-in-Decimal.result c.in_err-kept-in-Decimal.field-0.0 _ c.from_residual-in_err-kept-in-Decimal.ensures.1 c.in_err-kept-in-Decimal.ensures.only

pub returns-in_err-kept-in-Decimal-clause-made : goal.returns-in_err-kept-in-Decimal-clause-made
returns-in_err-kept-in-Decimal-clause-made g c = no_value _ c.from_residual-in_err-kept-in-Decimal.result c.from_residual-in_err-kept-in-Decimal.ensures.0

pub returns-in_err-kept-in-VarBinView-clause-only : goal.returns-in_err-kept-in-VarBinView-clause-only
returns-in_err-kept-in-VarBinView-clause-only g c = only_error c.from_residual-in_err-kept-in-VarBinView.result c.in_err-kept-in-VarBinView.field-0.0 _ c.from_residual-in_err-kept-in-VarBinView.ensures.1 c.in_err-kept-in-VarBinView.ensures.only

pub returns-in_err-kept-in-VarBinView-clause-made : goal.returns-in_err-kept-in-VarBinView-clause-made
returns-in_err-kept-in-VarBinView-clause-made g c = no_value _ c.from_residual-in_err-kept-in-VarBinView.result c.from_residual-in_err-kept-in-VarBinView.ensures.0

pub returns-in_err-kept-in-ListView-clause-only : goal.returns-in_err-kept-in-ListView-clause-only
returns-in_err-kept-in-ListView-clause-only g c = only_error c.from_residual-in_err-kept-in-ListView.result c.in_err-kept-in-ListView.field-0.0 _ c.from_residual-in_err-kept-in-ListView.ensures.1 c.in_err-kept-in-ListView.ensures.only

pub returns-in_err-kept-in-ListView-clause-made : goal.returns-in_err-kept-in-ListView-clause-made
returns-in_err-kept-in-ListView-clause-made g c = no_value _ c.from_residual-in_err-kept-in-ListView.result c.from_residual-in_err-kept-in-ListView.ensures.0

pub selected_by-requires : goal.selected_by-requires
selected_by-requires g c = record { masked = rw c.in-Primitive.is at c.requires.masked }

pub returns-in_ok-kept-in-Primitive-clause-only : goal.returns-in_ok-kept-in-Primitive-clause-only
returns-in_ok-kept-in-Primitive-clause-only g c = tt

pub returns-in_ok-kept-in-Primitive-clause-made : goal.returns-in_ok-kept-in-Primitive-clause-made
returns-in_ok-kept-in-Primitive-clause-made g c = rw c.in-Primitive.is c.in_ok-kept-in-Primitive.ensures.made

pub selected_by-requires-in-Bool : goal.selected_by-requires-in-Bool
selected_by-requires-in-Bool g c = record { masked = rw c.in-Bool.is at c.requires.masked }

pub returns-in_ok-kept-in-Bool-clause-only : goal.returns-in_ok-kept-in-Bool-clause-only
returns-in_ok-kept-in-Bool-clause-only g c = tt

pub returns-in_ok-kept-in-Bool-clause-made : goal.returns-in_ok-kept-in-Bool-clause-made
returns-in_ok-kept-in-Bool-clause-made g c = rw c.in-Bool.is c.in_ok-kept-in-Bool.ensures.made

pub selected_by-requires-in-Decimal : goal.selected_by-requires-in-Decimal
selected_by-requires-in-Decimal g c = record { masked = rw c.in-Decimal.is at c.requires.masked }

pub returns-in_ok-kept-in-Decimal-clause-only : goal.returns-in_ok-kept-in-Decimal-clause-only
returns-in_ok-kept-in-Decimal-clause-only g c = tt

pub returns-in_ok-kept-in-Decimal-clause-made : goal.returns-in_ok-kept-in-Decimal-clause-made
returns-in_ok-kept-in-Decimal-clause-made g c = rw c.in-Decimal.is c.in_ok-kept-in-Decimal.ensures.made

pub selected_by-requires-in-VarBinView : goal.selected_by-requires-in-VarBinView
selected_by-requires-in-VarBinView g c = record { masked = rw c.in-VarBinView.is at c.requires.masked }

pub returns-in_ok-kept-in-VarBinView-clause-only : goal.returns-in_ok-kept-in-VarBinView-clause-only
returns-in_ok-kept-in-VarBinView-clause-only g c = tt

pub returns-in_ok-kept-in-VarBinView-clause-made : goal.returns-in_ok-kept-in-VarBinView-clause-made
returns-in_ok-kept-in-VarBinView-clause-made g c = rw c.in-VarBinView.is c.in_ok-kept-in-VarBinView.ensures.made

pub returns-in_ok-kept-in-ListView-clause-only : goal.returns-in_ok-kept-in-ListView-clause-only
returns-in_ok-kept-in-ListView-clause-only g c = tt

pub returns-in_ok-kept-in-ListView-clause-made : goal.returns-in_ok-kept-in-ListView-clause-made
returns-in_ok-kept-in-ListView-clause-made g c = rw c.in-ListView.is (rw c.deref.ensures at c.in_ok-kept-in-ListView.ensures.made)
