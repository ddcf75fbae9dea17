use Rattle.std.proofs.Common.{pos, sym, subst}
use Rattle.std.specs.Prelude.{IfOk}
use Rattle.column_base.specs.declared.dtype.PType.{PType}
use Rattle.column_base.specs.Types.{HasNumber}
use Rattle.column_core.specs.DecimalForm.{optional_decimals}
use Rattle.runend_windows.specs.Ends.{ends_of}
use Rattle.runend_windows.specs.Window.{last_end, run_rows}
use Rattle.runend_decimals.specs.Scales.{EachDecimal, IsHeldAt}
use Rattle.runend_decimals.proofs.to_integers.rescaled_numbers.Goals as goal

pub returns-in-U8-clause-held : goal.returns-in-U8-clause-held
returns-in-U8-clause-held g c =
    let form = c.args.values.now in
    let ends = ends_of c.args.ends.now in
    subst (λ (t : PType). IfOk c.rescaled_natives.result (λ integers. EachDecimal (IsHeldAt form.decimal.scale (pos 0) (HasNumber t)) (run_rows ends (optional_decimals form) 0 (last_end ends)))) (sym c.in-U8.is) c.rescaled_natives.ensures.held

pub returns-in-U16-clause-held : goal.returns-in-U16-clause-held
returns-in-U16-clause-held g c =
    let form = c.args.values.now in
    let ends = ends_of c.args.ends.now in
    subst (λ (t : PType). IfOk c.rescaled_natives-in-U16.result (λ integers. EachDecimal (IsHeldAt form.decimal.scale (pos 0) (HasNumber t)) (run_rows ends (optional_decimals form) 0 (last_end ends)))) (sym c.in-U16.is) c.rescaled_natives-in-U16.ensures.held

pub returns-in-U32-clause-held : goal.returns-in-U32-clause-held
returns-in-U32-clause-held g c =
    let form = c.args.values.now in
    let ends = ends_of c.args.ends.now in
    subst (λ (t : PType). IfOk c.rescaled_natives-in-U32.result (λ integers. EachDecimal (IsHeldAt form.decimal.scale (pos 0) (HasNumber t)) (run_rows ends (optional_decimals form) 0 (last_end ends)))) (sym c.in-U32.is) c.rescaled_natives-in-U32.ensures.held

pub returns-in-U64-clause-held : goal.returns-in-U64-clause-held
returns-in-U64-clause-held g c =
    let form = c.args.values.now in
    let ends = ends_of c.args.ends.now in
    subst (λ (t : PType). IfOk c.rescaled_natives-in-U64.result (λ integers. EachDecimal (IsHeldAt form.decimal.scale (pos 0) (HasNumber t)) (run_rows ends (optional_decimals form) 0 (last_end ends)))) (sym c.in-U64.is) c.rescaled_natives-in-U64.ensures.held

pub returns-in-I8-clause-held : goal.returns-in-I8-clause-held
returns-in-I8-clause-held g c =
    let form = c.args.values.now in
    let ends = ends_of c.args.ends.now in
    subst (λ (t : PType). IfOk c.rescaled_natives-in-I8.result (λ integers. EachDecimal (IsHeldAt form.decimal.scale (pos 0) (HasNumber t)) (run_rows ends (optional_decimals form) 0 (last_end ends)))) (sym c.in-I8.is) c.rescaled_natives-in-I8.ensures.held

pub returns-in-I16-clause-held : goal.returns-in-I16-clause-held
returns-in-I16-clause-held g c =
    let form = c.args.values.now in
    let ends = ends_of c.args.ends.now in
    subst (λ (t : PType). IfOk c.rescaled_natives-in-I16.result (λ integers. EachDecimal (IsHeldAt form.decimal.scale (pos 0) (HasNumber t)) (run_rows ends (optional_decimals form) 0 (last_end ends)))) (sym c.in-I16.is) c.rescaled_natives-in-I16.ensures.held

pub returns-in-I32-clause-held : goal.returns-in-I32-clause-held
returns-in-I32-clause-held g c =
    let form = c.args.values.now in
    let ends = ends_of c.args.ends.now in
    subst (λ (t : PType). IfOk c.rescaled_natives-in-I32.result (λ integers. EachDecimal (IsHeldAt form.decimal.scale (pos 0) (HasNumber t)) (run_rows ends (optional_decimals form) 0 (last_end ends)))) (sym c.in-I32.is) c.rescaled_natives-in-I32.ensures.held

pub returns-in-I64-clause-held : goal.returns-in-I64-clause-held
returns-in-I64-clause-held g c =
    let form = c.args.values.now in
    let ends = ends_of c.args.ends.now in
    subst (λ (t : PType). IfOk c.rescaled_natives-in-I64.result (λ integers. EachDecimal (IsHeldAt form.decimal.scale (pos 0) (HasNumber t)) (run_rows ends (optional_decimals form) 0 (last_end ends)))) (sym c.in-I64.is) c.rescaled_natives-in-I64.ensures.held
