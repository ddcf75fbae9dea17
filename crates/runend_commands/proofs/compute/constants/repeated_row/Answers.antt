use Rattle.std.proofs.Common.{◌≡◌, ◌∙◌, ℕ, List, Option, Some, replicate, ap, sym, subst, arith}
use Rattle.std.specs.Prelude.{Err, option_map, slice_get}
use Rattle.column_base.specs.declared.dtype.DType.{DType}
use Rattle.column_base.specs.declared.error.VortexError.{VortexError}
use Rattle.column_core.specs.ScalarView.{IsViewOf, sees}
use Rattle.column_core.specs.Value.{IsLists, Single, Value}
use Rattle.runend_commands.proofs.compute.constants.repeated_row.Goals as goal

pub of_view-requires-clause-single : goal.of_view-requires-clause-single
of_view-requires-clause-single g c = λ lists. c.requires.single (subst IsLists c.dtype.ensures lists)

pub of_view-requires-clause-of_type : goal.of_view-requires-clause-of_type
of_view-requires-clause-of_type g c = subst (λ (t : DType). IsViewOf t c.in-Ok.row) (sym c.dtype.ensures) c.in-Ok.ensures.of_type

pub returns-clause-rows : goal.returns-clause-rows
returns-clause-rows g c = λ row is.
    let here : Some row ≡ Some (sees c.in-Ok.row) = sym (ap (λ (rs : List (Option Value)). slice_get rs 0) is) ∙ c.in-Ok.ensures.row in
    let same : option_map Single c.in_ok-scalar-in-Ok.scalar.value ≡ row = c.in_ok-scalar-in-Ok.ensures.value ∙ (cc) in
    rw c.new.ensures (ap (λ (v : Option Value). replicate c.args.count v) same)

pub unreachable-requires : goal.unreachable-requires
unreachable-requires g c = let past = c.in-Err.ensures.refused.0 (ap (λ (e : VortexError). Err e) c.in-Err.ensures.only) in omega (arith, past, c.requires.one)
