use Rattle.std.proofs.Common.{subst, sym}
use Rattle.column_core.specs.PrimitiveForm.{optional_numbers}
use Rattle.column_sums.specs.SumRange.{SumRange}
use Rattle.runend_windows.specs.Ends.{ends_of}
use Rattle.runend_windows.specs.Window.{last_end, run_rows}
use Rattle.runend_pairs.specs.SumParts.{ArePartsIn, AreUnsignedParts}
use Rattle.runend_pairs.specs.declared.parts.SumParts.TheVariants.{Unsigned}
use Rattle.runend_pairs.proofs.parts.unsigned_parts.Goals as goal

pub returns : goal.returns
returns g c =
    let parts = c.parts_of_items-parts.result in
    let ends = ends_of c.args.ends.now in
    let rows = run_rows ends (optional_numbers c.args.numbers.now) 0 (last_end ends) in
    let kept : AreUnsignedParts rows parts.total = c.parts_of_items-parts.ensures in
    subst (λ (range : SumRange). ArePartsIn range rows (Unsigned parts)) (sym c.requires.typed) kept.parts
