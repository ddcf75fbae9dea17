use Rattle.std.proofs.Common.{map, sym, subst}
use Rattle.std.specs.Prelude.{MatchOption}
use Rattle.column_floats.specs.Extremes.{AreExtremes, NoneCounts}
use Rattle.column_sums.specs.SumAnswer.{number_in}
use Rattle.float_bits.specs.declared.formats.FloatFormat.{FloatFormat}
use Rattle.float_bits.specs.Number.{IsNan}
use Rattle.runend_array.specs.Array.{rows}
use Rattle.typed_columns.specs.Typed.{typed_of}
use Rattle.typed_kernels.proofs.ServedTypes.{floats_format}
use Rattle.typed_kernels.proofs.extremes.typed_min_max.Goals as goal

pub returns-in_ok-ends-in-Floats-clause-extremes : goal.returns-in_ok-ends-in-Floats-clause-extremes
returns-in_ok-ends-in-Floats-clause-extremes g c =
    let column = typed_of c.args.column.now in
    let f = c.in-Floats.format in
    let is = floats_format column f c.in-Floats.ensures.exactly in
    (sym c.in-Floats.ensures.served, subst (λ (h : FloatFormat). MatchOption c.in_ok-ends-in-Floats.ends (NoneCounts (λ bits. ¬ IsNan h bits) h (map number_in (rows c.args.column.now.array))) (λ ends. AreExtremes (λ bits. ¬ IsNan h bits) h (map number_in (rows c.args.column.now.array)) ends.0 ends.1)) (sym is.1) c.in_ok-ends-in-Floats.ensures.extremes)
