use Rattle.std.proofs.Common.{◌∙◌}
use Rattle.std.proofs.lemmas.List.{length-map}
use Rattle.row_stretches.specs.Masks.{is_true, truths_of}
use Rattle.runend_array.specs.Array.{rows}
use Rattle.tables.proofs.ValidMasks.{kept_bits}
use Rattle.tables.proofs.valid.valid_too.Goals as goal

pub returns-then-has_no_null-clause-truths : goal.returns-then-has_no_null-clause-truths
returns-then-has_no_null-clause-truths g c =
    kept_bits (truths_of (rows c.args.mask)) (rows c.args.column.now) (length-map (rows c.args.mask) is_true ∙ c.requires.even) (c.has_no_null.ensures.0 c.if-has_no_null.true)
