use Rattle.std.proofs.Common.{rules}
use Rattle.float_bits.proofs.Tests.{refuted, less_test}
use Rattle.float_bits.proofs.comparisons.is_less.Goals as goal

pub returns : goal.returns
returns c = less_test c.args.format c.args.left c.args.right c.signed_magnitude.result c.signed_magnitude-2.result (record {
  left_fits = search rules;
  right_fits = search rules;
  left_word = c.signed_magnitude.ensures;
  right_word = c.signed_magnitude-2.ensures;
  left = refuted _ c.if-is_nan.false c.is_nan.ensures;
  right = refuted _ c.if-is_nan-2.false c.is_nan-else-is_nan.ensures;
})
