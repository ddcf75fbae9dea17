use Rattle.std.proofs.Common.{◌∙◌, ap}
use Rattle.column_base.specs.Mask.{mask_bits}
use Rattle.runend_windows.proofs.BitRuns.{count-of_valid, count-of_nulls}
use Rattle.runend_windows.proofs.typed_bool.count_masked.Goals as goal

pub returns-in-AllTrue : goal.returns-in-AllTrue
returns-in-AllTrue g c =
    c.true_count.ensures ∙ count-of_valid c.args.values.now (mask_bits c.args.mask.now) c.in-AllTrue.field-0 (ap (λ mask. mask_bits mask) c.in-AllTrue.is) c.requires

pub returns-in-AllFalse : goal.returns-in-AllFalse
returns-in-AllFalse g c =
    count-of_nulls c.args.values.now (mask_bits c.args.mask.now) c.in-AllFalse.field-0 (ap (λ mask. mask_bits mask) c.in-AllFalse.is) c.requires
