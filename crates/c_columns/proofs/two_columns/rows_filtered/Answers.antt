use Rattle.std.proofs.Common.{refl}
use Rattle.runend_array.specs.declared.array_ref.ArrayRef.TheVariants.{Constant}
use Rattle.c_columns.proofs.ConstantFilters.{constant_left}
use Rattle.c_columns.proofs.two_columns.rows_filtered.Goals as goal

pub returns-in_ok-kept-in-Constant-clause-left : goal.returns-in_ok-kept-in-Constant-clause-left
returns-in_ok-kept-in-Constant-clause-left c =
    let kept = c.in_ok-kept-in-Constant in
    constant_left c.args.session.now c.args.mask.now c.args.array.now (Constant kept.kept) c.in-Constant.constant kept.kept c.in-Constant.is kept.ensures.refused kept.ensures.kept refl
