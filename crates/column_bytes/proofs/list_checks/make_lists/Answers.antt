use Rattle.std.proofs.Common.{◌≡◌, arith}
use Rattle.runend_array.specs.Lists.{index_count}
use Rattle.column_bytes.proofs.ListChecks.{each_fits, made}
use Rattle.column_bytes.proofs.list_checks.make_lists.Goals as goal

pub returns : goal.returns
returns c = λ lists shows.
    let counted : index_count lists.offsets ≡ c.args.rows = omega (arith, c.rows.ensures lists.offsets shows.offsets, c.if-rows.false) in
    let sized : index_count lists.sizes ≡ c.args.rows = omega (arith, c.rows-2.ensures lists.sizes shows.sizes, c.if-rows-2.false) in
    let walked = c.rows_fit.ensures lists shows counted sized in
    (λ yes. made c.args.levels c.args.rows lists counted sized shows.flagged (omega (arith, c.levels_of.ensures c.args.rows lists shows, c.if-levels_of-levels.false)) (walked.0 yes), λ are. walked.1 (each_fits c.args.levels c.args.rows lists are))
