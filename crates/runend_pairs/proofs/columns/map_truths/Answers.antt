use Rattle.runend_array.specs.Array.{rows}
use Rattle.runend_pairs.specs.Zipped.{zip_rows}
use Rattle.runend_pairs.proofs.Faultless.{kept_answer, only_memory}
use Rattle.runend_pairs.proofs.columns.map_truths.Goals as goal

pub only_refused-requires : goal.only_refused-requires
only_refused-requires g c = only_memory (g.O.Pairwise.has c.args.operation.now) (zip_rows (g.O.Pairwise.answer_of c.args.operation.now) (rows c.args.column.now) (rows c.args.column.now)) c.map_column-made.result
    c.requires.total c.map_column-made.ensures.refused

pub returns-clause-answers : goal.returns-clause-answers
returns-clause-answers g c = kept_answer c.map_column-made.result c.only_refused.result _ c.only_refused.ensures.same c.map_column-made.ensures.answers
