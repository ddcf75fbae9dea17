use Rattle.std.proofs.Common.{◌∙◌, ap, length, map}
use Rattle.std.specs.List.{range_with_len}
use Rattle.std.proofs.lemmas.List.FromFn.{length-map-range_with_len}
use Rattle.runend_array.specs.Array.{column_of}
use Rattle.runend_array.specs.Column.{index_of}
use Rattle.runend_array.specs.Lists.{index_at, index_numbers}
use Rattle.runend_array.proofs.ListRuns.{AreParts-numbers, RunIndex-numbers}
use Rattle.runend_array.proofs.ListWalks.{made-all}
use Rattle.runend_array.proofs.lists.runs.index_in_runs.Goals as goal

pub new_unchecked-runs-requires : goal.new_unchecked-runs-requires
new_unchecked-runs-requires g c =
    let index = index_of (column_of c.args.index.now) in
    AreParts-numbers c.args.ends.now c.in-Ok.ends c.new_unchecked-numbers.result c.in_ok-numbers_between.field-0.items c.args.offset c.args.count c.requires.plain c.requires.window
    c.in-Ok.ensures.form c.new_unchecked-numbers.ensures
    (ap length c.in_ok-numbers_between.ensures.numbers ∙ ap length (made-all (index_at index) c.index_len.result) ∙ length-map-range_with_len (index_at index) 0 c.index_len.result ∙ c.index_len.ensures ∙ c.requires.paired)

pub returns-clause-form : goal.returns-clause-form
returns-clause-form g c =
    let index = index_of (column_of c.args.index.now) in
    ap index_of c.in_ok-index.ensures.form
    ∙ RunIndex-numbers c.new_unchecked-runs.result c.args.ends.now c.in-Ok.ends c.new_unchecked-numbers.result c.in_ok-numbers_between.field-0.items (index_numbers index) c.args.offset c.args.count
    c.new_unchecked-runs.ensures c.in-Ok.ensures.form c.new_unchecked-numbers.ensures
    (c.in_ok-numbers_between.ensures.numbers ∙ made-all (index_at index) c.index_len.result ∙ ap (λ n. map (index_at index) (range_with_len 0 n)) c.index_len.ensures)
