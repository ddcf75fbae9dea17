use Rattle.std.proofs.Common.{◌∙◌, ◌++◌, ℕ, [], ◌∷◌, map, take, sym, ap, arith}
use Rattle.std.proofs.lemmas.List.{map_more, take_all}
use Rattle.runend_encode.specs.Windows.{start_in}
use Rattle.runend_encode.proofs.row_ends.rows_of.Goals as goal

pub loop-run-preserved : goal.loop-run-preserved
loop-run-preserved g c =
    let start = start_in (map g.E.UnsignedPType.natural c.args.ends.now) c.args.offset c.args.count in
    let more = map_more start c.args.runs.now c.loop-run.run-index 0 c.loop-run-test.true in
    record {
      shows = c.push_reserved.ensures.items ∙ ap (λ rows. rows ++ c.start_of.result ∷ []) c.loop-run.invariant.shows
          ∙ ap (λ (row : ℕ). map start (take c.loop-run.run-index c.args.runs.now) ++ row ∷ []) c.start_of.ensures ∙ sym more;
      len = omega (arith, c.push_reserved.ensures.len, c.loop-run.invariant.len);
      room = omega (arith, c.push_reserved.ensures.capacity, c.loop-run.invariant.room);
    }

pub returns-clause-rows : goal.returns-clause-rows
returns-clause-rows g c =
    let start = start_in (map g.E.UnsignedPType.natural c.args.ends.now) c.args.offset c.args.count in
    c.loop-run.invariant.shows ∙ ap (map start) (take_all c.loop-run.run-index c.args.runs.now (omega arith))
