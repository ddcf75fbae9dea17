use Rattle.std.proofs.Common.{◌≡◌, ◌∙◌, ◌+◌, ◌++◌, ◌∷◌, [], ℤ, FitsSigned, Some, pos, length, map, take, refl, rules, sym, ap, subst, arith}
use Rattle.std.specs.Int.{w128}
use Rattle.std.proofs.lemmas.Int.{to_z-of_z}
use Rattle.std.specs.Prelude.{option_map, slice_get}
use Rattle.std.proofs.lemmas.List.{length-map, map_push, take_all}
use Rattle.std.proofs.lemmas.Option.{slice_get-map, slice_get_read}
use Rattle.column_core.specs.Refusal.{IsErrorFor}
use Rattle.column_ops.specs.Take.{index_fault}
use Rattle.column_ops.proofs.IndexPositions.{first_error-here, first_fault-next}
use Rattle.column_ops.proofs.Passed.{take_more}
use Rattle.column_ops.proofs.positions.valid_positions.Goals as goal

pub loop-index-preserved : goal.loop-index-preserved
loop-index-preserved g c =
    let number = g.T.NativePType.number in
    let indices = c.args.indices.now in
    let numbers = map number indices in
    let place = c.loop-index.index-index in
    let index = c.index-item.result in
    let old = c.loop-index.invariant in
    let here : slice_get numbers place ≡ Some c.widen.result = slice_get-map number indices place
    ∙ ap (option_map number) (slice_get_read indices (length indices) place index refl c.loop-index-test.true c.index-item.is) ∙ ap (λ n. Some n) (sym c.widen.ensures) in
    let fits : FitsSigned w128 c.widen.result = search rules in
    let read = to_z-of_z w128 c.widen.result fits in
    record {
      same = ap (map pos) c.push_reserved.ensures.items ∙ map_push pos c.loop-index.positions.items c.in-Ok.position ∙ ap (λ xs. xs ++ pos c.in-Ok.position ∷ []) old.same
          ∙ ap (λ n. take place numbers ++ n ∷ []) (c.in-Ok.ensures.same ∙ read) ∙ sym (take_more numbers place c.widen.result here);
      sound = first_fault-next (λ n. index_fault c.args.count (Some n)) numbers place c.widen.result old.sound here (ap (λ n. index_fault c.args.count (Some n)) (sym read) ∙ c.in-Ok.ensures.refused);
      len = c.push_reserved.ensures.len ∙ ap (λ n. n + 1) old.len;
      room = rw c.push_reserved.ensures.capacity old.room;
    }

pub returns-in-Err-clause-refused : goal.returns-in-Err-clause-refused
returns-in-Err-clause-refused g c =
    let number = g.T.NativePType.number in
    let indices = c.args.indices.now in
    let numbers = map number indices in
    let place = c.loop-index.index-index in
    let index = c.index-item.result in
    let here : slice_get numbers place ≡ Some c.widen.result = slice_get-map number indices place
    ∙ ap (option_map number) (slice_get_read indices (length indices) place index refl c.loop-index-test.true c.index-item.is) ∙ ap (λ n. Some n) (sym c.widen.ensures) in
    let fits : FitsSigned w128 c.widen.result = search rules in
    let read = to_z-of_z w128 c.widen.result fits in
    let refused = subst (λ (n : ℤ). IsErrorFor (index_fault c.args.count (Some n)) c.in-Err.error) read c.in-Err.ensures.refused in
    first_error-here (λ n. index_fault c.args.count (Some n)) numbers place c.widen.result c.in-Err.error c.loop-index.invariant.sound here refused

pub returns-clause-refused : goal.returns-clause-refused
returns-clause-refused g c =
    let numbers = map g.T.NativePType.number c.args.indices.now in
    let long = length-map c.args.indices.now g.T.NativePType.number in
    rw (take_all c.loop-index.index-index numbers (omega (arith, long))) at c.loop-index.invariant.sound

pub returns-clause-same : goal.returns-clause-same
returns-clause-same g c =
    let numbers = map g.T.NativePType.number c.args.indices.now in
    let long = length-map c.args.indices.now g.T.NativePType.number in
    c.loop-index.invariant.same ∙ take_all c.loop-index.index-index numbers (omega (arith, long))
