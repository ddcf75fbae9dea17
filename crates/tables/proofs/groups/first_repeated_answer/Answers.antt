use Rattle.std.proofs.Common.{ℕ, List, arith, length, map, subst, take}
use Rattle.std.specs.String.{string_bytes}
use Rattle.std.proofs.lemmas.List.{length-map}
use Rattle.tables.specs.Tables.{IsPlaceOf, IsUnknown}
use Rattle.tables.proofs.GroupNames.{answer_more, keys_distinct, name_in, names_distinct, repeated_answer, repeated_key}
use Rattle.tables.proofs.groups.first_repeated_answer.Goals as goal

pub loop-answer-init : goal.loop-answer-init
loop-answer-init g c = keys_distinct (map string_bytes c.args.keys.now) c.args.asked.now (length c.args.keys.now) (length-map c.args.keys.now string_bytes) c.requires.distinct

pub loop-answer-preserved : goal.loop-answer-preserved
loop-answer-preserved g c =
    let keys = map string_bytes c.args.keys.now in
    let asked = c.args.asked.now in
    let place = c.loop-answer.answer in
    answer_more keys asked (length c.args.keys.now) place c.index-asked-answer.result (length-map c.args.keys.now string_bytes) c.loop-answer-test.true c.index-asked-answer.is
    (subst (IsUnknown keys) c.name-name.ensures c.in_default.ensures.unknown)
    (subst (IsUnknown (map name_in (take place asked))) c.name-name.ensures c.in_default-place_of.ensures.unknown) c.loop-answer.invariant

pub returns-in-Some : goal.returns-in-Some
returns-in-Some g c =
    let keys = map string_bytes c.args.keys.now in
    repeated_key keys c.args.asked.now (length c.args.keys.now) c.loop-answer.answer c.index-asked-answer.result c.in-Some.key (length-map c.args.keys.now string_bytes) c.loop-answer-test.true c.index-asked-answer.is
    (subst (λ (bytes : List ℕ). IsPlaceOf keys bytes c.in-Some.key) c.name-name.ensures c.in-Some.ensures.found) c.loop-answer.invariant

pub returns-in-Some-place_of : goal.returns-in-Some-place_of
returns-in-Some-place_of g c =
    let asked = c.args.asked.now in
    let place = c.loop-answer.answer in
    repeated_answer (map string_bytes c.args.keys.now) asked (length c.args.keys.now) place c.index-asked-answer.result c.in-Some-place_of.earlier (length-map c.args.keys.now string_bytes) c.loop-answer-test.true c.index-asked-answer.is
    (subst (λ (bytes : List ℕ). IsPlaceOf (map name_in (take place asked)) bytes c.in-Some-place_of.earlier) c.name-name.ensures c.in-Some-place_of.ensures.found) c.loop-answer.invariant

pub returns : goal.returns
returns g c = names_distinct (map string_bytes c.args.keys.now) c.args.asked.now (length c.args.keys.now) c.loop-answer.answer (length-map c.args.keys.now string_bytes) (omega arith) c.loop-answer.invariant
