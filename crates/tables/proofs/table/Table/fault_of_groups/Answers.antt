use Rattle.std.proofs.Common.{◌≡◌, ◌+◌, ap, length, map, subst, sym, ℕ}
use Rattle.std.specs.String.{string_bytes}
use Rattle.std.proofs.lemmas.List.{length-map}
use Rattle.tables.specs.Grouping.{asked_of, group_names}
use Rattle.tables.specs.TableFaults.{IsFirstRepeated}
use Rattle.tables.specs.Tables.{AreDistinct}
use Rattle.tables.proofs.GroupRefusals.{answers_or_fault, by_group_keys}
use Rattle.tables.proofs.table.Table.fault_of_groups.Goals as goal

pub returns-in-Some : goal.returns-in-Some
returns-in-Some g c = by_group_keys c.args.self.now (map string_bytes c.args.keys.now) (map asked_of c.args.asked.now) c.in-Some.error c.in-Some.ensures

pub first_repeated_answer-requires : goal.first_repeated_answer-requires
first_repeated_answer-requires g c =
    let keys = map string_bytes c.args.keys.now in
    record { distinct = subst (λ (n : ℕ). AreDistinct keys n) (length-map c.args.keys.now string_bytes) c.in_default.ensures.asked.distinct }

pub returns-in-Some-first_repeated_answer : goal.returns-in-Some-first_repeated_answer
returns-in-Some-first_repeated_answer g c =
    let keys = map string_bytes c.args.keys.now in
    let names = group_names keys (map asked_of c.args.asked.now) in
    (c.in_default.ensures, subst (λ (n : ℕ). IsFirstRepeated names c.in-Some-first_repeated_answer.found.0 (n + c.in-Some-first_repeated_answer.found.1)) (sym (length-map c.args.keys.now string_bytes)) c.in-Some-first_repeated_answer.ensures)

pub returns : goal.returns
returns g c =
    answers_or_fault c.args.self.now (map string_bytes c.args.keys.now) (map asked_of c.args.asked.now) c.fault_of_asked.result c.in_default.ensures c.in_default-first_repeated_answer.ensures c.fault_of_asked.ensures
