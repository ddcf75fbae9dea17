use Rattle.std.proofs.Common.{◌≡◌, ℕ, List, map, subst, false, true}
use Rattle.typed_columns.specs.Typed.{typed_of}
use Rattle.tables.specs.Grouping.{asked_of}
use Rattle.tables.specs.Tables.{IsNamed, IsUnknown}
use Rattle.tables.proofs.GroupTables.{first_unserved, served_more}
use Rattle.tables.proofs.NameLists.{mapped_at}
use Rattle.tables.proofs.table.Table.fault_of_asked.Goals as goal

pub returns-in_default : goal.returns-in_default
returns-in_default g c =
    let seen = c.args.self.now in
    let one = c.index-asked-answer.result in
    let there = mapped_at asked_of c.args.asked.now c.loop-answer.answer one c.loop-answer-test.true c.index-asked-answer.is in
    record {
      asks = asked_of one;
      first = first_unserved seen (map asked_of c.args.asked.now) c.loop-answer.answer (asked_of one) there c.loop-answer.invariant;
      unknown = subst (λ (bytes : List ℕ). IsUnknown seen.names bytes) c.as_str.ensures.value c.in_default.ensures.unknown;
    }

pub returns-then-not-is_answered : goal.returns-then-not-is_answered
returns-then-not-is_answered g c =
    let seen = c.args.self.now in
    let one = c.index-asked-answer.result in
    let there = mapped_at asked_of c.args.asked.now c.loop-answer.answer one c.loop-answer-test.true c.index-asked-answer.is in
    let column = c.in-Some.column.now in
    let named = subst (λ (bytes : List ℕ). IsNamed seen bytes (typed_of column)) c.as_str.ensures.value c.in-Some.ensures.found in
    record {
      asks = asked_of one;
      first = first_unserved seen (map asked_of c.args.asked.now) c.loop-answer.answer (asked_of one) there c.loop-answer.invariant;
      column = typed_of column;
      named = named;
      unanswered = λ has. let yes = c.is_answered.ensures.1 has in let no = c.if-not-is_answered.true in let told = c.if-not-is_answered.ensures in absurd (cc);
    }

pub loop-answer-preserved : goal.loop-answer-preserved
loop-answer-preserved g c =
    let seen = c.args.self.now in
    let one = c.index-asked-answer.result in
    let there = mapped_at asked_of c.args.asked.now c.loop-answer.answer one c.loop-answer-test.true c.index-asked-answer.is in
    let column = c.in-Some.column.now in
    let named = subst (λ (bytes : List ℕ). IsNamed seen bytes (typed_of column)) c.as_str.ensures.value c.in-Some.ensures.found in
    let told = c.if-not-is_answered.ensures in
    let no = c.if-not-is_answered.false in
    let yes : c.is_answered.result ≡ true = cc in
    served_more seen (map asked_of c.args.asked.now) c.loop-answer.answer (asked_of one) there
    (record { column = typed_of column; named = named; answered = c.is_answered.ensures.0 yes }) c.loop-answer.invariant
