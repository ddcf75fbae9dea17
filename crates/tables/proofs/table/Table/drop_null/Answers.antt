use Rattle.std.proofs.Common.{◌∙◌, ℕ, List, ap, map, subst, sym}
use Rattle.std.specs.Prelude.{All}
use Rattle.std.specs.String.{string_bytes}
use Rattle.tables.specs.TableFaults.{AreAsked, IsNameFault}
use Rattle.tables.specs.Tables.{IsKnown}
use Rattle.tables.specs.WithoutNull.{IsWithoutNull, chosen_names}
use Rattle.tables.proofs.Selections.{asked_seen, by_choice}
use Rattle.tables.proofs.ValidTables.{chosen_known, short_of_valid}
use Rattle.tables.proofs.table.Table.drop_null.Goals as goal

pub returns-in-Some-clause-refused : goal.returns-in-Some-clause-refused
returns-in-Some-clause-refused g c =
    let names = map string_bytes c.args.names.now in
    by_choice c.args.self.now.names names c.in-Some.error (subst (λ (own : List (List ℕ)). IsNameFault own names c.in-Some.error) c.names.ensures.names c.in-Some.ensures)

pub valid_in-requires : goal.valid_in-requires
valid_in-requires g c =
    let own = c.args.self.now.names in
    let names = map string_bytes c.args.names.now in
    let asked = asked_seen (map string_bytes c.names.result.now) own names c.names.ensures.names c.in_default.ensures in
    let chosen = c.chosen_of-chosen.ensures ∙ ap (λ (l : List (List ℕ)). chosen_names l names) c.names-2.ensures.names in
    record { known = subst (All (IsKnown own)) (sym chosen) (chosen_known own names asked) }

pub returns-in_err-valid_in-clause-refused : goal.returns-in_err-valid_in-clause-refused
returns-in_err-valid_in-clause-refused g c =
    let own = c.args.self.now.names in
    let names = map string_bytes c.args.names.now in
    let asked = asked_seen (map string_bytes c.names.result.now) own names c.names.ensures.names c.in_default.ensures in
    short_of_valid c.from_residual.result own names c.in_err-valid_in.field-0.0 c.from_residual.ensures.1 c.in_err-valid_in.ensures.only asked

pub returns-clause-valid : goal.returns-clause-valid
returns-clause-valid g c =
    let names = map string_bytes c.args.names.now in
    let chosen = c.chosen_of-chosen.ensures ∙ ap (λ (l : List (List ℕ)). chosen_names l names) c.names-2.ensures.names in
    subst (λ (l : List (List ℕ)). IsWithoutNull c.args.self.now l c.in_ok-valid_in.field-0) chosen c.in_ok-valid_in.ensures.valid

pub returns-clause-allowed : goal.returns-clause-allowed
returns-clause-allowed g c = asked_seen (map string_bytes c.names.result.now) c.args.self.now.names (map string_bytes c.args.names.now) c.names.ensures.names c.in_default.ensures
