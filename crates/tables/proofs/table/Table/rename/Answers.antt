use Rattle.std.proofs.Common.{◌≡◌, ◌∙◌, List, ap, length, map, rules, subst, sym, ℕ}
use Rattle.std.specs.List.{AllZip}
use Rattle.std.specs.String.{string_bytes}
use Rattle.std.proofs.lemmas.List.{length-map}
use Rattle.std.proofs.lemmas.Result.{IfErr-weaker, IfOk-weaker}
use Rattle.tables.specs.TableFaults.{IsNameFault, IsNamingError, IsRenameError}
use Rattle.tables.specs.Tables.{IsRenamedTo, IsRenaming, TableForm, table_with}
use Rattle.tables.proofs.Selections.{asked_seen, by_names, by_new_names, renaming_seen, short_of_names, zip_long}
use Rattle.tables.proofs.table.Table.rename.Goals as goal

pub returns-in-Some-clause-refused : goal.returns-in-Some-clause-refused
returns-in-Some-clause-refused g c =
    let own = c.args.self.now.names in
    let seen = ap (map string_bytes) c.deref.ensures.value ∙ ap (λ (t : TableForm). t.names) c.self.view_is in
    let same : length c.args.names.now ≡ length c.args.new_names.now = search rules in
    let paired = length-map c.args.names.now string_bytes ∙ same ∙ sym (length-map c.args.new_names.now string_bytes) in
    by_names own (map string_bytes c.args.names.now) (map string_bytes c.args.new_names.now) c.in-Some.error paired (subst (λ (l : List (List ℕ)). IsNameFault l (map string_bytes c.args.names.now) c.in-Some.error) seen c.in-Some.ensures)

pub returns-in_err-made-clause-refused : goal.returns-in_err-made-clause-refused
returns-in_err-made-clause-refused g c =
    let own = c.args.self.now.names in
    let seen = ap (map string_bytes) c.deref.ensures.value ∙ ap (λ (t : TableForm). t.names) c.self.view_is in
    let same : length c.args.names.now ≡ length c.args.new_names.now = search rules in
    let paired = length-map c.args.names.now string_bytes ∙ same ∙ sym (length-map c.args.new_names.now string_bytes) in
    let asked = asked_seen (map string_bytes c.deref.result.now) own (map string_bytes c.args.names.now) seen c.in_default.ensures in
    short_of_names c.from_residual.result own (map string_bytes c.args.names.now) (map string_bytes c.args.new_names.now) c.in_err-made.field-0.0 c.from_residual.ensures.1 c.in_err-made.ensures.only paired asked

pub under_names-requires : goal.under_names-requires
under_names-requires g c =
    let own = c.args.self.now.names in
    let seen = ap (map string_bytes) c.deref-2.ensures.value ∙ ap (λ (t : TableForm). t.names) c.self.view_is in
    let long = zip_long (IsRenamedTo (map string_bytes c.args.names.now) (map string_bytes c.args.new_names.now)) (map string_bytes c.deref-2.result.now) (map string_bytes c.in_ok-made.made.items) c.in_ok-made.ensures.renamed in
    record { paired = sym (length-map c.in_ok-made.made.items string_bytes) ∙ sym long ∙ ap length seen }

pub returns-clause-renamed : goal.returns-clause-renamed
returns-clause-renamed g c =
    let own = c.args.self.now.names in
    let seen = ap (map string_bytes) c.deref-2.ensures.value ∙ ap (λ (t : TableForm). t.names) c.self.view_is in
    let made = map string_bytes c.in_ok-made.made.items in
    IfOk-weaker c.under_names.result (λ table. table ≡ table_with made c.args.self.now.columns c.args.self.now.count) (IsRenaming c.args.self.now (map string_bytes c.args.names.now) (map string_bytes c.args.new_names.now))
    (λ table named. renaming_seen c.args.self.now table (map string_bytes c.deref-2.result.now) (map string_bytes c.args.names.now) (map string_bytes c.args.new_names.now) made seen c.in_ok-made.ensures.renamed named) c.under_names.ensures.named

pub returns-clause-refused : goal.returns-clause-refused
returns-clause-refused g c =
    let own = c.args.self.now.names in
    let seen = ap (map string_bytes) c.deref.ensures.value ∙ ap (λ (t : TableForm). t.names) c.self.view_is in
    let lent = ap (map string_bytes) c.deref-2.ensures.value ∙ ap (λ (t : TableForm). t.names) c.self.view_is in
    let same : length c.args.names.now ≡ length c.args.new_names.now = search rules in
    let paired = length-map c.args.names.now string_bytes ∙ same ∙ sym (length-map c.args.new_names.now string_bytes) in
    let asked = asked_seen (map string_bytes c.deref.result.now) own (map string_bytes c.args.names.now) seen c.in_default.ensures in
    let made = map string_bytes c.in_ok-made.made.items in
    let renamed = subst (λ (l : List (List ℕ)). AllZip (IsRenamedTo (map string_bytes c.args.names.now) (map string_bytes c.args.new_names.now)) l made) lent c.in_ok-made.ensures.renamed in
    IfErr-weaker c.under_names.result (IsNamingError made) (IsRenameError own (map string_bytes c.args.names.now) (map string_bytes c.args.new_names.now)) (λ error refused. by_new_names own (map string_bytes c.args.names.now) (map string_bytes c.args.new_names.now) made error paired asked renamed refused) c.under_names.ensures.refused
