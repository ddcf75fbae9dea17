use Rattle.std.proofs.Common.{◌∙◌, ap, map}
use Rattle.std.specs.String.{string_bytes}
use Rattle.tables.specs.Tables.{TableForm}
use Rattle.tables.proofs.Selections.{place_known}
use Rattle.tables.proofs.table.Table.place_of.Goals as goal

pub returns : goal.returns
returns g c =
    let seen = ap (map string_bytes) c.deref.ensures.value ∙ ap (λ (t : TableForm). t.names) c.self.view_is in
    record { place = place_known (map string_bytes c.deref.result.now) c.args.self.now.names c.args.name.now c.place_for.result seen c.requires.known c.place_for.ensures }
