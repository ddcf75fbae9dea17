use Rattle.std.proofs.Common.{◌≡◌, ◌∙◌, ℕ, List, false, arith, map, subst, sym, true}
use Rattle.std.specs.String.{string_bytes}
use Rattle.column_core.specs.Value.{IsLists}
use Rattle.tables.specs.Tables.{IsKnown, IsNamed, IsPlaceOf, TableForm}
use Rattle.typed_columns.specs.Typed.{typed_of}
use Rattle.tables.proofs.Keyed.{list_at, single_more}
use Rattle.tables.proofs.NameLists.{mapped_at, named_at, place_within}
use Rattle.tables.proofs.Selections.{known_at}
use Rattle.tables.proofs.table.Table.first_list.Goals as goal

pub place_of-requires : goal.place_of-requires
place_of-requires g c =
    let names = c.args.self.now.names in
    let known = known_at g.N.Named.named names c.args.keys.now c.loop-key.key c.index-keys-key.result c.requires.known c.loop-key-test.true c.index-keys-key.is in
    record { known = subst (IsKnown names) (sym c.name.ensures) known }

pub index-column-requires : goal.index-column-requires
index-column-requires g c =
    let own = c.self.inside in
    let there = subst (λ (t : TableForm). IsPlaceOf t.names c.name.result.now c.place_of.result) (sym c.self.view_is) c.place_of.ensures.place in
    let within = place_within (map string_bytes own.names.items) own.columns.items own.rows c.name.result.now c.place_of.result c.self.invariant there in
    omega (arith, within, own.columns.ok.0)

pub returns-then-is_list_type : goal.returns-then-is_list_type
returns-then-is_list_type g c =
    let own = c.self.inside in
    let seen = c.args.self.now in
    let names = map g.N.Named.named c.args.keys.now in
    let key = c.index-keys-key.result in
    let column = c.index-column.result.now in
    let there = subst (λ (t : TableForm). IsPlaceOf t.names c.name.result.now c.place_of.result) (sym c.self.view_is) c.place_of.ensures.place in
    let found = named_at (map string_bytes own.names.items) own.columns.items own.rows seen c.name.result.now c.place_of.result column c.self.view_is c.self.invariant there c.index-column.ensures in
    let named = subst (λ (bytes : List ℕ). IsNamed seen bytes (typed_of column)) c.name.ensures found in
    list_at seen names c.loop-key.key (g.N.Named.named key) (typed_of column) (mapped_at g.N.Named.named c.args.keys.now c.loop-key.key key c.loop-key-test.true c.index-keys-key.is)
    named (subst IsLists c.dtype.ensures (c.is_list_type.ensures.lists.0 c.if-is_list_type.true)) c.loop-key.invariant

pub loop-key-preserved : goal.loop-key-preserved
loop-key-preserved g c =
    let own = c.self.inside in
    let seen = c.args.self.now in
    let names = map g.N.Named.named c.args.keys.now in
    let key = c.index-keys-key.result in
    let column = c.index-column.result.now in
    let there = subst (λ (t : TableForm). IsPlaceOf t.names c.name.result.now c.place_of.result) (sym c.self.view_is) c.place_of.ensures.place in
    let found = named_at (map string_bytes own.names.items) own.columns.items own.rows seen c.name.result.now c.place_of.result column c.self.view_is c.self.invariant there c.index-column.ensures in
    let named = subst (λ (bytes : List ℕ). IsNamed seen bytes (typed_of column)) c.name.ensures found in
    single_more seen names c.loop-key.key (g.N.Named.named key) (mapped_at g.N.Named.named c.args.keys.now c.loop-key.key key c.loop-key-test.true c.index-keys-key.is)
    (record { column = typed_of column; named = named; single = λ lists. let yes = c.is_list_type.ensures.lists.1 (subst IsLists (sym c.dtype.ensures) lists) in let wrong : true ≡ false = sym yes ∙ c.if-is_list_type.false in absurd (cc) }) c.loop-key.invariant
