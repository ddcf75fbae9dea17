use Rattle.std.proofs.Common.{◌∙◌, ℕ, List, ap, arith, map, refl, subst, sym}
use Rattle.std.specs.List.{AllZip}
use Rattle.std.specs.String.{string_bytes}
use Rattle.std.proofs.lemmas.List.{take_all}
use Rattle.tables.specs.Tables.{IsKnown, IsNamed, IsPlaceOf, TableForm}
use Rattle.typed_columns.specs.Typed.{TypedForm, typed_of}
use Rattle.tables.proofs.NameLists.{named_at, place_within}
use Rattle.tables.proofs.Selections.{known_at, zipped_more}
use Rattle.tables.proofs.table.Table.columns_named.Goals as goal

pub loop-name-init : goal.loop-name-init
loop-name-init g c = record {
  named = rw c.in_ok-kept.ensures.items tt;
  room = c.in_ok-kept.ensures.capacity;
  counted = c.in_ok-kept.ensures.len;
  session = refl;
}

pub place_of-requires : goal.place_of-requires
place_of-requires g c =
    let names = c.args.self.now.names in
    let known = known_at g.N.Named.named names c.args.names.now c.loop-name.name-index c.name-item.result c.requires.known (omega arith) c.name-item.is in
    record { known = subst (IsKnown names) (sym c.name.ensures) known }

pub index-requires : goal.index-requires
index-requires g c =
    let own = c.self.inside in
    let there = subst (λ (t : TableForm). IsPlaceOf t.names c.name.result.now c.place_of.result) (sym c.self.view_is) c.place_of.ensures.place in
    let within = place_within (map string_bytes own.names.items) own.columns.items own.rows c.name.result.now c.place_of.result c.self.invariant there in
    omega (arith, within, own.columns.ok.0)

pub loop-name-preserved : goal.loop-name-preserved
loop-name-preserved g c =
    let own = c.self.inside in
    let l = c.loop-name in
    let there = subst (λ (t : TableForm). IsPlaceOf t.names c.name.result.now c.place_of.result) (sym c.self.view_is) c.place_of.ensures.place in
    let found = named_at (map string_bytes own.names.items) own.columns.items own.rows c.args.self.now c.name.result.now c.place_of.result c.index.result.now c.self.view_is c.self.invariant there c.index.ensures in
    let named = subst (λ (bytes : List ℕ). IsNamed c.args.self.now bytes (typed_of c.index.result.now)) c.name.ensures found in
    let copied = subst (λ (form : TypedForm). IsNamed c.args.self.now (g.N.Named.named c.name-item.result) form) (sym c.in_ok-copy.ensures.form) named in
    record {
      named = zipped_more (IsNamed c.args.self.now) g.N.Named.named typed_of c.args.names.now l.kept.items c.push_reserved.new.self.items l.name-index c.name-item.result c.in_ok-copy.copy (omega arith) c.name-item.is copied l.invariant.named c.push_reserved.ensures.items;
      room = omega (arith, c.push_reserved.ensures.capacity, l.invariant.room);
      counted = omega (arith, c.push_reserved.ensures.len, l.invariant.counted);
      session = c.in_ok-copy.ensures.session ∙ l.invariant.session;
    }

pub returns-clause-columns : goal.returns-clause-columns
returns-clause-columns g c =
    let whole = ap (map g.N.Named.named) (take_all c.loop-name.name-index c.args.names.now (omega arith)) in
    subst (λ (l : List (List ℕ)). AllZip (IsNamed c.args.self.now) l (map typed_of c.loop-name.kept.items)) whole c.loop-name.invariant.named
