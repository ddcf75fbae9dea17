use Rattle.std.proofs.Common.{◌∙◌, ℕ, List, ap, arith, inl, length, map, subst, sym}
use Rattle.std.specs.String.{string_bytes}
use Rattle.std.proofs.lemmas.Bool.{false≢true}
use Rattle.std.proofs.lemmas.List.{length-map}
use Rattle.tables.specs.Put.{IsPlaceFor, Takes}
use Rattle.tables.specs.Tables.{TableForm}
use Rattle.typed_columns.specs.Typed.{typed_of}
use Rattle.tables.proofs.Puts.{placed_as, placed_at, placed_last, put_short}
use Rattle.tables.proofs.TableRows.{table_seen}
use Rattle.tables.proofs.table.Table.put.Goals as goal

pub returns-then-not-takes-clause-refused : goal.returns-then-not-takes-clause-refused
returns-then-not-takes-clause-refused g c =
    let own = c.args.self.now in
    let place = c.place_for-place.result in
    let seen = ap (map string_bytes) c.deref.ensures.value ∙ ap (λ (t : TableForm). t.names) c.self.view_is in
    let there = subst (λ (bytes : List ℕ). IsPlaceFor own.names bytes place) c.as_str.ensures.value (placed_as (map string_bytes c.deref.result.now) own.names c.as_str.result.now place seen c.place_for-place.ensures) in
    (there, c.len-rows.ensures, ap (λ (t : TableForm). t.count) c.self.view_is, λ takes. absurd (false≢true (sym c.if-not-takes.true ∙ c.takes.ensures.1 takes)))

pub replace-requires-clause-there : goal.replace-requires-clause-there
replace-requires-clause-there g c =
    let own = c.self.inside in
    omega (arith, ap (λ (t : TableForm). length t.columns) c.self.view_is, length-map own.columns.items typed_of, own.columns.ok.0)

pub replace-requires-clause-takes : goal.replace-requires-clause-takes
replace-requires-clause-takes g c = subst (λ (n : ℕ). Takes c.args.self.now n) c.len-rows.ensures (c.takes.ensures.0 c.if-not-takes.false)

pub returns-then-place-len-clause-put : goal.returns-then-place-len-clause-put
returns-then-place-len-clause-put g c =
    let own = c.args.self.now in
    let place = c.place_for-place.result in
    let seen = ap (map string_bytes) c.deref.ensures.value ∙ ap (λ (t : TableForm). t.names) c.self.view_is in
    let there = subst (λ (bytes : List ℕ). IsPlaceFor own.names bytes place) c.as_str.ensures.value (placed_as (map string_bytes c.deref.result.now) own.names c.as_str.result.now place seen c.place_for-place.ensures) in
    let held = c.self.inside.columns in
    record {
      put = inl (record {
        place = place;
        there = placed_at own (string_bytes c.args.name) place (table_seen c.self.view_is c.self.invariant) there
            (omega (arith, ap (λ (t : TableForm). length t.columns) c.self.view_is, length-map held.items typed_of, held.ok.0));
        names = c.replace.ensures.names;
        columns = c.replace.ensures.columns;
      });
      count = c.replace.ensures.count;
    }

pub push-requires-clause-unknown : goal.push-requires-clause-unknown
push-requires-clause-unknown g c =
    let own = c.args.self.now in
    let place = c.place_for-place.result in
    let seen = ap (map string_bytes) c.deref.ensures.value ∙ ap (λ (t : TableForm). t.names) c.self.view_is in
    let there = subst (λ (bytes : List ℕ). IsPlaceFor own.names bytes place) c.as_str.ensures.value (placed_as (map string_bytes c.deref.result.now) own.names c.as_str.result.now place seen c.place_for-place.ensures) in
    let held = c.self.inside.columns in
    placed_last own (string_bytes c.args.name) place (table_seen c.self.view_is c.self.invariant) there
    (omega (arith, ap (λ (t : TableForm). length t.columns) c.self.view_is, length-map held.items typed_of, held.ok.0))

pub push-requires-clause-takes : goal.push-requires-clause-takes
push-requires-clause-takes g c = subst (λ (n : ℕ). Takes c.args.self.now n) c.len-rows.ensures (c.takes.ensures.0 c.if-not-takes.false)

pub returns-clause-refused : goal.returns-clause-refused
returns-clause-refused g c =
    let takes = subst (λ (n : ℕ). Takes c.args.self.now n) c.len-rows.ensures (c.takes.ensures.0 c.if-not-takes.false) in
    put_short c.args.self.now (string_bytes c.args.name) (typed_of c.args.column) c.push.result takes c.push.ensures.only
