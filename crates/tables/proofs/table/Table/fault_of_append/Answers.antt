use Rattle.std.proofs.Common.{◌∙◌, ap, length, map, sym, arith}
use Rattle.std.proofs.lemmas.List.{length-map}
use Rattle.tables.specs.Tables.{TableForm}
use Rattle.typed_columns.specs.Typed.{typed_of}
use Rattle.tables.proofs.Appends.{error_of_fault, first_as, names_differ, names_of_both, same_fault, types_as}
use Rattle.tables.proofs.table.Table.fault_of_append.Goals as goal

pub returns-then-ne : goal.returns-then-ne
returns-then-ne g c =
    λ same. names_differ c.self.inside.names.items c.other.inside.names.items c.ne.result c.ne.ensures c.if-ne.true
    (ap (λ (t : TableForm). t.names) c.self.view_is ∙ same ∙ sym (ap (λ (t : TableForm). t.names) c.other.view_is))

pub first_other_type-requires : goal.first_other_type-requires
first_other_type-requires g c =
    let same = names_of_both c.args.self.now c.args.other.now c.self.inside.names.items c.other.inside.names.items c.ne.result (ap (λ (t : TableForm). t.names) c.self.view_is)
    (ap (λ (t : TableForm). t.names) c.other.view_is) c.ne.ensures c.if-ne.false in
    let counted = ap (λ (t : TableForm). length t.names) c.self.view_is in
    let counted_other = ap (λ (t : TableForm). length t.names) c.other.view_is in
    rw (c.deref.ensures.value, c.deref-2.ensures.value)
    (omega (arith, c.self.invariant.named, c.other.invariant.named, ap length same, counted, counted_other, length-map c.self.inside.columns.items typed_of, length-map c.other.inside.columns.items typed_of))

pub returns-in-Some : goal.returns-in-Some
returns-in-Some g c = (
  names_of_both c.args.self.now c.args.other.now c.self.inside.names.items c.other.inside.names.items c.ne.result (ap (λ (t : TableForm). t.names) c.self.view_is)
      (ap (λ (t : TableForm). t.names) c.other.view_is) c.ne.ensures c.if-ne.false,
  first_as (map typed_of c.self.inside.columns.items) (map typed_of c.other.inside.columns.items) c.args.self.now.columns c.args.other.now.columns c.in-Some.column (ap (λ (t : TableForm). t.columns) c.self.view_is)
      (ap (λ (t : TableForm). t.columns) c.other.view_is) (rw (c.deref.ensures.value, c.deref-2.ensures.value) at c.in-Some.ensures),
)

pub returns-in_err-error : goal.returns-in_err-error
returns-in_err-error g c =
    let own = ap (λ (t : TableForm). t.columns) c.self.view_is in
    let next = ap (λ (t : TableForm). t.columns) c.other.view_is in
    rw c.from_residual.ensures (record {
      names = names_of_both c.args.self.now c.args.other.now c.self.inside.names.items c.other.inside.names.items c.ne.result (ap (λ (t : TableForm). t.names) c.self.view_is)
          (ap (λ (t : TableForm). t.names) c.other.view_is) c.ne.ensures c.if-ne.false;
      types = types_as (map typed_of c.self.inside.columns.items) (map typed_of c.other.inside.columns.items) c.args.self.now.columns c.args.other.now.columns own next (rw (c.deref.ensures.value, c.deref-2.ensures.value) at c.in_default.ensures);
      allowed = sym (same_fault c.args.self.now c.args.other.now c.self.inside.columns.items c.self.inside.rows c.other.inside.rows own (ap (λ (t : TableForm). t.count) c.self.view_is) (ap (λ (t : TableForm). t.count) c.other.view_is))
          ∙ sym (rw c.deref-3.ensures.value at c.in_err-error.ensures);
    })

pub returns : goal.returns
returns g c =
    let own = ap (λ (t : TableForm). t.columns) c.self.view_is in
    let next = ap (λ (t : TableForm). t.columns) c.other.view_is in (
      names_of_both c.args.self.now c.args.other.now c.self.inside.names.items c.other.inside.names.items c.ne.result (ap (λ (t : TableForm). t.names) c.self.view_is)
          (ap (λ (t : TableForm). t.names) c.other.view_is) c.ne.ensures c.if-ne.false,
      types_as (map typed_of c.self.inside.columns.items) (map typed_of c.other.inside.columns.items) c.args.self.now.columns c.args.other.now.columns own next (rw (c.deref.ensures.value, c.deref-2.ensures.value) at c.in_default.ensures),
      error_of_fault _ c.in_ok-error.error (sym (same_fault c.args.self.now c.args.other.now c.self.inside.columns.items c.self.inside.rows c.other.inside.rows own (ap (λ (t : TableForm). t.count) c.self.view_is) (ap (λ (t : TableForm). t.count) c.other.view_is))
          ∙ sym (rw c.deref-3.ensures.value at c.in_ok-error.ensures)),
    )
