use Rattle.std.proofs.Common.{◌≡◌, ◌∙◌, ◌^◌, ◌<◌, ℕ, arith, length, map, refl, rules, subst, sym}
use Rattle.std.specs.String.{string_bytes}
use Rattle.std.proofs.lemmas.List.{length-map}
use Rattle.tables.specs.Tables.{AreDistinct}
use Rattle.typed_columns.specs.Typed.{typed_of}
use Rattle.tables.proofs.NameLists.{formats_utf8, texts_utf8}
use Rattle.tables.proofs.refusals.fault_of_parts.Goals as goal

pub returns-then-names-columns : goal.returns-then-names-columns
returns-then-names-columns g c = (sym (length-map c.args.names.now string_bytes), sym (length-map c.args.columns.now typed_of), c.if-names-columns.true)

pub returns-in-Some : goal.returns-in-Some
returns-in-Some g c =
    let same : length c.args.names.now ≡ length c.args.columns.now = search rules in
    (length-map c.args.names.now string_bytes ∙ same ∙ sym (length-map c.args.columns.now typed_of), refl, c.in-Some.ensures)

pub returns-in_err-found : goal.returns-in_err-found
returns-in_err-found g c =
    let same : length c.args.names.now ≡ length c.args.columns.now = search rules in
    let small : c.args.rows < 2 ^ 64 = omega arith in
    rw c.from_residual.ensures (record {
      named = length-map c.args.names.now string_bytes ∙ same ∙ sym (length-map c.args.columns.now typed_of);
      distinct = subst (λ (n : ℕ). AreDistinct (map string_bytes c.args.names.now) n) (sym (length-map c.args.names.now string_bytes)) c.in_err-found.ensures;
      texts = texts_utf8 c.args.names.now;
      formats = formats_utf8 c.args.columns.now;
      even = c.in_default.ensures;
      small = small;
    })

pub returns : goal.returns
returns g c =
    let same : length c.args.names.now ≡ length c.args.columns.now = search rules in
    (length-map c.args.names.now string_bytes ∙ same ∙ sym (length-map c.args.columns.now typed_of), c.in_default.ensures, c.in_ok-found.ensures)
