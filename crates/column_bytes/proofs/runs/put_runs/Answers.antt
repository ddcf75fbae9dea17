use Rattle.std.proofs.Common.{◌≡◌, map, ap, sym, refl, ◌∙◌, ℕ, ◌++◌, arith, length}
use Rattle.std.specs.Prelude.{unsigned_abs}
use Rattle.column_fields.specs.Header.{header_bytes}
use Rattle.column_fields.specs.Lengths.{lengths_bytes}
use Rattle.column_bytes.specs.Bytes.{column_bytes}
use Rattle.column_bytes.proofs.RunLaws.{stored_fit}
use Rattle.column_bytes.proofs.Writes.{puts_runs}
use Rattle.column_fields.proofs.RoomLaws.{counted_refused}
use Rattle.column_bytes.proofs.MessageSizes.{runs_parts, values_in_fields}
use Rattle.column_base.specs.Numbers.{numbers}
use Rattle.column_fields.specs.RunFields.{run_fields}
use Rattle.column_bytes.proofs.runs.put_runs.Goals as goal

pub returns-clause-ok : goal.returns-clause-ok
returns-clause-ok g c =
    let r = c.args.runs.now in
    let ends-are : map unsigned_abs c.in-Primitive.ends.numbers ≡ r.ends = rw c.in-Primitive.is at c.ends.ensures.numbers in
    let typed : c.in-Primitive.ends.ptype ≡ r.ends_type = rw c.in-Primitive.is at c.ends.ensures.ptype in
    let lengths = ap (λ xs. lengths_bytes 0 (map unsigned_abs xs)) c.values.ensures.shows ∙ ap (lengths_bytes 0) ends-are in
    let header = c.in_ok-put_header.ensures.ok ∙ ap (λ (n : ℕ). g.W.BufMut.written c.args.out.now ++ header_bytes c.header_of.result.kind n c.header_of.result.rows) c.header_of.ensures.form in
    puts_runs r c.ptype.result _ _ _ _ (column_bytes r.values) _ _ _ (c.ptype.ensures ∙ typed) c.header_of.ensures.kind c.header_of.ensures.rows c.offset.ensures lengths refl header (c.in_ok-put_run_fields.ensures.ok (column_bytes r.values) (sym c.requires))

pub returns-clause-fit : goal.returns-clause-fit
returns-clause-fit g c =
    let ends-are : map unsigned_abs c.in-Primitive.ends.numbers ≡ c.args.runs.now.ends = rw c.in-Primitive.is at c.ends.ensures.numbers in
    let typed : c.in-Primitive.ends.ptype ≡ c.args.runs.now.ends_type = rw c.in-Primitive.is at c.ends.ensures.ptype in
    stored_fit _ _ c.args.runs.now.ends_type _ _ c.args.runs.now.ends c.values.ensures.typed typed c.values.ensures.shows ends-are c.in_ok-put_run_fields.ensures.fit

pub returns-in_err-put_header-clause-room : goal.returns-in_err-put_header-clause-room
returns-in_err-put_header-clause-room g c =
    let r = c.args.runs.now in
    counted_refused _ _ _ _ c.from_residual.ensures.0 (omega (arith, runs_parts r _ _ _ c.header_of.ensures.kind c.header_of.ensures.form c.header_of.ensures.rows, values_in_fields r, c.requires, c.in_err-put_header.ensures.room))

pub returns-in_err-put_run_fields-clause-room : goal.returns-in_err-put_run_fields-clause-room
returns-in_err-put_run_fields-clause-room g c =
    let r = c.args.runs.now in
    let ends-are : map unsigned_abs c.in-Primitive.ends.numbers ≡ r.ends = rw c.in-Primitive.is at c.ends.ensures.numbers in
    let typed : c.in-Primitive.ends.ptype ≡ r.ends_type = rw c.in-Primitive.is at c.ends.ensures.ptype in
    let lengths : lengths_bytes 0 (map unsigned_abs (numbers c.values.result.now)) ≡ lengths_bytes 0 r.ends = ap (λ xs. lengths_bytes 0 (map unsigned_abs xs)) c.values.ensures.shows ∙ ap (lengths_bytes 0) ends-are in
    let own : c.ptype.result ≡ r.ends_type = c.ptype.ensures ∙ typed in
    let at : c.offset.result ≡ r.offset = c.offset.ensures in
    let fields : run_fields c.offset.result c.ptype.result (lengths_bytes 0 (map unsigned_abs (numbers c.values.result.now))) (column_bytes r.values) ≡ run_fields r.offset r.ends_type (lengths_bytes 0 r.ends) (column_bytes r.values) = cc in
    counted_refused _ _ _ _ c.from_residual-in_err-put_run_fields.ensures.0 (omega (arith, runs_parts r _ _ _ c.header_of.ensures.kind c.header_of.ensures.form c.header_of.ensures.rows, values_in_fields r, c.requires, ap length fields, c.in_ok-put_header.ensures.room, c.in_err-put_run_fields.ensures.room (column_bytes r.values) (sym c.requires) c.in_err-put_run_fields.ensures.only))

pub returns-clause-room : goal.returns-clause-room
returns-clause-room g c =
    let r = c.args.runs.now in
    let ends-are : map unsigned_abs c.in-Primitive.ends.numbers ≡ r.ends = rw c.in-Primitive.is at c.ends.ensures.numbers in
    let typed : c.in-Primitive.ends.ptype ≡ r.ends_type = rw c.in-Primitive.is at c.ends.ensures.ptype in
    let lengths : lengths_bytes 0 (map unsigned_abs (numbers c.values.result.now)) ≡ lengths_bytes 0 r.ends = ap (λ xs. lengths_bytes 0 (map unsigned_abs xs)) c.values.ensures.shows ∙ ap (lengths_bytes 0) ends-are in
    let own : c.ptype.result ≡ r.ends_type = c.ptype.ensures ∙ typed in
    let at : c.offset.result ≡ r.offset = c.offset.ensures in
    let fields : run_fields c.offset.result c.ptype.result (lengths_bytes 0 (map unsigned_abs (numbers c.values.result.now))) (column_bytes r.values) ≡ run_fields r.offset r.ends_type (lengths_bytes 0 r.ends) (column_bytes r.values) = cc in
    omega (arith, runs_parts r _ _ _ c.header_of.ensures.kind c.header_of.ensures.form c.header_of.ensures.rows, values_in_fields r, c.requires, ap length fields, c.in_ok-put_header.ensures.room, c.in_ok-put_run_fields.ensures.room (column_bytes r.values) (sym c.requires))
