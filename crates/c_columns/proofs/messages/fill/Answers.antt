use Rattle.std.proofs.Common.{Err, ◌≡◌, ◌-◌, ◌∷◌, ◌∙◌, ap, arith, length, rules}
use Rattle.column_bytes.specs.Bytes.{column_bytes}
use Rattle.column_bytes.specs.Typed.{typed_bytes}
use Rattle.runend_array.specs.Array.{column_of}
use Rattle.typed_columns.specs.Typed.{typed_of}
use Rattle.c_columns.specs.Front.{front_written}
use Rattle.c_columns.proofs.Fronts.{all_written, same_bytes}
use Rattle.c_columns.proofs.MessageEndings.{never_cut, same_message}
use Rattle.c_columns.proofs.messages.fill.Goals as goal

pub returns-clause-filled : goal.returns-clause-filled
returns-clause-filled c =
    let message = typed_bytes c.as_str.result.now (column_bytes (column_of c.args.column.now.array)) in
    let same = same_message (typed_of c.args.column.now) c.as_str.result.now c.as_str.ensures.value in
    let written : front_written c.put_typed.new.out ≡ c.new-front.result.room.ghost_name ∷ message = rw c.new-front.ensures.count at c.in_ok-put_typed.ensures.ok in
    let name = same_bytes c.put_typed.new.out _ message written ∙ c.new-front.ensures.same_bytes in
    all_written c.put_typed.new.out _ message _ written (omega (arith, c.requires.size_is, ap length same)) (search (rules, name)) ∙ same

pub returns-in_err-put_typed-clause-never : goal.returns-in_err-put_typed-clause-never
returns-in_err-put_typed-clause-never c =
    let e = c.in_err-put_typed.ensures in
    let bytes : length c.new-front.result.room.now ≡ length c.args.room.now = ap length c.new-front.ensures.room in
    absurd (never_cut (typed_of c.args.column.now) c.as_str.result.now c.as_str.ensures.value (length c.new-front.result.room.now - c.new-front.result.count) (length c.args.room.now) _ (omega arith) c.requires (omega (arith, bytes, c.new-front.ensures.count)) e.only (λ h. e.refused (ap Err h)) e.room)
