use Rattle.std.proofs.Common.{◌∙◌, ◌+◌, ◌++◌, ℕ, List, ap, drop, length, take}
use Rattle.c_columns.proofs.TextRows.{written_behind}
use Rattle.c_columns.proofs.text_rows.put_at.Goals as goal

pub returns-clause-put : goal.returns-clause-put
returns-clause-put c =
    let front = c.split_at_mut-rest.result.0.now in
    let rest = drop (length c.args.more.now) c.split_at_mut-rest.result.1.now in
    ap (λ (l : List ℕ). take (c.args.at + length c.args.more.now) (front ++ (l ++ rest))) c.copy_from_slice.ensures.after
    ∙ written_behind c.args.at c.args.bytes.now front c.args.more.now rest c.split_at_mut-rest.ensures.front c.split_at_mut-rest.ensures.front_len
