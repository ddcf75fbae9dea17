use Rattle.column_words.proofs.TypeNames.{names_no_type}
use Rattle.column_words.proofs.types.parse_type.Goals as goal

pub returns-in_err-parse_ptype : goal.returns-in_err-parse_ptype
returns-in_err-parse_ptype c =
    let split = c.split_mark-nullability in
    rw c.from_residual.ensures (names_no_type c.args.word.now split.result.0.now split.result.1 split.ensures.whole split.ensures.unmarked c.in_err-parse_ptype.ensures)
