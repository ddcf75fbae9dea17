use Rattle.column_bytes.proofs.column.+read_message.Given as goal

abbrev pub decreases-read_message : goal.decreases-read_message
decreases-read_message g l = l.levels
