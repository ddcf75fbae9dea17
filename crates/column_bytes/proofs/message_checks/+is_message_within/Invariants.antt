use Rattle.column_bytes.proofs.message_checks.+is_message_within.Given as goal

abbrev pub decreases-is_message_within : goal.decreases-is_message_within
decreases-is_message_within l = l.levels
