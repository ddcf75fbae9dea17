use Rattle.runend_pairs.proofs.Hashed.{one_hash}
use Rattle.runend_pairs.proofs.hashes.equal_rows_equal_hashes.Goals as goal

pub returns : goal.returns
returns c = one_hash
