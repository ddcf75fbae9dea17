use Rattle.column_fields.proofs.Records.{Spells-same, Means-same}
use Rattle.column_fields.proofs.RecordWriting.{written_means, one_form}
use Rattle.column_fields.proofs.record_laws.spelling_is_unique.Goals as goal

pub returns-clause-fields : goal.returns-clause-fields
returns-clause-fields c = λ bytes f g h k. Spells-same f g bytes h k

pub returns-clause-meaning : goal.returns-clause-meaning
returns-clause-meaning c = Means-same

pub returns-clause-written : goal.returns-clause-written
returns-clause-written c = written_means

pub returns-clause-one_form : goal.returns-clause-one_form
returns-clause-one_form c = one_form
