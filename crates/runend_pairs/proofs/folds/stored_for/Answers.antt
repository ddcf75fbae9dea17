use Rattle.runend_pairs.proofs.folds.stored_for.Goals as goal

pub returns-in-None-clause-blank : goal.returns-in-None-clause-blank
returns-in-None-clause-blank g c = λ h. g.met.N.NativePType.law.zeroth c.default.result c.default.ensures
