use Rattle.vortex_runend.proofs.laws.native_values_are_numbers.Goals as goal

pub returns : goal.returns
returns g c = g.met.T.NativePType.law
