-- What lines of a script set of the session.
use Rattle.std.specs.Prelude.{◌≡◌, Bool, Option, Some, true, false}
use Rattle.runend_array.specs.SessionForm.{SessionForm, crate_thresholds, is_registered_in, no_thresholds}
use Rattle.runend_array.specs.declared.session.Kernel.{Kernel}
use Rattle.runend_array.specs.declared.session.Thresholds.{Thresholds}
use Rattle.runend_script.specs.declared.command.ScriptCommand.{ScriptCommand}
use Rattle.runend_script.specs.declared.command.ScriptCommand.TheVariants.{Set}
use Rattle.runend_script.specs.declared.command.Setting.{Setting}
use Rattle.runend_script.specs.declared.command.Setting.TheVariants.{AllKernels, NoKernels, CrateThresholds, ZeroThresholds}

-- every kernel is registered or none is, and the thresholds stay
pub record AreKernelsSet (registered : Bool) (before after : SessionForm) : Type 0 where
  pub kernels : (k : Kernel) → is_registered_in after k ≡ registered
  pub thresholds : after.thresholds ≡ before.thresholds

-- the thresholds are these, and each kernel stays registered or not
pub record AreThresholdsSet (wanted : Thresholds) (before after : SessionForm) : Type 0 where
  pub kernels : (k : Kernel) → is_registered_in after k ≡ is_registered_in before k
  pub thresholds : after.thresholds ≡ wanted

-- the session is set as the line says
abbrev pub IsSetTo : Setting → SessionForm → SessionForm → Type 0
IsSetTo AllKernels before after = AreKernelsSet true before after
IsSetTo NoKernels before after = AreKernelsSet false before after
IsSetTo CrateThresholds before after = AreThresholdsSet crate_thresholds before after
IsSetTo ZeroThresholds before after = AreThresholdsSet no_thresholds before after

-- the session after a command: it is set by a line that says so, where there is a column, and any other leaves it as it
-- is
abbrev pub IsSessionAfter : {X : Type 0} → ScriptCommand → Option X → SessionForm → SessionForm → Type 0
IsSessionAfter (Set setting) (Some column) before after = IsSetTo setting before after
IsSessionAfter command column before after = after ≡ before
