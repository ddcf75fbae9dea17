-- Sessions that lines leave.
use Rattle.std.proofs.Common.{◌≡◌, refl}
use Rattle.std.specs.Prelude.{◌≢◌, Option, None, Some}
use Rattle.runend_array.specs.SessionForm.{SessionForm}
use Rattle.runend_script.specs.declared.command.ScriptCommand.{ScriptCommand}
use Rattle.runend_script.specs.declared.command.ScriptCommand.TheVariants.{Set}
use Rattle.runend_script.specs.declared.command.Setting.{Setting}
use Rattle.runend_script.specs.Session.{IsSessionAfter, IsSetTo}

-- a command that sets nothing leaves the session
pub left_by_others : {X : Type 0} (command : ScriptCommand) (column : Option X) (before after : SessionForm) → ((setting : Setting) → command ≢ Set setting) → after ≡ before → IsSessionAfter command column before after
left_by_others (Set setting) column before after other same = absurd (other setting refl)
left_by_others command column before after other same = same

-- a line that sets something, without a column
pub unset_without_column : {X : Type 0} (setting : Setting) (column : Option X) (before after : SessionForm) → column ≡ None → after ≡ before → IsSessionAfter (Set setting) column before after
unset_without_column setting None before after none same = same
unset_without_column setting (Some array) before after none same = absurd (cc)

-- and where one does
pub set_beside_column : {X : Type 0} (setting : Setting) (column : Option X) (before after : SessionForm) → column ≢ None → IsSetTo setting before after → IsSessionAfter (Set setting) column before after
set_beside_column setting None before after some set = absurd (some refl)
set_beside_column setting (Some array) before after some set = set
