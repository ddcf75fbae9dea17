use Rattle.std.proofs.Common.{◌≡◌, refl, ap, sym, ◌∙◌}
use Rattle.std.proofs.lemmas.Bool.{false≢true}
use Rattle.runend_array.specs.Array.{column_of}
use Rattle.runend_array.specs.SessionForm.{SessionForm, is_registered_in}
use Rattle.runend_array.specs.declared.array_ref.ArrayRef.{ArrayRef}
use Rattle.runend_array.specs.declared.array_ref.ArrayRef.TheVariants.{Constant}
use Rattle.runend_array.specs.declared.session.Kernel.{Kernel}
use Rattle.runend_commands.specs.KernelForms.{HasConstantKernel}
use Rattle.runend_commands.proofs.compute.kernel_runs.constant_for.Goals as goal
use Rattle.runend_commands.proofs.compute.kernel_runs.constant_for.Goals.{in_default-via-in-Constant+else-is_registered, in_default-via-in_default}

-- a column that is not a constant has none
no_constant : {A : Type 0} (array : ArrayRef A) (session : SessionForm) (kernel : Kernel) → ((constant : _) → ¬ (array ≡ Constant constant)) → ¬ HasConstantKernel session kernel (column_of array)
no_constant (Constant constant) session kernel other served = other constant refl
no_constant array session kernel other served = served

pub returns-in-Constant : goal.returns-in-Constant
returns-in-Constant g c =
    let registered = ap (λ s. is_registered_in s c.args.kernel) (sym c.session.ensures) ∙ sym c.is_registered.ensures ∙ c.if-is_registered.true in
    rw c.in-Constant.is (registered, refl)

pub returns-in_default : goal.returns-in_default
returns-in_default g c = elim c.in_default.branch [
  | in_default-via-in-Constant+else-is_registered w ↦ λ served.
      let registered = rw w.in-Constant.is at served in
      false≢true (sym w.if-is_registered.false ∙ w.is_registered.ensures ∙ ap (λ s. is_registered_in s c.args.kernel) w.session.ensures ∙ registered)
  | in_default-via-in_default w ↦ no_constant c.args.column.now c.args.ctx.now c.args.kernel w.in_default.not-Constant
]
