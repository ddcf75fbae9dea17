-- `refuses_next` as a caller meets it: what it is handed, and what it gives back. Assumes `Logic`.
-- A walk cites these two lemmas in place of the contract's own formula.
use Rattle.std.proofs.Common.{◌≡◌, ℕ, List, [], ◌∷◌, ap}
use mathlib.Core.Path.{refl}
use mathlib.Core.Bool.{Bool}
use seplogic.Ra.Ura.{Ura}
use mir.Val.{Val, vbool, vptr}
use base.Logic.{SProp, ent, sep, ex, guard, id⊢}
use base.Fml.{Lft, Share, ftrue, fsep, flft}
use prog.Memory.{Memory}
use prog.Routine.{Routine}
use types.Logic.{Logic, sem}
use contract.Monad.{Fun}
use types.Kit.{‵, ◌⊛◌, some, later, ◌$◌, ◌∵◌, !, qed, move, keep, use1, split, join, pick, fjoin, feq_i, feq_l, check, show, await, updating, now as at_once, done}
use denote.RattleType.{RattleType}
use denote.Memory.{hidden_shr}
use denote.Builtin.{bool}
use denote.Steps.{nothing, only}
use denote.Triple.Statement.{Contract}
use denote.Triple.Spec.{triple_of}
use Rattle.refusing.specs.contracts.plan.Plan as plan
use Rattle.refusing.specs.contracts.plan.Plan.refuses_next as refuses_next

-- the plan's type in the logic
abbrev pub Plan : RattleType
Plan = plan.the_row

module _ {M : Type 1} {𝓤 : Ura M} (𝓛 : Logic 𝓤) (at_mem : Memory → SProp 𝓤) (run : Routine → Fun 𝓤) where
  -- the contract of `refuses_next`
  abbrev pub Asks : Contract 𝓤
  Asks = triple_of 𝓛 refuses_next.signature (refuses_next.spec 𝓛 at_mem run)

  -- a call of it on the plan at one place, borrowed for the lifetime `κ`, of which the share `q` is held
  abbrev pub at_asks : Plan.Denot → Lft → Share → ℕ × ℕ → Asks.Ghost
  at_asks asked κ q place = (((κ, tt), (q, tt), tt, (record { ref_ptr = place; now = asked }, tt), (vptr place.0 place.1 ∷ [], tt)), tt)

module _ {M : Type 1} {𝓤 : Ura M} (𝓛 : Logic 𝓤) (at_mem : Memory → SProp 𝓤) (run : Routine → Fun 𝓤) (asked : Plan.Denot) (κ : Lft) (q : Share) (place : ℕ × ℕ) where
  open 𝓛 use {H, A}

  -- a shared plan and a share of its lifetime are all that the call needs
  pub Asks-goes : ent 𝓤 (sep 𝓤 (sem 𝓛 (hidden_shr Plan κ asked place.0 place.1)) (A.lft κ q)) ((Asks 𝓛 at_mem run).pre (at_asks 𝓛 at_mem run asked κ q place))
  Asks-goes =
      qed 𝓛 (‵ (hidden_shr Plan κ asked place.0 place.1) ∷ ‵ (flft κ q) ∷ []) ∵
      feq_i ! (List Val) (vptr place.0 place.1 ∷ []) (vptr place.0 place.1 ∷ []) refl $ fjoin ! $
      nothing ! $ move ! (1 ∷ []) $ fjoin ! $ nothing ! $ move ! (2 ∷ []) $ join ! $ join ! $ nothing ! $ move ! (1 ∷ []) $ done !

  -- the value is this boolean, and the share of the lifetime is back
  abbrev pub Said : Val → Bool → SProp 𝓤
  Said value is_refused = guard 𝓤 (value ≡ vbool is_refused) (A.lft κ q)

  -- the call answers some boolean: which one depends on a cell, so nothing is known of it
  pub Asks-gives : (value : Val) → ent 𝓤 ((Asks 𝓛 at_mem run).post (at_asks 𝓛 at_mem run asked κ q place) value) (H.⇛ (ex 𝓤 (Said value)))
  Asks-gives value =
      qed 𝓛 (types.Kit.raw ((Asks 𝓛 at_mem run).post (at_asks 𝓛 at_mem run asked κ q place) value) ∷ []) ∵ updating ! $
      use1 𝓛 (later (some (λ (is_refused : Bool). ((‵ (flft κ q) ⊛ ‵ ftrue) ⊛ ‵ (bool.own_val is_refused (value ∷ []))) ⊛ some (λ (ws : Unit {0} × Unit {0}). ‵ (fsep ftrue ftrue) ⊛ ‵ ftrue)))) (id⊢ 𝓤 _) $
      await ! tt $ pick ! (λ is_refused. split ! $ split ! $ move ! (1 ∷ []) $
      feq_l ! (λ same. split ! $ at_once ! $ show ! (Said value) is_refused $ check ! (ap only same) $ keep ! (0 ∷ []) $ done !))
