-- An empty handle is a null pointer with the allocator that is given.
use Rattle.std.proofs.Common.{◌≡◌, List, [], ◌∷◌, refl}
use mir.Val.{Val}
use base.Logic.{SProp, emp}
use base.Fml.{ftrue}
use prog.Wp.{WpFn}
use types.Kit.{‵, raw, ◌⊛◌, ◌$◌, ◌∵◌, !, qed, by, move, keep, split, fsplit, fjoin, feq_i, rewrite, suffices, use0}
use types.Run.{lit, no_more, and_then, returns, enter}
use types.ByLocal.{alloc_all, pass_all, free_all, look_at, get, sets}
use types.Part.{agg}
use contract.Monad.{fact, fact_i}
use contract.Running.{tables}
use denote.Exit.{yes}
use denote.RattleType.{owns}
use denote.RawPtr.{Ptr, null_ptr, ptr_val}
use denote.Param.{layout}
use denote.Signature.{types_at, plain}
use denote.Steps.{nothing}
use denote.Triple.Walked.{Stays, stay_dropped, walk_of, Goes-dropped}
use Rattle.core.proofs.cell.Inside.{one}
use Rattle.std.specs.Prelude.{Option, None}
use Rattle.runend_builder.specs.Builder.{Built}
use Rattle.std.proofs.alloc.Global.TheLaws as heap_laws
use Rattle.std.proofs.raw_atomic.Walks.{proved_at, leaves}
use Rattle.c_columns.proofs.MachineValues.{HeapRow, as_one, pair_value}
use Rattle.c_columns.proofs.BuilderValues.{close_builder, empty_builder_fits}
use Rattle.c_columns.specs.contracts.builder_handle.BuilderHandle.empty.{ended, clauses}
use Rattle.c_columns.specs.contracts.builder_handle.BuilderHandle.empty.Key.{name as #self}
use Rattle.c_columns.proofs.builder_handle.BuilderHandle.empty.Statement.{statement}
use Rattle.c_columns.proofs.builder_handle.BuilderHandle.empty.Code as code

pub empty_spec : {M : Type 1} → statement M
empty_spec 𝓤 𝓛 𝓜 𝓡 wired =
    let H = 𝓛.H in
    let 𝓣 = tables 𝓤 H 𝓜 𝓡 𝓡.env in
    let fn = code.function in
    let c = clauses 𝓛 𝓜.mem 𝓡.returns in
    let stays : Stays ended.signature.params ended.kept = (stay_dropped (plain (λ _. HeapRow)) yes, tt) in
    proved_at 𝓛 ended stays c 𝓜 𝓡 (Goes-dropped 𝓛 0 (plain (λ _. HeapRow)) yes (λ κs x f. refl), tt) #self fn (code.unfolded 𝓤 H 𝓜 𝓡 wired) (λ z are.
    let Post : Val → SProp 𝓤 = (walk_of 𝓛 ended stays c).post z in
    let Run : List Val → SProp 𝓤 = λ ws. WpFn 𝓤 H 𝓣.C 𝓣.Λ fn ws Post in
    let alloc = z.0.3.0 in
    -- the allocator is one value
    let h = one (layout HeapRow) z.0.4.0 ((heap_laws.the_row_laws.lawful 𝓛).typed alloc z.0.4.0 are.0) in
    let made : Val = pair_value (ptr_val null_ptr) h.0 in
    let Holds : Option Built = None in
    qed 𝓛 ((‵ ftrue ⊛ ‵ (owns (types_at ended.signature.params z.0.0) z.0.3 z.0.4)) ∷ raw ((c z.0.0 z.0.3).requires z.1) ∷ []) ∵
    split ! $ move ! (1 ∷ []) $ fsplit ! $
    rewrite ! 0 (λ (us : List Val). ‵ (HeapRow.own_val alloc us)) h.1 refl $
    suffices ! (Run (h.0 ∷ [])) (as_one 𝓤 Run h.0 h.1) $
    enter ! 𝓣.C 𝓣.Λ fn (h.0 ∷ []) Post $ alloc_all ! (λ l. pass_all ! refl (h.2, tt) $
    sets ! (agg ! (and_then ! (lit ! tt) (and_then ! (get ! refl) (no_more !)))) refl (empty_builder_fits h.0 h.2) $
    feq_i ! Ptr null_ptr null_ptr refl $ close_builder ! null_ptr h.0 alloc None $
    use0 𝓛 (raw (fact 𝓤 (Holds ≡ Holds))) (fact_i 𝓤 (Holds ≡ Holds) (emp 𝓤) refl) $ nothing ! $ nothing ! $ fjoin ! $
    returns ! (look_at ! 0 refl) $ free_all ! refl $ keep ! (4 ∷ 0 ∷ 2 ∷ 1 ∷ []) $
    by ! (leaves 𝓛 ended stays c z made (record { at = null_ptr; alloc = alloc; built = None }) (tt, tt) (tt, tt))))
