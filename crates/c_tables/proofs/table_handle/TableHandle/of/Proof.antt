-- The handle of a parked box has its pointer, without its type, and its allocator.
use Rattle.std.proofs.Common.{◌≡◌, List, [], ◌∷◌, refl}
use Rattle.std.specs.Prelude.{Option, Some}
use Rattle.tables.specs.Tables.{TableForm}
use mir.Val.{Val, vptr}
use base.Logic.{SProp, emp}
use base.Fml.{ftrue}
use prog.Wp.{WpFn}
use types.Kit.{‵, raw, ◌⊛◌, ◌$◌, ◌∵◌, !, qed, by, move, keep, split, fsplit, fjoin, suffices, use0}
use types.Run.{stop, fld, of_opd, no_more, and_then, returns, enter}
use types.ByLocal.{alloc_all, pass_all, free_all, look_at, get, get_in, sets}
use types.Part.{agg, sub, whole}
use contract.Monad.{fact, fact_i}
use contract.Running.{tables}
use denote.Exit.{yes}
use denote.RattleType.{RattleType, owns}
use denote.RawPtr.{block_ptr}
use denote.Signature.{types_at, plain}
use denote.Steps.{nothing}
use denote.Triple.Walked.{Stays, stay_dropped, walk_of, Goes-dropped}
use Rattle.std.proofs.alloc.Global.TheLaws as heap_laws
use Rattle.std.specs.contracts.impls.GlobalAllocator.TheImpl.{ghosts}
use Rattle.std.proofs.raw_atomic.Walks.{proved_at, leaves}
use Rattle.c_tables.specs.TableHandle.{table_row}
use Rattle.c_tables.proofs.ParkedBoxes.{HeapRow, RawBox, as_one, open_parked, pair_value, parked_fits}
use Rattle.c_tables.proofs.TableValues.{close_table}
use Rattle.c_tables.specs.contracts.table_handle.TableHandle.of.{ended, clauses}
use Rattle.c_tables.specs.contracts.table_handle.TableHandle.of.Key.{name as #self}
use Rattle.c_tables.proofs.table_handle.TableHandle.of.Statement.{statement}
use Rattle.c_tables.proofs.table_handle.TableHandle.of.Code as code

pub of_spec : {M : Type 1} → statement M
of_spec 𝓤 𝓛 𝓜 𝓡 wired =
    let H = 𝓛.H in
    let 𝓣 = tables 𝓤 H 𝓜 𝓡 𝓡.env in
    let fn = code.function in
    let c = clauses 𝓛 𝓜.mem 𝓡.returns in
    let laws = heap_laws.the_row_laws in
    let Given : RattleType = RawBox table_row HeapRow laws ghosts in
    let stays : Stays ended.signature.params ended.kept = (stay_dropped (plain (λ _. Given)) yes, tt) in
    proved_at 𝓛 ended stays c 𝓜 𝓡 (Goes-dropped 𝓛 0 (plain (λ _. Given)) yes (λ κs x f. refl), tt) #self fn (code.unfolded 𝓤 H 𝓜 𝓡 wired) (λ z are.
    let Post : Val → SProp 𝓤 = (walk_of 𝓛 ended stays c).post z in
    let Run : List Val → SProp 𝓤 = λ ws. WpFn 𝓤 H 𝓣.C 𝓣.Λ fn ws Post in
    let box = z.0.3.0 in
    let Holds : Option TableForm = Some box.value in
    qed 𝓛 ((‵ ftrue ⊛ ‵ (owns (types_at ended.signature.params z.0.0) z.0.3 z.0.4)) ∷ raw ((c z.0.0 z.0.3).requires z.1) ∷ []) ∵
    split ! $ move ! (1 ∷ []) $ fsplit ! $ open_parked table_row HeapRow laws ghosts ! box z.0.4.0 (λ b o h _ is fits.
    let word : Val = pair_value (vptr b o) h in
    let typed = parked_fits table_row HeapRow laws ghosts b o h fits in
    suffices ! (Run (word ∷ [])) (as_one 𝓤 Run word is) $
    enter ! 𝓣.C 𝓣.Λ fn (word ∷ []) Post $ alloc_all ! (λ l. pass_all ! refl (typed, tt) $
    -- its two fields, and the handle of them
    sets ! (of_opd ! (get_in ! (fld ! refl (stop !)) (sub ! 0 refl (whole !)))) refl (tt, tt) $
    sets ! (of_opd ! (get_in ! (fld ! refl (stop !)) (sub ! 1 refl (whole !)))) refl fits $
    sets ! (agg ! (and_then ! (get ! refl) (and_then ! (get ! refl) (no_more !)))) refl typed $
    close_table ! (block_ptr b o) h box.alloc (Some box.value) $
    use0 𝓛 (raw (fact 𝓤 (Holds ≡ Holds))) (fact_i 𝓤 (Holds ≡ Holds) (emp 𝓤) refl) $ nothing ! $ nothing ! $ fjoin ! $
    returns ! (look_at ! 0 refl) $ free_all ! refl $ keep ! (4 ∷ 0 ∷ 2 ∷ 1 ∷ []) $
    by ! (leaves 𝓛 ended stays c z word (record { at = block_ptr b o; alloc = box.alloc; table = Some box.value }) (tt, tt) (tt, tt)))))
