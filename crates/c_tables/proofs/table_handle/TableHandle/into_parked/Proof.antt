-- What a handle holds: nothing at null, and at any other pointer the parked box of its table.
use Rattle.std.proofs.Common.{◌≡◌, List, [], ◌∷◌, refl, subst, lit<}
use mir.Val.{Val, vptr, vcons, vnil}
use base.Logic.{SProp, emp}
use base.Fml.{ftrue}
use prog.Wp.{WpFn}
use types.Kit.{‵, raw, ◌⊛◌, at_ret, ◌$◌, ◌∵◌, !, qed, by, move, keep, split, fsplit, fjoin, suffices, use0, use1}
use types.Run.{stop, fld, lit, of_opd, bin, no_more, and_then, first, branches, exec, returns, enter}
use types.ByLocal.{alloc_all, pass_all, free_all, look_at, get, get_in, sets, sets_last, env}
use types.Part.{agg, sub, whole}
use types.Match.{live}
use contract.Monad.{fact, fact_i}
use contract.Running.{tables}
use denote.Exit.{yes}
use denote.RattleType.{RattleType, owns}
use denote.RawPtr.{Ptr, block_ptr, null_ptr, ptr_val, tests_null}
use denote.Param.{layout}
use denote.Signature.{types_at, type_at, plain}
use denote.Steps.{nothing}
use denote.Triple.Walked.{Stays, stay_dropped, walk_of, Goes-dropped}
use Rattle.core.proofs.alloc.Shapes.{after}
use Rattle.core.proofs.atomic.Steps.{Ptr-Good}
use Rattle.core.proofs.cell.Inside.{Good}
use Rattle.core.proofs.option.Made.{Some-of, none_of}
use Rattle.std.specs.Prelude.{None, Some}
use Rattle.std.proofs.alloc.Global.TheLaws as heap_laws
use Rattle.std.specs.contracts.impls.GlobalAllocator.TheImpl.{ghosts}
use Rattle.std_alloc.proofs.ResultValues.{and_tt}
use Rattle.std.proofs.raw_atomic.Walks.{proved_at, leaves}
use Rattle.c_tables.specs.TableHandle.{table_row}
use Rattle.c_tables.proofs.ParkedBoxes.{HeapRow, RawBox, as_one, close_parked, pair_value, parked_fits}
use Rattle.c_tables.proofs.TableValues.{TableRow, no_table_fits, no_table_or_held, open_table}
use Rattle.c_tables.specs.contracts.table_handle.TableHandle.into_parked.{ended, clauses}
use Rattle.c_tables.specs.contracts.table_handle.TableHandle.into_parked.Key.{name as #self}
use Rattle.c_tables.proofs.table_handle.TableHandle.into_parked.Statement.{statement}
use Rattle.c_tables.proofs.table_handle.TableHandle.into_parked.Code as code

pub into_parked_spec : {M : Type 1} → statement M
into_parked_spec 𝓤 𝓛 𝓜 𝓡 wired =
    let H = 𝓛.H in
    let 𝓣 = tables 𝓤 H 𝓜 𝓡 𝓡.env in
    let fn = code.function in
    let c = clauses 𝓛 𝓜.mem 𝓡.returns in
    let laws = heap_laws.the_row_laws in
    let Box : RattleType = RawBox table_row HeapRow laws ghosts in
    let stays : Stays ended.signature.params ended.kept = (stay_dropped (plain (λ _. TableRow)) yes, tt) in
    proved_at 𝓛 ended stays c 𝓜 𝓡 (Goes-dropped 𝓛 0 (plain (λ _. TableRow)) yes (λ κs x f. refl), tt) #self fn (code.unfolded 𝓤 H 𝓜 𝓡 wired) (λ z are.
    let Post : Val → SProp 𝓤 = (walk_of 𝓛 ended stays c).post z in
    let Run : List Val → SProp 𝓤 = λ ws. WpFn 𝓤 H 𝓣.C 𝓣.Λ fn ws Post in
    let given = z.0.3.0 in
    let Out : RattleType = type_at ended.signature.result z.0.0 in
    qed 𝓛 ((‵ ftrue ⊛ ‵ (owns (types_at ended.signature.params z.0.0) z.0.3 z.0.4)) ∷ raw ((c z.0.0 z.0.3).requires z.1) ∷ []) ∵
    split ! $ move ! (1 ∷ []) $ fsplit ! $ open_table ! given z.0.4.0 (λ h is fits. no_table_or_held 𝓛 ! given.alloc given.at given.table
    -- null
    (λ none null.
    let word : Val = pair_value (ptr_val null_ptr) h in
    suffices ! (Run (word ∷ [])) (as_one 𝓤 Run word (subst (λ (p : Ptr). z.0.4.0 ≡ pair_value (ptr_val p) h ∷ []) null is)) $
    enter ! 𝓣.C 𝓣.Λ fn (word ∷ []) Post $ alloc_all ! (λ l. pass_all ! refl (no_table_fits h fits, tt) $
    let Ev = env fn.locals l in
    let none_fits : Good (layout Out) (live 0 vnil) = (tt, (record { fits = lit< tt }, tt)) in
    sets ! (of_opd ! (get_in ! (fld ! refl (stop !)) (sub ! 0 refl (whole !)))) refl (Ptr-Good null_ptr) $
    sets ! (of_opd ! (get_in ! (fld ! refl (stop !)) (sub ! 1 refl (whole !)))) refl fits $
    sets ! (bin ! (get ! refl) (lit ! tt) tt) refl (tt, tt) $ first ! $ branches ! (get ! refl)
    (λ _. sets_last ! (agg ! (and_then ! (lit ! tt) (no_more !))) refl none_fits $
    exec ! 𝓣.C 𝓣.Λ Ev (after 4 fn.body) (at_ret Ev Post) $ sets ! (of_opd ! (get ! refl)) refl none_fits $
    use0 𝓛 (‵ (Out.own_val None (live 0 vnil ∷ []))) (none_of 𝓛 Box) $
    use0 𝓛 (raw (fact 𝓤 (given.table ≡ None))) (fact_i 𝓤 (given.table ≡ None) (emp 𝓤) none) $ nothing ! $ nothing ! $ fjoin ! $
    returns ! (look_at ! 0 refl) $ free_all ! refl $ keep ! (5 ∷ 0 ∷ 2 ∷ 1 ∷ []) $
    by ! (leaves 𝓛 ended stays c z (live 0 vnil) None (tt, tt) (tt, tt)))
    (λ wrong. absurd wrong)))
    -- the pointer of a table
    (λ b o x some at may.
    let word : Val = pair_value (vptr b o) h in
    let typed = parked_fits table_row HeapRow laws ghosts b o h fits in
    let found : Val = live 1 (vcons word vnil) in
    let box : Box.Denot = record { at = block_ptr b o; alloc = given.alloc; value = x } in
    let found_fits : Good (layout Out) found = (and_tt _ typed.0, (record { fits = lit< tt }, (typed.1, tt))) in
    suffices ! (Run (word ∷ [])) (as_one 𝓤 Run word (subst (λ (p : Ptr). z.0.4.0 ≡ pair_value (ptr_val p) h ∷ []) at is)) $
    enter ! 𝓣.C 𝓣.Λ fn (word ∷ []) Post $ alloc_all ! (λ l. pass_all ! refl (typed, tt) $
    let Ev = env fn.locals l in
    sets ! (of_opd ! (get_in ! (fld ! refl (stop !)) (sub ! 0 refl (whole !)))) refl (tt, tt) $
    sets ! (of_opd ! (get_in ! (fld ! refl (stop !)) (sub ! 1 refl (whole !)))) refl fits $
    sets ! (bin ! (get ! refl) (lit ! tt) (tests_null (block_ptr b o) may)) refl (tt, tt) $ first ! $ branches ! (get ! refl)
    (λ wrong. absurd wrong)
    (λ _. sets ! (agg ! (and_then ! (get ! refl) (and_then ! (get ! refl) (no_more !)))) refl typed $
    sets_last ! (agg ! (and_then ! (lit ! tt) (and_then ! (get ! refl) (no_more !)))) refl found_fits $
    exec ! 𝓣.C 𝓣.Λ Ev (after 4 fn.body) (at_ret Ev Post) $ sets ! (of_opd ! (get ! refl)) refl found_fits $
    close_parked table_row HeapRow laws ghosts ! b o h given.alloc x $
    use1 𝓛 (‵ (Out.own_val (Some box) (found ∷ []))) (Some-of 𝓛 Box box word) $
    use0 𝓛 (raw (fact 𝓤 (given.table ≡ Some x))) (fact_i 𝓤 (given.table ≡ Some x) (emp 𝓤) some) $ nothing ! $ nothing ! $ fjoin ! $
    returns ! (look_at ! 0 refl) $ free_all ! refl $ keep ! (4 ∷ 0 ∷ 2 ∷ 1 ∷ []) $
    by ! (leaves 𝓛 ended stays c z found (Some box) (tt, tt) (tt, tt)))))))
