-- A box is parked: its pointer and its allocator own the block from then on.
use Rattle.std.proofs.Common.{◌≡◌, List, [], ◌∷◌, ◌++◌, refl, ap, ◌∙◌}
use mir.Syntax.{a_type, dcons, dnil}
use mir.Raw.{raw as bare}
use mir.Val.{Val, vstruct, of_list}
use mir.MapTy.{inst_fn}
use base.Logic.{SProp, emp, never, id⊢, fst∗}
use base.Fml.{ftrue, fsep, flft}
use prog.Wp.{WpFn}
use types.Logic.{sem}
use types.Kit.{‵, raw, ◌⊛◌, some, later, ◌$◌, ◌∵◌, !, qed, by, move, keep, drop, split, split3, join, fsplit, fjoin, fpick, pick, suffices, use0, use1, await, rewrite, feq_l}
use types.Run.{stop, fld, of_opd, no_more, and_then, returns, enter}
use types.ByLocal.{alloc_all, pass_all, free_all, look_at, get, get_in, sets, lands_as}
use types.Part.{agg, sub, whole}
use contract.Monad.{fact, fact_i}
use contract.Running.{tables}
use denote.Exit.{no}
use denote.RattleType.{RattleType, owns}
use denote.Signature.{types_at, plain}
use denote.Builtin.{RawPtr}
use denote.RawPtr.{Ptr, block_ptr, null_ptr, ptr_val, in_a_block}
use denote.Steps.{nothing, only, heard}
use denote.Param.{param, layout, bounded}
use denote.Param.Laws.{param_laws}
use denote.Struct.Tuple.{Tuple}
use denote.Triple.Spec.{triple_of}
use denote.Triple.Call.{calls_at}
use denote.Triple.Walked.{Stays, stay_dropped, walk_of}
use Rattle.core.proofs.alloc.Calls.{Goes-blank, handle_tells}
use Rattle.core.proofs.atomic.Steps.{fm}
use Rattle.std_alloc.specs.Box.Ownership.{box_owns}
use Rattle.std_alloc.proofs.BoxSteps.Form as box
use Rattle.std_alloc.proofs.BoxSteps.Steps.{box_out, box_in}
use Rattle.std.proofs.raw_atomic.Walks.{proved_at, leaves}
use Rattle.c_tables.proofs.ParkedBoxes.{as_one, close_parked, pair_value, parked_fits}
use Rattle.std_alloc.specs.contracts.boxed.Box.into_raw_with_allocator as into_raw
use Rattle.std_alloc.proofs.boxed.Box.into_raw_with_allocator.Met.{met}
use Rattle.c_tables.specs.contracts.raw_box.RawBox.into_raw.{ended, clauses}
use Rattle.c_tables.specs.contracts.raw_box.RawBox.into_raw.Key.{name as #self}
use Rattle.c_tables.proofs.raw_box.RawBox.into_raw.Statement.{statement}
use Rattle.c_tables.proofs.raw_box.RawBox.into_raw.Code as code

pub into_raw_spec : {M : Type 1} → statement M
into_raw_spec 𝓤 𝓛 𝓜 𝓡 wired T A L LA g d dx dd allocator glue glued =
    let H = 𝓛.H in
    let 𝓣 = tables 𝓤 H 𝓜 𝓡 𝓡.env in
    -- the types of what is in the box and of its allocator
    let Item : RattleType = param 0 T in
    let Alloc : RattleType = param 1 A in
    let laws = param_laws 1 A LA in
    let at_types = bounded (a_type ∷ a_type ∷ []) (T, (A, tt)) (dcons d (dcons dx (dcons dd dnil))) in
    let fn = inst_fn at_types code.function in
    let here = ended T A g d dx dd in
    let c = clauses T A g d dx dd 𝓛 𝓜.mem 𝓡.returns in
    let boxes : box.Bx = record { row = T; laws = L; al = record { row = A; laws = LA; g = g; d = d; drops = dd } } in
    let stays : Stays here.signature.params here.kept = (stay_dropped (plain (λ _. box.B boxes)) no, tt) in
    proved_at 𝓛 here stays c 𝓜 𝓡 (Goes-blank 𝓛 2 (plain (λ _. box.B boxes)) no (λ κs x f. tt), tt) (#self at_types) fn (code.unfolded 𝓤 H 𝓜 𝓡 wired (T, (A, tt)) d dx dd) (λ z are.
    let κs = z.0.0 in
    let qs = z.0.1 in
    let given = z.0.3.0 in
    let Post : Val → SProp 𝓤 = (walk_of 𝓛 here stays c).post z in
    let Run : List Val → SProp 𝓤 = λ ws. WpFn 𝓤 H 𝓣.C 𝓣.Λ fn ws Post in
    let tokens = ‵ (flft κs.0 qs.0) ⊛ ‵ (flft κs.1.0 qs.1.0) ⊛ ‵ ftrue in
    let block : Ptr → _ = λ p. box_owns (g.dealloc_token given.alloc) Item p given.value in
    qed 𝓛 ((tokens ⊛ ‵ (owns (types_at here.signature.params κs) z.0.3 z.0.4)) ∷ raw ((c κs z.0.3).requires z.1) ∷ []) ∵
    split ! $ move ! (1 ∷ []) $ fsplit ! $ box_out boxes ! given z.0.4.0 (λ b o h at is fits. box_in boxes ! given b o given.value at refl $
    let word : Val = box.word boxes h b o in
    let typed = parked_fits Item Alloc laws g b o h fits in
    -- what `into_raw_with_allocator` is to be given: the tokens and the box
    let call = triple_of 𝓛 (into_raw.signature T A g d dd dx) (into_raw.spec T A g d dd dx 𝓛 𝓜.mem 𝓡.returns) in
    let asked : call.Ghost = ((κs, qs, tt, (given, tt), (word ∷ [], tt)), tt) in
    let Parts = Tuple (RawPtr ∷ Alloc ∷ []) in
    fjoin ! $ move ! (1 ∷ 0 ∷ []) $ join ! $ join ! $ use1 𝓛 (raw (call.pre asked)) (id⊢ 𝓤 _) $
    suffices ! (Run (word ∷ [])) (as_one 𝓤 Run word is) $
    enter ! 𝓣.C 𝓣.Λ fn (word ∷ []) Post $ alloc_all ! (λ l. pass_all ! refl (typed, tt) $ sets ! (of_opd ! (get ! refl)) refl typed $
    calls_at ! (fm 𝓛 𝓜 𝓡) call (met 𝓤 𝓛 𝓜 𝓡 (code.calls-std_alloc::boxed::Box::into_raw_with_allocator 𝓡.env wired) T A L LA g d dd dx allocator glued glue) asked (and_then ! (get ! refl) (no_more !)) (λ u.
    -- what it gives back: the tokens, a pointer and an allocator, which is the box's, and the block at the pointer
    use1 𝓛 (later (some (λ (r : Ptr × A.Denot). (tokens ⊛ ‵ (Parts.own_val r (u ∷ []))) ⊛ some (λ (_ : (Unit {0} × (Unit {0} × Unit {0})) × Unit {0}). ‵ (fsep (fsep ftrue (fsep ftrue ftrue)) ftrue) ⊛ (raw (fact 𝓤 (r.1 ≡ given.alloc)) ⊛ ‵ (block r.0)))))) (id⊢ 𝓤 _) $
    await ! tt $ pick ! (λ r. split ! $ move ! (1 ∷ []) $ pick ! (λ _. split3 ! $ drop ! $ heard ! (r.1 ≡ given.alloc) (λ same.
    in_a_block ! r.0 block (fst∗ 𝓤 (never 𝓤) (sem 𝓛 (g.dealloc_token given.alloc (bare (layout T)) null_ptr))) (λ b' o' at'.
    move ! (1 ∷ []) $ split ! $ move ! (1 ∷ []) $ fpick ! (λ parts. fsplit ! $ feq_l ! (λ tuple. fsplit ! $ feq_l ! (λ pointer. fsplit ! $
    rewrite ! 0 (λ (s : A.Denot). ‵ (A.own_val s parts.1.0)) same refl $ handle_tells boxes.al ! given.alloc parts.1.0 (λ h' alloc fits'.
    let made : Val = pair_value (ptr_val (block_ptr b' o')) h' in
    let made_fits = parked_fits Item Alloc laws g b' o' h' fits' in
    let landed = ap only (tuple ∙ (λ j. vstruct (of_list ((pointer ∙ ap (λ (p : Ptr). ptr_val p ∷ []) at') j ++ (alloc j ++ []))) ∷ [])) in
    lands_as ! landed refl made_fits $
    sets ! (of_opd ! (get_in ! (fld ! refl (stop !)) (sub ! 0 refl (whole !)))) refl (tt, tt) $
    sets ! (of_opd ! (get_in ! (fld ! refl (stop !)) (sub ! 1 refl (whole !)))) refl fits' $
    sets ! (of_opd ! (get ! refl)) refl fits' $
    sets ! (agg ! (and_then ! (get ! refl) (and_then ! (get ! refl) (no_more !)))) refl made_fits $
    move ! (3 ∷ 0 ∷ []) $ close_parked Item Alloc laws g ! b' o' h' given.alloc given.value $
    use0 𝓛 (raw (fact 𝓤 (given.value ≡ given.value))) (fact_i 𝓤 (given.value ≡ given.value) (emp 𝓤) refl) $ nothing ! $ nothing ! $ fjoin ! $
    returns ! (look_at ! 0 refl) $ free_all ! refl $ keep ! (4 ∷ 0 ∷ 2 ∷ 1 ∷ []) $
    by ! (leaves 𝓛 here stays c z made (record { at = block_ptr b' o'; alloc = given.alloc; value = given.value }) ((tt, (tt, tt)), tt) (tt, tt))))))))))))))
