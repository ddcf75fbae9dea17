-- `allocate` asks the plan, and answers what the inner allocator answers where the plan does not refuse. Assumes `Logic`.
use Rattle.std.proofs.Common.{◌≡◌, ℕ, ◌+◌, ◌^◌, ◌<◌, true, false, List, [], ◌∷◌, Ok, Err, refl, w64, Bor}
use seplogic.Ra.Ura.{Ura}
use mathlib.Core.Bool.{Bool}
use mir.Syntax.{Ty, Args, Fn, a_type, dnil, dcons}
use mir.Val.{Val, vbool, vint, vptr}
use mir.MapTy.{inst_fn}
use base.Logic.{SProp, ent, sep, emp, id⊢}
use base.Fml.{Lft, Share, ftrue, flft}
use prog.Memory.{Memory, size, align, capped, up}
use prog.Routine.{Routine}
use prog.Wp.{Env, WpFn, Tables}
use types.Logic.{Logic}
use contract.BorrowLft.{◌⊑◌, ⊑_trans}
use contract.Monad.{Fun, fact}
use contract.Running.{tables, tables_of}
use sound.WpLaws.{fm_of, WpFn-mono}
use types.Kit.{‵, raw, ◌⊛◌, some, later, given, at_ret, by, pick, learn, ◌$◌, ◌∵◌, !, qed, move, keep, use0, use1, use2, split, join, fsplit, fjoin, suffices, await, done}
use types.Part.{agg}
use types.Run.{stop, fld, addr, lit, no_more, and_then, returns, returns_within, enter, first, branches, skips, exec}
use types.ByLocal.{alloc_all, pass_all, free_all, look_at, get, through, sets, lands_as, env}
use denote.Builtin.{usize, RefOf}
use denote.Exit.{yes}
use denote.Opens.{unhide}
use denote.Param.{bounded, param}
use denote.Plain.{uint_vals, uint_Tells}
use denote.RattleType.{owns}
use denote.RawPtr.{block_ptr}
use denote.Ref.{shr_vals}
use denote.Signature.{Slot, plain, types_at}
use denote.Steps.{heard, nothing}
use denote.Triple.Call.{calls_at}
use denote.Triple.Clauses.{Ended, Clauses}
use denote.Triple.Spec.{triple_of}
use denote.Triple.Statement.{Triple}
use denote.Triple.Table.{entered, cited}
use denote.Triple.Walked.{Stays, stay_dropped, walk_of, ends_at, walked, Goes-dropped, walk_Meets}
use Rattle.std.proofs.alloc.Calls.{Al, α, seen, Answer, answer_val, Answer-typed, Answer-Ok, Answer-err, takes_key, Takes, at_takes, Answered, Takes-goes, Takes-gives, answers}
use Rattle.std.proofs.VecSteps.Shapes.{after}
use Rattle.refusing.proofs.AskPlan.{Plan, Asks, at_asks, Asks-goes, Asks-gives}
use Rattle.refusing.proofs.plan.Plan.refuses_next.Symbol as asks_symbol
use Rattle.refusing.proofs.plan.Plan.refuses_next.Met as asks_met
use Rattle.refusing.specs.contracts.allocator.Refusing as wrapper
use Rattle.refusing.specs.contracts.allocator.RefusingAllocator.allocate as promise
use Rattle.refusing.specs.contracts.allocator.RefusingAllocator.allocate.Key as key
use Rattle.refusing.proofs.allocator.RefusingAllocator.allocate.Statement as stated
use Rattle.refusing.proofs.allocator.RefusingAllocator.allocate.Code as code

-- the function at one inner allocator `Z`, and its signature
module _ (Z : Al) where
  abbrev args : Args
  args = bounded (a_type ∷ []) (Z.row, tt) (dcons Z.d (dcons Z.drops dnil))

  abbrev here : Fn
  here = inst_fn args code.function

  abbrev self : Slot 2
  self = RefOf (0 ∷ []) tt (plain (λ _. wrapper.the_row (param 0 Z.row))) (λ _. tt)

  abbrev ended : Ended
  ended = promise.ended Z.row Z.g Z.d Z.drops

  abbrev stayed : Stays ended.signature.params ended.kept
  stayed = (stay_dropped self yes, (stay_dropped (plain (λ _. usize)) yes, (stay_dropped (plain (λ _. usize)) yes, tt)))

module _ (Z : Al) {M : Type 1} {𝓤 : Ura M} (𝓛 : Logic 𝓤) (at_mem : Memory → SProp 𝓤) (run : Routine → Fun 𝓤) (𝓣 : Tables 𝓤 𝓛.H) (takes : Triple 𝓤 (𝓣.C (takes_key Z)) (Takes Z 𝓛 at_mem run)) (asks : Triple 𝓤 (𝓣.C asks_symbol.name) (Asks 𝓛 at_mem run)) where
  open 𝓛 use {H}

  abbrev held : Clauses 𝓤 (ended Z)
  held = promise.clauses Z.row Z.g Z.d Z.drops 𝓛 at_mem run

  -- a call on the reference `heap`, borrowed for `κ`, for `count` bytes at `alignment`, a block for a `τ`;
  -- `life` is the lifetime of `Self`
  module _ (κ life : Lft) (q q' : Share) (inside : κ ⊑ life) (heap : Bor (wrapper.the_row Z.row).Denot) (count alignment : ℕ) (τ : Ty) where
    abbrev bound : (walk_of 𝓛 (ended Z) (stayed Z) held).Ghost
    bound = (((κ, (life, tt)), (q, (q', tt)), (inside, tt), (heap, (count, (alignment, tt))), (shr_vals heap, (vint w64 count ∷ [], (vint w64 alignment ∷ [], tt)))), τ)

    -- the arguments as the machine has them
    abbrev passed : List Val
    passed = vptr heap.ref_ptr.0 heap.ref_ptr.1 ∷ vint w64 count ∷ vint w64 alignment ∷ []

    abbrev Post : Val → SProp 𝓤
    Post = (walk_of 𝓛 (ended Z) (stayed Z) held).post bound

    -- an `Err` hands over no block, so the two lifetimes are all that it needs
    refused : ent 𝓤 (sep 𝓤 (𝓛.A.lft κ q) (sep 𝓤 (𝓛.A.lft life q') (emp 𝓤))) (Post (answer_val false 0 0))
    refused =
        qed 𝓛 (‵ (flft κ q) ∷ (‵ (flft life q') ⊛ ‵ ftrue) ∷ []) ∵ nothing ! $
        suffices ! _ (ends_at 𝓛 (ended Z) (stayed Z) held bound (answer_val false 0 0) (Err (record {})) (tt, (tt, (tt, tt))) (tt, (tt, (tt, tt)))) $
        use0 𝓛 (‵ (Answer.own_val (Err (record {})) (answer_val false 0 0 ∷ []))) (Answer-err 𝓛) $ nothing ! $ nothing ! $ fjoin ! $ nothing ! $ fjoin ! $ nothing ! $ fjoin ! $ join ! $
        move ! (2 ∷ 3 ∷ []) $ join ! $ join ! $ done !

    walk : count < 2 ^ 64 → alignment < 2 ^ 64 → ent 𝓤 ((walk_of 𝓛 (ended Z) (stayed Z) held).pre bound) (WpFn 𝓤 H 𝓣.C 𝓣.Λ (here Z) passed Post)
    walk count_fits alignment_fits =
        let inner : Z.row.Denot = heap.now.inner in
        let plan : Plan.Denot = heap.now.plan in
        let inner_at : ℕ × ℕ = (heap.ref_ptr.0, heap.ref_ptr.1 + up (align (α Z)) 0) in
        -- the plan lies after the inner allocator, at a multiple of 8 bytes
        let plan_at : ℕ × ℕ = (heap.ref_ptr.0, heap.ref_ptr.1 + up 8 (up (align (α Z)) 0 + size (α Z))) in
        let call : (Takes Z 𝓛 at_mem run).Ghost = at_takes Z 𝓛 at_mem run κ q inner_at inner count alignment τ in
        -- the sizes are those of the type that the block is for
        let HasSizes : Type 0 = (capped (size τ) ≡ count) × (capped (align τ) ≡ alignment) in
        qed 𝓛 (((‵ (flft κ q) ⊛ ‵ (flft life q') ⊛ ‵ ftrue) ⊛ ‵ (owns (types_at (ended Z).signature.params bound.0.0) bound.0.3 bound.0.4)) ∷ (raw (fact 𝓤 (life ⊑ Z.row.lives)) ⊛ raw (fact 𝓤 HasSizes)) ∷ []) ∵
        move ! (1 ∷ []) $ split ! $ heard ! (life ⊑ Z.row.lives) (λ lives. heard ! HasSizes (λ sizes.
        -- open the reference down to the inner allocator and the plan
        split ! $ split ! $ move ! (2 ∷ []) $ fsplit ! $ fsplit ! $ move ! (1 ∷ []) $ unhide ! $ fsplit ! $ fsplit ! $ use1 𝓛 (‵ (seen Z κ inner_at inner)) (id⊢ 𝓤 _) $ move ! (1 ∷ []) $ fsplit ! $ keep ! (0 ∷ 6 ∷ 2 ∷ 7 ∷ []) $
        enter ! 𝓣.C 𝓣.Λ (here Z) passed _ $ alloc_all ! (λ l. pass_all ! refl ((tt, tt), ((tt, record { fits = count_fits }), ((tt, record { fits = alignment_fits }), tt))) $
        let locals : Env 𝓤 H = env (here Z).locals l in
        -- ask the plan
        sets ! (addr ! (through ! refl (fld ! refl (stop !)))) refl (tt, tt) $
        use2 𝓛 (raw ((Asks 𝓛 at_mem run).pre (at_asks 𝓛 at_mem run plan κ q plan_at))) (Asks-goes 𝓛 at_mem run plan κ q plan_at) $
        calls_at ! (fm_of 𝓤 H 𝓛.laws 𝓣) (Asks 𝓛 at_mem run) asks (at_asks 𝓛 at_mem run plan κ q plan_at) (and_then ! (get ! refl) (no_more !)) (λ said.
        use1 𝓛 (later (some (λ (is_refused : Bool). given (said ≡ vbool is_refused) (‵ (flft κ q))))) (Asks-gives 𝓛 at_mem run plan κ q plan_at said) $ await ! tt $ pick ! (λ is_refused. learn ! (λ same. lands_as ! same refl (tt, tt) $
        first ! $ branches ! (get ! refl)
        -- it refuses: return an `Err`
        (λ t₁. sets ! (agg ! (no_more !)) refl (tt, tt) $ sets ! (agg ! (and_then ! (lit ! tt) (and_then ! (get ! refl) (no_more !)))) refl (Answer-typed false 0 0) $
        returns_within ! Post refl (look_at ! 0 refl) $ free_all ! refl $ keep ! (0 ∷ 2 ∷ []) $ join ! $ by ! refused)
        -- it does not: ask the inner allocator
        (λ t₁. skips ! $ exec ! 𝓣.C 𝓣.Λ locals (after 3 (here Z).body) (at_ret locals Post) $ move ! (1 ∷ []) $
        sets ! (addr ! (through ! refl (fld ! refl (stop !)))) refl (tt, tt) $
        use2 𝓛 (raw ((Takes Z 𝓛 at_mem run).pre call)) (Takes-goes Z 𝓛 at_mem run κ q inner_at inner (⊑_trans κ life Z.row.lives inside lives) count alignment τ sizes.0 sizes.1 count_fits alignment_fits) $
        calls_at ! (fm_of 𝓤 H 𝓛.laws 𝓣) (Takes Z 𝓛 at_mem run) takes call (and_then ! (get ! refl) (and_then ! (get ! refl) (and_then ! (get ! refl) (no_more !)))) (λ answer.
        use1 𝓛 (later (raw (Answered Z 𝓛 at_mem run inner τ answer) ⊛ ‵ (flft κ q))) (Takes-gives Z 𝓛 at_mem run κ q inner_at inner count alignment τ answer) $ await ! tt $ split ! $
        answers Z ! at_mem run inner τ answer
        -- it has a block: hand that on, with the right to free it
        (λ at offset is_block. fjoin ! $ lands_as ! is_block refl (Answer-typed true at offset) $ returns ! (look_at ! 0 refl) $ free_all ! refl $
        suffices ! _ (ends_at 𝓛 (ended Z) (stayed Z) held bound (answer_val true at offset) (Ok (block_ptr at offset)) (tt, (tt, (tt, tt))) (tt, (tt, (tt, tt)))) $
        use0 𝓛 (‵ (Answer.own_val (Ok (block_ptr at offset)) (answer_val true at offset ∷ []))) (Answer-Ok 𝓛 at offset) $ nothing ! $ nothing ! $ fjoin ! $ nothing ! $ fjoin ! $ nothing ! $ fjoin ! $ join ! $
        move ! (2 ∷ 3 ∷ []) $ join ! $ join ! $ done !)
        -- it has none: hand on its `Err`
        (λ is_err. lands_as ! is_err refl (Answer-typed false 0 0) $ returns ! (look_at ! 0 refl) $ free_all ! refl $ keep ! (0 ∷ 1 ∷ []) $ join ! $ by ! refused)))))))))

pub allocate_spec : {M : Type 1} → stated.statement M
unfolding tables_of
allocate_spec 𝓤 𝓛 𝓜 𝓡 wired Y L g d d' met _ =
    let Z : Al = record { row = Y; laws = L; g = g; d = d; drops = d' } in
    let 𝓣 : Tables 𝓤 𝓛.H = tables_of 𝓤 𝓛.H 𝓜 (tables 𝓤 𝓛.H 𝓜 𝓡 𝓡.env) in
    let clauses = promise.clauses Y g d d' 𝓛 𝓜.mem 𝓡.returns in
    entered 𝓤 𝓛.H (triple_of 𝓛 (promise.signature Y) (promise.spec Y g d d' 𝓛 𝓜.mem 𝓡.returns)) 𝓣.C 𝓣.Λ (key.name (args Z)) (here Z) (code.unfolded 𝓤 𝓛.H 𝓜 𝓡 wired (Y, tt) d d')
    (walk_Meets 𝓛 (ended Z) (stayed Z) (Goes-dropped 𝓛 2 (self Z) yes (λ κs x f. refl), (Goes-dropped 𝓛 2 (plain (λ _. usize)) yes (λ κs x f. refl), (Goes-dropped 𝓛 2 (plain (λ _. usize)) yes (λ κs x f. refl), tt))) clauses (WpFn 𝓤 𝓛.H 𝓣.C 𝓣.Λ (here Z)) (WpFn-mono 𝓤 𝓛.H 𝓛.laws 𝓣 (here Z))
    (walked 𝓛 (ended Z) (stayed Z) clauses (WpFn 𝓤 𝓛.H 𝓣.C 𝓣.Λ (here Z)) (λ κs. (shr_vals, (uint_vals w64, (uint_vals w64, tt)))) (λ κs. ((λ r vs s. s.0), (uint_Tells w64, (uint_Tells w64, tt))))
    (λ κs qs bounds a τ are. walk Z 𝓛 𝓜.mem 𝓡.returns 𝓣 (met.allocate d') (cited 𝓤 𝓛.H _ 𝓜 𝓡 𝓡.env asks_symbol.name (𝓡.env asks_symbol.name) refl (asks_met.met 𝓤 𝓛 𝓜 𝓡 (code.calls-refusing::plan::Plan::refuses_next 𝓡.env wired))) κs.0 κs.1.0 qs.0 qs.1.0 bounds.0 a.0 a.1.0 a.1.1.0 τ are.1.0.1 are.1.1.0.1)))
