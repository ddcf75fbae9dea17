-- A handle and a parked box as the two machine values that each is: a pointer, and an allocator, which takes no bytes.
use Rattle.std.proofs.Common.{◌≡◌, ℕ, List, [], ◌∷◌, ◌++◌, refl, sym, subst}
use mathlib.Core.Bool.{Bool, true, false, ◌&&◌}
use lib.Dec.{T}
use seplogic.Ra.Ura.{Ura}
use mir.Syntax.{impl, tnil, dnil, ty_ptr}
use mir.Raw.{raw as bare}
use mir.Val.{Val, vptr, vstruct, vcons, vnil, of_list, has_ty, WT}
use base.Logic.{SProp, ent, guard, guard_i, id⊢, never, via, fst∗, snd∗}
use base.Fraction.{full_share}
use contract.Monad.{fact_use}
use types.Logic.{Logic, sem}
use types.Kit.{use1, given, learn, Item, Goal, Seq, Step, step, ‵, ◌$◌, move, drop, fsplit, fjoin, fpick, fpack, feq_i, feq_l}
use denote.RattleType.{RattleType, Valss}
use denote.Builtin.{RawPtr}
use denote.Memory.{lone}
use denote.RawPtr.{Ptr, block_ptr, null_ptr, ptr_val, in_a_block, lies_at, Testable}
use denote.Steps.{nothing}
use denote.Param.{layout}
use denote.Param.Laws.{Laws}
use denote.Struct.Struct.{within}
use denote.Struct.Owning.{shape}
use Rattle.core.specs.declared.alloc.Allocator.{Ghosts}
use Rattle.core.proofs.alloc.Calls.{Al, handle_tells}
use Rattle.core.proofs.atomic.Steps.{Ptr-Good}
use Rattle.core.proofs.cell.Inside.{Good}
use Rattle.std_alloc.specs.Box.Ownership.{box_owns}
use Rattle.std_alloc.proofs.ResultValues.{and_tt}
use Rattle.c_columns.specs.contracts.raw_box.RawBox as parked
use Rattle.std.specs.contracts.alloc.Global as heap
use Rattle.std.proofs.alloc.Global.TheLaws as heap_laws
use Rattle.std.specs.contracts.impls.GlobalAllocator.TheImpl.{ghosts}
use Rattle.typed_columns.specs.declared.typed_column.TypedColumn.{TypedColumn}
use Rattle.std.specs.Global.{Global}
use Rattle.std.specs.Prelude.{Option, None, Some}
use Rattle.std.proofs.GlobalToken.{dealloc_token-Testable}
use Rattle.c_columns.specs.Handle.{column_row, holds}
use Rattle.c_columns.specs.contracts.handle.Handle as handle

-- a struct of two values
abbrev pub pair_value : Val → Val → Val
pair_value v w = vstruct (vcons v (vcons w vnil))

-- a function whose one argument is one value is entered with it
pub as_one : {M : Type 1} (𝓤 : Ura M) (Run : List Val → SProp 𝓤) (w : Val) {us : List Val} → us ≡ w ∷ [] → ent 𝓤 (Run (w ∷ [])) (Run (us ++ []))
as_one 𝓤 Run w is = subst (λ (us : List Val). ent 𝓤 (Run (w ∷ [])) (Run us)) (sym (λ i. is i ++ [])) (id⊢ 𝓤 (Run (w ∷ [])))

pub both_true : (x y : Bool) → T x → T y → T (x && (y && true))
both_true true true s t = tt
both_true true false s t = absurd t
both_true false y s t = absurd s

module _ (R Z : RattleType) (L : Laws Z) (g : Ghosts Z.Denot) where
  -- the type of a parked box
  abbrev pub RawBox : RattleType
  RawBox = parked.the_row R Z g

  abbrev pub allocator : Al
  allocator = record { row = Z; laws = L; g = g; d = impl [] tnil dnil; drops = impl [] tnil dnil }

  -- its pointer into a block and its allocator fit their types
  pub parked_fits : (b o : ℕ) (h : Val) → Good (layout Z) h → T (has_ty (layout Z) h && true) × WT (pair_value (vptr b o) h)
  parked_fits b o h fits = (and_tt (has_ty (layout Z) h) fits.0, (tt, (fits.1, tt)))

  module _ {M : Type 1} {𝓤 : Ura M} {𝓛 : Logic 𝓤} {K : Type 0} {Γ : List (Item 𝓤)} {G : Goal 𝓤 𝓛.H} where
    -- a parked box is opened: the block that it owns, and its allocator
    pub open_parked : K → (p : RawBox.Denot) (vs : List Val)
        → ((b o : ℕ) (h : Val) → p.at ≡ block_ptr b o → vs ≡ pair_value (vptr b o) h ∷ [] → Good (layout Z) h → Seq K 𝓛 (‵ (box_owns (g.dealloc_token p.alloc) R (block_ptr b o) p.value) ∷ ‵ (Z.own_val p.alloc (h ∷ [])) ∷ Γ) G)
        → Seq K 𝓛 (‵ (RawBox.own_val p vs) ∷ Γ) G
    open_parked t p vs next =
        fsplit t $ fpick t (λ parts. fsplit t $ feq_l t (λ whole. fsplit t $ feq_l t (λ pointer. fsplit t $
        handle_tells allocator t p.alloc parts.1.0 (λ h alloc fits. move t (1 ∷ []) $ drop t $ move t (1 ∷ []) $
        in_a_block t p.at (λ at. box_owns (g.dealloc_token p.alloc) R at p.value) (fst∗ 𝓤 (never 𝓤) (sem 𝓛 (g.dealloc_token p.alloc (bare (lone R.mir)) null_ptr))) (λ b o is.
        let with_pointer : vs ≡ vstruct (of_list (ptr_val p.at ∷ (parts.1.0 ++ []))) ∷ [] = subst (λ (ps : List Val). vs ≡ vstruct (of_list (ps ++ (parts.1.0 ++ []))) ∷ []) pointer whole in
        let with_both : vs ≡ vstruct (of_list (ptr_val p.at ∷ h ∷ [])) ∷ [] = subst (λ (ws : List Val). vs ≡ vstruct (of_list (ptr_val p.at ∷ (ws ++ []))) ∷ []) alloc with_pointer in
        next b o h is (subst (λ (at : Ptr). vs ≡ vstruct (of_list (ptr_val at ∷ h ∷ [])) ∷ []) is with_both) fits)))))

    -- and closed
    pub close_parked : K → (b o : ℕ) (h : Val) (a : Z.Denot) (x : R.Denot)
        → Step K 𝓛 (‵ (RawBox.own_val (record { at = block_ptr b o; alloc = a; value = x }) (pair_value (vptr b o) h ∷ [])) ∷ Γ) G (‵ (box_owns (g.dealloc_token a) R (block_ptr b o) x) ∷ ‵ (Z.own_val a (h ∷ [])) ∷ Γ) G
    close_parked t b o h a x = step (λ rest. let v : Val = pair_value (vptr b o) h in
        nothing t $ move t (2 ∷ 0 ∷ []) $ fjoin t $ feq_i t (List Val) (vptr b o ∷ []) (vptr b o ∷ []) refl $ fjoin t $ feq_i t (List Val) (v ∷ []) (v ∷ []) refl $ fjoin t $
        fpack t (Valss (RawPtr ∷ Z ∷ [])) (within (shape (parked.the_type R Z g)) (block_ptr b o, (a, tt)) (v ∷ [])) (vptr b o ∷ [], (h ∷ [], tt)) $ fjoin t $ rest)

-- the type of a handle, whose pointer has no type
abbrev pub HandleRow : RattleType
HandleRow = handle.the_row

-- the type of its allocator
abbrev pub HeapRow : RattleType
HeapRow = heap.the_row

-- an empty handle: null, and its allocator
pub empty_fits : (h : Val) → Good (layout HeapRow) h → Good (layout HandleRow) (pair_value (ptr_val null_ptr) h)
empty_fits h fits = (both_true (has_ty ty_ptr (ptr_val null_ptr)) (has_ty (layout HeapRow) h) (Ptr-Good null_ptr).0 fits.0, ((Ptr-Good null_ptr).1, (fits.1, tt)))

module _ {M : Type 1} {𝓤 : Ura M} {𝓛 : Logic 𝓤} {K : Type 0} {Γ : List (Item 𝓤)} {G : Goal 𝓤 𝓛.H} where
  -- a handle is opened: what it holds, and its allocator
  pub open_handle : K → (d : HandleRow.Denot) (vs : List Val)
      → ((h : Val) → vs ≡ pair_value (ptr_val d.at) h ∷ [] → Good (layout HeapRow) h → Seq K 𝓛 (‵ (holds d.alloc d.at d.column) ∷ ‵ (HeapRow.own_val d.alloc (h ∷ [])) ∷ Γ) G)
      → Seq K 𝓛 (‵ (HandleRow.own_val d vs) ∷ Γ) G
  open_handle t d vs next =
      fsplit t $ fpick t (λ parts. fsplit t $ feq_l t (λ whole. fsplit t $ feq_l t (λ pointer. fsplit t $
      handle_tells (allocator column_row HeapRow heap_laws.the_row_laws ghosts) t d.alloc parts.1.0 (λ h alloc fits. move t (1 ∷ []) $ drop t $ move t (1 ∷ []) $
      let with_pointer : vs ≡ vstruct (of_list (ptr_val d.at ∷ (parts.1.0 ++ []))) ∷ [] = subst (λ (ps : List Val). vs ≡ vstruct (of_list (ps ++ (parts.1.0 ++ []))) ∷ []) pointer whole in
      next h (subst (λ (ws : List Val). vs ≡ vstruct (of_list (ptr_val d.at ∷ (ws ++ []))) ∷ []) alloc with_pointer) fits))))

  -- and closed
  pub close_handle : K → (p : Ptr) (h : Val) (a : Global) (c : Option (TypedColumn Global))
      → Step K 𝓛 (‵ (HandleRow.own_val (record { at = p; alloc = a; column = c }) (pair_value (ptr_val p) h ∷ [])) ∷ Γ) G (‵ (holds a p c) ∷ ‵ (HeapRow.own_val a (h ∷ [])) ∷ Γ) G
  close_handle t p h a c = step (λ rest. let v : Val = pair_value (ptr_val p) h in
      nothing t $ move t (2 ∷ 0 ∷ []) $ fjoin t $ feq_i t (List Val) (ptr_val p ∷ []) (ptr_val p ∷ []) refl $ fjoin t $ feq_i t (List Val) (v ∷ []) (v ∷ []) refl $ fjoin t $
      fpack t (Valss (RawPtr ∷ HeapRow ∷ [])) (within (shape handle.the_type) (p, ((heap.the_field).into a, tt)) (v ∷ [])) (ptr_val p ∷ [], (h ∷ [], tt)) $ fjoin t $ rest)

module _ {M : Type 1} {𝓤 : Ura M} (𝓛 : Logic 𝓤) where
  -- the pointer of a column may be tested for null
  testable : (a : Global) (p : Ptr) (x : TypedColumn Global) → ent 𝓤 (sem 𝓛 (holds a p (Some x))) (guard 𝓤 (Testable p) (sem 𝓛 (holds a p (Some x))))
  testable a p x =
      let held : SProp 𝓤 = sem 𝓛 (holds a p (Some x)) in
      let token = dealloc_token-Testable 𝓛 a (bare (lone column_row.mir)) p in
      fact_use 𝓤 (Testable p) (via 𝓤 _ (snd∗ 𝓤 (sem 𝓛 (lies_at column_row full_share p x)) (sem 𝓛 (ghosts.dealloc_token a (bare (lone column_row.mir)) p))) token) (guard_i 𝓤 (Testable p) held)

  module _ {K : Type 0} {Γ : List (Item 𝓤)} {G : Goal 𝓤 𝓛.H} where
    -- a handle holds nothing, and its pointer is null; or it holds a column in a block
    pub empty_or_held : K → (a : Global) (p : Ptr) (c : Option (TypedColumn Global)) → (c ≡ None → p ≡ null_ptr → Seq K 𝓛 Γ G)
        → ((b o : ℕ) (x : TypedColumn Global) → c ≡ Some x → p ≡ block_ptr b o → Testable (block_ptr b o) → Seq K 𝓛 (‵ (holds a (block_ptr b o) (Some x)) ∷ Γ) G) → Seq K 𝓛 (‵ (holds a p c) ∷ Γ) G
    empty_or_held t a p None empty held = feq_l t (λ null. empty refl null)
    empty_or_held t a p (Some x) empty held =
        in_a_block t p (λ at. holds a at (Some x)) (fst∗ 𝓤 (never 𝓤) (sem 𝓛 (ghosts.dealloc_token a (bare (lone column_row.mir)) null_ptr))) (λ b o is.
        use1 𝓛 (given (Testable (block_ptr b o)) (‵ (holds a (block_ptr b o) (Some x)))) (testable a (block_ptr b o) x) $ learn t (λ may. held b o x refl is may))
