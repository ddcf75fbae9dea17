-- A parked box as the two machine values that it is: a pointer, and an allocator, which takes no bytes.
use Rattle.std.proofs.Common.{◌≡◌, ℕ, List, [], ◌∷◌, ◌++◌, refl, sym, subst}
use mathlib.Core.Bool.{Bool, true, false, ◌&&◌}
use lib.Dec.{T}
use seplogic.Ra.Ura.{Ura}
use mir.Syntax.{impl, tnil, dnil}
use mir.Raw.{raw as bare}
use mir.Val.{Val, vptr, vstruct, vcons, vnil, of_list, has_ty, WT}
use base.Logic.{SProp, ent, id⊢, never, fst∗}
use types.Logic.{Logic, sem}
use types.Kit.{Item, Goal, Seq, Step, step, ‵, ◌$◌, move, drop, fsplit, fjoin, fpick, fpack, feq_i, feq_l}
use denote.RattleType.{RattleType, Valss}
use denote.Builtin.{RawPtr}
use denote.Memory.{lone}
use denote.RawPtr.{Ptr, block_ptr, null_ptr, ptr_val, in_a_block}
use denote.Steps.{nothing}
use denote.Param.{layout}
use denote.Param.Laws.{Laws}
use denote.Struct.Struct.{within}
use denote.Struct.Owning.{shape}
use Rattle.core.specs.declared.alloc.Allocator.{Ghosts}
use Rattle.core.proofs.alloc.Calls.{Al, handle_tells}
use Rattle.core.proofs.cell.Inside.{Good}
use Rattle.std_alloc.specs.Box.Ownership.{box_owns}
use Rattle.std_alloc.proofs.ResultValues.{and_tt}
use Rattle.c_tables.specs.contracts.raw_box.RawBox as parked
use Rattle.std.specs.contracts.alloc.Global as heap

-- a struct of two values
abbrev pub pair_value : Val → Val → Val
pair_value v w = vstruct (vcons v (vcons w vnil))

-- a function whose one argument is one value is entered with it
pub as_one : {M : Type 1} (𝓤 : Ura M) (Run : List Val → SProp 𝓤) (w : Val) {us : List Val} → us ≡ w ∷ [] → ent 𝓤 (Run (w ∷ [])) (Run (us ++ []))
as_one 𝓤 Run w is = subst (λ (us : List Val). ent 𝓤 (Run (w ∷ [])) (Run us)) (sym (λ i. is i ++ [])) (id⊢ 𝓤 (Run (w ∷ [])))

pub both_true : (x y : Bool) → T x → T y → T (x && (y && true))
both_true true true s t = tt
both_true true false s t = absurd t
both_true false y s t = absurd s

module _ (R Z : RattleType) (L : Laws Z) (g : Ghosts Z.Denot) where
  -- the type of a parked box
  abbrev pub RawBox : RattleType
  RawBox = parked.the_row R Z g

  abbrev pub allocator : Al
  allocator = record { row = Z; laws = L; g = g; d = impl [] tnil dnil; drops = impl [] tnil dnil }

  -- its pointer into a block and its allocator fit their types
  pub parked_fits : (b o : ℕ) (h : Val) → Good (layout Z) h → T (has_ty (layout Z) h && true) × WT (pair_value (vptr b o) h)
  parked_fits b o h fits = (and_tt (has_ty (layout Z) h) fits.0, (tt, (fits.1, tt)))

  module _ {M : Type 1} {𝓤 : Ura M} {𝓛 : Logic 𝓤} {K : Type 0} {Γ : List (Item 𝓤)} {G : Goal 𝓤 𝓛.H} where
    -- a parked box is opened: the block that it owns, and its allocator
    pub open_parked : K → (p : RawBox.Denot) (vs : List Val)
        → ((b o : ℕ) (h : Val) → p.at ≡ block_ptr b o → vs ≡ pair_value (vptr b o) h ∷ [] → Good (layout Z) h → Seq K 𝓛 (‵ (box_owns (g.dealloc_token p.alloc) R (block_ptr b o) p.value) ∷ ‵ (Z.own_val p.alloc (h ∷ [])) ∷ Γ) G)
        → Seq K 𝓛 (‵ (RawBox.own_val p vs) ∷ Γ) G
    open_parked t p vs next =
        fsplit t $ fpick t (λ parts. fsplit t $ feq_l t (λ whole. fsplit t $ feq_l t (λ pointer. fsplit t $
        handle_tells allocator t p.alloc parts.1.0 (λ h alloc fits. move t (1 ∷ []) $ drop t $ move t (1 ∷ []) $
        in_a_block t p.at (λ at. box_owns (g.dealloc_token p.alloc) R at p.value) (fst∗ 𝓤 (never 𝓤) (sem 𝓛 (g.dealloc_token p.alloc (bare (lone R.mir)) null_ptr))) (λ b o is.
        let with_pointer : vs ≡ vstruct (of_list (ptr_val p.at ∷ (parts.1.0 ++ []))) ∷ [] = subst (λ (ps : List Val). vs ≡ vstruct (of_list (ps ++ (parts.1.0 ++ []))) ∷ []) pointer whole in
        let with_both : vs ≡ vstruct (of_list (ptr_val p.at ∷ h ∷ [])) ∷ [] = subst (λ (ws : List Val). vs ≡ vstruct (of_list (ptr_val p.at ∷ (ws ++ []))) ∷ []) alloc with_pointer in
        next b o h is (subst (λ (at : Ptr). vs ≡ vstruct (of_list (ptr_val at ∷ h ∷ [])) ∷ []) is with_both) fits)))))

    -- and closed
    pub close_parked : K → (b o : ℕ) (h : Val) (a : Z.Denot) (x : R.Denot)
        → Step K 𝓛 (‵ (RawBox.own_val (record { at = block_ptr b o; alloc = a; value = x }) (pair_value (vptr b o) h ∷ [])) ∷ Γ) G (‵ (box_owns (g.dealloc_token a) R (block_ptr b o) x) ∷ ‵ (Z.own_val a (h ∷ [])) ∷ Γ) G
    close_parked t b o h a x = step (λ rest. let v : Val = pair_value (vptr b o) h in
        nothing t $ move t (2 ∷ 0 ∷ []) $ fjoin t $ feq_i t (List Val) (vptr b o ∷ []) (vptr b o ∷ []) refl $ fjoin t $ feq_i t (List Val) (v ∷ []) (v ∷ []) refl $ fjoin t $
        fpack t (Valss (RawPtr ∷ Z ∷ [])) (within (shape (parked.the_type R Z g)) (block_ptr b o, (a, tt)) (v ∷ [])) (vptr b o ∷ [], (h ∷ [], tt)) $ fjoin t $ rest)

-- the type of the allocator of a handle
abbrev pub HeapRow : RattleType
HeapRow = heap.the_row
