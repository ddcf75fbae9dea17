-- The handle of a table as two machine values: a pointer, and an allocator, which takes no bytes.
use Rattle.std.proofs.Common.{◌≡◌, ℕ, List, [], ◌∷◌, ◌++◌, refl, subst}
use seplogic.Ra.Ura.{Ura}
use mir.Syntax.{ty_ptr}
use mir.Raw.{raw as bare}
use mir.Val.{Val, vstruct, of_list, has_ty}
use base.Logic.{SProp, ent, guard, guard_i, never, via, fst∗, snd∗}
use base.Fraction.{full_share}
use contract.Monad.{fact_use}
use types.Logic.{Logic, sem}
use types.Kit.{use1, given, learn, Item, Goal, Seq, Step, step, ‵, ◌$◌, move, drop, fsplit, fjoin, fpick, fpack, feq_i, feq_l}
use denote.RattleType.{RattleType, Valss}
use denote.Builtin.{RawPtr}
use denote.Memory.{lone}
use denote.RawPtr.{Ptr, block_ptr, null_ptr, ptr_val, in_a_block, lies_at, Testable}
use denote.Steps.{nothing}
use denote.Param.{layout}
use denote.Struct.Struct.{within}
use denote.Struct.Owning.{shape}
use Rattle.core.proofs.alloc.Calls.{handle_tells}
use Rattle.core.proofs.atomic.Steps.{Ptr-Good}
use Rattle.core.proofs.cell.Inside.{Good}
use Rattle.std.specs.contracts.alloc.Global as heap
use Rattle.std.proofs.alloc.Global.TheLaws as heap_laws
use Rattle.std.specs.contracts.impls.GlobalAllocator.TheImpl.{ghosts}
use Rattle.std.specs.Global.{Global}
use Rattle.std.specs.Prelude.{Option, None, Some}
use Rattle.std.proofs.GlobalToken.{dealloc_token-Testable}
use Rattle.tables.specs.Tables.{TableForm}
use Rattle.c_tables.specs.TableHandle.{holds_table, table_row}
use Rattle.c_tables.specs.contracts.table_handle.TableHandle as handle
use Rattle.c_tables.proofs.ParkedBoxes.{HeapRow, allocator, both_true, pair_value}

-- the type of the handle of a table, whose pointer has no type
abbrev pub TableRow : RattleType
TableRow = handle.the_row

-- an empty handle: null, and its allocator
pub no_table_fits : (h : Val) → Good (layout HeapRow) h → Good (layout TableRow) (pair_value (ptr_val null_ptr) h)
no_table_fits h fits = (both_true (has_ty ty_ptr (ptr_val null_ptr)) (has_ty (layout HeapRow) h) (Ptr-Good null_ptr).0 fits.0, ((Ptr-Good null_ptr).1, (fits.1, tt)))

module _ {M : Type 1} {𝓤 : Ura M} {𝓛 : Logic 𝓤} {K : Type 0} {Γ : List (Item 𝓤)} {G : Goal 𝓤 𝓛.H} where
  -- the handle of a table is opened: what it holds, and its allocator
  pub open_table : K → (d : TableRow.Denot) (vs : List Val)
      → ((h : Val) → vs ≡ pair_value (ptr_val d.at) h ∷ [] → Good (layout HeapRow) h → Seq K 𝓛 (‵ (holds_table d.alloc d.at d.table) ∷ ‵ (HeapRow.own_val d.alloc (h ∷ [])) ∷ Γ) G)
      → Seq K 𝓛 (‵ (TableRow.own_val d vs) ∷ Γ) G
  open_table t d vs next =
      fsplit t $ fpick t (λ parts. fsplit t $ feq_l t (λ whole. fsplit t $ feq_l t (λ pointer. fsplit t $
      handle_tells (allocator table_row HeapRow heap_laws.the_row_laws ghosts) t d.alloc parts.1.0 (λ h alloc fits. move t (1 ∷ []) $ drop t $ move t (1 ∷ []) $
      let with_pointer : vs ≡ vstruct (of_list (ptr_val d.at ∷ (parts.1.0 ++ []))) ∷ [] = subst (λ (ps : List Val). vs ≡ vstruct (of_list (ps ++ (parts.1.0 ++ []))) ∷ []) pointer whole in
      next h (subst (λ (ws : List Val). vs ≡ vstruct (of_list (ptr_val d.at ∷ (ws ++ []))) ∷ []) alloc with_pointer) fits))))

  -- and closed
  pub close_table : K → (p : Ptr) (h : Val) (a : Global) (c : Option TableForm)
      → Step K 𝓛 (‵ (TableRow.own_val (record { at = p; alloc = a; table = c }) (pair_value (ptr_val p) h ∷ [])) ∷ Γ) G (‵ (holds_table a p c) ∷ ‵ (HeapRow.own_val a (h ∷ [])) ∷ Γ) G
  close_table t p h a c = step (λ rest. let v : Val = pair_value (ptr_val p) h in
      nothing t $ move t (2 ∷ 0 ∷ []) $ fjoin t $ feq_i t (List Val) (ptr_val p ∷ []) (ptr_val p ∷ []) refl $ fjoin t $ feq_i t (List Val) (v ∷ []) (v ∷ []) refl $ fjoin t $
      fpack t (Valss (RawPtr ∷ HeapRow ∷ [])) (within (shape handle.the_type) (p, ((heap.the_field).into a, tt)) (v ∷ [])) (ptr_val p ∷ [], (h ∷ [], tt)) $ fjoin t $ rest)

module _ {M : Type 1} {𝓤 : Ura M} (𝓛 : Logic 𝓤) where
  -- the pointer of a table may be tested for null
  testable : (a : Global) (p : Ptr) (x : TableForm) → ent 𝓤 (sem 𝓛 (holds_table a p (Some x))) (guard 𝓤 (Testable p) (sem 𝓛 (holds_table a p (Some x))))
  testable a p x =
      let held : SProp 𝓤 = sem 𝓛 (holds_table a p (Some x)) in
      let token = dealloc_token-Testable 𝓛 a (bare (lone table_row.mir)) p in
      fact_use 𝓤 (Testable p) (via 𝓤 _ (snd∗ 𝓤 (sem 𝓛 (lies_at table_row full_share p x)) (sem 𝓛 (ghosts.dealloc_token a (bare (lone table_row.mir)) p))) token) (guard_i 𝓤 (Testable p) held)

  module _ {K : Type 0} {Γ : List (Item 𝓤)} {G : Goal 𝓤 𝓛.H} where
    -- a handle holds nothing, and its pointer is null; or it holds a table in a block
    pub no_table_or_held : K → (a : Global) (p : Ptr) (c : Option TableForm) → (c ≡ None → p ≡ null_ptr → Seq K 𝓛 Γ G)
        → ((b o : ℕ) (x : TableForm) → c ≡ Some x → p ≡ block_ptr b o → Testable (block_ptr b o) → Seq K 𝓛 (‵ (holds_table a (block_ptr b o) (Some x)) ∷ Γ) G) → Seq K 𝓛 (‵ (holds_table a p c) ∷ Γ) G
    no_table_or_held t a p None empty held = feq_l t (λ null. empty refl null)
    no_table_or_held t a p (Some x) empty held =
        in_a_block t p (λ at. holds_table a at (Some x)) (fst∗ 𝓤 (never 𝓤) (sem 𝓛 (ghosts.dealloc_token a (bare (lone table_row.mir)) null_ptr))) (λ b o is.
        use1 𝓛 (given (Testable (block_ptr b o)) (‵ (holds_table a (block_ptr b o) (Some x)))) (testable a (block_ptr b o) x) $ learn t (λ may. held b o x refl is may))
