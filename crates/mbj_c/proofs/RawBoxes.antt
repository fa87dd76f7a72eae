-- The machine values of a `RawBox`: the pointer, and the allocator's handle.
use Rattle.std.proofs.Common.{◌≡◌, ℕ, List, [], ◌∷◌, ◌++◌, refl, subst}
use mathlib.Core.Bool.{true, ◌&&◌}
use lib.Dec.{T}
use seplogic.Ra.Ura.{Ura}
use mir.Raw.{raw as bare}
use mir.Syntax.{impl, tnil, dnil}
use mir.Val.{Val, vptr, vstruct, vcons, vnil, of_list, has_ty, WT}
use base.Logic.{never, fst∗}
use types.Logic.{Logic, sem}
use types.Kit.{Item, Goal, Seq, Step, step, ‵, ◌$◌, move, drop, fsplit, fjoin, fpick, fpack, feq_i, feq_l}
use denote.Builtin.{RawPtr}
use denote.Memory.{lone}
use denote.Param.{layout}
use denote.Param.Laws.{Laws}
use denote.RattleType.{RattleType, Valss}
use denote.RawPtr.{Ptr, block_ptr, null_ptr, ptr_val, in_a_block}
use denote.Steps.{nothing}
use denote.Struct.Owning.{shape}
use denote.Struct.Struct.{within}
use Rattle.core.specs.declared.alloc.Allocator.{Ghosts}
use Rattle.core.proofs.alloc.Calls.{Al, handle_tells}
use Rattle.core.proofs.cell.Inside.{Good}
use Rattle.std.specs.Box.Ownership.{box_owns}
use Rattle.std_alloc.proofs.ResultValues.{and_tt}
use Rattle.mbj_c.specs.contracts.raw_box.RawBox as raw_box

-- a struct of two fields
abbrev pub pair_of : Val → Val → Val
pair_of v w = vstruct (vcons v (vcons w vnil))

-- R is the row of the value, Z that of the allocator
module _ (R Z : RattleType) (laws : Laws Z) (ghosts : Ghosts Z.Denot) where
  abbrev pub Row : RattleType
  Row = raw_box.the_row R Z ghosts

  abbrev allocator : Al
  allocator = record { row = Z; laws = laws; g = ghosts; d = impl [] tnil dnil; drops = impl [] tnil dnil }

  pub is_typed : (b o : ℕ) (handle : Val) → Good (layout Z) handle
      → T (has_ty (layout Z) handle && true) × WT (pair_of (vptr b o) handle)
  is_typed b o handle good = (and_tt (has_ty (layout Z) handle) good.0, (tt, (good.1, tt)))

  module _ {M : Type 1} {𝓤 : Ura M} {𝓛 : Logic 𝓤} {K : Type 0} {Γ : List (Item 𝓤)} {G : Goal 𝓤 𝓛.H} where
    -- what is owned of a raw box: the box, and a handle
    pub taken_apart : K → (d : Row.Denot) (vs : List Val)
        → ((b o : ℕ) (handle : Val) → d.at ≡ block_ptr b o → vs ≡ pair_of (vptr b o) handle ∷ [] → Good (layout Z) handle
        → Seq K 𝓛 (‵ (box_owns (ghosts.dealloc_token d.alloc) R (block_ptr b o) d.value) ∷ ‵ (Z.own_val d.alloc (handle ∷ [])) ∷ Γ) G)
        → Seq K 𝓛 (‵ (Row.own_val d vs) ∷ Γ) G
    taken_apart t d vs then =
        fsplit t $ fpick t (λ parts. fsplit t $ feq_l t (λ whole. fsplit t $ feq_l t (λ pointer. fsplit t $
        handle_tells allocator t d.alloc parts.1.0 (λ handle is good. move t (1 ∷ []) $ drop t $ move t (1 ∷ []) $
        in_a_block t d.at (λ p. box_owns (ghosts.dealloc_token d.alloc) R p d.value)
        (fst∗ 𝓤 (never 𝓤) (sem 𝓛 (ghosts.dealloc_token d.alloc (bare (lone R.mir)) null_ptr))) (λ b o e.
        let by_pointer : vs ≡ vstruct (of_list (ptr_val d.at ∷ (parts.1.0 ++ []))) ∷ [] =
        subst (λ (ps : List Val). vs ≡ vstruct (of_list (ps ++ (parts.1.0 ++ []))) ∷ []) pointer whole in
        let by_handle : vs ≡ vstruct (of_list (ptr_val d.at ∷ handle ∷ [])) ∷ [] =
        subst (λ (hs : List Val). vs ≡ vstruct (of_list (ptr_val d.at ∷ (hs ++ []))) ∷ []) is by_pointer in
        then b o handle e (subst (λ (p : Ptr). vs ≡ vstruct (of_list (ptr_val p ∷ handle ∷ [])) ∷ []) e by_handle) good)))))

    pub put_together : K → (b o : ℕ) (handle : Val) (alloc : Z.Denot) (value : R.Denot)
        → Step K 𝓛 (‵ (Row.own_val (record { at = block_ptr b o; alloc = alloc; value = value }) (pair_of (vptr b o) handle ∷ [])) ∷ Γ) G
        (‵ (box_owns (ghosts.dealloc_token alloc) R (block_ptr b o) value) ∷ ‵ (Z.own_val alloc (handle ∷ [])) ∷ Γ) G
    put_together t b o handle alloc value = step (λ rest.
        let v : Val = pair_of (vptr b o) handle in
        nothing t $ move t (2 ∷ 0 ∷ []) $ fjoin t $ feq_i t (List Val) (vptr b o ∷ []) (vptr b o ∷ []) refl $
        fjoin t $ feq_i t (List Val) (v ∷ []) (v ∷ []) refl $ fjoin t $
        fpack t (Valss (RawPtr ∷ Z ∷ [])) (within (shape (raw_box.the_type R Z ghosts)) (block_ptr b o, (alloc, tt)) (v ∷ []))
        (vptr b o ∷ [], (handle ∷ [], tt)) $ fjoin t $ rest)
