-- The machine values of a handle of a seat: the pointer, and the allocator's handle.
use Rattle.std.proofs.Common.{◌≡◌, List, [], ◌∷◌, ◌++◌, refl, subst}
use seplogic.Ra.Ura.{Ura}
use mir.Val.{Val, vstruct, of_list}
use types.Logic.{Logic}
use types.Kit.{Item, Goal, Seq, Step, step, ‵, ◌$◌, move, drop, fsplit, fjoin, fpick, fpack, feq_i, feq_l}
use denote.Builtin.{RawPtr}
use denote.Param.{layout}
use denote.RattleType.{RattleType, Valss}
use denote.RawPtr.{Ptr, ptr_val}
use denote.Steps.{nothing}
use denote.Struct.Owning.{shape}
use denote.Struct.Struct.{within}
use Rattle.core.proofs.alloc.Calls.{handle_tells}
use Rattle.core.proofs.cell.Inside.{Good}
use Rattle.std.specs.Prelude.{Option}
use Rattle.mbj_c.specs.contracts.seated.Seated as content
use Rattle.mbj_c.specs.contracts.seat_handle.SeatHandle as handle
use Rattle.mbj_c.specs.Inside.Held.{owned_at}
use Rattle.mbj_c.proofs.Handles.{Z, allocator}
use Rattle.mbj_c.proofs.RawBoxes.{pair_of}

abbrev pub Row : RattleType
Row = handle.the_row

-- what stands behind it
abbrev pub R : RattleType
R = content.the_row

module _ {M : Type 1} {𝓤 : Ura M} {𝓛 : Logic 𝓤} {K : Type 0} {Γ : List (Item 𝓤)} {G : Goal 𝓤 𝓛.H} where
  -- what is owned of a handle
  pub taken_apart : K → (d : Row.Denot) (vs : List Val)
      → ((word : Val) → vs ≡ pair_of (ptr_val d.at) word ∷ [] → Good (layout Z) word
      → Seq K 𝓛 (‵ (owned_at R d.alloc d.at d.seat) ∷ ‵ (Z.own_val d.alloc (word ∷ [])) ∷ Γ) G)
      → Seq K 𝓛 (‵ (Row.own_val d vs) ∷ Γ) G
  taken_apart t d vs then =
      fsplit t $ fpick t (λ parts. fsplit t $ feq_l t (λ whole. fsplit t $ feq_l t (λ pointer. fsplit t $
      handle_tells allocator t d.alloc parts.1.0 (λ word is good. move t (1 ∷ []) $ drop t $ move t (1 ∷ []) $
      let by_pointer : vs ≡ vstruct (of_list (ptr_val d.at ∷ (parts.1.0 ++ []))) ∷ [] =
      subst (λ (ps : List Val). vs ≡ vstruct (of_list (ps ++ (parts.1.0 ++ []))) ∷ []) pointer whole in
      then word (subst (λ (hs : List Val). vs ≡ vstruct (of_list (ptr_val d.at ∷ (hs ++ []))) ∷ []) is by_pointer) good))))

  pub put_together : K → (p : Ptr) (word : Val) (alloc : Z.Denot) (m : Option R.Denot)
      → Step K 𝓛 (‵ (Row.own_val (record { at = p; alloc = alloc; seat = m }) (pair_of (ptr_val p) word ∷ [])) ∷ Γ) G
      (‵ (owned_at R alloc p m) ∷ ‵ (Z.own_val alloc (word ∷ [])) ∷ Γ) G
  put_together t p word alloc m = step (λ rest.
      let v : Val = pair_of (ptr_val p) word in
      nothing t $ move t (2 ∷ 0 ∷ []) $ fjoin t $ feq_i t (List Val) (ptr_val p ∷ []) (ptr_val p ∷ []) refl $
      fjoin t $ feq_i t (List Val) (v ∷ []) (v ∷ []) refl $ fjoin t $
      fpack t (Valss (RawPtr ∷ Z ∷ [])) (within (shape handle.the_type) (p, (((tt, tt), tt), tt)) (v ∷ []))
      (ptr_val p ∷ [], (word ∷ [], tt)) $ fjoin t $ rest)
