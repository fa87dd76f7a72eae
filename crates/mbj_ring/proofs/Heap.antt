-- The calls of the heap in a walk. Assumes `Logic`.
--     takes_goes, takes_gives, answers      what `allocate` is handed, what it gives back, and the two cases of its answer
--     gives_goes, gives_back      what `deallocate` is handed, and what it gives back
use mathlib.Core.Path.{◌≡◌, refl, ap, ◌∙◌}
use mathlib.Core.Bool.{true, false}
use Prim.Native.Nat.{ℕ, ◌<◌, ◌^◌}
use mathlib.Core.List.{List, [], ◌∷◌, ◌++◌}
use seplogic.Ra.Ura.{Ura}
use mir.Syntax.{Ty, w64}
use mir.Val.{Val, vptr, vint, vunit, of_list}
use base.Logic.{SProp, ent, sep, emp, ex, never, id⊢, fst∗, guard}
use base.Fml.{Lft, Share, ftrue, fsep, froom, flft}
use prog.Memory.{Memory, size, align, capped}
use prog.Routine.{Routine}
use types.Logic.{Logic, sem}
use types.Match.{live}
use types.Kit.{Item, Goal, Seq, ‵, raw, some, later, ◌⊛◌, ◌$◌, ◌∵◌, !, qed, move, keep, drop, use0, use1, pick, split, join, check, show, await, updating, now as at_once, fsplit, fjoin, fpick, feq_i, feq_l, flt_i, done}
use contract.Monad.{Fun, fact, fact_i}
use denote.Memory.{hidden_shr}
use denote.Builtin.{unit}
use denote.RawPtr.{Ptr, block_ptr, null_ptr, ptr_val, room_for, in_a_block}
use denote.Ref.{Bor}
use denote.Steps.{nothing, only}
use denote.Triple.Spec.{triple_of}
use denote.Triple.Statement.{Contract}
use Rattle.std.specs.Prelude.{Ok, Err}
use Rattle.std.specs.Allocator.{HasLayout, block_if_ok}
use Rattle.std.specs.contracts.alloc.Global as global
use Rattle.std.specs.contracts.impls.GlobalAllocator.allocate as takes
use Rattle.std.specs.contracts.impls.GlobalAllocator.deallocate as gives
use Rattle.std.proofs.alloc.Calls.{Answer, answer_val}
use Rattle.mbj_ring.specs.Inside.Ownership.{may_free}

module _ {M : Type 1} {𝓤 : Ura M} (𝓛 : Logic 𝓤) (at_mem : Memory → SProp 𝓤) (run : Routine → Fun 𝓤) where
  open 𝓛 use {H, A}

  abbrev pub Takes : Contract 𝓤
  Takes = triple_of 𝓛 takes.signature (takes.spec 𝓛 at_mem run)

  abbrev pub Gives : Contract 𝓤
  Gives = triple_of 𝓛 gives.signature (gives.spec 𝓛 at_mem run)

  module _ (κ : Lft) (q : Share) (heap : Bor (global.the_row).Denot) where
    abbrev bh : ℕ
    bh = heap.ref_ptr.0

    abbrev oh : ℕ
    oh = heap.ref_ptr.1

    abbrev pub asked : ℕ → ℕ → Ty → Takes.Ghost
    asked n al τ = (((κ, tt), (q, tt), tt, (heap, (n, (al, tt))), (vptr bh oh ∷ [], (vint w64 n ∷ [], (vint w64 al ∷ [], tt)))), τ)

    abbrev pub handed : ℕ → ℕ → ℕ → ℕ → Ty → Gives.Ghost
    handed b o n al τ = (((κ, tt), (q, tt), tt, (heap, (block_ptr b o, (n, (al, tt)))), (vptr bh oh ∷ [], (vptr b o ∷ [], (vint w64 n ∷ [], (vint w64 al ∷ [], tt))))), τ)

    pub takes_goes : (n al : ℕ) (τ : Ty) → capped (size τ) ≡ n → capped (align τ) ≡ al → n < 2 ^ 64 → al < 2 ^ 64
        → ent 𝓤 (sep 𝓤 (sem 𝓛 (hidden_shr global.the_row κ heap.now bh oh)) (A.lft κ q)) (Takes.pre (asked n al τ))
    takes_goes n al τ is_size is_align fits_n fits_al =
        qed 𝓛 (‵ (hidden_shr global.the_row κ heap.now bh oh) ∷ ‵ (flft κ q) ∷ []) ∵
        use0 𝓛 (raw (fact 𝓤 (HasLayout τ n al))) (fact_i 𝓤 (HasLayout τ n al) (emp 𝓤) (is_size, is_align)) $
        nothing ! $ flt_i ! al (2 ^ 64) fits_al $ feq_i ! (List Val) (vint w64 al ∷ []) (vint w64 al ∷ []) refl $ fjoin ! $ fjoin ! $
        flt_i ! n (2 ^ 64) fits_n $ feq_i ! (List Val) (vint w64 n ∷ []) (vint w64 n ∷ []) refl $ fjoin ! $ fjoin ! $ move ! (2 ∷ []) $
        feq_i ! (List Val) (vptr bh oh ∷ []) (vptr bh oh ∷ []) refl $ fjoin ! $ fjoin ! $
        nothing ! $ move ! (3 ∷ 0 ∷ []) $ join ! $ join ! $ join ! $ done !

    pub takes_gives : (n al : ℕ) (τ : Ty) (v : Val)
        → ent 𝓤 (Takes.post (asked n al τ) v) (H.⇛ (ex 𝓤 (λ (r : Answer.Denot). sep 𝓤 (sem 𝓛 (Answer.own_val r (v ∷ []))) (sep 𝓤 (sem 𝓛 (block_if_ok may_free τ r)) (A.lft κ q)))))
    takes_gives n al τ v = qed 𝓛 (raw (Takes.post (asked n al τ) v) ∷ []) ∵ updating ! $
        use1 𝓛 (later (some (λ (r : Answer.Denot). ((‵ (flft κ q) ⊛ ‵ ftrue) ⊛ ‵ (Answer.own_val r (v ∷ [])))
        ⊛ some (λ (ws : Unit {0} × (Unit {0} × (Unit {0} × Unit {0}))). ‵ (fsep ftrue (fsep ftrue (fsep ftrue ftrue))) ⊛ ‵ (block_if_ok may_free τ r))))) (id⊢ 𝓤 _) $
        await ! tt $ pick ! (λ r. split ! $ move ! (1 ∷ []) $ pick ! (λ ws. split ! $ drop ! $ move ! (1 ∷ []) $ split ! $ split ! $
        move ! (2 ∷ 3 ∷ 0 ∷ []) $ keep ! (0 ∷ 1 ∷ 2 ∷ []) $ at_once ! $ show ! (λ (r' : Answer.Denot). sep 𝓤 (sem 𝓛 (Answer.own_val r' (v ∷ []))) (sep 𝓤 (sem 𝓛 (block_if_ok may_free τ r')) (A.lft κ q))) r $ done !))

    pub gives_goes : (b o n al : ℕ) (τ : Ty) → capped (size τ) ≡ n → capped (align τ) ≡ al → n < 2 ^ 64 → al < 2 ^ 64
        → ent 𝓤 (sep 𝓤 (H.room τ b o) (sep 𝓤 (sem 𝓛 (may_free τ (block_ptr b o))) (sep 𝓤 (sem 𝓛 (hidden_shr global.the_row κ heap.now bh oh)) (A.lft κ q)))) (Gives.pre (handed b o n al τ))
    gives_goes b o n al τ is_size is_align fits_n fits_al =
        qed 𝓛 (‵ (froom τ b o) ∷ ‵ (may_free τ (block_ptr b o)) ∷ ‵ (hidden_shr global.the_row κ heap.now bh oh) ∷ ‵ (flft κ q) ∷ []) ∵ fjoin ! $
        use0 𝓛 (raw (fact 𝓤 (HasLayout τ n al))) (fact_i 𝓤 (HasLayout τ n al) (emp 𝓤) (is_size, is_align)) $ join ! $
        nothing ! $ flt_i ! al (2 ^ 64) fits_al $ feq_i ! (List Val) (vint w64 al ∷ []) (vint w64 al ∷ []) refl $ fjoin ! $ fjoin ! $
        flt_i ! n (2 ^ 64) fits_n $ feq_i ! (List Val) (vint w64 n ∷ []) (vint w64 n ∷ []) refl $ fjoin ! $ fjoin ! $
        feq_i ! (List Val) (vptr b o ∷ []) (vptr b o ∷ []) refl $ fjoin ! $ move ! (2 ∷ []) $
        feq_i ! (List Val) (vptr bh oh ∷ []) (vptr bh oh ∷ []) refl $ fjoin ! $ fjoin ! $
        nothing ! $ move ! (3 ∷ 0 ∷ []) $ join ! $ join ! $ join ! $ done !

    pub gives_back : (b o n al : ℕ) (τ : Ty) (v : Val) → ent 𝓤 (Gives.post (handed b o n al τ) v) (H.⇛ (guard 𝓤 (v ≡ vunit) (A.lft κ q)))
    gives_back b o n al τ v = qed 𝓛 (raw (Gives.post (handed b o n al τ) v) ∷ []) ∵ updating ! $
        use1 𝓛 (later (some (λ (r : Unit {0}). ((‵ (flft κ q) ⊛ ‵ ftrue) ⊛ ‵ (unit.own_val r (v ∷ [])))
        ⊛ some (λ (ws : Unit {0} × (Unit {0} × (Unit {0} × (Unit {0} × Unit {0})))). ‵ (fsep ftrue (fsep ftrue (fsep ftrue (fsep ftrue ftrue)))) ⊛ ‵ ftrue)))) (id⊢ 𝓤 _) $
        await ! tt $ pick ! (λ r. split ! $ split ! $ move ! (1 ∷ []) $ feq_l ! (λ is_unit. split ! $ at_once ! $ check ! (ap only is_unit) $ keep ! (0 ∷ []) $ done !))

module _ {M : Type 1} {𝓤 : Ura M} {𝓛 : Logic 𝓤} {K : Type 0} {Γ : List (Item 𝓤)} {G : Goal 𝓤 𝓛.H} where
  pub answers : K → (τ : Ty) (v : Val) (r : Answer.Denot)
      → ((b o : ℕ) → r ≡ Ok (block_ptr b o) → v ≡ answer_val true b o → Seq K 𝓛 (‵ (froom τ b o) ∷ ‵ (may_free τ (block_ptr b o)) ∷ Γ) G)
      → (v ≡ answer_val false 0 0 → Seq K 𝓛 Γ G) → Seq K 𝓛 (‵ (Answer.own_val r (v ∷ [])) ∷ ‵ (block_if_ok may_free τ r) ∷ Γ) G
  answers t τ v (Ok p) block none = fpick t (λ us. fsplit t $ feq_l t (λ e₀. fpick t (λ vss. fsplit t $ feq_l t (λ e₁. fsplit t $ feq_l t (λ e₂. drop t $
      in_a_block t p (λ z. fsep (room_for τ z) (may_free τ z)) (fst∗ 𝓤 (never 𝓤) (sem 𝓛 (may_free τ null_ptr))) (λ b o at. fsplit t $
      block b o (ap Ok at) (ap only e₀ ∙ ap (λ (ws : List Val). live 0 (of_list ws)) (e₁ ∙ ap (λ (ws : List Val). ws ++ []) (e₂ ∙ ap (λ (z : Ptr). ptr_val z ∷ []) at)))))))))
  answers t τ v (Err n) block none = fpick t (λ us. fsplit t $ feq_l t (λ e₀. fpick t (λ vss. fsplit t $ feq_l t (λ e₁. fsplit t $ fpick t (λ ws. fsplit t $ feq_l t (λ e₂. drop t $ drop t $ drop t $
      none (ap only e₀ ∙ ap (λ (us : List Val). live 1 (of_list us)) (e₁ ∙ ap (λ (us : List Val). us ++ []) e₂))))))))
