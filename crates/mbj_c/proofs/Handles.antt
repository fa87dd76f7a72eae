-- A handle's pointer, which is null or that of a box.
use Rattle.std.proofs.Common.{◌≡◌, ℕ, List, [], ◌∷◌, refl}
use seplogic.Ra.Ura.{Ura}
use mir.Raw.{raw as bare}
use mir.Syntax.{impl, tnil, dnil}
use base.Logic.{ent, guard, never, fst∗, snd∗, via, guard_i}
use types.Logic.{Logic, sem}
use types.Kit.{Item, Goal, Seq, ‵, given, ◌$◌, drop, fpick, learn, use1}
use contract.Monad.{fact_use}
use denote.Memory.{lone}
use denote.Param.Laws.{Laws}
use denote.RattleType.{RattleType}
use denote.RawPtr.{Ptr, block_ptr, null_ptr, in_a_block, Testable, lies_at}
use Rattle.core.proofs.alloc.Calls.{Al}
use Rattle.std.specs.Prelude.{Option, None, Some}
use Rattle.std_heap.specs.contracts.Global as heap
use Rattle.std_heap.proofs.Global.TheLaws as heap_laws
use Rattle.std_heap.proofs.GlobalToken.{dealloc_token-Testable}
use Rattle.std_heap.specs.contracts.GlobalAllocator.TheImpl.{ghosts}
use Rattle.mbj_c.specs.Inside.Held.{boxed_at, owned_at}

-- the allocator
abbrev pub Z : RattleType
Z = heap.the_row

abbrev pub Z_laws : Laws Z
Z_laws = heap_laws.the_row_laws

abbrev pub allocator : Al
allocator = record { row = Z; laws = Z_laws; g = ghosts; d = impl [] tnil dnil; drops = impl [] tnil dnil }

-- R is the row of what stands at the pointer
module _ (R : RattleType) where
  module _ {M : Type 1} {𝓤 : Ura M} (𝓛 : Logic 𝓤) where
    -- the pointer of a box may be compared with null
    pub tested : (alloc : Z.Denot) (p : Ptr) (m : R.Denot)
        → ent 𝓤 (sem 𝓛 (boxed_at R alloc p m)) (guard 𝓤 (Testable p) (sem 𝓛 (boxed_at R alloc p m)))
    tested alloc p m =
        fact_use 𝓤 (Testable p)
        (via 𝓤 _ (snd∗ 𝓤 (sem 𝓛 (lies_at R base.Fraction.full_share p m)) (sem 𝓛 (ghosts.dealloc_token alloc (bare (lone R.mir)) p)))
        (dealloc_token-Testable 𝓛 alloc (bare (lone R.mir)) p))
        (guard_i 𝓤 (Testable p) (sem 𝓛 (boxed_at R alloc p m)))

  module _ {M : Type 1} {𝓤 : Ura M} {𝓛 : Logic 𝓤} {K : Type 0} {Γ : List (Item 𝓤)} {G : Goal 𝓤 𝓛.H} where
    -- what the pointer tells: it is null and there is no value, or it is that of the value's box
    pub returned : K → (alloc : Z.Denot) (p : Ptr) (m : Option R.Denot)
        → (p ≡ null_ptr → m ≡ None → Seq K 𝓛 Γ G)
        → ((b o : ℕ) (x : R.Denot) → p ≡ block_ptr b o → m ≡ Some x → Testable (block_ptr b o)
        → Seq K 𝓛 (‵ (boxed_at R alloc (block_ptr b o) x) ∷ Γ) G)
        → Seq K 𝓛 (‵ (owned_at R alloc p m) ∷ Γ) G
    returned t alloc p None empty full = fpick t (λ e. drop t $ empty e refl)
    returned t alloc p (Some x) empty full =
        in_a_block t p (λ q. boxed_at R alloc q x) (fst∗ 𝓤 (never 𝓤) (sem 𝓛 (ghosts.dealloc_token alloc (bare (lone R.mir)) null_ptr)))
        (λ b o e.
        use1 𝓛 (given (Testable (block_ptr b o)) (‵ (boxed_at R alloc (block_ptr b o) x))) (tested 𝓛 alloc (block_ptr b o) x) $
        learn t (λ may. full b o x e refl may))
