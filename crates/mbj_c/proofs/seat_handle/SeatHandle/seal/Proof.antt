-- `seal` moves the pointer and the allocator's handle over.
use Rattle.std.proofs.Common.{◌≡◌, List, [], ◌∷◌, ◌++◌, refl, sym, subst}
use mir.Val.{Val, vptr}
use base.Fml.{ftrue}
use base.Logic.{SProp, ent, emp, id⊢}
use prog.Wp.{WpFn}
use types.ByLocal.{alloc_all, pass_all, free_all, look_at, get, get_in, sets}
use types.Kit.{‵, raw, ◌⊛◌, ◌$◌, ◌∵◌, !, qed, by, move, keep, split, fsplit, fjoin, suffices, use0}
use types.Part.{agg, sub, whole}
use types.Run.{stop, fld, of_opd, no_more, and_then, returns, enter}
use contract.Monad.{fact, fact_i}
use contract.Running.{tables}
use denote.RattleType.{RattleType, owns}
use denote.RawPtr.{block_ptr}
use denote.Signature.{types_at, plain}
use denote.Steps.{nothing}
use denote.Triple.Walked.{Stays, stay_dropped, walk_of, Goes-dropped}
use Rattle.std.proofs.raw_atomic.Walks.{proved_at, leaves}
use Rattle.std.specs.Prelude.{Some}
use Rattle.std_heap.specs.contracts.GlobalAllocator.TheImpl.{ghosts}
use Rattle.mbj_c.proofs.RawBoxes as boxes
use Rattle.mbj_c.proofs.Handles.{Z, Z_laws}
use Rattle.mbj_c.proofs.SeatHandles.{R, put_together}
use Rattle.mbj_c.specs.contracts.seat_handle.SeatHandle.seal.{ended, clauses}
use Rattle.mbj_c.specs.contracts.seat_handle.SeatHandle.seal.Key.{name as key}
use Rattle.mbj_c.proofs.seat_handle.SeatHandle.seal.Statement.{statement}
use Rattle.mbj_c.proofs.seat_handle.SeatHandle.seal.Code as code

pub seal_spec : {M : Type 1} → statement M
seal_spec 𝓤 𝓛 𝓜 𝓡 wired =
    let H = 𝓛.H in let 𝓣 = tables 𝓤 H 𝓜 𝓡 𝓡.env in let c = clauses 𝓛 𝓜.mem 𝓡.returns in
    let From : RattleType = boxes.Row R Z Z_laws ghosts in
    let kept : Stays ended.signature.params ended.kept = (stay_dropped (plain (λ _. From)) ended.kept.0, tt) in
    proved_at 𝓛 ended kept c 𝓜 𝓡 (Goes-dropped 𝓛 0 (plain (λ _. From)) ended.kept.0 (λ κs x f. refl), tt)
    key code.function (code.unfolded 𝓤 H 𝓜 𝓡 wired) (λ z are.
    let from = z.0.3.0 in let a = from.alloc in let x = from.value in
    let Post : Val → SProp 𝓤 = (walk_of 𝓛 ended kept c).post z in
    let Runs : List Val → SProp 𝓤 = λ ws. WpFn 𝓤 H 𝓣.C 𝓣.Λ code.function ws Post in
    qed 𝓛 ((‵ ftrue ⊛ ‵ (owns (types_at ended.signature.params z.0.0) z.0.3 z.0.4)) ∷ raw ((c z.0.0 z.0.3).requires z.1) ∷ []) ∵
    split ! $ move ! (1 ∷ []) $ fsplit ! $ boxes.taken_apart R Z Z_laws ghosts ! from z.0.4.0 (λ b o word e is good.
    let w : Val = boxes.pair_of (vptr b o) word in let typed = boxes.is_typed R Z Z_laws ghosts b o word good in
    suffices ! (Runs (w ∷ [])) (subst (λ (us : List Val). ent 𝓤 (Runs (w ∷ [])) (Runs us)) (sym (λ i. is i ++ [])) (id⊢ 𝓤 (Runs (w ∷ [])))) $
    enter ! 𝓣.C 𝓣.Λ code.function (w ∷ []) Post $ alloc_all ! (λ l. pass_all ! refl (typed, tt) $
    sets ! (of_opd ! (get_in ! (fld ! refl (stop !)) (sub ! 0 refl (whole !)))) refl (tt, tt) $
    sets ! (of_opd ! (get_in ! (fld ! refl (stop !)) (sub ! 1 refl (whole !)))) refl good $
    sets ! (of_opd ! (get ! refl)) refl (tt, tt) $
    sets ! (agg ! (and_then ! (get ! refl) (and_then ! (get ! refl) (no_more !)))) refl typed $
    put_together ! (block_ptr b o) word a (Some x) $
    use0 𝓛 (raw (fact 𝓤 (Some x ≡ Some x))) (fact_i 𝓤 (Some x ≡ Some x) (emp 𝓤) refl) $ nothing ! $ nothing ! $ fjoin ! $
    returns ! (look_at ! 0 refl) $ free_all ! refl $ keep ! (4 ∷ 0 ∷ 2 ∷ 1 ∷ []) $
    by ! (leaves 𝓛 ended kept c z w (record { at = block_ptr b o; alloc = a; seat = Some x }) (tt, tt) (tt, tt)))))
