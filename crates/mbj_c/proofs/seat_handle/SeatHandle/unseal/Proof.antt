-- `unseal` compares the pointer with null, and moves it over if it isn't.
use Rattle.std.proofs.Common.{◌≡◌, List, [], ◌∷◌, ◌++◌, refl, sym, subst, lit<}
use mir.Val.{Val, vptr, vcons, vnil, has_ty}
use base.Fml.{ftrue}
use base.Logic.{SProp, ent, emp, id⊢}
use prog.Wp.{WpFn}
use types.ByLocal.{alloc_all, pass_all, free_all, look_at, get, get_in, sets, sets_last, env}
use types.Kit.{‵, raw, ◌⊛◌, at_ret, ◌$◌, ◌∵◌, !, qed, by, move, keep, split, fsplit, fjoin, suffices, use0, use1}
use types.Match.{live}
use types.Part.{agg, sub, whole}
use types.Run.{stop, fld, lit, of_opd, bin, no_more, and_then, first, branches, exec, returns, enter}
use contract.Monad.{fact, fact_i}
use contract.Running.{tables}
use denote.Exit.{yes}
use denote.Param.{layout}
use denote.RattleType.{RattleType, owns}
use denote.RawPtr.{block_ptr, null_ptr, ptr_val, Ptr, tests_null}
use denote.Signature.{types_at, type_at, plain}
use denote.Steps.{nothing}
use denote.Triple.Walked.{Stays, stay_dropped, walk_of, Goes-dropped}
use Rattle.core.proofs.alloc.Shapes.{after}
use Rattle.core.proofs.cell.Inside.{Good}
use Rattle.core.proofs.option.Made.{Some-of, none_of}
use Rattle.std.proofs.raw_atomic.Walks.{proved_at, leaves}
use Rattle.std.specs.Prelude.{None, Some}
use Rattle.std_alloc.proofs.ResultValues.{and_tt}
use Rattle.std_heap.specs.contracts.GlobalAllocator.TheImpl.{ghosts}
use Rattle.mbj_c.proofs.RawBoxes as boxes
use Rattle.mbj_c.proofs.Handles.{Z, Z_laws, returned}
use Rattle.mbj_c.proofs.SeatHandles.{Row, R, taken_apart}
use Rattle.mbj_c.specs.contracts.seat_handle.SeatHandle.unseal.{ended, clauses}
use Rattle.mbj_c.specs.contracts.seat_handle.SeatHandle.unseal.Key.{name as key}
use Rattle.mbj_c.proofs.seat_handle.SeatHandle.unseal.Statement.{statement}
use Rattle.mbj_c.proofs.seat_handle.SeatHandle.unseal.Code as code

pub unseal_spec : {M : Type 1} → statement M
unseal_spec 𝓤 𝓛 𝓜 𝓡 wired =
    let H = 𝓛.H in let 𝓣 = tables 𝓤 H 𝓜 𝓡 𝓡.env in let c = clauses 𝓛 𝓜.mem 𝓡.returns in let fn = code.function in
    let To : RattleType = boxes.Row R Z Z_laws ghosts in
    let kept : Stays ended.signature.params ended.kept = (stay_dropped (plain (λ _. Row)) yes, tt) in
    proved_at 𝓛 ended kept c 𝓜 𝓡 (Goes-dropped 𝓛 0 (plain (λ _. Row)) yes (λ κs x f. refl), tt)
    key fn (code.unfolded 𝓤 H 𝓜 𝓡 wired) (λ z are.
    let from = z.0.3.0 in let a = from.alloc in let Out : RattleType = type_at ended.signature.result z.0.0 in
    let Post : Val → SProp 𝓤 = (walk_of 𝓛 ended kept c).post z in
    let Runs : List Val → SProp 𝓤 = λ ws. WpFn 𝓤 H 𝓣.C 𝓣.Λ fn ws Post in
    qed 𝓛 ((‵ ftrue ⊛ ‵ (owns (types_at ended.signature.params z.0.0) z.0.3 z.0.4)) ∷ raw ((c z.0.0 z.0.3).requires z.1) ∷ []) ∵
    split ! $ move ! (1 ∷ []) $ fsplit ! $ taken_apart ! from z.0.4.0 (λ word is good.
    returned R ! a from.at from.seat
    (λ at_null none.
    -- [the allocator's handle; ..]
    let w : Val = boxes.pair_of (ptr_val null_ptr) word in let answer : Val = live 0 vnil in
    let is_null : z.0.4.0 ≡ w ∷ [] = subst (λ (p : Ptr). z.0.4.0 ≡ boxes.pair_of (ptr_val p) word ∷ []) at_null is in
    suffices ! (Runs (w ∷ [])) (subst (λ (us : List Val). ent 𝓤 (Runs (w ∷ [])) (Runs us)) (sym (λ i. is_null i ++ [])) (id⊢ 𝓤 (Runs (w ∷ [])))) $
    enter ! 𝓣.C 𝓣.Λ fn (w ∷ []) Post $ alloc_all ! (λ l.
    pass_all ! refl ((and_tt (has_ty (layout Z) word) good.0, (record { fits = lit< tt }, (good.1, tt))), tt) $
    let locals = env fn.locals l in
    sets ! (of_opd ! (get_in ! (fld ! refl (stop !)) (sub ! 0 refl (whole !)))) refl (tt, record { fits = lit< tt }) $
    sets ! (of_opd ! (get_in ! (fld ! refl (stop !)) (sub ! 1 refl (whole !)))) refl good $
    sets ! (bin ! (get ! refl) (lit ! tt) tt) refl (tt, tt) $ first ! $ branches ! (get ! refl)
    (λ _. sets_last ! (agg ! (and_then ! (lit ! tt) (no_more !))) refl (tt, (record { fits = lit< tt }, tt)) $
    exec ! 𝓣.C 𝓣.Λ locals (after 4 fn.body) (at_ret locals Post) $
    sets ! (of_opd ! (get ! refl)) refl (tt, (record { fits = lit< tt }, tt)) $
    use0 𝓛 (‵ (Out.own_val None (answer ∷ []))) (none_of 𝓛 To) $
    use0 𝓛 (raw (fact 𝓤 (None ≡ from.seat))) (fact_i 𝓤 (None ≡ from.seat) (emp 𝓤) (sym none)) $ nothing ! $ nothing ! $ fjoin ! $
    returns ! (look_at ! 0 refl) $ free_all ! refl $ keep ! (5 ∷ 0 ∷ 2 ∷ 1 ∷ []) $
    by ! (leaves 𝓛 ended kept c z answer None (tt, tt) (tt, tt)))
    (λ wrong. absurd wrong)))
    (λ b o x at_block some may.
    -- [the box; the allocator's handle; ..]
    let w : Val = boxes.pair_of (vptr b o) word in let typed = boxes.is_typed R Z Z_laws ghosts b o word good in
    let is_block : z.0.4.0 ≡ w ∷ [] = subst (λ (p : Ptr). z.0.4.0 ≡ boxes.pair_of (ptr_val p) word ∷ []) at_block is in
    let answer : Val = live 1 (vcons w vnil) in let made : To.Denot = record { at = block_ptr b o; alloc = a; value = x } in
    let fits : Good (layout Out) answer = (and_tt _ typed.0, (record { fits = lit< tt }, (typed.1, tt))) in
    suffices ! (Runs (w ∷ [])) (subst (λ (us : List Val). ent 𝓤 (Runs (w ∷ [])) (Runs us)) (sym (λ i. is_block i ++ [])) (id⊢ 𝓤 (Runs (w ∷ [])))) $
    enter ! 𝓣.C 𝓣.Λ fn (w ∷ []) Post $ alloc_all ! (λ l. pass_all ! refl (typed, tt) $ let locals = env fn.locals l in
    sets ! (of_opd ! (get_in ! (fld ! refl (stop !)) (sub ! 0 refl (whole !)))) refl (tt, tt) $
    sets ! (of_opd ! (get_in ! (fld ! refl (stop !)) (sub ! 1 refl (whole !)))) refl good $
    sets ! (bin ! (get ! refl) (lit ! tt) (tests_null (block_ptr b o) may)) refl (tt, tt) $ first ! $ branches ! (get ! refl)
    (λ wrong. absurd wrong)
    (λ _. sets ! (of_opd ! (get ! refl)) refl (tt, tt) $
    sets ! (agg ! (and_then ! (get ! refl) (and_then ! (get ! refl) (no_more !)))) refl typed $
    sets_last ! (agg ! (and_then ! (lit ! tt) (and_then ! (get ! refl) (no_more !)))) refl fits $
    exec ! 𝓣.C 𝓣.Λ locals (after 4 fn.body) (at_ret locals Post) $
    sets ! (of_opd ! (get ! refl)) refl fits $ boxes.put_together R Z Z_laws ghosts ! b o word a x $
    use1 𝓛 (‵ (Out.own_val (Some made) (answer ∷ []))) (Some-of 𝓛 To made w) $
    use0 𝓛 (raw (fact 𝓤 (Some x ≡ from.seat))) (fact_i 𝓤 (Some x ≡ from.seat) (emp 𝓤) (sym some)) $ nothing ! $ nothing ! $ fjoin ! $
    returns ! (look_at ! 0 refl) $ free_all ! refl $ keep ! (4 ∷ 0 ∷ 2 ∷ 1 ∷ []) $
    by ! (leaves 𝓛 ended kept c z answer (Some made) (tt, tt) (tt, tt)))))))
