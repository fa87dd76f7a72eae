-- `write` fills an empty cell. Assumes `Logic`.
use mathlib.Core.Path.{◌≡◌, refl}
use Prim.Native.Nat.{◌+◌, ◌*◌}
use mathlib.Core.List.{List, [], ◌∷◌, ◌++◌}
use lib.ListN.{length, set}
use base.Fraction.{full_share}
use mir.Syntax.{Fn, w64}
use mir.MapTy.{inst_fn}
use mir.Val.{Val, vptr, vint, vunit}
use base.Logic.{SProp, emp, id⊢}
use base.Fml.{Lft, Share, ftrue, flft}
use prog.Wp.{Env, WpFn}
use contract.BorrowLft.{◌⊑◌}
use contract.Monad.{fact, fact_i}
use contract.Running.{tables}
use types.Kit.{‵, raw, ◌⊛◌, prop, at_ret, ◌$◌, ◌∵◌, !, qed, by, move, keep, drop, use0, use1, use2, split, join, rewrite, regoal, fsplit, fsplit3, fjoin, fjoin3, feq_i}
use types.Part.{whole, sub, look_in}
use types.Run.{init, stop, fld, load, unit_lit, size_lit, of_opd, bin, assigns_last, first, blocks, exec, returns, enter}
use types.ByLocal.{alloc_all, pass_all, free_all, look_at, get, through, sets, env}
use denote.RattleType.{owns}
use denote.Builtin.{usize}
use denote.Exit.{yes, no}
use denote.Signature.{plain, types_at}
use denote.Steps.{nothing, heard}
use denote.Triple.Entry.{alive}
use denote.Triple.Walked.{Stays, stay_dropped, stay_ref, walk_of, Goes-dropped, Goes-ref}
use borrow.Table.OneValue.{part_in}
use Rattle.std.specs.Prelude.{Some}
use Rattle.std.proofs.alloc.Shapes.{after}
use Rattle.std.proofs.mem.Param.{El, R, args, lawful, one}
use Rattle.std.proofs.raw_atomic.Walks.{proved_at, leaves}
use Rattle.mbj_ring.specs.Inside.Cells.{IsEmpty}
use Rattle.mbj_ring.specs.Inside.Ownership.{cell}
use Rattle.mbj_ring.proofs.Memory.{offset_fits, Owner, Held, bytes, with_held, as_room, opens_cell, closes_cell}
use Rattle.mbj_ring.specs.contracts.cells.Cells.write as stated
use Rattle.mbj_ring.specs.contracts.cells.Cells.write.Key.{name as key}
use Rattle.mbj_ring.proofs.cells.Cells.write.Statement.{statement}
use Rattle.mbj_ring.proofs.cells.Cells.write.Code as code

pub write_spec : {M : Type 1} → statement M
write_spec 𝓤 𝓛 𝓜 𝓡 wired T L =
    let E : El = record { row = T; laws = L } in
    let H = 𝓛.H in let C = (tables 𝓤 H 𝓜 𝓡 𝓡.env).C in let Λ = (tables 𝓤 H 𝓜 𝓡 𝓡.env).Λ in
    let fn : Fn = inst_fn (args E) code.function in
    let ended = stated.ended T in let S = ended.signature in
    let stays : Stays S.params ended.kept = (stay_ref (0 ∷ []) tt (plain (λ _. Owner E)), (stay_dropped _ _, (stay_dropped _ _, tt))) in
    let c = stated.clauses T 𝓛 𝓜.mem 𝓡.returns in
    proved_at 𝓛 ended stays c 𝓜 𝓡 (Goes-ref 𝓛 2 0 tt (plain (λ _. Owner E)), (Goes-dropped 𝓛 2 (plain (λ _. usize)) yes (λ κs x f. refl), (Goes-dropped 𝓛 2 (plain (λ _. R E)) no (λ κs x f. refl), tt)))
    (key (args E)) fn (code.unfolded 𝓤 H 𝓜 𝓡 wired (T, tt)) (λ z are.
    let Post : Val → SProp 𝓤 = (walk_of 𝓛 ended stays c).post z in
    let κ : Lft = z.0.0.0 in let q : Share = z.0.1.0 in let a = z.0.3 in let vss = z.0.4 in
    let b = a.0.ref_ptr.0 in let o = a.0.ref_ptr.1 in let d = a.0.now in let i = a.1.0 in let x = a.1.1.0 in
    let v = one E vss.1.1.0 ((lawful E 𝓛).typed x vss.1.1.0 are.1.1.0) in
    let Asked : Type 0 = IsEmpty d.held i in
    qed 𝓛 ((raw (alive 𝓛 S z.0.0 z.0.1) ⊛ ‵ (owns (types_at S.params z.0.0) a vss)) ∷ (raw (fact 𝓤 (z.0.0.1.0 ⊑ T.lives)) ⊛ raw (fact 𝓤 Asked)) ∷ []) ∵
    move ! (1 ∷ []) $ split ! $ drop ! $ heard ! Asked (λ asked. split ! $ use1 𝓛 (‵ (flft κ q) ⊛ ‵ (flft z.0.0.1.0 z.0.1.1.0) ⊛ ‵ ftrue) (id⊢ 𝓤 _) $ split ! $
    move ! (2 ∷ []) $ fsplit ! $ fsplit3 ! $ drop ! $ move ! (2 ∷ []) $ fsplit ! $ drop ! $ fsplit ! $ keep ! (2 ∷ 3 ∷ 4 ∷ 0 ∷ 5 ∷ []) $
    rewrite ! 3 (λ (us : List Val). ‵ (T.own_val x us)) v.1 refl $
    regoal ! (λ (us : List Val). prop (WpFn 𝓤 H C Λ fn us Post)) (λ j. are.0.0 j ++ (are.1.0.0 j ++ (v.1 j ++ []))) refl $
    enter ! C Λ fn (vptr b o ∷ vint w64 i ∷ v.0 ∷ []) Post $
    alloc_all ! (λ l. pass_all ! refl ((tt, tt), ((tt, record { fits = are.1.0.1 }), (v.2, tt))) $ let En : Env 𝓤 H = env fn.locals l in
    opens_cell E ! tt d i b o asked.0 (λ b' o' e small.
    -- [the cell; where the owner is stored; what it has beside; the open borrow, in three entries; what the value owns]
    rewrite ! 0 (λ (h : Held E). ‵ (cell (R E) b' (i * bytes E + o') h)) asked.1 refl $ as_room E ! b' (i * bytes E + o') $
    let fit = offset_fits (length d.held) i (bytes E) asked.0 small in
    first ! $ blocks ! $
    sets ! (of_opd ! (load ! (through ! refl (fld ! refl (stop !))) (look_in ! 1 (sub ! 0 refl (whole !))))) refl (tt, tt) $
    sets ! (bin ! (get ! refl) (size_lit ! (record { fits = fit.0 })) (record { fits = fit.1 })) refl (tt, record { fits = fit.1 }) $
    sets ! (bin ! (get ! refl) (get ! refl) tt) refl (tt, tt) $
    sets ! (of_opd ! (get ! refl)) refl v.2 $
    assigns_last ! (of_opd ! (get ! refl)) (through ! refl (stop !)) (init ! 0 refl v.2) $
    exec ! C Λ En (after 1 fn.body) (at_ret En Post) $
    sets ! (of_opd ! (unit_lit !)) refl (tt, tt) $
    move ! (0 ∷ 6 ∷ []) $ use2 𝓛 (‵ (cell (R E) b' (i * bytes E + o') (Some x))) (part_in 𝓛 (R E) refl full_share x b' (i * bytes E + o') v.0) $
    closes_cell E ! tt d i b o b' o' e asked.0 small (Some x) $
    returns ! (look_at ! 0 refl) $ free_all ! refl $
    feq_i ! (List Val) vss.0 (vptr b o ∷ []) are.0.0 $ fjoin3 ! $ nothing ! $ nothing ! $ fjoin ! $ nothing ! $ fjoin ! $ move ! (1 ∷ 0 ∷ []) $ fjoin ! $
    move ! (1 ∷ 2 ∷ []) $ join ! $ feq_i ! (List Val) (vunit ∷ []) (vunit ∷ []) refl $
    let new = with_held E d i (Some x) in
    use0 𝓛 (raw (fact 𝓤 (new.held ≡ set d.held i (Some x)))) (fact_i 𝓤 (new.held ≡ set d.held i (Some x)) (emp 𝓤) refl) $ move ! (2 ∷ 3 ∷ 1 ∷ 0 ∷ []) $
    by ! (leaves 𝓛 ended stays c z vunit tt (new, (tt, (tt, tt))) (tt, (tt, (tt, tt))))))))
