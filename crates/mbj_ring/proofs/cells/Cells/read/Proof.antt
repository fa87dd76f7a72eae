-- `read` moves a value out, and its cell is empty. Assumes `Logic`.
use mathlib.Core.Path.{◌≡◌, refl}
use Prim.Native.Nat.{◌+◌, ◌*◌}
use mathlib.Core.List.{List, [], ◌∷◌, ◌++◌}
use lib.ListN.{length, set, get_or}
use base.Fraction.{full_share}
use mir.Syntax.{Fn, w64}
use mir.MapTy.{inst_fn}
use mir.Val.{Val, vptr, vint}
use base.Logic.{SProp, emp, id⊢}
use base.Fml.{froom, Lft, Share, ftrue, fat, flft}
use prog.Wp.{Env, WpFn}
use contract.BorrowLft.{◌⊑◌}
use contract.Monad.{fact, fact_i}
use contract.Running.{tables}
use types.Kit.{‵, raw, some, given, ◌⊛◌, prop, at_ret, ◌$◌, ◌∵◌, !, qed, by, move, keep, drop, use0, use1, pick, learn, split, join, rewrite, regoal, fsplit, fsplit3, fjoin, fjoin3, feq_i}
use types.Part.{whole, sub, look_in}
use types.Run.{look, stop, fld, load, size_lit, of_opd, bin, first, blocks, exec, returns, enter}
use types.ByLocal.{alloc_all, pass_all, free_all, look_at, get, through, sets, sets_last, env}
use denote.RattleType.{owns}
use denote.Builtin.{usize}
use denote.Exit.{yes}
use denote.Signature.{plain, types_at}
use denote.Steps.{nothing, heard}
use denote.Triple.Entry.{alive}
use denote.Triple.Walked.{Stays, stay_dropped, stay_ref, walk_of, Goes-dropped, Goes-ref}
use borrow.Table.OneValue.{part_out}
use Rattle.std.specs.Prelude.{Some, None}
use Rattle.std.proofs.alloc.Shapes.{after}
use Rattle.std.proofs.mem.Param.{El, R, args, elτ, Good}
use Rattle.std.proofs.raw_atomic.Walks.{proved_at, leaves}
use Rattle.mbj_ring.specs.Inside.Cells.{IsFilled}
use Rattle.mbj_ring.specs.Inside.Ownership.{cell}
use Rattle.mbj_ring.proofs.Memory.{offset_fits, Owner, Held, bytes, with_held, as_empty, filled_within, opens_cell, closes_cell}
use Rattle.mbj_ring.specs.contracts.cells.Cells.read as stated
use Rattle.mbj_ring.specs.contracts.cells.Cells.read.Key.{name as key}
use Rattle.mbj_ring.proofs.cells.Cells.read.Statement.{statement}
use Rattle.mbj_ring.proofs.cells.Cells.read.Code as code

pub read_spec : {M : Type 1} → statement M
read_spec 𝓤 𝓛 𝓜 𝓡 wired T L =
    let E : El = record { row = T; laws = L } in
    let H = 𝓛.H in let C = (tables 𝓤 H 𝓜 𝓡 𝓡.env).C in let Λ = (tables 𝓤 H 𝓜 𝓡 𝓡.env).Λ in
    let fn : Fn = inst_fn (args E) code.function in
    let ended = stated.ended T in let S = ended.signature in
    let stays : Stays S.params ended.kept = (stay_ref (0 ∷ []) tt (plain (λ _. Owner E)), (stay_dropped _ _, tt)) in
    let c = stated.clauses T 𝓛 𝓜.mem 𝓡.returns in
    proved_at 𝓛 ended stays c 𝓜 𝓡 (Goes-ref 𝓛 2 0 tt (plain (λ _. Owner E)), (Goes-dropped 𝓛 2 (plain (λ _. usize)) yes (λ κs x f. refl), tt))
    (key (args E)) fn (code.unfolded 𝓤 H 𝓜 𝓡 wired (T, tt)) (λ z are.
    let Post : Val → SProp 𝓤 = (walk_of 𝓛 ended stays c).post z in
    let κ : Lft = z.0.0.0 in let q : Share = z.0.1.0 in let a = z.0.3 in let vss = z.0.4 in
    let b = a.0.ref_ptr.0 in let o = a.0.ref_ptr.1 in let d = a.0.now in let i = a.1.0 in
    let Asked : Type 0 = IsFilled d.held i in
    qed 𝓛 ((raw (alive 𝓛 S z.0.0 z.0.1) ⊛ ‵ (owns (types_at S.params z.0.0) a vss)) ∷ (raw (fact 𝓤 (z.0.0.1.0 ⊑ T.lives)) ⊛ raw (fact 𝓤 Asked)) ∷ []) ∵
    move ! (1 ∷ []) $ split ! $ drop ! $ heard ! Asked (λ asked. split ! $ use1 𝓛 (‵ (flft κ q) ⊛ ‵ (flft z.0.0.1.0 z.0.1.1.0) ⊛ ‵ ftrue) (id⊢ 𝓤 _) $ split ! $
    move ! (2 ∷ []) $ fsplit ! $ fsplit3 ! $ keep ! (1 ∷ 2 ∷ 4 ∷ 5 ∷ []) $
    let x = asked.0 in let within = filled_within d.held i asked in
    regoal ! (λ (us : List Val). prop (WpFn 𝓤 H C Λ fn us Post)) (λ j. are.0.0 j ++ (are.1.0.0 j ++ [])) refl $
    enter ! C Λ fn (vptr b o ∷ vint w64 i ∷ []) Post $
    alloc_all ! (λ l. pass_all ! refl ((tt, tt), ((tt, record { fits = are.1.0.1 }), tt)) $ let En : Env 𝓤 H = env fn.locals l in
    opens_cell E ! tt d i b o within (λ b' o' e small.
    let at = i * bytes E + o' in
    rewrite ! 0 (λ (h : Held E). ‵ (cell (R E) b' at h)) asked.1 refl $
    use1 𝓛 (some (λ (v : Val). ‵ (fat full_share (elτ E) b' at v) ⊛ ‵ (T.own_val x (v ∷ [])))) (part_out 𝓛 (R E) refl full_share x b' at) $ pick ! (λ v. split ! $
    use1 𝓛 (given (Good E v) (‵ (fat full_share (elτ E) b' at v))) (𝓛.laws.at_wt full_share (elτ E) b' at v) $ learn ! (λ good.
    -- [the value in its cell; what it owns; where the owner is stored; what it has beside; the open borrow, in three entries]
    let fit = offset_fits (length d.held) i (bytes E) within small in
    first ! $ blocks ! $
    sets ! (of_opd ! (load ! (through ! refl (fld ! refl (stop !))) (look_in ! 2 (sub ! 0 refl (whole !))))) refl (tt, tt) $
    sets ! (bin ! (get ! refl) (size_lit ! (record { fits = fit.0 })) (record { fits = fit.1 })) refl (tt, record { fits = fit.1 }) $
    sets ! (bin ! (get ! refl) (get ! refl) tt) refl (tt, tt) $
    sets_last ! (of_opd ! (load ! (through ! refl (stop !)) (look ! 0 refl))) refl good $
    exec ! C Λ En (after 1 fn.body) (at_ret En Post) $
    sets ! (of_opd ! (get ! refl)) refl good $
    use1 𝓛 (‵ (froom (elτ E) b' at)) (𝓛.laws.at_room (elτ E) b' at v) $ as_empty E ! b' at $ move ! (0 ∷ 2 ∷ 3 ∷ 4 ∷ 5 ∷ 6 ∷ []) $
    closes_cell E ! tt d i b o b' o' e within small None $
    returns ! (look_at ! 0 refl) $ free_all ! refl $
    feq_i ! (List Val) vss.0 (vptr b o ∷ []) are.0.0 $ fjoin3 ! $ nothing ! $ nothing ! $ fjoin ! $ move ! (1 ∷ 0 ∷ []) $ fjoin ! $
    move ! (1 ∷ 3 ∷ []) $ join ! $
    let new = with_held E d i None in let Read : Type 0 = get_or d.held i None ≡ Some x in let Left : Type 0 = new.held ≡ set d.held i None in
    use0 𝓛 (raw (fact 𝓤 Left)) (fact_i 𝓤 Left (emp 𝓤) refl) $ use0 𝓛 (raw (fact 𝓤 Read)) (fact_i 𝓤 Read (emp 𝓤) asked.1) $ join ! $ move ! (1 ∷ 2 ∷ 3 ∷ 0 ∷ []) $
    by ! (leaves 𝓛 ended stays c z v x (new, (tt, tt)) (tt, (tt, tt)))))))))
