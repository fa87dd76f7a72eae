-- `get_mut` lends the value of one cell, and the cells follow it. Assumes `Logic`.
use mathlib.Core.Path.{◌≡◌, refl}
use Prim.Native.Nat.{◌+◌, ◌*◌}
use mathlib.Core.List.{List, [], ◌∷◌, ◌++◌}
use lib.ListN.{length, get_or}
use base.Fraction.{full_share}
use mir.Syntax.{Fn, w64, named}
use mir.MapTy.{inst_fn}
use mir.Val.{Val, vptr, vint}
use base.Logic.{SProp, emp, id⊢}
use base.Fml.{GName, fsep, Lft, Share, ftrue, flft}
use prog.Wp.{Env, WpFn}
use contract.BorrowLft.{◌⊑◌}
use contract.Monad.{fact, fact_i}
use contract.Running.{tables}
use types.Logic.{sem}
use types.Kit.{‵, raw, some, later, ◌⊛◌, prop, at_ret, ◌$◌, ◌∵◌, !, qed, by, move, keep, drop, use0, use1, await, pick, split, split3, group, join, rewrite, regoal, fsplit, fsplit3, fjoin}
use types.Part.{whole, sub, look_in}
use types.Run.{stop, fld, load, addr, size_lit, of_opd, bin, first, blocks, exec, returns, enter}
use types.ByLocal.{alloc_all, pass_all, free_all, look_at, get, through, sets, sets_last, env}
use denote.RattleType.{owns}
use denote.Memory.{cell_at}
use denote.Builtin.{usize}
use denote.Exit.{yes}
use denote.Ref.{MutBor, MutRef}
use denote.Follow.{follows, Part, lends_Part}
use denote.Signature.{plain, types_at}
use denote.Steps.{nothing, heard}
use denote.Triple.Entry.{alive}
use denote.Triple.Walked.{Stays, stay_dropped, walk_of, Goes-dropped, Goes-spent_ref}
use Rattle.std.specs.Prelude.{Some, None}
use Rattle.std.proofs.alloc.Shapes.{after}
use Rattle.std.proofs.mem.Param.{El, R, args}
use Rattle.std.proofs.raw_atomic.Walks.{proved_at, leaves}
use Rattle.mbj_ring.specs.Inside.Cells.{IsFilled}
use Rattle.mbj_ring.specs.Inside.CellLends.{with_value}
use Rattle.mbj_ring.specs.Inside.Ownership.{cell}
use Rattle.mbj_ring.proofs.Memory.{offset_fits, Owner, Held, bytes, filled_within, stored, Beside, lent_back, opens_cell}
use Rattle.mbj_ring.specs.contracts.cells.Cells.get_mut as stated
use Rattle.mbj_ring.specs.contracts.cells.Cells.get_mut.Key.{name as key}
use Rattle.mbj_ring.proofs.cells.Cells.get_mut.Statement.{statement}
use Rattle.mbj_ring.proofs.cells.Cells.get_mut.Code as code

pub get_mut_spec : {M : Type 1} → statement M
get_mut_spec 𝓤 𝓛 𝓜 𝓡 wired T L =
    let E : El = record { row = T; laws = L } in
    let H = 𝓛.H in let C = (tables 𝓤 H 𝓜 𝓡 𝓡.env).C in let Λ = (tables 𝓤 H 𝓜 𝓡 𝓡.env).Λ in
    let fn : Fn = inst_fn (args E) code.function in
    let ended = stated.ended T in let S = ended.signature in
    let stays : Stays S.params ended.kept = (stay_dropped _ _, (stay_dropped _ _, tt)) in
    let c = stated.clauses T 𝓛 𝓜.mem 𝓡.returns in
    proved_at 𝓛 ended stays c 𝓜 𝓡 (Goes-spent_ref 𝓛 2 (0 ∷ []) tt (plain (λ _. Owner E)), (Goes-dropped 𝓛 2 (plain (λ _. usize)) yes (λ κs x f. refl), tt))
    (key (args E)) fn (code.unfolded 𝓤 H 𝓜 𝓡 wired (T, tt)) (λ z are.
    let Post : Val → SProp 𝓤 = (walk_of 𝓛 ended stays c).post z in
    let κ : Lft = z.0.0.0 in let q : Share = z.0.1.0 in let a = z.0.3 in let vss = z.0.4 in
    let b = a.0.ref_ptr.0 in let o = a.0.ref_ptr.1 in let d = a.0.now in let i = a.1.0 in
    let Asked : Type 0 = IsFilled d.held i in
    qed 𝓛 ((raw (alive 𝓛 S z.0.0 z.0.1) ⊛ ‵ (owns (types_at S.params z.0.0) a vss)) ∷ (raw (fact 𝓤 (z.0.0.1.0 ⊑ T.lives)) ⊛ raw (fact 𝓤 Asked)) ∷ []) ∵
    move ! (1 ∷ []) $ split ! $ drop ! $ heard ! Asked (λ asked. split ! $ use1 𝓛 (‵ (flft κ q) ⊛ ‵ (flft z.0.0.1.0 z.0.1.1.0) ⊛ ‵ ftrue) (id⊢ 𝓤 _) $ split ! $
    move ! (2 ∷ []) $ fsplit ! $ fsplit3 ! $ keep ! (1 ∷ 2 ∷ 4 ∷ 5 ∷ []) $
    let x = asked.0 in let within = filled_within d.held i asked in
    regoal ! (λ (us : List Val). prop (WpFn 𝓤 H C Λ fn us Post)) (λ j. are.0.0 j ++ (are.1.0.0 j ++ [])) refl $
    enter ! C Λ fn (vptr b o ∷ vint w64 i ∷ []) Post $
    alloc_all ! (λ l. pass_all ! refl ((tt, tt), ((tt, record { fits = are.1.0.1 }), tt)) $ let En : Env 𝓤 H = env fn.locals l in
    opens_cell E ! tt d i b o within (λ b' o' e small.
    let at = i * bytes E + o' in
    rewrite ! 0 (λ (h : Held E). ‵ (cell (R E) b' at h)) asked.1 refl $
    -- [the value; where the owner is stored; what it has beside; the open borrow, in three entries]
    let fit = offset_fits (length d.held) i (bytes E) within small in
    first ! $ blocks ! $
    sets ! (of_opd ! (load ! (through ! refl (fld ! refl (stop !))) (look_in ! 1 (sub ! 0 refl (whole !))))) refl (tt, tt) $
    sets ! (bin ! (get ! refl) (size_lit ! (record { fits = fit.0 })) (record { fits = fit.1 })) refl (tt, record { fits = fit.1 }) $
    sets ! (bin ! (get ! refl) (get ! refl) tt) refl (tt, tt) $
    sets_last ! (addr ! (through ! refl (stop !))) refl (tt, tt) $
    exec ! C Λ En (after 1 fn.body) (at_ret En Post) $
    sets ! (of_opd ! (get ! refl)) refl (tt, tt) $
    let Rest = fsep (cell_at full_share (Owner E).mir (stored E b' o') b o) (Beside E d i b' o') in
    let F = with_value d i in let γ = a.0.ghost_name in let code = (Owner E).coded.code d in
    let back = lent_back E d i b' o' e within small b o 𝓛 in
    move ! (1 ∷ 2 ∷ []) $ fjoin ! $ move ! (2 ∷ 3 ∷ 4 ∷ 1 ∷ 0 ∷ []) $ group ! 5 $
    use1 𝓛 (later (some (λ (δ : GName). raw (Part 𝓛 (Owner E) (R E) F (named 0) κ q b o b' at γ (sem 𝓛 Rest) back x δ))))
    (lends_Part 𝓛 (Owner E) (R E) F (named 0) κ q b o b' at γ (sem 𝓛 Rest) back code code x) $ await ! tt $ pick ! (λ δ.
    returns ! (look_at ! 0 refl) $ free_all ! refl $
    let r : MutBor T.Denot = record { ref_ptr = (b', at); ghost_name = δ; now = x } in let v = vptr b' at in
    let Follows = follows (Owner E) (R E) γ δ F in let Lent : Type 0 = get_or d.held i None ≡ Some x in
    use1 𝓛 (‵ ((MutRef (named 0) κ (R E)).own_val r (v ∷ [])) ⊛ ‵ (flft κ q) ⊛ ‵ Follows) (id⊢ 𝓤 _) $ split3 ! $
    use0 𝓛 (raw (fact 𝓤 Lent)) (fact_i 𝓤 Lent (emp 𝓤) asked.1) $ move ! (3 ∷ 0 ∷ []) $ join ! $ move ! (2 ∷ 3 ∷ []) $ join ! $
    nothing ! $ nothing ! $ fjoin ! $ nothing ! $ fjoin ! $ move ! (1 ∷ 0 ∷ 3 ∷ 2 ∷ []) $
    by ! (leaves 𝓛 ended stays c z v r (tt, (tt, tt)) (tt, (tt, tt))))))))
